use Rattle.std.proofs.Common.{MatchResult, subst}
use Rattle.ca_pattern.specs.Prelude.{IsReadFrom, IsUnread}
use Rattle.ca_verify.proofs.PatternsRead.{read_stays}
use Rattle.ca_verify.proofs.verifier.patterns.read_each.Goals as goal

pub returns-clause-read : goal.returns-clause-read
returns-clause-read c =
    let one = c.args.files.now.first.now in
    let other = c.args.files.now.second.now in
    let first = subst (λ read. MatchResult read (IsReadFrom c.pattern.new.store one) (IsUnread one)) c.in_ok-first.ensures c.pattern.ensures.read in
    let second = subst (λ read. MatchResult read (IsReadFrom c.pattern-2.new.store other) (IsUnread other)) c.in_ok-second-2.ensures c.pattern-2.ensures.read in
    (read_stays _ _ c.pattern-2.ensures.grows c.pattern.ensures.grows.sound _ _ first, second)
