use Rattle.std.proofs.Common.{sym, ap, ◌∙◌, not, length, arith}
use Rattle.ca_plane.specs.Prelude.{is_blank, is_line_end, is_end_or}
use Rattle.ca_plane.proofs.Fronts.{rest_ends}
use Rattle.ca_rle.proofs.SkippedSpace.{line_start, comment_start, no_blank_at_end, rest_length}
use Rattle.ca_rle.proofs.unit.after_line_start.Goals as goal

pub returns-then-not-starts_with-clause-white : goal.returns-then-not-starts_with-clause-white
returns-then-not-starts_with-clause-white c = line_start c.args.bytes.now _ c.split_blanks.ensures.rest (sym c.starts_with.ensures.value ∙ c.if-not-starts_with.true)

pub returns-then-not-starts_with-clause-no_blank : goal.returns-then-not-starts_with-clause-no_blank
returns-then-not-starts_with-clause-no_blank c = ap (is_end_or (λ b. not (is_blank b))) c.split_blanks.ensures.rest ∙ rest_ends is_blank c.args.bytes.now

pub returns-then-not-starts_with-clause-shorter : goal.returns-then-not-starts_with-clause-shorter
returns-then-not-starts_with-clause-shorter c = rw c.split_blanks.ensures.rest (rest_length is_blank c.args.bytes.now)

pub returns-clause-white : goal.returns-clause-white
returns-clause-white c = comment_start c.args.bytes.now _ _ c.split_blanks.ensures.rest (sym c.starts_with.ensures.value ∙ c.if-not-starts_with.false) c.split_line.ensures.rest

pub returns-clause-no_blank : goal.returns-clause-no_blank
returns-clause-no_blank c = ap (is_end_or (λ b. not (is_blank b))) c.split_line.ensures.rest ∙ no_blank_at_end c.split_blanks.result.1.now

pub returns-clause-shorter : goal.returns-clause-shorter
returns-clause-shorter c =
    let blanks = rest_length is_blank c.args.bytes.now in
    let line = rest_length (λ b. not (is_line_end b)) c.split_blanks.result.1.now in
    omega (arith, blanks, line, ap length c.split_line.ensures.rest, ap length c.split_blanks.ensures.rest)
