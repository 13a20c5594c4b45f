use Rattle.std.proofs.Common.{sym, ◌∙◌}
use Rattle.ca_plane.proofs.TrimmedBytes.{behind_blank, behind_other}
use Rattle.ca_plane.proofs.bytes.trim_blanks.Goals as goal

pub returns-then-not-is_blank : goal.returns-then-not-is_blank
returns-then-not-is_blank c = sym (c.blanks.invariant ∙ behind_other _ _ _ (sym c.is_blank.ensures ∙ c.if-not-is_blank.true) c.in-Some.ensures.cases.0)

pub blanks-preserved : goal.blanks-preserved
blanks-preserved c = c.blanks.invariant ∙ behind_blank _ _ _ (sym c.is_blank.ensures ∙ c.if-not-is_blank.false) c.in-Some.ensures.cases.0
