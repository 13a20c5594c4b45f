use Rattle.std.proofs.Common.{◌≡◌, length, drop}
use Rattle.ca_text.specs.inner.Marks.{claims_marked}
use Rattle.ca_text.proofs.marks.mark_claims.Given as goal

abbrev pub invariant-claims : goal.invariant-claims
invariant-claims l = (length l.marks ≡ length l.initial.marks) × (claims_marked l.marks (drop l.kept-index l.claims) ≡ claims_marked l.initial.marks l.claims)
