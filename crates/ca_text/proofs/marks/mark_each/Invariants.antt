use Rattle.std.proofs.Common.{◌≡◌, length, drop}
use Rattle.ca_text.specs.inner.Marks.{with_marks}
use Rattle.ca_text.proofs.marks.mark_each.Given as goal

abbrev pub invariant-indices : goal.invariant-indices
invariant-indices l = (length l.marks ≡ length l.initial.marks) × (with_marks l.marks (drop l.index-index l.indices) ≡ with_marks l.initial.marks l.indices)
