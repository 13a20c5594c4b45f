use Rattle.std.proofs.Common.{◌≡◌, ℕ, ◌≤◌, Some, slice_get, length}
use Rattle.ca_quad.specs.Prelude.{AreSquareBoxes, cell}
use Rattle.ca_run.specs.Prelude.{LeaperGrows}
use Rattle.ca_identify.specs.declared.identification.stage.First.{First}
use Rattle.ca_identify.specs.inner.Stages.{AreMovedNowhere}
use Rattle.ca_identify.proofs.identification.strides.plane_before.Given as goal

-- the later plane is none of the planes from number `left` onwards, moved
abbrev pub invariant-planes : goal.invariant-planes
invariant-planes g l = record {
  goes_on : LeaperGrows _ l.fn.leaper l.leaper;
  spent : l.leaper.spent ≡ l.fn.leaper.spent;
  boxes : AreSquareBoxes l.leaper.nodes l.boxes;
  within : l.left ≤ length l.early;
  nowhere : (k : ℕ) (plane : First) → l.left ≤ k → slice_get l.early k ≡ Some plane → AreMovedNowhere (cell l.fn.leaper.nodes plane.tree) (cell l.fn.leaper.nodes l.later);
}

abbrev pub decreases-planes : goal.decreases-planes
decreases-planes g l = l.left
