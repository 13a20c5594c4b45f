use Rattle.std.proofs.Common.{◌*◌, ◌≤◌}
use Rattle.ca_apgcode.specs.Prelude.{GridCells, cell}
use Rattle.ca_apgcode.specs.inner.Turned.{IsMirrored}
use Rattle.ca_apgcode.specs.inner.Sides.{IsSeenFrom}
use Rattle.ca_apgcode.proofs.Lengths.{MeasuresStrips}
use Rattle.ca_apgcode.proofs.sides.lengths_from.Given as goal

-- the strips so far are measured
abbrev pub invariant-strips : goal.invariant-strips
invariant-strips l = record {
  seen : (seen : GridCells) → IsSeenFrom l.side l.grid seen → MeasuresStrips (cell seen) l.strip l.seen;
  mirrored : (seen mirrored : GridCells) → IsSeenFrom l.side l.grid seen → IsMirrored seen mirrored → MeasuresStrips (cell mirrored) l.strip l.mirrored;
  few_seen : l.seen ≤ 193 * l.strip;
  few_mirrored : l.mirrored ≤ 193 * l.strip;
}
