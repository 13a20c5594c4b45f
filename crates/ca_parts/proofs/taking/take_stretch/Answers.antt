use Rattle.std.proofs.Common.{ℕ, ◌≤◌, ◌<◌, length, arith}
use Rattle.std.specs.Prelude.{pos}
use Rattle.std.proofs.lemmas.Int.{ints}
use Rattle.ca_plane.specs.declared.point.Point.{Point}
use Rattle.ca_parts.specs.inner.Taking.{IsInStretch}
use Rattle.ca_parts.proofs.Chains.{same_length}
use Rattle.ca_parts.proofs.Taken.{Takes-wider}
use Rattle.ca_parts.proofs.Stretches.{stretch_more, dark_more, stretch_dark}
use Rattle.ca_parts.proofs.taking.take_stretch.Goals as goal

pub take-requires : goal.take-requires
take-requires c =
    let end = rw c.as_slice-2.ensures.value at c.first_from-end.ensures in
    let bound : c.first_from-end.result ≤ length c.args.left.now.items = end.bound in
    omega (arith, bound, same_length c.args.left.now.items c.cells.left.items c.cells.invariant.takes.places)

pub cells-preserved : goal.cells-preserved
cells-preserved c =
    let origin : Point × ℕ = (record { y = pos 0; x = pos 0 }, 0) in
    let first = rw c.as_slice.ensures.value at c.first_from-first.ensures in
    let end = rw c.as_slice-2.ensures.value at c.first_from-end.ensures in
    let bound : c.first_from-end.result ≤ length c.args.left.now.items = end.bound in
    let within : c.cells.place < length c.args.left.now.items = omega (arith, bound) in
    let takes = c.in_ok-take.ensures in
    record {
      takes = stretch_more _ c.args.left.now.items c.args.taken.now.items c.cells.left.items c.cells.taken.items c.take.new.left.items c.take.new.taken.items c.cells.place origin c.requires.rising c.cells.invariant.takes within _ _ _ _ _ _ first end
          (omega (arith, ints)) (λ x from to. (omega (arith, ints, from), omega (arith, ints, to), omega (arith, ints))) (omega arith) (omega arith) takes;
      dark = dark_more _ c.args.left.now.items c.args.taken.now.items c.cells.left.items c.cells.taken.items c.take.new.left.items c.take.new.taken.items c.cells.place origin c.requires.rising c.cells.invariant.takes within c.first_from-first.result c.cells.invariant.dark takes;
    }

pub returns : goal.returns
returns c =
    let first = rw c.as_slice.ensures.value at c.first_from-first.ensures in
    let end = rw c.as_slice-2.ensures.value at c.first_from-end.ensures in
    record {
      takes = Takes-wider _ (IsInStretch c.args.west c.args.east c.args.row) c.args.left.now.items c.args.taken.now.items c.cells.left.items c.cells.taken.items c.cells.invariant.takes
          (λ x y area _. (omega (arith, ints, area), omega (arith, ints, area), omega (arith, ints, area)));
      none = λ x y area.
          stretch_dark c.args.left.now.items c.cells.left.items _ _ _ _ _ _ c.cells.invariant.takes.places first end (λ m d low high. c.cells.invariant.dark m d low (omega arith)) x y
          (omega (arith, ints, area)) (omega (arith, ints, area)) (omega (arith, ints, area)) (omega (arith, ints, area));
    }
