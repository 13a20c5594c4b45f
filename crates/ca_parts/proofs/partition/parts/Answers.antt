use Rattle.std.proofs.Common.{ℕ, ◌≡◌, ◌≤◌, ◌<◌, length, ap, refl, arith}
use Rattle.std.specs.List.{HoldsAt}
use Rattle.std.proofs.lemmas.List.Elements.{at_read}
use Rattle.ca_plane.specs.declared.point.Point.{Point}
use Rattle.ca_plane.specs.Prelude.{Picture}
use Rattle.ca_parts.specs.inner.Taking.{IsLiveAt}
use Rattle.ca_parts.proofs.Chains.{same_length}
use Rattle.ca_parts.proofs.Partitions.{IsDividedBefore-skip, IsDividedBefore-part, parts_from_divided, near_places}
use Rattle.ca_parts.proofs.partition.parts.Goals as goal
use Rattle.ca_parts.proofs.partition.parts.Goals.{then-state-ne0+in_ok-part+in_ok-push, else-state-ne0}

pub take_part-requires-clause-near : goal.take_part-requires-clause-near
take_part-requires-clause-near c = near_places c.args.plane.now c.cells.left.items c.cells.invariant.places c.as_slice.ensures.sparse

pub cells-preserved : goal.cells-preserved
cells-preserved c =
    let reach = c.args.reach in
    let p = c.args.plane.now in
    let l = c.cells.left.items in
    let parts = c.cells.parts.items in
    let e = c.index.result.now in
    let within : c.cells.place < length l = omega (arith, c.cells.left.ok.0, c.len-place-end.ensures, c.in_ok-left.left.ok.0, c.in_ok-left.ensures.items, same_length p l c.cells.invariant.places, ap (λ (q : Picture). length q) c.as_slice.ensures.all, ap (λ (q : Picture). length q) c.in_ok-left.ensures.items) in
    elim c.if-state-ne0.branch [
      | then-state-ne0+in_ok-part+in_ok-push w ↦
          let q = w.in_ok-part.part in
          let first : HoldsAt (IsLiveAt e.0) l c.cells.place = at_read l (IsLiveAt e.0) c.cells.place e within c.index.ensures (refl, w.if-state-ne0.true) in
          let more = IsDividedBefore-part reach e.0 l w.take_part.new.left.items q w.in_ok-part.ensures p parts c.cells.place c.as_slice.ensures.sparse.rising c.cells.invariant within first in
          rw (w.left-is, w.parts-is, w.in_ok-push.ensures.items) more
      | else-state-ne0 w ↦
          let dark : HoldsAt (λ (f : Point × ℕ). f.1 ≡ 0) l c.cells.place = at_read l (λ (f : Point × ℕ). f.1 ≡ 0) c.cells.place e within c.index.ensures w.if-state-ne0.false in
          rw (w.left-is, w.parts-is) (IsDividedBefore-skip reach p l parts c.cells.place c.cells.invariant dark)
    ]

pub returns : goal.returns
returns c =
    let p = c.args.plane.now in
    let l = c.cells.left.items in
    let long : length l ≤ c.cells.place = omega (arith, c.cells.left.ok.0, c.len-place-end.ensures, c.in_ok-left.left.ok.0, same_length p l c.cells.invariant.places, ap (λ (q : Picture). length q) c.as_slice.ensures.all, ap (λ (q : Picture). length q) c.in_ok-left.ensures.items) in
    parts_from_divided c.args.reach p l c.cells.parts.items c.cells.place long c.cells.invariant
