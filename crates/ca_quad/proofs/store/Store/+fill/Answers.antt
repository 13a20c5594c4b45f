use Rattle.std.proofs.Common.{◌≡◌, ℕ, ◌≤◌, ◌-◌, List, get_or, length, sym, subst, ◌∙◌, arith}
use Rattle.std.proofs.lemmas.Bool.{eqb-true}
use Rattle.ca_plane.specs.Prelude.{cell}
use Rattle.ca_quad.specs.declared.{node.Node.Node, store.rows.Row.Row, tree.Spot.Spot}
use Rattle.ca_quad.specs.Prelude.{IsSoundStore, Grows}
use Rattle.ca_quad.specs.inner.Filled.{cells_from, IsEmptyOf, AreRowsOf}
use Rattle.ca_quad.proofs.Covers.{shows_none, rows_four}
use Rattle.ca_quad.proofs.FilledSquares.{part_empty, grows_three, four_filled, can_join_four, four_joined}
use Rattle.ca_quad.proofs.Growth.{grows_same, grows_on}
use Rattle.ca_quad.proofs.Windows.{FourWindows}
use Rattle.ca_quad.proofs.store.Store.+fill.Goals as goal
use Rattle.ca_quad.proofs.store.Store.+fill.Goals.{In_ok-parts, In_ok-se}

pub returns-then-is_empty-clause-shows : goal.returns-then-is_empty-clause-shows
returns-then-is_empty-clause-shows t c = shows_none c.args.self.now c.args.empty c.args.level c.args.cells.now c.args.rows.now c.args.at (eqb-true (length c.args.rows.now) 0 (sym c.is_empty.ensures ∙ c.if-is_empty.true)) c.requires.rows.cover c.requires.empty.shows

-- what the four calls share
module _ (t : ℕ) (c : In_ok-parts t) where
  large : 5 ≤ c.args.level
  large = c.is_block.ensures.large c.if-is_block.false

  rows : AreRowsOf (c.args.level - 1) c.args.cells.now c.in_ok-parts.parts.nw.items c.args.at × AreRowsOf (c.args.level - 1) c.args.cells.now c.in_ok-parts.parts.ne.items c.part_corners-corners.result.ne
      × AreRowsOf (c.args.level - 1) c.args.cells.now c.in_ok-parts.parts.sw.items c.part_corners-corners.result.sw × AreRowsOf (c.args.level - 1) c.args.cells.now c.in_ok-parts.parts.se.items c.part_corners-corners.result.se
  rows =
      rows_four c.args.level c.half_side.result (omega (arith, large)) c.half_side.ensures.half c.args.at c.part_corners-corners.result c.part_corners-corners.ensures c.args.cells.now c.args.rows.now c.requires.rows
      c.in_ok-parts.parts c.in_ok-parts.ensures

  can_fill : (new : List Node) → Grows c.args.self.now new → (now part : List Row) (at : Spot) → now ≡ part → AreRowsOf (c.args.level - 1) c.args.cells.now part at
      → IsEmptyOf new 4 (c.args.level - 1) (get_or c.children.result 0 c.index-children-0.result) × AreRowsOf (c.args.level - 1) c.args.cells.now now at
  can_fill new grows now part at e of = (
    part_empty c.args.self.now new (subst IsSoundStore c.self.view_is c.self.invariant) grows 4 c.args.level c.args.empty c.children.result c.index-children-0.result (omega (arith, c.children.type_inv)) (omega arith) (omega (arith, large))
        c.requires.empty c.children.ensures.quarters,
    rw e of,
  )

pub fill-requires : goal.fill-requires
fill-requires t c =
    let a = (goal.at.fill-requires t c).In_ok-parts in
    (omega (arith, c.decreases, large t a), can_fill t a _ (grows_same _ (subst IsSoundStore c.self.view_is c.self.invariant)) _ _ _ c.deref.ensures.value (rows t a).0)

pub fill-requires-2 : goal.fill-requires-2
fill-requires-2 t c =
    let a = (goal.at.fill-requires-2 t c).In_ok-parts in
    (omega (arith, c.decreases, large t a), can_fill t a _ c.fill.ensures.grows _ _ _ c.deref-2.ensures.value (rows t a).1)

pub fill-requires-3 : goal.fill-requires-3
fill-requires-3 t c =
    let a = (goal.at.fill-requires-3 t c).In_ok-parts in
    (omega (arith, c.decreases, large t a), can_fill t a _ (grows_on _ _ _ c.fill.ensures.grows c.fill-2.ensures.grows) _ _ _ c.deref-3.ensures.value (rows t a).2)

pub fill-requires-4 : goal.fill-requires-4
fill-requires-4 t c =
    let a = (goal.at.fill-requires-4 t c).In_ok-parts in
    (omega (arith, c.decreases, large t a), can_fill t a _ (grows_three _ _ _ _ c.fill.ensures.grows c.fill-2.ensures.grows c.fill-3.ensures.grows) _ _ _ c.deref-4.ensures.value (rows t a).3)

-- the four parts show the cells
module _ (t : ℕ) (c : In_ok-se t) where
  four : FourWindows c.fill-4.new.self (c.args.level - 1) (cells_from (cell c.args.cells.now) c.args.at) 0 0 c.in_ok-nw.nw c.in_ok-ne.ne c.in_ok-sw.sw c.in_ok-se.se
  four =
      four_filled c.fill.new.self c.fill-2.new.self c.fill-3.new.self c.fill-4.new.self c.fill.ensures.grows.sound c.fill-2.ensures.grows c.fill-3.ensures.grows c.fill-4.ensures.grows
      c.args.level c.half_side.result (omega (arith, c.requires.empty.low)) c.half_side.ensures.half c.in_ok-nw.nw c.in_ok-ne.ne c.in_ok-sw.sw c.in_ok-se.se c.args.at c.part_corners-corners.result c.part_corners-corners.ensures (cell c.args.cells.now)
      c.in_ok-nw.ensures.shows c.in_ok-ne.ensures.shows c.in_ok-sw.ensures.shows c.in_ok-se.ensures.shows

pub join-requires : goal.join-requires
join-requires t c = (_, can_join_four c.args.level (omega (arith, c.requires.empty.low)) (four t (goal.at.join-requires t c).In_ok-se) (omega (arith, c.requires.empty.high)))

pub returns-clause-shows : goal.returns-clause-shows
returns-clause-shows t c =
    four_joined c.args.level (omega (arith, c.requires.empty.low)) (four t (goal.at.returns-clause-shows t c).In_ok-se) c.join.new.self c.join.result c.join.ensures.shows
