use Rattle.std.proofs.Common.{ℕ, ◌≤◌, ◌-◌, ◌^◌, List, get_or, subst, arith}
use Rattle.std.proofs.lemmas.Bool.Decides.{nat_tests}
use Rattle.ca_plane.specs.Prelude.{bit_cell}
use Rattle.ca_quad.specs.declared.{node.Node.Node, tree.Spot.Spot}
use Rattle.ca_quad.specs.Prelude.{IsSoundStore, Grows}
use Rattle.ca_quad.specs.inner.Filled.{cells_from, IsEmptyOf, LiesNear}
use Rattle.ca_quad.proofs.BitWords.{window_of_part}
use Rattle.ca_quad.proofs.FilledSquares.{part_empty, grows_three, near_nw, near_ne, near_sw, near_se, four_filled, can_join_four, four_joined}
use Rattle.ca_quad.proofs.Growth.{grows_same, grows_on}
use Rattle.ca_quad.proofs.Windows.{FourWindows}
use Rattle.ca_quad.proofs.store.Store.+fill_words.Goals as goal
use Rattle.ca_quad.proofs.store.Store.+fill_words.Goals.{In_ok-parts, In_ok-se}

-- what the four calls share
module _ (t : ℕ) (c : In_ok-parts t) where
  large : 7 ≤ c.args.level
  large = grind (arith, nat_tests, c.requires.empty.low, c.if-level-eq-BLOCK.false)

  can_fill : (new : List Node) → Grows c.args.self.now new → (at : Spot) → LiesNear (2 ^ (c.args.level - 1)) at
      → IsEmptyOf new 6 (c.args.level - 1) (get_or c.children.result 0 c.index-children-0.result) × LiesNear (2 ^ (c.args.level - 1)) at
  can_fill new grows at near = (
    part_empty c.args.self.now new (subst IsSoundStore c.self.view_is c.self.invariant) grows 6 c.args.level c.args.empty c.children.result c.index-children-0.result (omega (arith, c.children.type_inv)) (omega arith) (omega (arith, large))
        c.requires.empty c.children.ensures.quarters,
    near,
  )

pub fill_words-requires : goal.fill_words-requires
fill_words-requires t c =
    let a = (goal.at.fill_words-requires t c).In_ok-parts in
    (omega (arith, c.decreases, large t a), can_fill t a _ (grows_same _ (subst IsSoundStore c.self.view_is c.self.invariant)) _ (near_nw c.args.level c.half_side-half.result (omega (arith, large t a)) c.half_side-half.ensures.half c.args.at c.part_corners-corners.result c.part_corners-corners.ensures c.requires.near))

pub fill_words-requires-2 : goal.fill_words-requires-2
fill_words-requires-2 t c =
    let a = (goal.at.fill_words-requires-2 t c).In_ok-parts in
    (omega (arith, c.decreases, large t a), can_fill t a _ c.fill_words.ensures.grows _ (near_ne c.args.level c.half_side-half.result (omega (arith, large t a)) c.half_side-half.ensures.half c.args.at c.part_corners-corners.result c.part_corners-corners.ensures c.requires.near))

pub fill_words-requires-3 : goal.fill_words-requires-3
fill_words-requires-3 t c =
    let a = (goal.at.fill_words-requires-3 t c).In_ok-parts in
    (omega (arith, c.decreases, large t a), can_fill t a _ (grows_on _ _ _ c.fill_words.ensures.grows c.fill_words-2.ensures.grows) _ (near_sw c.args.level c.half_side-half.result (omega (arith, large t a)) c.half_side-half.ensures.half c.args.at c.part_corners-corners.result c.part_corners-corners.ensures c.requires.near))

pub fill_words-requires-4 : goal.fill_words-requires-4
fill_words-requires-4 t c =
    let a = (goal.at.fill_words-requires-4 t c).In_ok-parts in
    (omega (arith, c.decreases, large t a), can_fill t a _ (grows_three _ _ _ _ c.fill_words.ensures.grows c.fill_words-2.ensures.grows c.fill_words-3.ensures.grows) _ (near_se c.args.level c.half_side-half.result (omega (arith, large t a)) c.half_side-half.ensures.half c.args.at c.part_corners-corners.result c.part_corners-corners.ensures c.requires.near))

-- the four parts show the cells of the words
module _ (t : ℕ) (c : In_ok-se t) where
  four : FourWindows c.fill_words-4.new.self (c.args.level - 1) (cells_from (bit_cell c.args.words.items) c.args.at) 0 0 c.in_ok-nw.nw c.in_ok-ne.ne c.in_ok-sw.sw c.in_ok-se.se
  four =
      let words = c.args.words.items in
      let parts = c.in_ok-parts.parts in
      let have = c.in_ok-parts.ensures in
      let cs = c.part_corners-corners.result in
      let half = c.half_side-half.result in
      let side = c.half_side-half.ensures.half in
      let k = c.args.level - 1 in
      four_filled c.fill_words.new.self c.fill_words-2.new.self c.fill_words-3.new.self c.fill_words-4.new.self c.fill_words.ensures.grows.sound c.fill_words-2.ensures.grows c.fill_words-3.ensures.grows c.fill_words-4.ensures.grows
      c.args.level half (omega (arith, c.requires.empty.low)) side c.in_ok-nw.nw c.in_ok-ne.ne c.in_ok-sw.sw c.in_ok-se.se c.args.at cs c.part_corners-corners.ensures (bit_cell words)
      (window_of_part c.fill_words.new.self c.in_ok-nw.nw k words parts.nw.items c.args.at half side have.nw c.in_ok-nw.ensures.shows)
      (window_of_part c.fill_words-2.new.self c.in_ok-ne.ne k words parts.ne.items cs.ne half side have.ne c.in_ok-ne.ensures.shows)
      (window_of_part c.fill_words-3.new.self c.in_ok-sw.sw k words parts.sw.items cs.sw half side have.sw c.in_ok-sw.ensures.shows)
      (window_of_part c.fill_words-4.new.self c.in_ok-se.se k words parts.se.items cs.se half side have.se c.in_ok-se.ensures.shows)

pub join-requires : goal.join-requires
join-requires t c = (_, can_join_four c.args.level (omega (arith, c.requires.empty.low)) (four t (goal.at.join-requires t c).In_ok-se) (omega (arith, c.requires.empty.high)))

pub returns-clause-shows : goal.returns-clause-shows
returns-clause-shows t c =
    four_joined c.args.level (omega (arith, c.requires.empty.low)) (four t (goal.at.returns-clause-shows t c).In_ok-se) c.join.new.self c.join.result c.join.ensures.shows
