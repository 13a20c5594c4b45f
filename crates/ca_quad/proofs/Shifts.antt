-- Trees that are moved.
use Rattle.std.proofs.Common.{◌≡◌, ◌≢◌, ℕ, suc, ◌+◌, ◌-◌, ◌<◌, ◌≤◌, ◌^◌, ◌%◌, inl, inr, ℤ, pos, neg_ℤ, ◌+ℤ◌, ◌-ℤ◌, ◌<ℤ◌, ◌≤ℤ◌, List, [], ◌∷◌, length, mod-eq_of_lt, refl, sym, ap, subst, ◌∙◌, arith}
use Rattle.std.proofs.lemmas.Int.{ints}
use Rattle.std.proofs.Math.Nat.{pow-le-pow_right}
use Rattle.ca_quad.specs.declared.{neighbours.Neighbours.Neighbours, node.Node.Node, store.cut.Offset.Offset, tree.Spot.Spot, tree.Tree.Tree, tree.WideBounds.WideBounds}
use Rattle.ca_quad.specs.Prelude.{IsLeastWideBox, FitsPlane, shifted_cells, IsSoundStore, Grows, square_of, IsOf, cell_of, IsTree, AreFour, AreQuarters, cell, HoldsAll, IsTrimmed}
use Rattle.ca_quad.specs.inner.Cut.{cells_of_four, IsCut}
use Rattle.ca_quad.specs.inner.Shifted.{IsNoFarther, IsShort, HasRoom, CanMove, shifted_box}
use Rattle.ca_quad.specs.inner.Window.{ShowsFrom}
use Rattle.ca_quad.proofs.Cells.{one_up, twice, of_stays, no_level}
use Rattle.ca_quad.proofs.Cuts.{window_at, same_four}
use Rattle.ca_quad.proofs.Differ.{cell_at}
use Rattle.ca_quad.proofs.FilledSquares.{tree_shows}
use Rattle.ca_plane.proofs.Numbers.{below_or_not}
use Rattle.ca_quad.proofs.Reach.{tree_holds}
use Rattle.ca_quad.proofs.Views.{square_whole}

-- the smallest box moves with the cells
pub box_shifted : (cells : ℤ → ℤ → ℕ) (box : WideBounds) (to : Spot) → IsLeastWideBox cells box → IsLeastWideBox (shifted_cells cells to.x to.y) (shifted_box box to)
box_shifted cells box to least =
    let back : (n d : ℤ) → n ≡ (n +ℤ d) -ℤ d = λ n d. omega (arith, ints) in
    let there : (x y : ℤ) → cells x y ≢ 0 → shifted_cells cells to.x to.y (x +ℤ to.x) (y +ℤ to.y) ≢ 0
    = λ x y live. subst (λ n. cells n ((y +ℤ to.y) -ℤ to.y) ≢ 0) (back x to.x) (subst (λ n. cells x n ≢ 0) (back y to.y) live) in
    record {
      all = λ x y live.
          let k = least.all (x -ℤ to.x) (y -ℤ to.y) live in
          (omega (arith, ints), omega (arith, ints), omega (arith, ints), omega (arith, ints));
      left = (least.left.0 +ℤ to.y, there box.x0 least.left.0 least.left.1);
      right = (least.right.0 +ℤ to.y, there box.x1 least.right.0 least.right.1);
      top = (least.top.0 +ℤ to.x, there least.top.0 box.y0 least.top.1);
      bottom = (least.bottom.0 +ℤ to.x, there least.bottom.0 box.y1 least.bottom.1);
    }

-- the same cells in other words
pub fits_as : (p q : ℤ → ℤ → ℕ) → ((x y : ℤ) → q x y ≡ p x y) → FitsPlane p → FitsPlane q
fits_as p q same fits x y live = fits x y (λ z. live (same x y ∙ z))

-- the levels of trees of the smallest level
pub fits_level : (nodes : List Node) (tree : Tree) → IsTrimmed nodes tree → FitsPlane (cell nodes tree) → tree.level ≤ 64
fits_level nodes tree trimmed fits =
    elim (below_or_not tree.level 65) [
      | inl h ↦ omega arith
      | inr h ↦ absurd (trimmed 64 (omega arith) (omega arith) (λ x y live. let k = fits x y live in ((omega (arith, ints), omega (arith, ints)), (omega (arith, ints), omega (arith, ints)))))
    ]

pub small_level : (nodes : List Node) (tree : Tree) (to : Spot) → IsShort to → IsTrimmed nodes tree → FitsPlane (shifted_cells (cell nodes tree) to.x to.y) → tree.level ≤ 65
small_level nodes tree to short trimmed fits =
    let back : (n d : ℤ) → n ≡ (n +ℤ d) -ℤ d = λ n d. omega (arith, ints) in
    elim (below_or_not tree.level 66) [
      | inl h ↦ omega arith
      | inr h ↦ absurd (trimmed 65 (omega arith) (omega arith) (λ x y live.
          let moved = subst (λ n. cell nodes tree n ((y +ℤ to.y) -ℤ to.y) ≢ 0) (back x to.x) (subst (λ n. cell nodes tree x n ≢ 0) (back y to.y) live) in
          let k = fits (x +ℤ to.x) (y +ℤ to.y) moved in
          ((omega (arith, ints), omega (arith, ints)), (omega (arith, ints), omega (arith, ints)))))
    ]

pub some_level : (nodes : List Node) → IsSoundStore nodes → (tree : Tree) → IsTree nodes tree → 1 ≤ tree.level
some_level nodes sound tree is =
    elim (below_or_not tree.level 1) [
      | inl h ↦ absurd (no_level nodes (length nodes) (square_of nodes tree.root) (omega (arith, is.is_level)) (square_whole nodes sound tree.root is.before))
      | inr h ↦ h
    ]

-- a tree of a low level that moves a short way stays in the square of a plane
pub short_fits : (nodes : List Node) → IsSoundStore nodes → (tree : Tree) → IsTree nodes tree → (to : Spot) → tree.level ≤ 62 → IsNoFarther (2 ^ 61) to.x → IsNoFarther (2 ^ 61) to.y
    → FitsPlane (shifted_cells (cell nodes tree) to.x to.y)
short_fits nodes sound tree is to low near_x near_y x y live =
    let k = tree_holds nodes tree 62 (some_level nodes sound tree is) low (x -ℤ to.x) (y -ℤ to.y) live in
    (omega (arith, ints), omega (arith, ints), omega (arith, ints), omega (arith, ints))

pub holds_as : (level : ℕ) (p q : ℤ → ℤ → ℕ) → ((x y : ℤ) → q x y ≡ p x y) → HoldsAll level p → HoldsAll level q
holds_as level p q same holds x y live = holds x y (λ z. live (same x y ∙ z))

-- an eighth of a side that is less than an offset is that of a low level
pub room_left : (level offset half : ℕ) → 3 ≤ level → offset ≤ 2 ^ 63 → half ≡ 2 ^ (level - 2 - 1) → half < offset → level ≤ 66
room_left level offset half some short is less =
    elim (below_or_not level 67) [
      | inl h ↦ omega arith
      | inr h ↦
          let low : 2 ^ 63 ≤ 2 ^ (level - 2 - 1) = pow-le-pow_right {n = 2} (omega arith) {i = 63} {j = level - 2 - 1} (omega arith) in
          absurd (omega arith)
    ]

-- quarters and eighths of the side of a tree that is to be moved
module _ (n : ℕ) (some : 3 ≤ n) where
  pub quarter : 2 ^ (n - 1) ≡ 2 ^ (n - 1 - 1) + 2 ^ (n - 1 - 1)
  quarter = twice (n - 1) (omega arith)

  pub eighth : 2 ^ (n - 1 - 1) ≡ 2 ^ (n - 3) + 2 ^ (n - 3)
  eighth =
      let e : n - 1 - 1 - 1 ≡ n - 3 = omega arith in
      subst (λ k. 2 ^ (n - 1 - 1) ≡ 2 ^ k + 2 ^ k) e (twice (n - 1 - 1) (omega arith))

  pub quarter_low : n ≤ 67 → 2 ^ (n - 1 - 1) ≤ 2 ^ 65
  quarter_low most = pow-le-pow_right {n = 2} (omega arith) {i = n - 1 - 1} {j = 65} (omega arith)

-- the tree that is cut out of a tree on the way to the place
module _ (old new : List Node) (wide : Tree) (to : Spot) (can : CanMove old wide to) (root : ℕ) (a b : ℕ)
    (is_a : pos a ≡ pos (2 ^ (wide.level - 1 - 1)) -ℤ to.x) (is_b : pos b ≡ pos (2 ^ (wide.level - 1 - 1)) -ℤ to.y)
    (shows : ShowsFrom new root (wide.level - 1) (cell_of old wide.level wide.root) a b) where
  held : (x y : ℤ) → cell old wide x y ≢ 0 → (neg_ℤ (pos (2 ^ (wide.level - 3))) ≤ℤ x) × (x <ℤ pos (2 ^ (wide.level - 3))) × (neg_ℤ (pos (2 ^ (wide.level - 3))) ≤ℤ y) × (y <ℤ pos (2 ^ (wide.level - 3)))
  held x y live =
      let e : wide.level - 2 - 1 ≡ wide.level - 3 = omega (arith, can.least) in
      let h : HoldsAll (wide.level - 2) (cell old wide) = can.holds in
      let k = h x y live in
      subst (λ l. (neg_ℤ (pos (2 ^ l)) ≤ℤ x) × (x <ℤ pos (2 ^ l)) × (neg_ℤ (pos (2 ^ l)) ≤ℤ y) × (y <ℤ pos (2 ^ l))) e (k.0.0, k.0.1, k.1.0, k.1.1)

  moved_held : HoldsAll (wide.level - 1) (shifted_cells (cell old wide) to.x to.y)
  moved_held x y live =
      let k = held (x -ℤ to.x) (y -ℤ to.y) live in
      let side = eighth wide.level can.least in
      ((omega (arith, ints, can.near_x, side), omega (arith, ints, can.near_x, side)), (omega (arith, ints, can.near_y, side), omega (arith, ints, can.near_y, side)))

  on : (u d : ℤ) (i c h : ℕ) → u +ℤ pos h ≡ pos i → pos c ≡ pos h -ℤ d → (u -ℤ d) +ℤ pos (h + h) ≡ pos (c + i)
  on u d i c h f g = omega (arith, ints)

  pub cut_moved : (x y : ℤ) → cell new (record { root = root; level = wide.level - 1 }) x y ≡ shifted_cells (cell old wide) to.x to.y x y
  cut_moved =
      let half = 2 ^ (wide.level - 1 - 1) in
      let side = quarter wide.level can.least in
      tree_shows new (record { root = root; level = wide.level - 1 }) half refl (omega (arith, can.least)) (shifted_cells (cell old wide) to.x to.y) moved_held
      (λ x y i j e f h l. shows.has_cells i j (omega (arith, side)) (omega (arith, side))
      ∙ sym (cell_at old wide (half + half) (sym side) (x -ℤ to.x) (y -ℤ to.y) (a + i) (b + j) (on x to.x i a half e is_a) (on y to.y j b half f is_b)))

-- the quarters of a tree that is to be moved
module _ (old : List Node) (wide : Tree) (to : Spot) (can : CanMove old wide to) where
  pub tree_quarters : (quarters : List ℕ) → ((level : ℕ) → IsOf old wide.root (suc level) → AreQuarters old wide.root level quarters) → AreQuarters old wide.root (wide.level - 1) quarters
  tree_quarters quarters are =
      let next : wide.level ≡ suc (wide.level - 1) = omega (arith, can.least) in
      are (wide.level - 1) (subst (IsOf old wide.root) next can.is_tree)

  pub parts_of_tree : (nw ne sw se : ℕ) → AreQuarters old wide.root (wide.level - 1) (nw ∷ ne ∷ sw ∷ se ∷ []) → AreFour old (wide.level - 1) nw ne sw se
  parts_of_tree nw ne sw se quarters = record { is_low = omega (arith, can.most); is_nw = quarters.is_nw; is_ne = quarters.is_ne; is_sw = quarters.is_sw; is_se = quarters.is_se }

-- what is cut out of the parts of a tree shows its cells
module _ (old new : List Node) (sound : IsSoundStore old) (grows : Grows old new) (wide : Tree) (to : Spot) (can : CanMove old wide to) (four : Neighbours)
    (quarters : AreQuarters old wide.root (wide.level - 1) (four.nw ∷ four.ne ∷ four.sw ∷ four.se ∷ [])) where
  module _ (offset : Offset) (root : ℕ) (cut : IsCut new offset four root) where
    level : cut.level ≡ wide.level - 1
    level = sym cut.four.is_nw.is_level ∙ (of_stays old new sound grows four.nw (wide.level - 1) quarters.is_nw).is_level

    pub cut_tree : IsTree new (record { root = root; level = wide.level - 1 })
    cut_tree = subst (IsOf new root) level cut.shows.is_square

    module _ (half : ℕ) (is : half ≡ 2 ^ (wide.level - 1 - 1)) (is_x : pos offset.x ≡ pos half -ℤ to.x) (is_y : pos offset.y ≡ pos half -ℤ to.y) where
      low : (c : ℕ) (d : ℤ) → pos c ≡ pos half -ℤ d → IsNoFarther (2 ^ (wide.level - 3)) d → c % 2 ^ (wide.level - 1) ≡ c
      low c d e near = mod-eq_of_lt (omega (arith, ints, quarter wide.level can.least, eighth wide.level can.least, one_up (wide.level - 3)))

      shows : ShowsFrom new root (wide.level - 1) (cell_of old wide.level wide.root) offset.x offset.y
      shows =
          let n = wide.level - 1 in
          let next : suc n ≡ wide.level = omega (arith, can.least) in
          let first : ShowsFrom new root n (cells_of_four new n four) (offset.x % 2 ^ n) (offset.y % 2 ^ n) =
          subst (λ l. ShowsFrom new root l (cells_of_four new l four) (offset.x % 2 ^ l) (offset.y % 2 ^ l)) level cut.shows
          in
          let second : ShowsFrom new root n (cells_of_four old n four) offset.x offset.y =
          window_at new root n (cells_of_four old n four) (offset.x % 2 ^ n) (offset.y % 2 ^ n) offset.x offset.y (low offset.x to.x is_x can.near_x) (low offset.y to.y is_y can.near_y)
          (subst (λ f. ShowsFrom new root n f (offset.x % 2 ^ n) (offset.y % 2 ^ n)) (same_four old new sound grows offset four root n (parts_of_tree old wide to can four.nw four.ne four.sw four.se quarters)) first)
          in
          subst (λ l. ShowsFrom new root n (cell_of old l wide.root) offset.x offset.y) next
          (record { is_square = second.is_square; has_cells = λ x y i j. second.has_cells x y i j ∙ sym (quarters.has_cells (offset.x + x) (offset.y + y)) })

      pub tree_moved : (x y : ℤ) → cell new (record { root = root; level = wide.level - 1 }) x y ≡ shifted_cells (cell old wide) to.x to.y x y
      tree_moved = cut_moved old new wide to can root offset.x offset.y (is_x ∙ ap (λ n. pos n -ℤ to.x) is) (is_y ∙ ap (λ n. pos n -ℤ to.y) is) shows

-- with room, the tree may be moved
pub can_move : (old new : List Node) → IsSoundStore old → (small wide : Tree) → IsTree old small → (offset : ℕ) (to : Spot) → IsShort to → IsNoFarther offset to.x → IsNoFarther offset to.y
    → HasRoom new (cell old small) (small.level + 2) offset wide → CanMove new wide to
can_move old new sound small wide is offset to short near_x near_y room =
    let some = some_level old sound small is in
    record {
      is_tree = room.is_tree;
      least = omega (arith, room.least);
      most = room.most;
      holds = holds_as (wide.level - 2) (cell old small) (cell new wide) room.has_cells (tree_holds old small (wide.level - 2) some (omega (arith, room.least)));
      short = short;
      near_x = (omega (arith, ints, room.room), omega (arith, ints, room.room));
      near_y = (omega (arith, ints, room.room), omega (arith, ints, room.room));
    }
