-- Squares that are filled with the cells of a picture.
use Rattle.std.proofs.Common.{◌≡◌, ℕ, suc, ◌+◌, ◌-◌, ◌<◌, ◌≤◌, ◌^◌, ◌⊎◌, inl, inr, ℤ, pos, negsuc, neg_ℤ, ◌+ℤ◌, ◌<ℤ◌, ◌≤ℤ◌, Result, IfOk, List, [], ◌∷◌, get_or, length, slice_index, refl, sym, ap, subst, ◌∙◌, arith}
use Rattle.std.proofs.lemmas.Bool.{cases_eq}
use Rattle.std.proofs.lemmas.Int.{ints}
use Rattle.std.proofs.Math.Nat.{pow-le-pow_right}
use Rattle.ca_plane.specs.declared.point.Bounds.{Bounds}
use Rattle.ca_plane.specs.Prelude.{IsLeastBox, Picture, cell}
use Rattle.ca_quad.specs.declared.{node.Node.Node, store.to_plane.Corners.Corners, tree.Spot.Spot, tree.Tree.Tree}
use Rattle.ca_quad.specs.Prelude.{IsOf, joined_cells, cell_of, IsSoundStore, Grows, ShowsSquare, AreFour, AreQuarters, cell as tree_cell, HoldsAll}
use Rattle.ca_quad.specs.inner.Drawn.{ArePartCorners}
use Rattle.ca_quad.specs.inner.Filled.{cells_from, IsEmptyOf, LiesNear, HoldsBox}
use Rattle.ca_quad.specs.inner.Ring.{no_cells}
use Rattle.ca_quad.specs.inner.Window.{ShowsFrom}
use Rattle.ca_quad.proofs.Cells.{twice}
use Rattle.ca_quad.proofs.Differ.{cell_at}
use Rattle.ca_quad.proofs.Edges.{IsOff, outside_x, outside_y}
use Rattle.ca_quad.proofs.Growth.{grows_on}
use Rattle.ca_plane.proofs.Numbers.{below_or_not}
use Rattle.ca_quad.proofs.ShownSquares.{shows_stays}
use Rattle.ca_quad.proofs.Walks.{nw_empty}
use Rattle.ca_quad.proofs.Windows.{FourWindows, gathered, four_windows, window_joined}

-- a cell, counted from a place
pub counted_at : (p : ℤ → ℤ → ℕ) (at : Spot) (x y : ℤ) (a b : ℕ) → x ≡ at.x +ℤ pos a → y ≡ at.y +ℤ pos b → p x y ≡ cells_from p at a b
counted_at p at x y a b e f = ap (λ n. p n y) e ∙ ap (λ n. p (at.x +ℤ pos a) n) f

-- the first quarter of an empty square is empty
none_first : (nodes : List Node) → IsSoundStore nodes → (id k : ℕ) (parts : List ℕ) (d : ℕ) → length parts ≡ 4 → ShowsSquare nodes id (suc k) no_cells → AreQuarters nodes id k parts → ShowsSquare nodes (get_or parts 0 d) k no_cells
none_first nodes sound id k [] d four h q = absurd (omega arith)
none_first nodes sound id k (p ∷ ps) d four h q = record {
  is_square = q.is_nw;
  has_cells = nw_empty nodes sound k p (slice_index (p ∷ ps) 1) (slice_index (p ∷ ps) 2) (slice_index (p ∷ ps) 3) q.is_nw q.is_ne q.is_sw q.is_se (λ x y. sym (q.has_cells x y) ∙ h.has_cells x y);
}

-- and stays so
pub part_empty : (old new : List Node) → IsSoundStore old → Grows old new → (least level id : ℕ) (parts : List ℕ) (d : ℕ) → length parts ≡ 4 → 1 ≤ least → suc least ≤ level → IsEmptyOf old least level id
    → ((l : ℕ) → IsOf old id (suc l) → AreQuarters old id l parts) → IsEmptyOf new least (level - 1) (get_or parts 0 d)
part_empty old new sound grows least level id parts d four some above empty quarters =
    let next : level ≡ suc (level - 1) = omega arith in
    let h : ShowsSquare old id (suc (level - 1)) no_cells = subst (λ l. ShowsSquare old id l no_cells) next empty.shows in
    record {
      low = omega arith;
      high = omega (arith, empty.high);
      shows = shows_stays old new sound grows (get_or parts 0 d) (level - 1) no_cells (none_first old sound id (level - 1) parts d four h (quarters (level - 1) h.is_square));
    }

-- squares that are made one after the other
module _ (s0 s1 s2 s3 : List Node) (g1 : Grows s0 s1) (g2 : Grows s1 s2) (g3 : Grows s2 s3) where
  pub grows_three : Grows s0 s3
  grows_three = grows_on s0 s2 s3 (grows_on s0 s1 s2 g1 g2) g3

  pub grows_four : (s4 : List Node) → Grows s3 s4 → Grows s0 s4
  grows_four s4 g4 = grows_on s0 s3 s4 grows_three g4

  pub grows_five : (s4 s5 : List Node) → Grows s3 s4 → Grows s4 s5 → Grows s0 s5
  grows_five s4 s5 g4 g5 = grows_on s0 s4 s5 (grows_four s4 g4) g5

-- the quarters of a square that lies near
module _ (level half : ℕ) (large : 2 ≤ level) (side : half ≡ 2 ^ (level - 1)) (at : Spot) (cs : Corners) (are : ArePartCorners at half cs) (near : LiesNear (2 ^ level) at) where
  two : 2 ^ level ≡ 2 ^ (level - 1) + 2 ^ (level - 1)
  two = twice level (omega arith)

  pub near_nw : LiesNear (2 ^ (level - 1)) at
  near_nw = record { left = near.left; right = omega (arith, ints, near.right, two); top = near.top; bottom = omega (arith, ints, near.bottom, two) }

  pub near_ne : LiesNear (2 ^ (level - 1)) cs.ne
  near_ne = record {
    left = omega (arith, ints, near.left, are.ne_x);
    right = omega (arith, ints, near.right, two, are.ne_x, side);
    top = omega (arith, ints, near.top, are.ne_y);
    bottom = omega (arith, ints, near.bottom, two, are.ne_y);
  }

  pub near_sw : LiesNear (2 ^ (level - 1)) cs.sw
  near_sw = record {
    left = omega (arith, ints, near.left, are.sw_x);
    right = omega (arith, ints, near.right, two, are.sw_x);
    top = omega (arith, ints, near.top, are.sw_y);
    bottom = omega (arith, ints, near.bottom, two, are.sw_y, side);
  }

  pub near_se : LiesNear (2 ^ (level - 1)) cs.se
  near_se = record {
    left = omega (arith, ints, near.left, are.se_x);
    right = omega (arith, ints, near.right, two, are.se_x, side);
    top = omega (arith, ints, near.top, are.se_y);
    bottom = omega (arith, ints, near.bottom, two, are.se_y, side);
  }

-- the whole tree lies near
pub near_first : (level half : ℕ) (at : Spot) → 1 ≤ level → level ≤ 65 → half ≡ 2 ^ (level - 1) → at.x ≡ neg_ℤ (pos half) → at.y ≡ neg_ℤ (pos half) → LiesNear (2 ^ level) at
near_first level half at least most side ex ey =
    let two = twice level least in
    let low : 2 ^ (level - 1) ≤ 2 ^ 64 = pow-le-pow_right {n = 2} (omega arith) {i = level - 1} {j = 64} (omega arith) in
    record { left = omega (arith, ints); right = omega (arith, ints); top = omega (arith, ints); bottom = omega (arith, ints) }

-- cells that were counted from another place
window_to : (nodes : List Node) (id k : ℕ) (p : ℤ → ℤ → ℕ) (from at : Spot) (dx dy : ℕ) → from.x ≡ at.x +ℤ pos dx → from.y ≡ at.y +ℤ pos dy
    → ShowsFrom nodes id k (cells_from p from) 0 0 → ShowsFrom nodes id k (cells_from p at) dx dy
window_to nodes id k p from at dx dy ex ey h = record {
  is_square = h.is_square;
  has_cells = λ x y i j.
      let u : 0 + x ≡ x = omega arith in
      let v : 0 + y ≡ y = omega arith in
      h.has_cells x y i j
      ∙ (ap (λ n. cells_from p from n (0 + y)) u ∙ ap (λ n. cells_from p from x n) v)
      ∙ counted_at p at (from.x +ℤ pos x) (from.y +ℤ pos y) (dx + x) (dy + y) (omega (arith, ints)) (omega (arith, ints));
}

-- four squares side by side can be joined, and their join shows them
module _ {nodes : List Node} (level : ℕ) {cells : ℕ → ℕ → ℕ} {x y nw ne sw se : ℕ} (large : 2 ≤ level) (four : FourWindows nodes (level - 1) cells x y nw ne sw se) where
  pub can_join_four : level ≤ 125 → AreFour nodes (level - 1) nw ne sw se
  can_join_four low = four_windows nodes (level - 1) cells x y nw ne sw se four (omega arith)

  pub four_joined : {E : Type 0} (new : List Node) (u : Result ℕ E)
      → ((l : ℕ) → IsOf nodes nw l → IfOk u (λ id. ShowsSquare new id (suc l) (joined_cells (2 ^ l) (cell_of nodes l nw) (cell_of nodes l ne) (cell_of nodes l sw) (cell_of nodes l se))))
      → IfOk u (λ id. ShowsFrom new id level cells x y)
  four_joined new u join =
      let next : suc (level - 1) ≡ level = omega arith in
      subst (λ l. IfOk u (λ id. ShowsFrom new id l cells x y)) next (window_joined nodes (level - 1) cells x y nw ne sw se four new u (join (level - 1) four.a.is_square))

-- four quarters that are made one after the other
module _ (s1 s2 s3 s4 : List Node) (sound : IsSoundStore s1) (g2 : Grows s1 s2) (g3 : Grows s2 s3) (g4 : Grows s3 s4) (level half : ℕ) (large : 2 ≤ level) (side : half ≡ 2 ^ (level - 1)) (nw ne sw se : ℕ) where
  module _ (cells : ℕ → ℕ → ℕ) (x y : ℕ) (p : ShowsFrom s1 nw (level - 1) cells x y) (q : ShowsFrom s2 ne (level - 1) cells (x + half) y) (r : ShowsFrom s3 sw (level - 1) cells x (y + half)) (s : ShowsFrom s4 se (level - 1) cells (x + half) (y + half)) where
    quarters : FourWindows s4 (level - 1) cells x y nw ne sw se
    quarters =
        let k = level - 1 in
        gathered s1 s2 s3 s4 sound g2 g3 g4 k cells x y nw ne sw se p
        (subst (λ n. ShowsFrom s2 ne k cells (x + n) y) side q) (subst (λ n. ShowsFrom s3 sw k cells x (y + n)) side r) (subst (λ n. ShowsFrom s4 se k cells (x + n) (y + n)) side s)

    pub can_join : level ≤ 125 → AreFour s4 (level - 1) nw ne sw se
    can_join = can_join_four level large quarters

    pub joined : {E : Type 0} (new : List Node) (u : Result ℕ E)
        → ((l : ℕ) → IsOf s4 nw l → IfOk u (λ id. ShowsSquare new id (suc l) (joined_cells (2 ^ l) (cell_of s4 l nw) (cell_of s4 l ne) (cell_of s4 l sw) (cell_of s4 l se))))
        → IfOk u (λ id. ShowsFrom new id level cells x y)
    joined = four_joined level large quarters

  -- the same of squares that were filled, each from its own corner onwards
  module _ (at : Spot) (cs : Corners) (are : ArePartCorners at half cs) (cells : ℤ → ℤ → ℕ)
      (p : ShowsFrom s1 nw (level - 1) (cells_from cells at) 0 0) (q : ShowsFrom s2 ne (level - 1) (cells_from cells cs.ne) 0 0) (r : ShowsFrom s3 sw (level - 1) (cells_from cells cs.sw) 0 0) (s : ShowsFrom s4 se (level - 1) (cells_from cells cs.se) 0 0)
    where
      to_ne : ShowsFrom s2 ne (level - 1) (cells_from cells at) (0 + half) 0
      to_ne = window_to s2 ne (level - 1) cells cs.ne at (0 + half) 0 (omega (arith, ints, are.ne_x)) (omega (arith, ints, are.ne_y)) q

      to_sw : ShowsFrom s3 sw (level - 1) (cells_from cells at) 0 (0 + half)
      to_sw = window_to s3 sw (level - 1) cells cs.sw at 0 (0 + half) (omega (arith, ints, are.sw_x)) (omega (arith, ints, are.sw_y)) r

      to_se : ShowsFrom s4 se (level - 1) (cells_from cells at) (0 + half) (0 + half)
      to_se = window_to s4 se (level - 1) cells cs.se at (0 + half) (0 + half) (omega (arith, ints, are.se_x)) (omega (arith, ints, are.se_y)) s

      pub four_filled : FourWindows s4 (level - 1) (cells_from cells at) 0 0 nw ne sw se
      four_filled = quarters (cells_from cells at) 0 0 p to_ne to_sw to_se

-- a tree that holds the box of all live cells holds these
pub holds_all : (p : Picture) (box : Bounds) (level : ℕ) → IsLeastBox p box → HoldsBox (2 ^ (level - 1)) box → HoldsAll level (cell p)
holds_all p box level least (a, b, c, d) x y live =
    let (f, g, h, i) = least.all x y live in
    ((omega (arith, ints), omega (arith, ints)), (omega (arith, ints), omega (arith, ints)))

-- a place lies on a side, or off it
pub place_on : (u : ℤ) (side : ℕ) → ((n : ℕ) × (u ≡ pos n) × (n < side)) ⊎ IsOff side u
place_on (pos n) side = elim (below_or_not n side) [ inl h ↦ inl (n, refl, h) | inr h ↦ inr (inr (omega (arith, ints))) ]
place_on (negsuc n) side = inr (inl (omega (arith, ints)))

-- a tree that holds all the cells, and whose root has them, has the cells
module _ (nodes : List Node) (tree : Tree) (half : ℕ) (side : half ≡ 2 ^ (tree.level - 1)) (some : 1 ≤ tree.level) (cells : ℤ → ℤ → ℕ) (holds : HoldsAll tree.level cells)
    (shows : (x y : ℤ) (a b : ℕ) → x +ℤ pos half ≡ pos a → y +ℤ pos half ≡ pos b → a < half + half → b < half + half → cell_of nodes tree.level tree.root a b ≡ cells x y) where
  off_live : (s : ℕ) (x : ℤ) → half ≡ s → IsOff (half + half) (x +ℤ pos half) → neg_ℤ (pos s) ≤ℤ x → x <ℤ pos s → ⊥
  off_live s x e (inl h) i j = omega (arith, ints)
  off_live s x e (inr h) i j = omega (arith, ints)

  dead_x : (x y : ℤ) → IsOff (half + half) (x +ℤ pos half) → cells x y ≡ 0
  dead_x x y off = elim (cases_eq (cells x y) 0) [ inl z ↦ z | inr live ↦ let h = holds x y live in absurd (off_live (2 ^ (tree.level - 1)) x side off h.0.0 h.0.1) ]

  dead_y : (x y : ℤ) → IsOff (half + half) (y +ℤ pos half) → cells x y ≡ 0
  dead_y x y off = elim (cases_eq (cells x y) 0) [ inl z ↦ z | inr live ↦ let h = holds x y live in absurd (off_live (2 ^ (tree.level - 1)) y side off h.1.0 h.1.1) ]

  pub tree_shows : (x y : ℤ) → tree_cell nodes tree x y ≡ cells x y
  tree_shows x y =
      elim (place_on (x +ℤ pos half) (half + half)) [
        | inr off ↦ outside_x nodes tree half some side x y off ∙ sym (dead_x x y off)
        | inl (a, e, h) ↦ elim (place_on (y +ℤ pos half) (half + half)) [
          | inr off ↦ outside_y nodes tree half some side x y off ∙ sym (dead_y x y off)
          | inl (b, f, i) ↦ cell_at nodes tree half side x y a b e f ∙ shows x y a b e f h i
        ]
      ]

-- a tree whose root shows all cells shows the picture
pub tree_filled : (nodes : List Node) (tree : Tree) (p : ℤ → ℤ → ℕ) (half : ℕ) → half ≡ 2 ^ (tree.level - 1) → 1 ≤ tree.level → (at : Spot) → at.x ≡ neg_ℤ (pos half) → at.y ≡ neg_ℤ (pos half)
    → ShowsFrom nodes tree.root tree.level (cells_from p at) 0 0 → HoldsAll tree.level p → (x y : ℤ) → tree_cell nodes tree x y ≡ p x y
tree_filled nodes tree p half side some at ex ey shows holds =
    let whole = twice tree.level some in
    tree_shows nodes tree half side some p holds
    (λ x y a b e f h i. shows.has_cells a b (omega (arith, side, whole)) (omega (arith, side, whole)) ∙ sym (counted_at p at x y (0 + a) (0 + b) (omega (arith, ints)) (omega (arith, ints))))
