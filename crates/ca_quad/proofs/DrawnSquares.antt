-- Squares that are drawn part by part.
use Rattle.std.proofs.Common.{◌≡◌, ◌≢◌, ℕ, suc, ◌+◌, ◌-◌, ◌≤◌, ◌^◌, ◌⊎◌, inl, inr, true, ◌==◌, ◌&&◌, if◌then◌else◌, ℤ, pos, negsuc, neg_ℤ, ◌+ℤ◌, ◌-ℤ◌, ◌≤ℤ◌, ◌<ℤ◌, List, length, refl, sym, ap, subst, ◌∙◌, true≢false, arith}
use Rattle.std.specs.Ordering.{int_eq}
use Rattle.std.proofs.lemmas.Bool.{cases_Bool, eqb-true, and_parts}
use Rattle.std.proofs.lemmas.Cmp.{int_eq_equiv}
use Rattle.std.proofs.lemmas.Int.{ints}
use Rattle.std.proofs.Math.Nat.{two-pow-succ}
use Rattle.ca_plane.specs.declared.point.Point.{Point}
use Rattle.ca_plane.proofs.Pictures.{place-from_true}
use Rattle.ca_quad.specs.declared.{node.Node.Node, store.to_plane.Corners.Corners, tree.Spot.Spot, tree.Tree.Tree}
use Rattle.ca_quad.specs.declared.square.Square.TheVariants.{Four, Parts}
use Rattle.ca_quad.specs.Prelude.{square_of, level, level_of, IsOf, one_cell, joined_cells, cell_of, HasParts, IsIn, IsTree, cell as tree_cell, FitsPlane}
use Rattle.ca_plane.specs.Prelude.{from_corner}
use Rattle.ca_quad.specs.inner.Drawn.{square_cells, side_of, cells_at_corner, CanDraw, ArePartCorners, Agrees, IsLiveAt, IsReadyToDraw}
use Rattle.ca_plane.proofs.Numbers.{below_or_not}
use Rattle.ca_quad.specs.inner.Measure.{EndsWithin}
use Rattle.ca_quad.proofs.Cells.{in_nw, in_ne, in_sw, in_se, cell_ends, dot_ends}
use Rattle.ca_quad.proofs.Walks.{four_show, parts_show}
use Rattle.ca_quad.proofs.Edges.{off_x, off_y}
use Rattle.ca_quad.proofs.Boxes.{cell_at}

dot_other : (state : ℕ) (u v : ℤ) → (u ≡ pos 0 → v ≡ pos 0 → ⊥) → from_corner (one_cell state) u v ≡ 0
dot_other state (pos a) (pos b) h =
    elim (cases_Bool ((a == 0) && (b == 0))) [
      | inl e ↦
          let both = and_parts (a == 0) (b == 0) e in
          absurd (h (ap pos (eqb-true a 0 both.0)) (ap pos (eqb-true b 0 both.1)))
      | inr e ↦ rw e refl
    ]
dot_other state (pos a) (negsuc b) h = refl
dot_other state (negsuc a) (pos b) h = refl
dot_other state (negsuc a) (negsuc b) h = refl

pub dot_shown : (state : ℕ) (at : Point) (x y : ℤ) → (if int_eq y at.y && int_eq x at.x then state else 0) ≡ from_corner (one_cell state) (x -ℤ at.x) (y -ℤ at.y)
dot_shown state at x y =
    elim (cases_Bool (int_eq y at.y && int_eq x at.x)) [
      | inl e ↦
          let (f, g) = place-from_true x y at e in
          let h : x -ℤ at.x ≡ pos 0 = omega (arith, ints) in
          let i : y -ℤ at.y ≡ pos 0 = omega (arith, ints) in
          rw (e, h, i) refl
      | inr e ↦
          let apart : x -ℤ at.x ≡ pos 0 → y -ℤ at.y ≡ pos 0 → ⊥ = λ h i.
          let f : x ≡ at.x = omega (arith, ints) in
          let g : y ≡ at.y = omega (arith, ints) in
          let yes : (int_eq y at.y && int_eq x at.x) ≡ true = rw (f, g, int_eq_equiv.refl at.y, int_eq_equiv.refl at.x) refl in
          true≢false (sym yes ∙ e) in
          rw e (sym (dot_other state (x -ℤ at.x) (y -ℤ at.y) apart))
    ]

-- a live dot is at its place
dot_place : (state : ℕ) (at : Spot) (x y : ℤ) → IsLiveAt (cells_at_corner (one_cell state) at) x y → (x ≡ at.x) × (y ≡ at.y)
dot_place state at x y live =
    let point : Point = record { y = at.y; x = at.x } in
    elim (cases_Bool (int_eq y at.y && int_eq x at.x)) [
      | inl e ↦ let both = place-from_true x y point e in (both.1, both.0)
      | inr e ↦ absurd (live (sym (dot_shown state point x y) ∙ rw e refl))
    ]

-- the cell's own place
pub dot_at : (state : ℕ) (at : Spot) → cells_at_corner (one_cell state) at at.x at.y ≡ state
dot_at state at =
    let h : at.x -ℤ at.x ≡ pos 0 = omega (arith, ints) in
    let i : at.y -ℤ at.y ≡ pos 0 = omega (arith, ints) in
    rw (h, i) refl

-- of four squares that lie together one shows the cell, and the others show 0
IsOneOf : ℕ → ℕ → ℕ → ℕ → ℕ → Type 0
IsOneOf t a b c d = ((t ≡ a) × (b ≡ 0) × (c ≡ 0) × (d ≡ 0)) ⊎ (((t ≡ b) × (a ≡ 0) × (c ≡ 0) × (d ≡ 0)) ⊎ (((t ≡ c) × (a ≡ 0) × (b ≡ 0) × (d ≡ 0)) ⊎ ((t ≡ d) × (a ≡ 0) × (b ≡ 0) × (c ≡ 0))))

none_live : (t a b c d : ℕ) → IsOneOf t a b c d → t ≡ 0 → (a ≡ 0) × (b ≡ 0) × (c ≡ 0) × (d ≡ 0)
unfolding IsOneOf
none_live t a b c d (inl (e, f, g, h)) z = (sym e ∙ z, f, g, h)
none_live t a b c d (inr (inl (e, f, g, h))) z = (f, sym e ∙ z, g, h)
none_live t a b c d (inr (inr (inl (e, f, g, h)))) z = (f, g, sym e ∙ z, h)
none_live t a b c d (inr (inr (inr (e, f, g, h)))) z = (f, g, h, sym e ∙ z)

-- and so is each of the others that isn't 0
one_same : (t a b c d : ℕ) → IsOneOf t a b c d → (a ≢ 0 → a ≡ t) × (b ≢ 0 → b ≡ t) × (c ≢ 0 → c ≡ t) × (d ≢ 0 → d ≡ t)
unfolding IsOneOf
one_same t a b c d (inl (e, f, g, h)) = (λ l. sym e, λ l. absurd (l f), λ l. absurd (l g), λ l. absurd (l h))
one_same t a b c d (inr (inl (e, f, g, h))) = (λ l. absurd (l f), λ l. sym e, λ l. absurd (l g), λ l. absurd (l h))
one_same t a b c d (inr (inr (inl (e, f, g, h)))) = (λ l. absurd (l f), λ l. absurd (l g), λ l. sym e, λ l. absurd (l h))
one_same t a b c d (inr (inr (inr (e, f, g, h)))) = (λ l. absurd (l f), λ l. absurd (l g), λ l. absurd (l h), λ l. sym e)

one_live : (t a b c d : ℕ) → IsOneOf t a b c d → t ≢ 0 → ((a ≢ 0) ⊎ (b ≢ 0)) ⊎ ((c ≢ 0) ⊎ (d ≢ 0))
unfolding IsOneOf
one_live t a b c d (inl (e, f, g, h)) l = inl (inl (λ z. l (e ∙ z)))
one_live t a b c d (inr (inl (e, f, g, h))) l = inl (inr (λ z. l (e ∙ z)))
one_live t a b c d (inr (inr (inl (e, f, g, h)))) l = inr (inl (λ z. l (e ∙ z)))
one_live t a b c d (inr (inr (inr (e, f, g, h)))) l = inr (inr (λ z. l (e ∙ z)))

int_below : (u : ℤ) (n : ℕ) → (u <ℤ pos n) ⊎ (pos n ≤ℤ u)
int_below (pos a) n = elim (below_or_not a n) [ inl h ↦ inl (omega (arith, ints)) | inr h ↦ inr (omega (arith, ints)) ]
int_below (negsuc a) n = inl (omega (arith, ints))

module _ (side : ℕ) (nw ne sw se : ℕ → ℕ → ℕ) where
  abbrev all : ℕ → ℕ → ℕ
  all = joined_cells side nw ne sw se

  to_nw : (u v : ℤ) → u <ℤ pos side → v <ℤ pos side → from_corner all u v ≡ from_corner nw u v
  to_nw (pos a) (pos b) h i = in_nw side nw ne sw se a b (omega (arith, ints)) (omega (arith, ints))
  to_nw (pos a) (negsuc b) h i = refl
  to_nw (negsuc a) (pos b) h i = refl
  to_nw (negsuc a) (negsuc b) h i = refl

  to_ne : (u v : ℤ) → pos side ≤ℤ u → v <ℤ pos side → from_corner all u v ≡ from_corner ne (u -ℤ pos side) v
  to_ne (pos a) (pos b) h i =
      let e : pos a -ℤ pos side ≡ pos (a - side) = omega (arith, ints) in
      rw e (in_ne side nw ne sw se a b (omega (arith, ints)) (omega (arith, ints)))
  to_ne (pos a) (negsuc b) h i = let e : pos a -ℤ pos side ≡ pos (a - side) = omega (arith, ints) in rw e refl
  to_ne (negsuc a) v h i = absurd (omega (arith, ints))

  to_sw : (u v : ℤ) → u <ℤ pos side → pos side ≤ℤ v → from_corner all u v ≡ from_corner sw u (v -ℤ pos side)
  to_sw (pos a) (pos b) h i =
      let e : pos b -ℤ pos side ≡ pos (b - side) = omega (arith, ints) in
      rw e (in_sw side nw ne sw se a b (omega (arith, ints)) (omega (arith, ints)))
  to_sw (negsuc a) (pos b) h i = refl
  to_sw (pos a) (negsuc b) h i = absurd (omega (arith, ints))
  to_sw (negsuc a) (negsuc b) h i = absurd (omega (arith, ints))

  to_se : (u v : ℤ) → pos side ≤ℤ u → pos side ≤ℤ v → from_corner all u v ≡ from_corner se (u -ℤ pos side) (v -ℤ pos side)
  to_se (pos a) (pos b) h i =
      let e : pos a -ℤ pos side ≡ pos (a - side) = omega (arith, ints) in
      let f : pos b -ℤ pos side ≡ pos (b - side) = omega (arith, ints) in
      rw (e, f) (in_se side nw ne sw se a b (omega (arith, ints)) (omega (arith, ints)))
  to_se (pos a) (negsuc b) h i = absurd (omega (arith, ints))
  to_se (negsuc a) v h i = absurd (omega (arith, ints))

  module _ (is_nw : EndsWithin side nw) (is_ne : EndsWithin side ne) (is_sw : EndsWithin side sw) (is_se : EndsWithin side se) where
    one_of : (u v : ℤ) → IsOneOf (from_corner all u v) (from_corner nw u v) (from_corner ne (u -ℤ pos side) v) (from_corner sw u (v -ℤ pos side)) (from_corner se (u -ℤ pos side) (v -ℤ pos side))
    unfolding IsOneOf
    one_of u v =
        elim (int_below u side) [
          | inl h ↦ elim (int_below v side) [
            | inl i ↦ inl (to_nw u v h i, off_x ne side is_ne (u -ℤ pos side) v (inl (omega (arith, ints))), off_y sw side is_sw u (v -ℤ pos side) (inl (omega (arith, ints))), off_x se side is_se (u -ℤ pos side) (v -ℤ pos side) (inl (omega (arith, ints))))
            | inr i ↦ inr (inr (inl (to_sw u v h i, off_y nw side is_nw u v (inr i), off_x ne side is_ne (u -ℤ pos side) v (inl (omega (arith, ints))), off_x se side is_se (u -ℤ pos side) (v -ℤ pos side) (inl (omega (arith, ints))))))
          ]
          | inr h ↦ elim (int_below v side) [
            | inl i ↦ inr (inl (to_ne u v h i, off_x nw side is_nw u v (inr h), off_y sw side is_sw u (v -ℤ pos side) (inl (omega (arith, ints))), off_y se side is_se (u -ℤ pos side) (v -ℤ pos side) (inl (omega (arith, ints)))))
            | inr i ↦ inr (inr (inr (to_se u v h i, off_x nw side is_nw u v (inr h), off_y ne side is_ne (u -ℤ pos side) v (inr i), off_x sw side is_sw u (v -ℤ pos side) (inr h))))
          ]
        ]

    module _ (at : Spot) (cs : Corners) (are : ArePartCorners at side cs) where
      placed_one : (x y : ℤ) → IsOneOf (cells_at_corner all at x y) (cells_at_corner nw at x y) (cells_at_corner ne cs.ne x y) (cells_at_corner sw cs.sw x y) (cells_at_corner se cs.se x y)
      placed_one x y =
          let e : x -ℤ (at.x +ℤ pos side) ≡ x -ℤ at.x -ℤ pos side = omega (arith, ints) in
          let f : y -ℤ (at.y +ℤ pos side) ≡ y -ℤ at.y -ℤ pos side = omega (arith, ints) in
          rw (are.ne_x, are.ne_y, are.sw_x, are.sw_y, are.se_x, are.se_y, e, f) (one_of (x -ℤ at.x) (y -ℤ at.y))

      -- where four squares are cells of a picture, so is each
      pub four_agree : (pic : ℤ → ℤ → ℕ) → Agrees pic (cells_at_corner all at) → Agrees pic (cells_at_corner nw at) × Agrees pic (cells_at_corner ne cs.ne) × Agrees pic (cells_at_corner sw cs.sw) × Agrees pic (cells_at_corner se cs.se)
      four_agree pic h =
          let same = λ (x y : ℤ). one_same (cells_at_corner all at x y) (cells_at_corner nw at x y) (cells_at_corner ne cs.ne x y) (cells_at_corner sw cs.sw x y) (cells_at_corner se cs.se x y) (placed_one x y) in (
            λ x y l. let e = (same x y).0 l in e ∙ h x y (λ z. l (e ∙ z)),
            λ x y l. let e = (same x y).1 l in e ∙ h x y (λ z. l (e ∙ z)),
            λ x y l. let e = (same x y).2 l in e ∙ h x y (λ z. l (e ∙ z)),
            λ x y l. let e = (same x y).3 l in e ∙ h x y (λ z. l (e ∙ z)),
          )

      -- a live cell is one of theirs
      pub four_live : (x y : ℤ) → IsLiveAt (cells_at_corner all at) x y → (IsLiveAt (cells_at_corner nw at) x y ⊎ IsLiveAt (cells_at_corner ne cs.ne) x y) ⊎ (IsLiveAt (cells_at_corner sw cs.sw) x y ⊎ IsLiveAt (cells_at_corner se cs.se) x y)
      four_live x y = one_live (cells_at_corner all at x y) (cells_at_corner nw at x y) (cells_at_corner ne cs.ne x y) (cells_at_corner sw cs.sw x y) (cells_at_corner se cs.se x y) (placed_one x y)

      -- where a square may be drawn, so may each of its parts
      module _ (can : CanDraw (joined_cells side nw ne sw se) (side + side) at) where
        no_cells : (x y : ℤ) → cells_at_corner all at x y ≡ 0 → (cells_at_corner nw at x y ≡ 0) × (cells_at_corner ne cs.ne x y ≡ 0) × (cells_at_corner sw cs.sw x y ≡ 0) × (cells_at_corner se cs.se x y ≡ 0)
        no_cells x y = none_live (cells_at_corner all at x y) (cells_at_corner nw at x y) (cells_at_corner ne cs.ne x y) (cells_at_corner sw cs.sw x y) (cells_at_corner se cs.se x y) (placed_one x y)

        -- whose corner lies so far east and south
        can_part : (part : ℕ → ℕ → ℕ) (corner : Spot) (dx dy : ℕ) → dx ≤ side → dy ≤ side → corner.x ≡ at.x +ℤ pos dx → corner.y ≡ at.y +ℤ pos dy
            → ((x y : ℤ) → cells_at_corner all at x y ≡ 0 → cells_at_corner part corner x y ≡ 0) → CanDraw part side corner
        can_part part corner dx dy wide high is_x is_y dead = record {
          left = omega (arith, ints, can.left);
          right = omega (arith, ints, can.right);
          top = omega (arith, ints, can.top);
          bottom = omega (arith, ints, can.bottom);
          fits = λ x y h. can.fits x y (λ z. h (dead x y z));
        }

        pub can_nw : CanDraw nw side at
        can_nw = can_part nw at 0 0 (omega arith) (omega arith) (omega (arith, ints)) (omega (arith, ints)) (λ x y z. (no_cells x y z).0)

        pub can_ne : CanDraw ne side cs.ne
        can_ne = can_part ne cs.ne side 0 (omega arith) (omega arith) are.ne_x (omega (arith, ints, are.ne_y)) (λ x y z. (no_cells x y z).1)

        pub can_sw : CanDraw sw side cs.sw
        can_sw = can_part sw cs.sw 0 side (omega arith) (omega arith) (omega (arith, ints, are.sw_x)) are.sw_y (λ x y z. (no_cells x y z).2)

        pub can_se : CanDraw se side cs.se
        can_se = can_part se cs.se side side (omega arith) (omega arith) are.se_x are.se_y (λ x y z. (no_cells x y z).3)

-- a square of cells, and one of four parts
module _ (nodes : List Node) (id nw ne sw se : ℕ) (before : IsIn nodes id) where
  module _ (e : Four nw ne sw se ≡ square_of nodes id) where
    pub four_cells : square_cells nodes id ≡ joined_cells 1 (one_cell nw) (one_cell ne) (one_cell sw) (one_cell se)
    four_cells = four_show nodes id (level_of nodes id) (record { before = before; is_level = refl }) nw ne sw se e

    pub four_can : (at : Spot) → CanDraw (square_cells nodes id) (side_of nodes id) at → CanDraw (joined_cells 1 (one_cell nw) (one_cell ne) (one_cell sw) (one_cell se)) (1 + 1) at
    four_can at can =
        let side : side_of nodes id ≡ 1 + 1 = ap (λ s. 2 ^ level s) (sym e) in
        subst (λ n. CanDraw (joined_cells 1 (one_cell nw) (one_cell ne) (one_cell sw) (one_cell se)) n at) side (subst (λ cells. CanDraw cells (side_of nodes id) at) four_cells can)

  module _ (m : ℕ) (e : Parts m nw ne sw se ≡ square_of nodes id) (whole : HasParts nodes (length nodes) m nw ne sw se) (half : ℕ) (half_is : half ≡ 2 ^ (m - 1)) where
    pub parts_cells : square_cells nodes id ≡ joined_cells half (square_cells nodes nw) (square_cells nodes ne) (square_cells nodes sw) (square_cells nodes se)
    parts_cells =
        let all = parts_show nodes id (level_of nodes id) (record { before = before; is_level = refl }) m nw ne sw se (omega (arith, whole.least)) e in
        let a : square_cells nodes nw ≡ cell_of nodes (m - 1) nw = ap (λ k. cell_of nodes k nw) whole.is_nw.is_level in
        let b : square_cells nodes ne ≡ cell_of nodes (m - 1) ne = ap (λ k. cell_of nodes k ne) whole.is_ne.is_level in
        let c : square_cells nodes sw ≡ cell_of nodes (m - 1) sw = ap (λ k. cell_of nodes k sw) whole.is_sw.is_level in
        let d : square_cells nodes se ≡ cell_of nodes (m - 1) se = ap (λ k. cell_of nodes k se) whole.is_se.is_level in
        rw (half_is, a, b, c, d) all

    pub parts_can : (at : Spot) → CanDraw (square_cells nodes id) (side_of nodes id) at → CanDraw (joined_cells half (square_cells nodes nw) (square_cells nodes ne) (square_cells nodes sw) (square_cells nodes se)) (half + half) at
    parts_can at can =
        let f : level_of nodes id ≡ m = ap level (sym e) in
        let next : level_of nodes id ≡ suc (m - 1) = omega (arith, f, whole.least) in
        let side : side_of nodes id ≡ half + half = ap (λ k. 2 ^ k) next ∙ (two-pow-succ (m - 1) ∙ ap (λ n. n + n) (sym half_is)) in
        subst (λ n. CanDraw (joined_cells half (square_cells nodes nw) (square_cells nodes ne) (square_cells nodes sw) (square_cells nodes se)) n at) side
        (subst (λ cells. CanDraw cells (side_of nodes id) at) parts_cells can)

-- a part of this level has this side
module _ (nodes : List Node) (id k half : ℕ) (of : IsOf nodes id k) (half_is : half ≡ 2 ^ k) where
  side_is : side_of nodes id ≡ half
  side_is = ap (λ k. 2 ^ k) of.is_level ∙ sym half_is

  pub part_ends : EndsWithin half (square_cells nodes id)
  part_ends = subst (λ n. EndsWithin n (square_cells nodes id)) side_is (cell_ends nodes (level_of nodes id) id)

  pub part_can : (at : Spot) → CanDraw (square_cells nodes id) half at → CanDraw (square_cells nodes id) (side_of nodes id) at
  part_can at can = subst (λ n. CanDraw (square_cells nodes id) n at) (sym side_is) can

-- four cells that are drawn in turn
module _ (nodes : List Node) (id nw ne sw se : ℕ) (before : IsIn nodes id) (e : Four nw ne sw se ≡ square_of nodes id) (at : Spot) (cs : Corners) (are : ArePartCorners at 1 cs) where
  dot_end : (state : ℕ) → EndsWithin 1 (one_cell state)
  dot_end state = dot_ends state 1 (omega arith)

  pub cells_can : CanDraw (square_cells nodes id) (side_of nodes id) at → CanDraw (one_cell nw) 1 at × CanDraw (one_cell ne) 1 cs.ne × CanDraw (one_cell sw) 1 cs.sw × CanDraw (one_cell se) 1 cs.se
  cells_can can =
      let all = four_can nodes id nw ne sw se before e at can in (
        can_nw 1 (one_cell nw) (one_cell ne) (one_cell sw) (one_cell se) (dot_end nw) (dot_end ne) (dot_end sw) (dot_end se) at cs are all,
        can_ne 1 (one_cell nw) (one_cell ne) (one_cell sw) (one_cell se) (dot_end nw) (dot_end ne) (dot_end sw) (dot_end se) at cs are all,
        can_sw 1 (one_cell nw) (one_cell ne) (one_cell sw) (one_cell se) (dot_end nw) (dot_end ne) (dot_end sw) (dot_end se) at cs are all,
        can_se 1 (one_cell nw) (one_cell ne) (one_cell sw) (one_cell se) (dot_end nw) (dot_end ne) (dot_end sw) (dot_end se) at cs are all,
      )

  -- the four cells agree with a picture where the square does
  pub cells_agree : (pic : ℤ → ℤ → ℕ) → Agrees pic (cells_at_corner (square_cells nodes id) at) → Agrees pic (cells_at_corner (one_cell nw) at) × Agrees pic (cells_at_corner (one_cell ne) cs.ne) × Agrees pic (cells_at_corner (one_cell sw) cs.sw) × Agrees pic (cells_at_corner (one_cell se) cs.se)
  cells_agree pic h =
      four_agree 1 (one_cell nw) (one_cell ne) (one_cell sw) (one_cell se) (dot_end nw) (dot_end ne) (dot_end sw) (dot_end se) at cs are pic
      (subst (λ cells. Agrees pic (cells_at_corner cells at)) (four_cells nodes id nw ne sw se before e) h)

  -- a live cell is one of them
  cells_live : (x y : ℤ) → IsLiveAt (cells_at_corner (square_cells nodes id) at) x y → (IsLiveAt (cells_at_corner (one_cell nw) at) x y ⊎ IsLiveAt (cells_at_corner (one_cell ne) cs.ne) x y) ⊎ (IsLiveAt (cells_at_corner (one_cell sw) cs.sw) x y ⊎ IsLiveAt (cells_at_corner (one_cell se) cs.se) x y)
  cells_live x y h =
      four_live 1 (one_cell nw) (one_cell ne) (one_cell sw) (one_cell se) (dot_end nw) (dot_end ne) (dot_end sw) (dot_end se) at cs are x y
      (subst (λ cells. IsLiveAt (cells_at_corner cells at) x y) (four_cells nodes id nw ne sw se before e) h)

  -- of the upper row, and of the lower
  pub upper_live : (x y : ℤ) → IsLiveAt (cells_at_corner (square_cells nodes id) at) x y → y ≡ at.y +ℤ pos 0 → IsLiveAt (cells_at_corner (one_cell nw) at) x y ⊎ IsLiveAt (cells_at_corner (one_cell ne) cs.ne) x y
  upper_live x y h f = elim (cells_live x y h) [
    | inl u ↦ u
    | inr u ↦ elim u [
      | inl l ↦ let g = (dot_place sw cs.sw x y l).1 in absurd (omega (arith, ints, are.sw_y))
      | inr l ↦ let g = (dot_place se cs.se x y l).1 in absurd (omega (arith, ints, are.se_y))
    ]
  ]

  pub lower_live : (x y : ℤ) → IsLiveAt (cells_at_corner (square_cells nodes id) at) x y → y ≡ at.y +ℤ pos 1 → IsLiveAt (cells_at_corner (one_cell sw) cs.sw) x y ⊎ IsLiveAt (cells_at_corner (one_cell se) cs.se) x y
  lower_live x y h f = elim (cells_live x y h) [
    | inr u ↦ u
    | inl u ↦ elim u [
      | inl l ↦ let g = (dot_place nw at x y l).1 in absurd (omega (arith, ints))
      | inr l ↦ let g = (dot_place ne cs.ne x y l).1 in absurd (omega (arith, ints, are.ne_y))
    ]
  ]

-- and four parts
module _ (nodes : List Node) (id nw ne sw se : ℕ) (before : IsIn nodes id) (m : ℕ) (e : Parts m nw ne sw se ≡ square_of nodes id) (whole : HasParts nodes (length nodes) m nw ne sw se)
    (half : ℕ) (half_is : half ≡ 2 ^ (m - 1)) (at : Spot) (cs : Corners) (are : ArePartCorners at half cs) where
  end_of : (part : ℕ) → IsOf nodes part (m - 1) → EndsWithin half (square_cells nodes part)
  end_of part of = part_ends nodes part (m - 1) half of half_is

  pub parts_each : CanDraw (square_cells nodes id) (side_of nodes id) at
      → CanDraw (square_cells nodes nw) (side_of nodes nw) at × CanDraw (square_cells nodes ne) (side_of nodes ne) cs.ne × CanDraw (square_cells nodes sw) (side_of nodes sw) cs.sw × CanDraw (square_cells nodes se) (side_of nodes se) cs.se
  parts_each can =
      let part = square_cells nodes in
      let all = parts_can nodes id nw ne sw se before m e whole half half_is at can in
      let a = end_of nw whole.is_nw in
      let b = end_of ne whole.is_ne in
      let c = end_of sw whole.is_sw in
      let d = end_of se whole.is_se in (
        part_can nodes nw (m - 1) half whole.is_nw half_is at (can_nw half (part nw) (part ne) (part sw) (part se) a b c d at cs are all),
        part_can nodes ne (m - 1) half whole.is_ne half_is cs.ne (can_ne half (part nw) (part ne) (part sw) (part se) a b c d at cs are all),
        part_can nodes sw (m - 1) half whole.is_sw half_is cs.sw (can_sw half (part nw) (part ne) (part sw) (part se) a b c d at cs are all),
        part_can nodes se (m - 1) half whole.is_se half_is cs.se (can_se half (part nw) (part ne) (part sw) (part se) a b c d at cs are all),
      )

  part_ready : (pic : ℤ → ℤ → ℕ) (part : ℕ) (spot : Spot) → IsOf nodes part (m - 1) → CanDraw (square_cells nodes part) (side_of nodes part) spot → Agrees pic (cells_at_corner (square_cells nodes part) spot) → IsReadyToDraw nodes pic (m - 1) (record { id = part; at = spot })
  part_ready pic part spot of can agrees = record { is_square = of; can = can; agrees = agrees }

  parts_agree : (pic : ℤ → ℤ → ℕ) → Agrees pic (cells_at_corner (square_cells nodes id) at)
      → Agrees pic (cells_at_corner (square_cells nodes nw) at) × Agrees pic (cells_at_corner (square_cells nodes ne) cs.ne) × Agrees pic (cells_at_corner (square_cells nodes sw) cs.sw) × Agrees pic (cells_at_corner (square_cells nodes se) cs.se)
  parts_agree pic h =
      let part = square_cells nodes in
      four_agree half (part nw) (part ne) (part sw) (part se) (end_of nw whole.is_nw) (end_of ne whole.is_ne) (end_of sw whole.is_sw) (end_of se whole.is_se) at cs are pic
      (subst (λ cells. Agrees pic (cells_at_corner cells at)) (parts_cells nodes id nw ne sw se before m e whole half half_is) h)

  -- each part may be drawn
  pub parts_ready : (pic : ℤ → ℤ → ℕ) → CanDraw (square_cells nodes id) (side_of nodes id) at → Agrees pic (cells_at_corner (square_cells nodes id) at)
      → IsReadyToDraw nodes pic (m - 1) (record { id = nw; at = at }) × IsReadyToDraw nodes pic (m - 1) (record { id = ne; at = cs.ne }) × IsReadyToDraw nodes pic (m - 1) (record { id = sw; at = cs.sw }) × IsReadyToDraw nodes pic (m - 1) (record { id = se; at = cs.se })
  parts_ready pic can h =
      let cans = parts_each can in
      let agree = parts_agree pic h in (
        part_ready pic nw at whole.is_nw cans.0 agree.0,
        part_ready pic ne cs.ne whole.is_ne cans.1 agree.1,
        part_ready pic sw cs.sw whole.is_sw cans.2 agree.2,
        part_ready pic se cs.se whole.is_se cans.3 agree.3,
      )

  -- a live cell is one of theirs
  pub parts_live : (x y : ℤ) → IsLiveAt (cells_at_corner (square_cells nodes id) at) x y
      → (IsLiveAt (cells_at_corner (square_cells nodes nw) at) x y ⊎ IsLiveAt (cells_at_corner (square_cells nodes ne) cs.ne) x y) ⊎ (IsLiveAt (cells_at_corner (square_cells nodes sw) cs.sw) x y ⊎ IsLiveAt (cells_at_corner (square_cells nodes se) cs.se) x y)
  parts_live x y h =
      let part = square_cells nodes in
      four_live half (part nw) (part ne) (part sw) (part se) (end_of nw whole.is_nw) (end_of ne whole.is_ne) (end_of sw whole.is_sw) (end_of se whole.is_se) at cs are x y
      (subst (λ cells. IsLiveAt (cells_at_corner cells at) x y) (parts_cells nodes id nw ne sw se before m e whole half half_is) h)

-- a whole tree
module _ (nodes : List Node) (tree : Tree) (is : IsTree nodes tree) (some : 1 ≤ tree.level) (half : ℕ) (half_is : half ≡ 2 ^ (tree.level - 1)) (low : half ≤ 2 ^ 124) (at : Spot)
    (is_x : at.x ≡ neg_ℤ (pos half)) (is_y : at.y ≡ neg_ℤ (pos half)) where
  pub tree_placed : (x y : ℤ) → cells_at_corner (square_cells nodes tree.root) at x y ≡ tree_cell nodes tree x y
  tree_placed x y =
      let e : x -ℤ neg_ℤ (pos half) ≡ x +ℤ pos half = omega (arith, ints) in
      let f : y -ℤ neg_ℤ (pos half) ≡ y +ℤ pos half = omega (arith, ints) in
      rw (is_x, is_y, e, f) (ap (λ k. from_corner (cell_of nodes k tree.root) (x +ℤ pos half) (y +ℤ pos half)) is.is_level ∙ sym (cell_at nodes tree half half_is x y))

  pub tree_can : FitsPlane (tree_cell nodes tree) → CanDraw (square_cells nodes tree.root) (side_of nodes tree.root) at
  tree_can fits =
      let next : level_of nodes tree.root ≡ suc (tree.level - 1) = omega (arith, is.is_level, some) in
      let side : side_of nodes tree.root ≡ half + half = ap (λ k. 2 ^ k) next ∙ (two-pow-succ (tree.level - 1) ∙ ap (λ n. n + n) (sym half_is)) in
      record {
        left = omega (arith, ints, is_x, low);
        right = omega (arith, ints, is_x, low, side);
        top = omega (arith, ints, is_y, low);
        bottom = omega (arith, ints, is_y, low, side);
        fits = λ x y h. fits x y (λ z. h (tree_placed x y ∙ z));
      }

  pub tree_ready : FitsPlane (tree_cell nodes tree) → IsReadyToDraw nodes (tree_cell nodes tree) tree.level (record { id = tree.root; at = at })
  tree_ready fits = record { is_square = is; can = tree_can fits; agrees = λ x y live. tree_placed x y }
