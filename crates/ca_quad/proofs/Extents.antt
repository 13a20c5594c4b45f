-- The smallest boxes of squares that lie side by side.
use Rattle.std.proofs.Common.{◌≡◌, ◌≢◌, ℕ, ◌+◌, ◌-◌, ◌<◌, ◌≤◌, ◌^◌, min, max, ◌⊎◌, inl, inr, true, false, nat_lt, refl, sym, subst, ◌∙◌, arith}
use Rattle.std.proofs.lemmas.Bool.Decides.{nat_tests}
use Rattle.ca_quad.specs.declared.store.extent.Extent.{Extent}
use Rattle.ca_quad.specs.Prelude.{IsEmpty}
use Rattle.ca_quad.specs.inner.Extent.{box_of_two, IsExtent}
use Rattle.ca_plane.proofs.Numbers.{below_or_not}

live_as : (a b : ℕ) → a ≡ b → b ≢ 0 → a ≢ 0
live_as a b e h i = h (sym e ∙ i)

module _ (side : ℕ) (w e : ℕ → ℕ → ℕ) (x y : ℕ) where
  in_west : x < side → box_of_two side w e x y ≡ w x y
  in_west h = let f : nat_lt x side ≡ true = grind (arith, nat_tests) in rw f refl

  from_side : side ≤ x → box_of_two side w e x y ≡ e (x - side) y
  from_side h = let f : nat_lt x side ≡ false = grind (arith, nat_tests) in rw f refl

  in_east : box_of_two side w e (x + side) y ≡ e x y
  in_east =
      let f : nat_lt (x + side) side ≡ false = grind (arith, nat_tests) in
      let g : x + side - side ≡ x = omega arith in
      rw (f, g) refl

-- an eastern square that isn't empty
module _ (side rows : ℕ) (low : side ≤ 2 ^ 124) (w e : ℕ → ℕ → ℕ) (east box : Extent) (q : IsExtent e side rows east) (right : box.right ≡ min (east.right + side) (2 ^ 128 - 1)) where
  e_live : (x y : ℕ) → e x y ≢ 0 → box_of_two side w e (x + side) y ≢ 0
  e_live x y i = live_as (box_of_two side w e (x + side) y) (e x y) (in_east side w e x y) i

  right_is : box.right ≡ east.right + side
  right_is = omega (arith, low, q.is_right, right)

  on_right : (y : ℕ) × (box_of_two side w e box.right y ≢ 0)
  on_right = (q.right.0, subst (λ x. box_of_two side w e x q.right.0 ≢ 0) (sym right_is) (e_live east.right q.right.0 q.right.1))

  -- box_of_two a western one that is
  pub east_only : IsEmpty w → box.left ≡ min (east.left + side) (2 ^ 128 - 1) → box.top ≡ east.top → box.bottom ≡ east.bottom → IsExtent (box_of_two side w e) (side + side) rows box
  east_only no_cells left top bottom =
      let left_is : box.left ≡ east.left + side = omega (arith, low, left, (q.all east.left q.left.0 q.left.1).1, q.is_right) in
      record {
        all = λ x y i. elim (below_or_not x side) [
          | inl j ↦ absurd (i (in_west side w e x y j ∙ no_cells x y))
          | inr j ↦
              let h = q.all (x - side) y (live_as (e (x - side) y) (box_of_two side w e x y) (sym (from_side side w e x y j)) i) in
              (omega arith, omega arith, omega arith, omega arith)
        ];
        left = (q.left.0, subst (λ x. box_of_two side w e x q.left.0 ≢ 0) (sym left_is) (e_live east.left q.left.0 q.left.1));
        right = on_right;
        top = (q.top.0 + side, subst (λ y. box_of_two side w e (q.top.0 + side) y ≢ 0) (sym top) (e_live q.top.0 east.top q.top.1));
        bottom = (q.bottom.0 + side, subst (λ y. box_of_two side w e (q.bottom.0 + side) y ≢ 0) (sym bottom) (e_live q.bottom.0 east.bottom q.bottom.1));
        is_right = omega (arith, right_is, q.is_right);
        is_bottom = omega (arith, bottom, q.is_bottom);
      }

  -- and box_of_two one that isn't
  module _ (west : Extent) (p : IsExtent w side rows west) where
    w_live : (x y : ℕ) → w x y ≢ 0 → box_of_two side w e x y ≢ 0
    w_live x y i = live_as (box_of_two side w e x y) (w x y) (in_west side w e x y (omega (arith, (p.all x y i).1, p.is_right))) i

    inside : box.left ≡ west.left → box.top ≡ min west.top east.top → box.bottom ≡ max west.bottom east.bottom
        → (x y : ℕ) → box_of_two side w e x y ≢ 0 → (box.left ≤ x) × (x ≤ box.right) × (box.top ≤ y) × (y ≤ box.bottom)
    inside left top bottom x y i =
        elim (below_or_not x side) [
          | inl j ↦
              let h = p.all x y (live_as (w x y) (box_of_two side w e x y) (sym (in_west side w e x y j)) i) in
              (omega arith, omega (arith, right_is), omega arith, omega arith)
          | inr j ↦
              let h = q.all (x - side) y (live_as (e (x - side) y) (box_of_two side w e x y) (sym (from_side side w e x y j)) i) in
              let l = p.all west.left p.left.0 p.left.1 in
              (omega (arith, p.is_right), omega (arith, right_is), omega arith, omega arith)
        ]

    on_row : (row : ℕ) → (row ≡ west.top) ⊎ (row ≡ west.bottom) ⊎ (row ≡ east.top) ⊎ (row ≡ east.bottom) → (x : ℕ) × (box_of_two side w e x row ≢ 0)
    on_row row (inl f) = (p.top.0, subst (λ y. box_of_two side w e p.top.0 y ≢ 0) (sym f) (w_live p.top.0 west.top p.top.1))
    on_row row (inr (inl f)) = (p.bottom.0, subst (λ y. box_of_two side w e p.bottom.0 y ≢ 0) (sym f) (w_live p.bottom.0 west.bottom p.bottom.1))
    on_row row (inr (inr (inl f))) = (q.top.0 + side, subst (λ y. box_of_two side w e (q.top.0 + side) y ≢ 0) (sym f) (e_live q.top.0 east.top q.top.1))
    on_row row (inr (inr (inr f))) = (q.bottom.0 + side, subst (λ y. box_of_two side w e (q.bottom.0 + side) y ≢ 0) (sym f) (e_live q.bottom.0 east.bottom q.bottom.1))

    pub both : box.left ≡ west.left → box.top ≡ min west.top east.top → box.bottom ≡ max west.bottom east.bottom → IsExtent (box_of_two side w e) (side + side) rows box
    both left top bottom = record {
      all = inside left top bottom;
      left = (p.left.0, subst (λ x. box_of_two side w e x p.left.0 ≢ 0) (sym left) (w_live west.left p.left.0 p.left.1));
      right = on_right;
      top = on_row box.top (elim (below_or_not west.top east.top) [ inl f ↦ inl (omega arith) | inr f ↦ inr (inr (inl (omega arith))) ]);
      bottom = on_row box.bottom (elim (below_or_not west.bottom east.bottom) [ inl f ↦ inr (inr (inr (omega arith))) | inr f ↦ inr (inl (omega arith)) ]);
      is_right = omega (arith, right_is, q.is_right);
      is_bottom = omega (arith, bottom, p.is_bottom, q.is_bottom);
    }
