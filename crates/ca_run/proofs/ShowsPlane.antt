-- Cells of squares that show a plane from some place onwards: squares that lie together, their parts, and centres.
use Rattle.std.proofs.Common.{◌≡◌, ℕ, ◌+◌, ◌-◌, ◌<◌, ◌≤◌, inl, inr, List, sym, ap, ap₂, ◌∙◌, arith}
use Rattle.std.specs.Prelude.{ℤ, pos, negsuc, ◌+ℤ◌}
use Rattle.std.proofs.lemmas.Int.{ints}
use Rattle.ca_plane.specs.Prelude.{cells_after, ShowsPlane, from_corner, IsWithin}
use Rattle.ca_quad.specs.Prelude.{joined_cells}
use Rattle.ca_plane.proofs.Numbers.{below_or_not}
use Rattle.ca_quad.proofs.Cells.{in_nw, in_ne, in_sw, in_se, at_nw, at_ne, at_sw, at_se}
use Rattle.ca_run.specs.Prelude.{centre}
use Rattle.ca_plane.proofs.After.{after_near, after_seen}

module _ (s : ℕ) (nw ne sw se : ℕ → ℕ → ℕ) (p : ℤ → ℤ → ℕ) (a b : ℤ) where
  -- four that lie together show it where each of them does at its place
  pub looks_together : ShowsPlane s nw p a b → ShowsPlane s ne p (a +ℤ pos s) b → ShowsPlane s sw p a (b +ℤ pos s) → ShowsPlane s se p (a +ℤ pos s) (b +ℤ pos s)
      → ShowsPlane (s + s) (joined_cells s nw ne sw se) p a b
  looks_together f g h k x y i j =
      elim (below_or_not x s) [
        | inl l ↦ elim (below_or_not y s) [
          | inl m ↦ in_nw s nw ne sw se x y l m ∙ f x y l m
          | inr m ↦
              let v : (b +ℤ pos s) +ℤ pos (y - s) ≡ b +ℤ pos y = omega (arith, ints) in
              in_sw s nw ne sw se x y l m ∙ h x (y - s) l (omega arith) ∙ ap (λ t. p (a +ℤ pos x) t) v
        ]
        | inr l ↦
            let u : (a +ℤ pos s) +ℤ pos (x - s) ≡ a +ℤ pos x = omega (arith, ints) in
            elim (below_or_not y s) [
              | inl m ↦ in_ne s nw ne sw se x y l m ∙ g (x - s) y (omega arith) m ∙ ap (λ t. p t (b +ℤ pos y)) u
              | inr m ↦
                  let v : (b +ℤ pos s) +ℤ pos (y - s) ≡ b +ℤ pos y = omega (arith, ints) in
                  in_se s nw ne sw se x y l m ∙ k (x - s) (y - s) (omega arith) (omega arith) ∙ ap₂ p u v
            ]
      ]

  -- and then each of them shows it there
  module _ (h : ShowsPlane (s + s) (joined_cells s nw ne sw se) p a b) where
    pub looks_nw : ShowsPlane s nw p a b
    looks_nw x y i j = sym (at_nw s nw ne sw se x y i j) ∙ h x y (omega arith) (omega arith)

    pub looks_ne : ShowsPlane s ne p (a +ℤ pos s) b
    looks_ne x y i j =
        let u : a +ℤ pos (s + x) ≡ (a +ℤ pos s) +ℤ pos x = omega (arith, ints) in
        sym (at_ne s nw ne sw se x y j) ∙ h (s + x) y (omega arith) (omega arith) ∙ ap (λ t. p t (b +ℤ pos y)) u

    pub looks_sw : ShowsPlane s sw p a (b +ℤ pos s)
    looks_sw x y i j =
        let v : b +ℤ pos (s + y) ≡ (b +ℤ pos s) +ℤ pos y = omega (arith, ints) in
        sym (at_sw s nw ne sw se x y i) ∙ h x (s + y) (omega arith) (omega arith) ∙ ap (λ t. p (a +ℤ pos x) t) v

    pub looks_se : ShowsPlane s se p (a +ℤ pos s) (b +ℤ pos s)
    looks_se x y i j =
        let u : a +ℤ pos (s + x) ≡ (a +ℤ pos s) +ℤ pos x = omega (arith, ints) in
        let v : b +ℤ pos (s + y) ≡ (b +ℤ pos s) +ℤ pos y = omega (arith, ints) in
        sym (at_se s nw ne sw se x y) ∙ h (s + x) (s + y) (omega arith) (omega arith) ∙ ap₂ p u v

-- the centre of a square that shows a plane shows what the plane is n generations later, a quarter of the side further in
pub looks_centre : (next : List ℕ → ℕ) (h n : ℕ) (cells later : ℕ → ℕ → ℕ) (p : ℤ → ℤ → ℕ) (a b : ℤ) → n ≤ h → ShowsPlane (h + h + (h + h)) cells p a b
    → ((u v : ℕ) → u < h + h → v < h + h → later u v ≡ centre next cells h n u v) → ShowsPlane (h + h) later (cells_after next p n) (a +ℤ pos h) (b +ℤ pos h)
looks_centre next h n cells later p a b few shows is_centre u v i j =
    let ax : a +ℤ pos (h + u) ≡ (a +ℤ pos h) +ℤ pos u = omega (arith, ints) in
    let by : b +ℤ pos (h + v) ≡ (b +ℤ pos h) +ℤ pos v = omega (arith, ints) in
    is_centre u v i j
    ∙ after_near next (from_corner cells) (λ s t. p (a +ℤ s) (b +ℤ t)) n (pos (h + u)) (pos (h + v)) (λ s t within. inside s t within)
    ∙ after_seen next p a b n (pos (h + u)) (pos (h + v)) ∙ ap₂ (cells_after next p n) ax by
  where
    inside : (s t : ℤ) → IsWithin n (pos (h + u)) (pos (h + v)) s t → from_corner cells s t ≡ p (a +ℤ s) (b +ℤ t)
    inside (pos x) (pos y) within = shows x y (omega (arith, ints, within, few, i)) (omega (arith, ints, within, few, j))
    inside (pos x) (negsuc y) within = absurd (omega (arith, ints, within, few, j))
    inside (negsuc x) t within = absurd (omega (arith, ints, within, few, i))
