-- Bricks of grids whose cells age, one generation later.
use Rattle.std.proofs.Common.{◌≡◌, ℕ, ◌+◌, inl, inr, List, [], length, get_or, slice_index, sym, ap, subst, ◌∙◌, arith}
use Rattle.std.proofs.lemmas.Bool.{cases_eq}
use Rattle.ca_plane.specs.declared.counting.Ageing.{Ageing}
use Rattle.ca_plane.specs.Prelude.{row_cells}
use Rattle.ca_bricks.specs.declared.{aged.AgedGrid.AgedGrid, grid.BrickGrid.BrickGrid}
use Rattle.ca_bricks.specs.Prelude.{IsNextAged, IsSameAged, HasNeighbours, IsNotAhead}
use Rattle.ca_bricks.proofs.BrickRounds.{same_again}

-- the planes have the same bricks but for brick s
pub record AreSameBut (s : ℕ) (old new : AgedGrid) : Type 0 where
  pub live : (t : ℕ) → (t ≡ s → ⊥) → get_or new.live.bricks.items t [] ≡ get_or old.live.bricks.items t []
  pub dying : (j : ℕ) (d : BrickGrid) (t : ℕ) → (t ≡ s → ⊥)
      → get_or (get_or new.dying.items j d).bricks.items t [] ≡ get_or (get_or old.dying.items j d).bricks.items t []

-- bricks that aren't ahead in the list are one generation on, where the brick at this place of it is
pub aged_more : (ageing : Ageing) (now mid new : AgedGrid) (awake : List ℕ) (k s across count : ℕ) → slice_index awake k ≡ s → IsNextAged ageing now new s → AreSameBut s mid new
    → ((t : ℕ) → HasNeighbours across count t → IsNotAhead awake k t → IsNextAged ageing now mid t)
    → (t : ℕ) → HasNeighbours across count t → IsNotAhead awake (k + 1) t → IsNextAged ageing now new t
aged_more ageing now mid new awake k s across count is made same so_far t has done = elim (cases_eq t s) [
  | inl here ↦ subst (IsNextAged ageing now new) (sym here) made
  | inr other ↦
      let before : IsNotAhead awake k t = λ m low high e. elim (cases_eq m k) [
        | inl here ↦ other (sym e ∙ ap (slice_index awake) here ∙ is)
        | inr there ↦ done m (omega (arith, low, there)) high e
      ] in
      let was = so_far t has before in
      record {
        live = λ x y h i. ap (λ r. row_cells r x y) (same.live t other) ∙ was.live x y h i;
        dying = λ j d low x y h i. ap (λ r. row_cells r x y) (same.dying j d t other) ∙ was.dying j d low x y h i;
      }
]

-- what stays the same twice stays the same
pub same_aged_again : (across : ℕ) (a b c : AgedGrid) (t : ℕ) → length b.dying.items ≡ length a.dying.items → IsSameAged across a b t → IsSameAged across b c t → IsSameAged across a c t
same_aged_again across a b c t digits h k = record {
  live = same_again across a.live.bricks.items b.live.bricks.items c.live.bricks.items t h.live k.live;
  dying = λ j d low x y i l. k.dying j d (omega (arith, low, digits)) x y i l ∙ h.dying j d low x y i l;
}
