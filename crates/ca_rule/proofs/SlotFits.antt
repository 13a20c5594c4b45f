-- Slots fit where each admits its cell, and then where all slots of one variable take one cell.
use Rattle.std.proofs.Common.{◌≡◌, List, [], ◌∷◌, Bool, ◌&&◌, refl, inl, inr}
use Rattle.std.specs.List.{list_all}
use Rattle.std.proofs.lemmas.Bool.{cases_Bool}
use Rattle.ca_rule.specs.Prelude.{States, SlotCell, admits, take_one_cell, fits}

both_lists : (p q : SlotCell → Bool) (xs : List SlotCell) → list_all (λ t. p t && q t) xs ≡ (list_all p xs && list_all q xs)
both_lists p q [] = refl
both_lists p q (x ∷ xs) =
    elim (cases_Bool (p x)) [
      | inr e ↦ rw e refl
      | inl e ↦ elim (cases_Bool (q x)) [
        | inl f ↦ rw (e, f) (both_lists p q xs)
        | inr f ↦ elim (cases_Bool (list_all p xs)) [
          | inl g ↦ rw (e, f, g) refl
          | inr g ↦ rw (e, f, g) refl
        ]
      ]
    ]

pub fits_halved : (variables : List States) (all : List SlotCell) →
    fits variables all ≡ (list_all (λ (t : SlotCell). admits variables t.0 t.1) all && list_all (λ (t : SlotCell). take_one_cell all t.0 t.1) all)
fits_halved variables all = both_lists (λ (t : SlotCell). admits variables t.0 t.1) (λ (t : SlotCell). take_one_cell all t.0 t.1) all
