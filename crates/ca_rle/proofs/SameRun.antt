-- Items in front of bytes: after the same items stands the same rest, and a longer run goes on where a shorter one ends.
use Rattle.std.proofs.Common.{◌≡◌, ℕ, ◌⊎◌, inl, inr, List, [], ◌∷◌, ◌++◌, Some, refl, sym, ap, ap₂, subst, ◌∙◌}
use Rattle.std.proofs.lemmas.Option.{none-some}
use Rattle.ca_rle.specs.declared.{fault.RleFault.RleFault, item.Item.Item}
use Rattle.ca_rle.specs.Prelude.{Run, item_fault}
use Rattle.ca_rle.proofs.OneList.{one_item}
use Rattle.ca_rle.proofs.NoFault.{no_item_fault}

-- the one run goes on where the other ends
abbrev pub GoesOn : List ℕ → List Item → List ℕ → List Item → Type 0
GoesOn middle is rest js = (others : List Item) × (js ≡ is ++ others) × Run middle others rest

goes_on_after : (i j : Item) (is js : List Item) (m n : List ℕ) → i ≡ j → GoesOn m is n js → GoesOn m (i ∷ is) n (j ∷ js)
goes_on_after i j is js m n e (others, d, r) = (others, ap₂ (λ (k : Item) (ks : List Item). k ∷ ks) (sym e) d, r)

-- of two runs in front of the same bytes one goes on where the other ends
pub two_runs : (bytes m n : List ℕ) (is js : List Item) → Run bytes is m → Run bytes js n → GoesOn m is n js ⊎ GoesOn n js m is
two_runs bytes m n [] js r s = inl (js, refl, subst (λ (l : List ℕ). Run l js n) r s)
two_runs bytes m n (i ∷ is) [] r s = inr (i ∷ is, refl, subst (λ (l : List ℕ). Run l (i ∷ is) m) s r)
two_runs bytes m n (i ∷ is) (j ∷ js) (a, k, p, r, d) (b, l, q, s, e) =
    let same = one_item a b k l i j p q (sym d ∙ e) in
    elim (two_runs k m n is js r (subst (λ (x : List ℕ). Run x js n) (sym same.1) s)) [
      | inl g ↦ inl (goes_on_after i j is js m n same.0 g)
      | inr g ↦ inr (goes_on_after j i js is n m (sym same.0) g)
    ]

-- where the bytes have a fault, no item stands
pub no_item_at_fault : (bytes rest : List ℕ) (i : Item) (is : List Item) (f : RleFault) → Run bytes (i ∷ is) rest → item_fault bytes ≡ Some f → ⊥
no_item_at_fault bytes rest i is f (front, more, item, later, d) e = none-some f (sym (no_item_fault front more i item) ∙ ap item_fault (sym d) ∙ e)

ends_at_fault : (m n : List ℕ) (others : List Item) (f : RleFault) → item_fault m ≡ Some f → Run m others n → (others ≡ []) × (m ≡ n)
ends_at_fault m n [] f e r = (refl, r)
ends_at_fault m n (i ∷ is) f e r = absurd (no_item_at_fault m n i is f r e)

-- good items end at one bad item
pub one_bad_item : (bytes m n : List ℕ) (is js : List Item) (f g : RleFault) → Run bytes is m → item_fault m ≡ Some f → Run bytes js n → item_fault n ≡ Some g → m ≡ n
one_bad_item bytes m n is js f g r d s e =
    elim (two_runs bytes m n is js r s) [
      | inl o ↦ (ends_at_fault m n o.0 f d o.2).1
      | inr o ↦ sym (ends_at_fault n m o.0 g e o.2).1
    ]
