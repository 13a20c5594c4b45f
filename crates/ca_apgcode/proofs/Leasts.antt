-- The least of some texts.
use Rattle.std.proofs.Common.{◌≡◌, ℕ, zero, suc, true, false, List, [], ◌∷◌, length, refl, sym, ap, subst, ◌∙◌, inl, inr, ◌⊎◌, arith}
use Rattle.std.specs.List.{AllByRecursion, Contains}
use Rattle.std.specs.Ordering.{nat_cmp, is_lt, is_gt, ordering_reverse}
use Rattle.std.specs.Cmp.{IsTotalOrder}
use Rattle.std.specs.Cmp.Lexicographic.{slice_cmp}
use Rattle.std.specs.declared.cmp.Ordering.{Ordering}
use Rattle.std.specs.declared.cmp.Ordering.TheVariants.{Less, Equal, Greater}
use Rattle.std.specs.FinMap.{nat_cmp-IsAntisymmetric, slice_cmp-IsAntisymmetric}
use Rattle.std.proofs.lemmas.Bool.{cases_Bool, false≢true}
use Rattle.std.proofs.lemmas.Cmp.{on_total, then_total, nat_cmp_total, nat_list_cmp_total, upto, tied_itself, alike_right}
use Rattle.ca_apgcode.specs.Prelude.{representation_cmp, Precedes}
use Rattle.ca_apgcode.specs.inner.Least.{lesser}

-- it is one of the texts, and none of them comes before it
pub record IsLeastText (texts : List (List ℕ)) (least : List ℕ) : Type 0 where
  pub is_one : Contains texts least
  pub is_first : AllByRecursion (λ text. Precedes text least → ⊥) texts

-- the least of a text and others
abbrev pub least_from : List (List ℕ) → List ℕ → List ℕ
least_from [] least = least
least_from (text ∷ texts) least = least_from texts (lesser text least)

-- it is a total order
pub total : IsTotalOrder representation_cmp
total = then_total (on_total {K = List ℕ} length nat_cmp_total) nat_list_cmp_total

-- a text isn't after another
abbrev IsNotAfter : List ℕ → List ℕ → Type 0
IsNotAfter one other = is_gt (representation_cmp one other) ≡ false

not_less : (o p : Ordering) → o ≡ ordering_reverse p → is_lt p ≡ false → is_gt o ≡ false
not_less o Less back lt = absurd (cc)
not_less o Equal back lt = rw back refl
not_less o Greater back lt = rw back refl

less_not_greater : (o : Ordering) → is_lt o ≡ true → is_gt o ≡ false
less_not_greater Less lt = refl
less_not_greater Equal lt = refl
less_not_greater Greater lt = absurd (cc)

itself : (text : List ℕ) → IsNotAfter text text
itself text = rw (tied_itself total text) refl

lesser_first : (one other : List ℕ) → IsNotAfter (lesser one other) one
lesser_first one other = elim (cases_Bool (is_lt (representation_cmp one other))) [
  | inl lt ↦ rw lt (itself one)
  | inr not ↦ rw not (not_less (representation_cmp other one) (representation_cmp one other) (total.antisymm other one) not)
]

lesser_second : (one other : List ℕ) → IsNotAfter (lesser one other) other
lesser_second one other = elim (cases_Bool (is_lt (representation_cmp one other))) [
  | inl lt ↦ rw lt (less_not_greater (representation_cmp one other) lt)
  | inr not ↦ rw not (itself other)
]

-- the least isn't after the first, nor after any other
least_first : (texts : List (List ℕ)) (first : List ℕ) → IsNotAfter (least_from texts first) first
least_first [] first = itself first
least_first (text ∷ texts) first = upto total (least_from texts (lesser text first)) (lesser text first) first (least_first texts (lesser text first)) (lesser_second text first)

least_others : (texts : List (List ℕ)) (first : List ℕ) → AllByRecursion (λ text. IsNotAfter (least_from texts first) text) texts
least_others [] first = tt
least_others (text ∷ texts) first = (upto total (least_from texts (lesser text first)) (lesser text first) text (least_first texts (lesser text first)) (lesser_first text first), least_others texts (lesser text first))

-- it is one of them
lesser_one : (one other : List ℕ) → (lesser one other ≡ one) ⊎ (lesser one other ≡ other)
lesser_one one other = elim (cases_Bool (is_lt (representation_cmp one other))) [
  | inl lt ↦ inl (rw lt refl)
  | inr not ↦ inr (rw not refl)
]

contains_more : (one text first least : List ℕ) (texts : List (List ℕ)) → (one ≡ text) ⊎ (one ≡ first) → Contains (one ∷ texts) least → Contains (first ∷ text ∷ texts) least
contains_more one text first least texts (inl same) (zero, below, is) = (1, omega arith, sym same ∙ is)
contains_more one text first least texts (inr same) (zero, below, is) = (0, omega arith, sym same ∙ is)
contains_more one text first least texts from (suc k, below, is) = (suc (suc k), omega (arith, below), is)

least_one : (texts : List (List ℕ)) (first : List ℕ) → Contains (first ∷ texts) (least_from texts first)
least_one [] first = (0, omega arith, refl)
least_one (text ∷ texts) first = contains_more (lesser text first) text first (least_from texts (lesser text first)) texts (lesser_one text first) (least_one texts (lesser text first))

-- nothing before
none_before : (least : List ℕ) (texts : List (List ℕ)) → AllByRecursion (λ text. IsNotAfter least text) texts → AllByRecursion (λ text. Precedes text least → ⊥) texts
none_before least [] each = tt
none_before least (text ∷ texts) each = (λ before. not_before (representation_cmp least text) (representation_cmp text least) (total.antisymm least text) each.0 before, none_before least texts each.1)
  where
    not_before : (o p : Ordering) → o ≡ ordering_reverse p → is_gt o ≡ false → p ≡ Less → ⊥
    not_before o p back gt less = let is : is_gt o ≡ true = ap is_gt (back ∙ ap ordering_reverse less) in false≢true (sym gt ∙ is)

pub IsLeastText-from : (texts : List (List ℕ)) (first : List ℕ) → IsLeastText (first ∷ texts) (least_from texts first)
IsLeastText-from texts first = record {
  is_one = least_one texts first;
  is_first = none_before (least_from texts first) (first ∷ texts) (least_first texts first, least_others texts first);
}

-- there is one least text
pub firsts_same : (one other : List ℕ) → (Precedes one other → ⊥) → (Precedes other one → ⊥) → one ≡ other
firsts_same one other not_one not_other = by_order (representation_cmp one other) refl
  where
    lengths : (o : Ordering) → o ≡ nat_cmp (length one) (length other) → representation_cmp one other ≡ Equal → slice_cmp nat_cmp one other ≡ Equal
    lengths Less is equal = absurd (less_equal (rw (← is) at equal))
      where
        less_equal : Less ≡ Equal → ⊥
        less_equal e = cc
    lengths Equal is equal = rw (← is) at equal
    lengths Greater is equal = absurd (greater_equal (rw (← is) at equal))
      where
        greater_equal : Greater ≡ Equal → ⊥
        greater_equal e = cc

    by_order : (o : Ordering) → representation_cmp one other ≡ o → one ≡ other
    by_order Less is = absurd (not_one is)
    by_order Equal is = slice_cmp-IsAntisymmetric nat_cmp-IsAntisymmetric one other (lengths (nat_cmp (length one) (length other)) refl is)
    by_order Greater is = absurd (not_other (total.antisymm other one ∙ ap ordering_reverse is))

pub is_each : (P : List ℕ → Type 0) (texts : List (List ℕ)) (text : List ℕ) → AllByRecursion P texts → Contains texts text → P text
is_each P [] text each (k, below, is) = elim below [ ]
is_each P (first ∷ texts) text each (zero, below, is) = subst P is each.0
is_each P (first ∷ texts) text each (suc k, below, is) = is_each P texts text each.1 (k, omega (arith, below), is)

-- what comes before a text comes before each that doesn't come before that one
pub precedes_after : (text one other : List ℕ) → Precedes text one → (Precedes other one → ⊥) → Precedes text other
precedes_after text one other before not = by_order (representation_cmp one other) refl
  where
    by_order : (o : Ordering) → representation_cmp one other ≡ o → Precedes text other
    by_order Less is = total.trans text one other before is
    by_order Equal is = sym (alike_right total one other text is) ∙ before
    by_order Greater is = absurd (not (total.antisymm other one ∙ ap ordering_reverse is))
