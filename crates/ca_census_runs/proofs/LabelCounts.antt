-- How often labels come, as a map from labels to numbers has it.
use Rattle.std.proofs.Common.{◌≡◌, ℕ, zero, suc, ◌+◌, add-one, Bool, true, false, cond, List, [], ◌∷◌, ◌++◌, map, length, take, get_or, take-suc, ◌<◌, Option, Some, Vec, Global, unwrap_or, refl, ap, sym, ◌∙◌, inl, inr, subst, arith, ◌⊎◌}
use Rattle.std.specs.Prelude.{IsPermutation}
use Rattle.std.specs.Cmp.{IsTotalOrder}
use Rattle.std.specs.List.{AllByRecursion, IsDistinct, count_by}
use Rattle.std.specs.Map.{lookup, keys_of}
use Rattle.std.specs.List.Sorted.{IsSortedBy}
use Rattle.std.specs.Str.{bytes_eq}
use Rattle.std.proofs.lemmas.Bool.{cases_Bool, false≢true}
use Rattle.std.proofs.lemmas.Slice.Eq.{bytes_eq-Decides}
use Rattle.std.proofs.lemmas.Cmp.{then_total, back_total, on_total, nat_cmp_total, nat_list_cmp_total, nat_list_eq_equiv}
use Rattle.std.proofs.lemmas.List.{length-map, get_or-map, map-append}
use Rattle.std.proofs.lemmas.List.Sorted.{IsPermutation-map}
use Rattle.std.proofs.lemmas.List.Sums.{sum_by-append}
use Rattle.std.proofs.lemmas.Map.Keys.{IsDistinct-head, IsDistinct-tail, IsDistinct-cons}
use Rattle.indexmap.specs.IndexMap.{insert_entry}
use Rattle.ca_census.specs.declared.entry.CensusObject.{CensusObject}
use Rattle.indexmap.proofs.MapLemmas.{lookup_permutation}
use Rattle.ca_census_runs.specs.Prelude.{label, some_objects, IsTally, count_cmp, comes_before, AreCounts}
use Rattle.ca_census_runs.specs.inner.Entries.{by_bytes, counts_of}

-- what the map has for a label
pub lookup_by_bytes : (name : List ℕ) (es : List (Vec ℕ Global × ℕ)) → lookup (bytes_eq name) (counts_of es) ≡ lookup (λ key. bytes_eq name key.items) es
lookup_by_bytes name [] = refl
lookup_by_bytes name (e ∷ es) = ap (cond (bytes_eq name e.0.items) (Some e.1)) (lookup_by_bytes name es)

-- a text is its own
pub same_bytes : (text : List ℕ) → bytes_eq text text ≡ true
same_bytes text = (bytes_eq-Decides text text).1 refl

-- what it has after a number is put for a label
pub lookup_put : (name : List ℕ) (key : Vec ℕ Global) (n : ℕ) (es : List (Vec ℕ Global × ℕ))
    → lookup (bytes_eq name) (counts_of (insert_entry (λ v w. bytes_eq v.items w.items) es key n)) ≡ cond (bytes_eq name key.items) (Some n) (lookup (bytes_eq name) (counts_of es))
lookup_put name key n [] = refl
lookup_put name key n (e ∷ es) = elim (cases_Bool (bytes_eq key.items e.0.items)) [
  | inl same ↦
      let one : key.items ≡ e.0.items = (bytes_eq-Decides key.items e.0.items).0 same in
      rw (same, one) (twice (bytes_eq name e.0.items) (Some n) (Some e.1) (lookup (bytes_eq name) (counts_of es)))
  | inr other ↦
      rw (other, lookup_put name key n es)
      (apart (bytes_eq name e.0.items) (bytes_eq name key.items) (Some e.1) (Some n) (lookup (bytes_eq name) (counts_of es)) (λ here there.
      false≢true (sym other ∙ ap (λ l. bytes_eq l e.0.items) (sym ((bytes_eq-Decides name key.items).0 there)) ∙ here)))
]
  where
    twice : (b : Bool) (x y z : Option ℕ) → cond b x z ≡ cond b x (cond b y z)
    twice true x y z = refl
    twice false x y z = refl

    apart : (a b : Bool) (x y z : Option ℕ) → (a ≡ true → b ≡ true → ⊥) → cond a x (cond b y z) ≡ cond b y (cond a x z)
    apart true true x y z never = absurd (never refl refl)
    apart true false x y z never = refl
    apart false b x y z never = refl

-- no label stands twice
others_by_bytes : (key : Vec ℕ Global) (es : List (Vec ℕ Global × ℕ)) → AllByRecursion (λ (y : Vec ℕ Global). bytes_eq key.items y.items ≡ false) (keys_of es)
    → AllByRecursion (λ y. bytes_eq key.items y ≡ false) (keys_of (counts_of es))
others_by_bytes key [] h = tt
others_by_bytes key (e ∷ es) h = (h.0, others_by_bytes key es h.1)

pub distinct_by_bytes : (es : List (Vec ℕ Global × ℕ)) → IsDistinct (λ v w. bytes_eq v.items w.items) (keys_of es) → IsDistinct bytes_eq (keys_of (counts_of es))
unfolding IsDistinct
distinct_by_bytes [] h = tt
distinct_by_bytes (e ∷ es) h =
    IsDistinct-cons bytes_eq e.0.items (keys_of (counts_of es)) (others_by_bytes e.0 es (IsDistinct-head (λ v w. bytes_eq v.items w.items) e.0 (keys_of es) h))
    (distinct_by_bytes es (IsDistinct-tail (λ v w. bytes_eq v.items w.items) e.0 (keys_of es) h))

-- how often a label comes among some and one more
count_more : (name one : List ℕ) (labels : List (List ℕ)) → count_by (bytes_eq name) (labels ++ one ∷ []) ≡ count_by (bytes_eq name) labels + cond (bytes_eq name one) 1 0
count_more name one labels =
    sum_by-append (λ x. cond (bytes_eq name x) 1 0) labels (one ∷ []) ∙ ap (λ n. count_by (bytes_eq name) labels + n) (lone (bytes_eq name one))
  where
    lone : (b : Bool) → 0 + cond b 1 0 ≡ cond b 1 0
    lone true = refl
    lone false = refl

number_of_some : (n : ℕ) → unwrap_or (some_objects n) 0 ≡ n
number_of_some zero = refl
number_of_some (suc n) = refl

-- one object more is counted
pub tally_more : (labels : List (List ℕ)) (es new : List (Vec ℕ Global × ℕ)) (key : Vec ℕ Global) (n : ℕ) (one : List ℕ) → IsTally labels (counts_of es)
    → key.items ≡ one → n ≡ unwrap_or (lookup (bytes_eq one) (counts_of es)) 0 → new ≡ insert_entry (λ v w. bytes_eq v.items w.items) es key (n + 1)
    → IsDistinct (λ v w. bytes_eq v.items w.items) (keys_of new) → IsTally (labels ++ one ∷ []) (counts_of new)
tally_more labels es new key n one tally is number put distinct = record {
  once = distinct_by_bytes new distinct;
  number = λ name.
      ap (λ l. lookup (bytes_eq name) (counts_of l)) put ∙ lookup_put name key (n + 1) es
      ∙ ap (λ k. cond (bytes_eq name k) (Some (n + 1)) (lookup (bytes_eq name) (counts_of es))) is
      ∙ ap (cond (bytes_eq name one) (Some (n + 1))) (tally.number name)
      ∙ by name (cases_Bool (bytes_eq name one))
      ∙ ap some_objects (sym (count_more name one labels));
}
  where
    counted : n ≡ count_by (bytes_eq one) labels
    counted = number ∙ ap (λ o. unwrap_or o 0) (tally.number one) ∙ number_of_some (count_by (bytes_eq one) labels)

    plus_none : (m : ℕ) → some_objects m ≡ some_objects (m + 0)
    plus_none m = ap some_objects (omega arith)

    by : (name : List ℕ) → (bytes_eq name one ≡ true) ⊎ (bytes_eq name one ≡ false)
        → cond (bytes_eq name one) (Some (n + 1)) (some_objects (count_by (bytes_eq name) labels)) ≡ some_objects (count_by (bytes_eq name) labels + cond (bytes_eq name one) 1 0)
    by name (inl same) =
        rw (same, (bytes_eq-Decides name one).0 same, ← counted, add-one) refl
    by name (inr other) = rw other (plus_none (count_by (bytes_eq name) labels))

-- nothing is counted yet
pub no_tally : (es : List (Vec ℕ Global × ℕ)) → es ≡ [] → IsTally [] (counts_of es)
unfolding IsDistinct
no_tally es none = subst (λ (l : List (Vec ℕ Global × ℕ)). IsTally [] (counts_of l)) (sym none) (record { once = tt; number = λ name. refl })

-- the labels of the first objects and of the next one
pub labels_more : (objects : List CensusObject) (i : ℕ) (object : CensusObject) → i < length objects → object ≡ get_or objects i object
    → map label (take (i + 1) objects) ≡ map label (take i objects) ++ label object ∷ []
labels_more objects i object below at =
    rw (add-one, take-suc objects i object below) (map-append label (take i objects) (get_or objects i object ∷ []) ∙ ap (λ o. map label (take i objects) ++ label o ∷ []) (sym at))

-- ---- in order

-- the order of counts
pub counts_total : IsTotalOrder count_cmp
counts_total = then_total (back_total (on_total (λ (c : List ℕ × ℕ). c.1) nat_cmp_total)) (on_total (λ (c : List ℕ × ℕ). c.0) nat_list_cmp_total)

-- some element of a list that has any
some_of : {X : Type 0} (xs : List X) → 0 < length xs → X
some_of [] h = absurd (omega (arith, h))
some_of (x ∷ xs) h = x

-- entries in order have their counts in order
sorted_by_bytes : (es : List (Vec ℕ Global × ℕ)) → IsSortedBy (λ a b. comes_before (by_bytes a) (by_bytes b)) es → IsSortedBy comes_before (counts_of es)
sorted_by_bytes es up k d low high =
    let long = length-map es by_bytes in
    let e = some_of es (omega arith) in
    rw (get_or-map by_bytes es (k + 1) e d (omega arith), get_or-map by_bytes es k e d (omega arith)) (up k e low (omega arith))

-- a tally in order
pub counts_sorted : (labels : List (List ℕ)) (es new : List (Vec ℕ Global × ℕ)) → IsTally labels (counts_of es) → IsPermutation es new
    → IsDistinct (λ v w. bytes_eq v.items w.items) (keys_of new) → IsSortedBy (λ a b. comes_before (by_bytes a) (by_bytes b)) new → AreCounts labels (counts_of new)
counts_sorted labels es new tally moves distinct up =
    let once = distinct_by_bytes new distinct in
    record {
      tally = record {
        once = once;
        number = λ name.
            lookup_permutation nat_list_eq_equiv (counts_of es) (counts_of new) (IsPermutation-map by_bytes es new moves) once (bytes_eq name) (nat_list_eq_equiv.congr name)
            ∙ tally.number name;
      };
      order = sorted_by_bytes new up;
    }
