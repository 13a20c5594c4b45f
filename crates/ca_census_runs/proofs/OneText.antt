-- The lines on a census are determined by it.
use Rattle.std.proofs.Common.{◌≡◌, ℕ, Bool, true, false, cond, List, [], ◌∷◌, ◌++◌, map, Option, Some, None, refl, ap, sym, ◌∙◌, inl, inr, subst}
use Rattle.std.specs.Prelude.{not, ◌&&◌}
use Rattle.std.specs.Cmp.{IsTotalOrder}
use Rattle.std.specs.List.{AllByRecursion, IsDistinct, filter, flat_map}
use Rattle.std.specs.List.Sorted.{ties}
use Rattle.std.specs.Map.{lookup, keys_of}
use Rattle.std.specs.Ordering.{is_lt, ordering_then, ordering_reverse, nat_cmp}
use Rattle.std.specs.Cmp.Lexicographic.{slice_cmp}
use Rattle.std.specs.Str.{bytes_eq}
use Rattle.std.specs.declared.cmp.Ordering.{Ordering}
use Rattle.std.specs.declared.cmp.Ordering.TheVariants.{Less, Equal, Greater}
use Rattle.std.proofs.lemmas.Bool.{cases_Bool, false≢true}
use Rattle.std.proofs.lemmas.Slice.Eq.{bytes_eq-Decides}
use Rattle.std.proofs.lemmas.Map.Keys.{IsDistinct-head, IsDistinct-tail}
use Rattle.std.proofs.lemmas.Map.Lookups.{exact_bytes}
use Rattle.std.proofs.lemmas.Cmp.{then_total, on_total, int_cmp_total}
use Rattle.std.proofs.lemmas.List.Sorted.{ranks_by}
use Rattle.ca_plane.specs.declared.point.Bounds.{Bounds}
use Rattle.ca_census.specs.declared.{census.Census.Census, entry.CensusObject.CensusObject}
use Rattle.ca_census_runs.specs.declared.task.CensusTask.{CensusTask}
use Rattle.ca_census_runs.specs.Prelude.{label, count_cmp, comes_before, AreCounts, count_line, corner_cmp, stands_before, ArePlaced, object_line, settled_line, AreObjectLines, AreCensusLines}
use Rattle.ca_census_runs.proofs.LabelCounts.{counts_total}
use Rattle.ca_census_runs.proofs.OneOrder.{one_order}

-- ---- counts

-- what ties in an order is equal in it
equal_if_ties : (r s : Ordering) → r ≡ ordering_reverse s → not (is_lt r) && not (is_lt s) ≡ true → r ≡ Equal
equal_if_ties Less s turned tie = absurd (false≢true tie)
equal_if_ties Equal s turned tie = refl
equal_if_ties Greater Less turned tie = absurd (false≢true tie)
equal_if_ties Greater Equal turned tie = turned
equal_if_ties Greater Greater turned tie = absurd (false≢true (ap is_lt turned))

-- where both orders say equal, the second does
second_equal : (r s : Ordering) → ordering_then r s ≡ Equal → s ≡ Equal
second_equal Less s same = absurd (false≢true (sym (ap is_lt same)))
second_equal Equal s same = same
second_equal Greater s same = absurd (never same)
  where
    is_greater : Ordering → Bool
    is_greater Less = false
    is_greater Equal = false
    is_greater Greater = true

    never : Greater ≡ Equal → ⊥
    never e = false≢true (sym (ap is_greater e))

-- counts that tie have the same label
same_label : (x e : List ℕ × ℕ) → ties comes_before x e ≡ true → bytes_eq x.0 e.0 ≡ true
same_label x e tie =
    (bytes_eq-Decides x.0 e.0).1 (exact_bytes x.0 e.0 (second_equal (nat_cmp e.1 x.1) (slice_cmp nat_cmp x.0 e.0) (equal_if_ties (count_cmp x e) (count_cmp e x) (counts_total.antisymm x e) tie)))

-- and so those of another label don't tie
other_label : (x e : List ℕ × ℕ) → bytes_eq x.0 e.0 ≡ false → ties comes_before x e ≡ false
other_label x e other = elim (cases_Bool (ties comes_before x e)) [
  | inl tie ↦ absurd (false≢true (sym other ∙ same_label x e tie))
  | inr never ↦ never
]

-- none of other labels tie
none_tie : (x : List ℕ × ℕ) (es : List (List ℕ × ℕ)) → AllByRecursion (λ y. bytes_eq x.0 y ≡ false) (keys_of es) → filter (ties comes_before x) es ≡ []
none_tie x [] apart = refl
none_tie x (e ∷ es) apart = rw (other_label x e apart.0) (none_tie x es apart.1)

-- the count of this number, if it ties
abbrev of_number : (x : List ℕ × ℕ) → Option ℕ → List (List ℕ × ℕ)
of_number x None = []
of_number x (Some n) = cond (ties comes_before x (x.0, n)) ((x.0, n) ∷ []) []

-- those that tie with a count are told by what stands at its label
ties_by_lookup : (x : List ℕ × ℕ) (es : List (List ℕ × ℕ)) → IsDistinct bytes_eq (keys_of es) → filter (ties comes_before x) es ≡ of_number x (lookup (bytes_eq x.0) es)
ties_by_lookup x [] once = refl
ties_by_lookup x (e ∷ es) once = elim (cases_Bool (bytes_eq x.0 e.0)) [
  | inl same ↦
      let is : x.0 ≡ e.0 = (bytes_eq-Decides x.0 e.0).0 same in
      let apart : AllByRecursion (λ y. bytes_eq x.0 y ≡ false) (keys_of es) = subst (λ k. AllByRecursion (λ y. bytes_eq k y ≡ false) (keys_of es)) (sym is) (IsDistinct-head bytes_eq e.0 (keys_of es) once) in
      ap (λ l. cond (ties comes_before x e) (e ∷ l) l) (none_tie x es apart)
      ∙ ap (λ k. cond (ties comes_before x (k, e.1)) ((k, e.1) ∷ []) []) (sym is)
      ∙ sym (ap (λ b. of_number x (cond b (Some e.1) (lookup (bytes_eq x.0) es))) same)
  | inr other ↦
      ap (λ b. cond b (e ∷ filter (ties comes_before x) es) (filter (ties comes_before x) es)) (other_label x e other)
      ∙ ties_by_lookup x es (IsDistinct-tail bytes_eq e.0 (keys_of es) once)
      ∙ sym (ap (λ b. of_number x (cond b (Some e.1) (lookup (bytes_eq x.0) es))) other)
]

-- labels have one list of counts
pub one_counts : (labels : List (List ℕ)) (one two : List (List ℕ × ℕ)) → AreCounts labels one → AreCounts labels two → one ≡ two
one_counts labels one two are be =
    one_order comes_before (ranks_by counts_total (λ (c : List ℕ × ℕ). c)) one two are.order be.order (λ x.
    ties_by_lookup x one are.tally.once ∙ ap (of_number x) (are.tally.number x.0 ∙ sym (be.tally.number x.0)) ∙ sym (ties_by_lookup x two be.tally.once))

-- ---- places

corners_total : IsTotalOrder corner_cmp
corners_total = then_total (on_total (λ (b : Bounds). b.y0) int_cmp_total) (on_total (λ (b : Bounds). b.x0) int_cmp_total)

-- objects are placed in one order
pub one_placed : (objects one two : List CensusObject) → ArePlaced objects one → ArePlaced objects two → one ≡ two
one_placed objects one two are be =
    one_order stands_before (ranks_by corners_total (λ (o : CensusObject). o.bounds)) one two are.order be.order (λ x. are.stable x ∙ sym (be.stable x))

-- ---- lines

one_lines : (listed : Bool) (objects : List CensusObject) (one two : List ℕ) → AreObjectLines listed objects one → AreObjectLines listed objects two → one ≡ two
one_lines true objects one two (placed, are, lines) (other, be, others) = lines ∙ ap (flat_map object_line) (one_placed objects placed other are be) ∙ sym others
one_lines false objects one two (counts, are, lines) (other, be, others) = lines ∙ ap (flat_map count_line) (one_counts (map label objects) counts other are be) ∙ sym others

-- a census has one text
pub one_census : (task : CensusTask) (name : List ℕ) (census : Census) (one two : List ℕ) → AreCensusLines task name census one → AreCensusLines task name census two → one ≡ two
one_census task name census one two (lines, are, text) (others, be, other) =
    text ∙ ap (λ l. settled_line task.reach.start name census ++ l) (one_lines task.listed census.objects.items lines others are be) ∙ sym other
