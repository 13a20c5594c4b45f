-- What a text of steps says: no step's text begins another's.
use Rattle.std.proofs.Common.{◌≡◌, ℕ, zero, suc, ◌+◌, ◌-◌, ◌<◌, ◌≤◌, List, [], ◌∷◌, ◌++◌, map, Option, Some, None, refl, sym, ap, ap₂, ◌∙◌, append_assoc, arith}
use Rattle.std.specs.List.{flat_map, join_with_byte, AllByRecursion}
use Rattle.std.proofs.lemmas.Bool.{ne_eqb, lt-ltb}
use Rattle.std.proofs.lemmas.List.{append-nil}
use Rattle.std.proofs.lemmas.Bool.Decides.{nat_tests}
use Rattle.ca_apgcode.specs.Prelude.{Step, IsStep, digit, gap_text, step_text}
use Rattle.ca_apgcode.specs.inner.Reading.{digit_value, gap_at, column_at, step_at}

-- a digit has its number
pub digit_again : (n : ℕ) → n < 36 → digit_value (digit n) ≡ Some n
digit_again n low = grind (arith, nat_tests)

-- a long gap is `y` and a digit
pub long_text : (gap : ℕ) → 4 ≤ gap → gap_text gap ≡ 121 ∷ digit (gap - 4) ∷ []
long_text gap long = grind (arith, nat_tests)

-- the digit of a column with cells is none of the letters before it
digit_low : (n : ℕ) → 1 ≤ n → n ≤ 31 → 49 ≤ digit n
digit_low n some most = grind (arith, nat_tests)

digit_high : (n : ℕ) → n ≤ 31 → digit n ≤ 118
digit_high n most = grind (arith, nat_tests)

no_gap : (b : ℕ) (rest : List ℕ) → 49 ≤ b → b ≤ 118 → gap_at (b ∷ rest) ≡ Some (0, b ∷ rest)
no_gap b rest low high = rw (ne_eqb b 48 (λ e. absurd (omega (arith, e, low))), ne_eqb b 119 (λ e. absurd (omega (arith, e, high))), ne_eqb b 120 (λ e. absurd (omega (arith, e, high))), ne_eqb b 121 (λ e. absurd (omega (arith, e, high)))) refl

long_again : (gap : ℕ) (rest : List ℕ) → 4 ≤ gap → gap ≤ 39 → gap_at (gap_text gap ++ rest) ≡ Some (gap, rest)
long_again gap rest long fits =
    let sum : gap - 4 + 4 ≡ gap = omega (arith, long) in
    rw (long_text gap long) (rw (digit_again (gap - 4) (omega (arith, fits))) (ap (λ n. Some (n, rest)) sum))

-- a gap has its number
pub gap_again : (gap column : ℕ) (rest : List ℕ) → gap ≤ 39 → 1 ≤ column → column ≤ 31 → gap_at (gap_text gap ++ digit column ∷ rest) ≡ Some (gap, digit column ∷ rest)
gap_again zero column rest fits some most = no_gap (digit column) rest (digit_low column some most) (digit_high column most)
gap_again (suc zero) column rest fits some most = refl
gap_again (suc (suc zero)) column rest fits some most = refl
gap_again (suc (suc (suc zero))) column rest fits some most = refl
gap_again (suc (suc (suc (suc n)))) column rest fits some most = long_again (suc (suc (suc (suc n)))) (digit column ∷ rest) (omega arith) fits

-- a column has its number
column_again : (gap column : ℕ) (rest : List ℕ) → 1 ≤ column → column ≤ 31 → column_at gap (digit column ∷ rest) ≡ Some (record { gap = gap; column = column }, rest)
column_again gap column rest some most = rw (digit_again column (omega (arith, most))) (rw (lt-ltb 0 column (omega (arith, some)), lt-ltb column 32 (omega (arith, most))) refl)

-- a step is read again, whatever follows it
pub step_again : (step : Step) (rest : List ℕ) → IsStep step → step_at (step_text step ++ rest) ≡ Some (step, rest)
step_again step rest is_step =
    let front : step_text step ++ rest ≡ gap_text step.gap ++ digit step.column ∷ rest = append_assoc (gap_text step.gap) (digit step.column ∷ []) rest in
    ap step_at front ∙ (rw (gap_again step.gap step.column rest is_step.gap is_step.some is_step.most) (column_again step.gap step.column rest is_step.some is_step.most))

some_injective : {X : Type 0} (a b : X) → Some a ≡ Some b → a ≡ b
some_injective a b same = cc

-- the parts of two pairs that are one
pub same_parts : (x y : Step) (a b : List ℕ) (o p : Option (Step × List ℕ)) → o ≡ Some (x, a) → p ≡ Some (y, b) → o ≡ p → (x ≡ y) × (a ≡ b)
same_parts x y a b o p first second same =
    let one : Step × List ℕ = (x, a) in
    let other : Step × List ℕ = (y, b) in
    let both : Some one ≡ Some other = sym first ∙ (same ∙ second) in
    let pairs : one ≡ other = some_injective one other both in
    (ap (λ (q : Step × List ℕ). q.0) pairs, ap (λ (q : Step × List ℕ). q.1) pairs)

-- an option isn't both
pub not_both : (x : Step) (a : List ℕ) (o : Option (Step × List ℕ)) → o ≡ None → o ≡ Some (x, a) → ⊥
not_both x a o none some = cc

-- steps that end where no step begins are told apart from others, and from what follows them
pub one_text_of_steps : (s t : List Step) (a b : List ℕ) → AllByRecursion IsStep s → AllByRecursion IsStep t → step_at a ≡ None → step_at b ≡ None → flat_map step_text s ++ a ≡ flat_map step_text t ++ b → (s ≡ t) × (a ≡ b)
one_text_of_steps [] [] a b each_s each_t no_a no_b same = (refl, same)
one_text_of_steps [] (y ∷ t) a b each_s each_t no_a no_b same =
    absurd (not_both y (flat_map step_text t ++ b) (step_at a) no_a (ap step_at (same ∙ append_assoc (step_text y) (flat_map step_text t) b) ∙ step_again y (flat_map step_text t ++ b) each_t.0))
one_text_of_steps (x ∷ s) [] a b each_s each_t no_a no_b same =
    absurd (not_both x (flat_map step_text s ++ a) (step_at b) no_b (ap step_at (sym same ∙ append_assoc (step_text x) (flat_map step_text s) a) ∙ step_again x (flat_map step_text s ++ a) each_s.0))
one_text_of_steps (x ∷ s) (y ∷ t) a b each_s each_t no_a no_b same =
    let parts = same_parts x y (flat_map step_text s ++ a) (flat_map step_text t ++ b) (step_at ((step_text x ++ flat_map step_text s) ++ a)) (step_at ((step_text y ++ flat_map step_text t) ++ b))
    (ap step_at (append_assoc (step_text x) (flat_map step_text s) a) ∙ step_again x (flat_map step_text s ++ a) each_s.0)
    (ap step_at (append_assoc (step_text y) (flat_map step_text t) b) ∙ step_again y (flat_map step_text t ++ b) each_t.0)
    (ap step_at same) in
    let more = one_text_of_steps s t a b each_s.1 each_t.1 no_a no_b parts.1 in
    (ap₂ ◌∷◌ parts.0 more.0, more.1)

-- what follows the first strip
abbrev pub later_strips : List (List Step) → List ℕ
later_strips [] = []
later_strips (strip ∷ strips) = 122 ∷ join_with_byte 122 (map (flat_map step_text) (strip ∷ strips))

pub first_strip : (strip : List Step) (strips : List (List Step)) → join_with_byte 122 (map (flat_map step_text) (strip ∷ strips)) ≡ flat_map step_text strip ++ later_strips strips
first_strip strip [] = sym (append-nil (flat_map step_text strip))
first_strip strip (next ∷ strips) = refl

pub later_none : (strips : List (List Step)) → step_at (later_strips strips) ≡ None
later_none [] = refl
later_none (strip ∷ strips) = refl

-- a text of strips says one thing at most
pub one_list_of_strips : (ss ts : List (List Step)) → AllByRecursion (AllByRecursion IsStep) ss → AllByRecursion (AllByRecursion IsStep) ts → later_strips ss ≡ later_strips ts → ss ≡ ts
one_list_of_strips [] [] each_s each_t same = refl
one_list_of_strips [] (t ∷ ts) each_s each_t same = absurd (cc)
one_list_of_strips (s ∷ ss) [] each_s each_t same = absurd (cc)
one_list_of_strips (s ∷ ss) (t ∷ ts) each_s each_t same =
    let texts : join_with_byte 122 (map (flat_map step_text) (s ∷ ss)) ≡ join_with_byte 122 (map (flat_map step_text) (t ∷ ts)) = cc in
    let one = one_text_of_steps s t (later_strips ss) (later_strips ts) each_s.0 each_t.0 (later_none ss) (later_none ts) (sym (first_strip s ss) ∙ (texts ∙ first_strip t ts)) in
    ap₂ ◌∷◌ one.0 (one_list_of_strips ss ts each_s.1 each_t.1 one.1)
