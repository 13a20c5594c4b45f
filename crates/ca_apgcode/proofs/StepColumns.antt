-- What steps say of columns: columns have one list of steps at most.
use Rattle.std.proofs.Common.{◌≡◌, ℕ, zero, suc, ◌+◌, ◌<◌, List, [], ◌∷◌, ◌++◌, get_or, replicate, refl, sym, ap, ap₂, ◌∙◌, inl, inr, arith}
use Rattle.std.specs.List.{flat_map, AllByRecursion}
use Rattle.std.proofs.lemmas.Bool.{cases_lt}
use Rattle.ca_apgcode.specs.Prelude.{Step, IsStep, step_columns}

-- columns without cells, the next one, and what follows it
gap_at_front : (gap column k : ℕ) (rest : List ℕ) → k < gap → get_or ((replicate gap 0 ++ column ∷ []) ++ rest) k 0 ≡ 0
gap_at_front zero column k rest below = elim below [ ]
gap_at_front (suc gap) column zero rest below = refl
gap_at_front (suc gap) column (suc k) rest below = gap_at_front gap column k rest (omega arith)

pub column_after_gap : (gap column : ℕ) (rest : List ℕ) → get_or ((replicate gap 0 ++ column ∷ []) ++ rest) gap 0 ≡ column
column_after_gap zero column rest = refl
column_after_gap (suc gap) column rest = column_after_gap gap column rest

rest_after_step : (gap column k : ℕ) (rest : List ℕ) → get_or ((replicate gap 0 ++ column ∷ []) ++ rest) (gap + suc k) 0 ≡ get_or rest k 0
rest_after_step zero column k rest = ap (λ i. get_or (column ∷ rest) i 0) (let e : 0 + suc k ≡ suc k = omega arith in e)
rest_after_step (suc gap) column k rest = ap (λ i. get_or (0 ∷ ((replicate gap 0 ++ column ∷ []) ++ rest)) i 0) (let e : suc gap + suc k ≡ suc (gap + suc k) = omega arith in e) ∙ rest_after_step gap column k rest

-- steps with the same parts
same_step : (x y : Step) → x.gap ≡ y.gap → x.column ≡ y.column → x ≡ y
same_step x y gaps columns =
    let step : ℕ → ℕ → Step = λ gap column. record { gap = gap; column = column } in
    ap₂ step gaps columns

-- one list of steps
pub one_list_of_steps : (s t : List Step) → AllByRecursion IsStep s → AllByRecursion IsStep t → ((k : ℕ) → get_or (flat_map step_columns s) k 0 ≡ get_or (flat_map step_columns t) k 0) → s ≡ t
one_list_of_steps [] [] each_s each_t same = refl
one_list_of_steps [] (y ∷ t) each_s each_t same =
    let live : 0 ≡ y.column = same y.gap ∙ column_after_gap y.gap y.column (flat_map step_columns t) in
    absurd (omega (arith, live, each_t.0.some))
one_list_of_steps (x ∷ s) [] each_s each_t same =
    let live : x.column ≡ 0 = sym (column_after_gap x.gap x.column (flat_map step_columns s)) ∙ same x.gap in
    absurd (omega (arith, live, each_s.0.some))
one_list_of_steps (x ∷ s) (y ∷ t) each_s each_t same =
    elim (cases_lt x.gap y.gap) [
      | inl less ↦
          let live : x.column ≡ 0 = sym (column_after_gap x.gap x.column (flat_map step_columns s)) ∙ (same x.gap ∙ gap_at_front y.gap y.column x.gap (flat_map step_columns t) less) in
          absurd (omega (arith, live, each_s.0.some))
      | inr least ↦ elim (cases_lt y.gap x.gap) [
        | inl more ↦
            let live : y.column ≡ 0 = sym (column_after_gap y.gap y.column (flat_map step_columns t)) ∙ (sym (same y.gap) ∙ gap_at_front x.gap x.column y.gap (flat_map step_columns s) more) in
            absurd (omega (arith, live, each_t.0.some))
        | inr most ↦
            let gaps : x.gap ≡ y.gap = omega (arith, least, most) in
            let columns : x.column ≡ y.column =
            sym (column_after_gap x.gap x.column (flat_map step_columns s))
            ∙ (same x.gap ∙ (ap (λ i. get_or ((replicate y.gap 0 ++ y.column ∷ []) ++ flat_map step_columns t) i 0) gaps ∙ column_after_gap y.gap y.column (flat_map step_columns t))) in
            let rest = one_list_of_steps s t each_s.1 each_t.1
            (λ k. sym (rest_after_step x.gap x.column k (flat_map step_columns s))
            ∙ (same (x.gap + suc k) ∙ (ap (λ i. get_or ((replicate y.gap 0 ++ y.column ∷ []) ++ flat_map step_columns t) (i + suc k) 0) gaps ∙ rest_after_step y.gap y.column k (flat_map step_columns t)))) in
            ap₂ ◌∷◌ (same_step x y gaps columns) rest
      ]
    ]
