-- The columns of a strip, step by step.
use Rattle.std.proofs.Common.{◌≡◌, ◌≢◌, ℕ, ◌+◌, ◌-◌, ◌<◌, ◌≤◌, ◌==◌, if◌then◌else◌, List, [], ◌∷◌, ◌++◌, length, get_or, replicate, refl, sym, ap, ◌∙◌, inl, inr, append_assoc, length-append, arith}
use Rattle.std.specs.List.{flat_map, AllByRecursion}
use Rattle.std.proofs.lemmas.Bool.{cases_Bool, cases_lt, eqb-true, eqb-false}
use Rattle.std.proofs.lemmas.Grind.{flat_map-append}
use Rattle.std.proofs.lemmas.List.{append-nil, get_or_past, get_or-append_right, get_or_append_left, get_or-replicate, length-replicate}
use Rattle.ca_plane.specs.Prelude.{Puts}
use Rattle.ca_apgcode.specs.Prelude.{Step, IsStep, five_cells, step_text, step_columns}
use Rattle.ca_apgcode.specs.inner.Puts.{PutsStrip}

-- what holds of each of a list and of one more
pub each_more : {X : Type 0} (P : X → Type 0) (xs : List X) (x : X) → AllByRecursion P xs → P x → AllByRecursion P (xs ++ x ∷ [])
each_more P [] x each one = (one, tt)
each_more P (y ∷ ys) x each one = (each.0, each_more P ys x each.1 one)

-- columns without cells, and one more column, after others
pub columns_before : (columns : List ℕ) (gap column k : ℕ) → k < length columns → get_or (columns ++ (replicate gap 0 ++ column ∷ [])) k 0 ≡ get_or columns k 0
columns_before columns gap column k within = get_or_append_left columns (replicate gap 0 ++ column ∷ []) 0 k within

pub columns_between : (columns : List ℕ) (gap column k : ℕ) → length columns ≤ k → k < length columns + gap → get_or (columns ++ (replicate gap 0 ++ column ∷ [])) k 0 ≡ 0
columns_between columns gap column k from below =
    let within : k - length columns < gap = omega arith in
    let fits : k - length columns < length (replicate gap 0) = rw (length-replicate {A = ℕ} gap 0) within in
    get_or-append_right columns (replicate gap 0 ++ column ∷ []) (length columns) k 0 refl from
    ∙ get_or_append_left (replicate gap 0) (column ∷ []) 0 (k - length columns) fits
    ∙ get_or-replicate gap (k - length columns) 0 0 within

pub columns_at : (columns : List ℕ) (gap column k : ℕ) → k ≡ length columns + gap → get_or (columns ++ (replicate gap 0 ++ column ∷ [])) k 0 ≡ column
columns_at columns gap column k there =
    let from : length columns ≤ k = omega arith in
    let left : k - length columns ≡ gap = omega arith in
    get_or-append_right columns (replicate gap 0 ++ column ∷ []) (length columns) k 0 refl from
    ∙ ap (λ i. get_or (replicate gap 0 ++ column ∷ []) i 0) left
    ∙ get_or-append_right (replicate gap 0) (column ∷ []) gap gap 0 (length-replicate gap 0) (omega arith)
    ∙ ap (λ i. get_or (column ∷ []) i 0) (let none : gap - gap ≡ 0 = omega arith in none)

-- the first columns of a strip are written: steps, and after them `gap` columns without cells
pub record BeginsStrip (cells : ℕ → ℕ → ℕ) (y x gap : ℕ) (old new : List ℕ) : Type 0 where
  pub steps : List Step
  pub each : AllByRecursion IsStep steps
  pub width : length (flat_map step_columns steps) + gap ≡ x
  pub columns : (k : ℕ) → k < x → get_or (flat_map step_columns steps) k 0 ≡ five_cells cells k y
  pub puts : Puts old new (flat_map step_text steps)

-- none of them
pub BeginsStrip-none : (cells : ℕ → ℕ → ℕ) (y : ℕ) (text : List ℕ) → BeginsStrip cells y 0 0 text text
BeginsStrip-none cells y text = record {
  steps = [];
  each = tt;
  width = refl;
  columns = λ k below. absurd (omega (arith, below));
  puts = record { whole = sym (append-nil text) };
}

-- one more, without cells
blank_more : (cells : ℕ → ℕ → ℕ) (y x gap : ℕ) (old now : List ℕ) → five_cells cells x y ≡ 0 → BeginsStrip cells y x gap old now → BeginsStrip cells y (x + 1) (gap + 1) old now
blank_more cells y x gap old now blank begins =
    let all = flat_map step_columns begins.steps in
    let width : length all + gap ≡ x = begins.width in
    record {
      steps = begins.steps;
      each = begins.each;
      width = omega (arith, width);
      columns = λ k below. elim (cases_lt k x) [
        | inl before ↦ begins.columns k before
        | inr from ↦ let here : k ≡ x = omega (arith, below, from) in rw here (get_or_past all x 0 (omega (arith, width)) ∙ sym blank)
      ];
      puts = begins.puts;
    }

-- one more, with cells
step_more : (cells : ℕ → ℕ → ℕ) (y x gap column : ℕ) (old now new : List ℕ) → column ≡ five_cells cells x y → IsStep (record { gap = gap; column = column }) → Puts now new (step_text (record { gap = gap; column = column })) → BeginsStrip cells y x gap old now → BeginsStrip cells y (x + 1) 0 old new
step_more cells y x gap column old now new is_column is_step puts begins =
    let step : Step = record { gap = gap; column = column } in
    let all = flat_map step_columns begins.steps in
    let grown : flat_map step_columns (begins.steps ++ step ∷ []) ≡ all ++ (replicate gap 0 ++ column ∷ []) = flat_map-append step_columns begins.steps (step ∷ []) ∙ ap (λ l. all ++ l) (append-nil (replicate gap 0 ++ column ∷ [])) in
    let texts : flat_map step_text (begins.steps ++ step ∷ []) ≡ flat_map step_text begins.steps ++ step_text step = flat_map-append step_text begins.steps (step ∷ []) ∙ ap (λ l. flat_map step_text begins.steps ++ l) (append-nil (step_text step)) in
    let width : length all + gap ≡ x = begins.width in
    record {
      steps = begins.steps ++ step ∷ [];
      each = each_more IsStep begins.steps step begins.each is_step;
      width = rw grown (rw (length-append all (replicate gap 0 ++ column ∷ []), length-append (replicate gap 0) (column ∷ []), length-replicate {A = ℕ} gap 0) (omega (arith, width)));
      columns = λ k below. rw grown (elim (cases_lt k (length all)) [
        | inl before ↦ columns_before all gap column k before ∙ begins.columns k (omega (arith, width, before))
        | inr from ↦ elim (cases_lt k x) [
          | inl between ↦ columns_between all gap column k from (omega (arith, width, between)) ∙ (sym (get_or_past all k 0 from) ∙ begins.columns k between)
          | inr last ↦ let here : k ≡ x = omega (arith, below, last) in columns_at all gap column k (omega (arith, width, here)) ∙ (is_column ∙ ap (λ i. five_cells cells i y) (sym here))
        ]
      ]);
      puts = record { whole = puts.whole ∙ (ap (λ l. l ++ step_text step) begins.puts.whole ∙ (append_assoc old (flat_map step_text begins.steps) (step_text step) ∙ ap (λ l. old ++ l) (sym texts))) };
    }

-- one more column, whatever it has
pub BeginsStrip-more : (cells : ℕ → ℕ → ℕ) (y x gap column next : ℕ) (old now new : List ℕ) → column ≡ five_cells cells x y → column ≤ 31 → gap ≤ 39 → next ≡ (if column == 0 then gap + 1 else 0) → Puts now new (if column == 0 then [] else step_text (record { gap = gap; column = column })) → BeginsStrip cells y x gap old now → BeginsStrip cells y (x + 1) next old new
BeginsStrip-more cells y x gap column next old now new is_column most fits counts puts begins =
    elim (cases_Bool (column == 0)) [
      | inl blank ↦
          let none : column ≡ 0 = eqb-true column 0 blank in
          let same : new ≡ now = let p = rw blank at puts in p.whole ∙ append-nil now in
          let count : next ≡ gap + 1 = rw blank at counts in
          rw (same, count) (blank_more cells y x gap old now (sym is_column ∙ none) begins)
      | inr live ↦
          let some : column ≢ 0 = eqb-false column 0 live in
          let count : next ≡ 0 = rw live at counts in
          rw count (step_more cells y x gap column old now new is_column (record { gap = fits; some = omega (arith, some); most = most }) (rw live at puts) begins)
    ]

-- all of them: what is east of them has no cells
pub BeginsStrip-all : (cells : ℕ → ℕ → ℕ) (y x gap : ℕ) (old new : List ℕ) → ((k : ℕ) → x ≤ k → five_cells cells k y ≡ 0) → BeginsStrip cells y x gap old new → PutsStrip cells y old new
BeginsStrip-all cells y x gap old new east begins =
    let all = flat_map step_columns begins.steps in
    let width : length all + gap ≡ x = begins.width in
    record {
      steps = begins.steps;
      is_strip = record {
        each = begins.each;
        columns = λ k. elim (cases_lt k x) [
          | inl within ↦ begins.columns k within
          | inr from ↦ get_or_past all k 0 (omega (arith, width, from)) ∙ sym (east k from)
        ];
      };
      puts = begins.puts;
    }
