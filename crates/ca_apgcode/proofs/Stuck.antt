-- Where nothing can be drawn, the text is no code.
use Rattle.std.proofs.Common.{◌≡◌, ◌≢◌, ℕ, suc, ◌+◌, ◌*◌, ◌<◌, ◌≤◌, List, [], ◌∷◌, ◌++◌, length, get_or, None, refl, sym, ap, ◌∙◌, inl, inr, append_assoc, length-append, arith}
use Rattle.std.specs.List.{flat_map, AllByRecursion}
use Rattle.std.proofs.Math.Seq.{get_or-append_seam}
use Rattle.std.proofs.lemmas.Bool.{cases_lt}
use Rattle.std.proofs.lemmas.Grind.{flat_map-append}
use Rattle.std.proofs.lemmas.List.{get_or_past, get_or-append-add}
use Rattle.ca_apgcode.specs.Prelude.{GridCells, cell, Step, IsStep, IsCode, step_text, step_columns, five_cells}
use Rattle.ca_apgcode.specs.declared.drawing.Drawing.{Drawing}
use Rattle.ca_apgcode.specs.inner.Reading.{step_at}
use Rattle.ca_apgcode.specs.inner.Drawing.{IsStuck}
use Rattle.ca_apgcode.proofs.Columns.{five_dead}
use Rattle.ca_apgcode.proofs.StepTexts.{step_again, same_parts, not_both, later_strips, later_none}
use Rattle.ca_apgcode.proofs.StepColumns.{column_after_gap}
use Rattle.ca_apgcode.proofs.ReadTexts.{Reads}
use Rattle.ca_apgcode.proofs.ReadCells.{code_goes_on}

-- another strip begins where no step does
more_strips : (more : List Step) (others : List (List Step)) (rest : List ℕ) → AllByRecursion IsStep more → 122 ∷ rest ≡ flat_map step_text more ++ later_strips others → 1 ≤ length others
more_strips [] [] rest each same = absurd (cc)
more_strips [] (strip ∷ others) rest each same = omega arith
more_strips (step ∷ more) others rest each same =
    absurd (not_both step (flat_map step_text more ++ later_strips others) (step_at (122 ∷ rest)) refl (ap step_at (same ∙ append_assoc (step_text step) (flat_map step_text more) (later_strips others)) ∙ step_again step (flat_map step_text more ++ later_strips others) each.0))

-- a step is the next one of the strip
pub record BeginsWith (more : List Step) (step : Step) : Type 0 where
  pub rest : List Step
  pub is : more ≡ step ∷ rest

more_steps : (more : List Step) (others : List (List Step)) (step : Step) (rest : List ℕ) → IsStep step → AllByRecursion IsStep more → step_text step ++ rest ≡ flat_map step_text more ++ later_strips others → BeginsWith more step
more_steps [] others step rest is_step each same = absurd (not_both step rest (step_at (later_strips others)) (later_none others) (ap step_at (sym same) ∙ step_again step rest is_step))
more_steps (next ∷ more) others step rest is_step each same =
    let parts = same_parts step next rest (flat_map step_text more ++ later_strips others) (step_at (step_text step ++ rest)) (step_at ((step_text next ++ flat_map step_text more) ++ later_strips others))
    (step_again step rest is_step)
    (ap step_at (append_assoc (step_text next) (flat_map step_text more) (later_strips others)) ∙ step_again next (flat_map step_text more ++ later_strips others) each.0)
    (ap step_at same) in
    record { rest = more; is = ap (λ s. s ∷ more) (sym parts.0) }

-- something goes on with a step or a strip
some_more : (more : List Step) (others : List (List Step)) (bytes : List ℕ) → 0 < length bytes → AllByRecursion IsStep more → ((rest : List ℕ) → bytes ≢ 122 ∷ rest) → step_at bytes ≡ None → bytes ≡ flat_map step_text more ++ later_strips others → ⊥
some_more [] [] bytes some each no_strip no_step same = let none : length bytes ≡ 0 = ap length same in omega (arith, some, none)
some_more [] (strip ∷ others) bytes some each no_strip no_step same = no_strip _ same
some_more (step ∷ more) others bytes some each no_strip no_step same =
    not_both step (flat_map step_text more ++ later_strips others) (step_at bytes) no_step (ap step_at (same ∙ append_assoc (step_text step) (flat_map step_text more) (later_strips others)) ∙ step_again step (flat_map step_text more ++ later_strips others) each.0)

-- the column of a step is live in a box that has it
live_in_box : (grid : GridCells) (text : List ℕ) (code : IsCode grid text) (strips others : List (List Step)) (steps rest : List Step) (step : Step) → IsStep step → code.is_representation.strips ≡ strips ++ (steps ++ step ∷ rest) ∷ others → length (flat_map step_columns steps) + step.gap < 40
live_in_box grid text code strips others steps rest step is_step is_all =
    let all = flat_map step_columns steps in
    let shown = code.is_representation in
    let place = length all + step.gap in
    let i = length strips in
    let size : length shown.strips ≡ length strips + suc (length others) = ap length is_all ∙ length-append strips ((steps ++ step ∷ rest) ∷ others) in
    let below : i < length shown.strips = omega (arith, size) in
    let strip : get_or shown.strips i [] ≡ steps ++ step ∷ rest = ap (λ l. get_or l i []) is_all ∙ get_or-append_seam strips (steps ++ step ∷ rest) others [] in
    let columns : flat_map step_columns (steps ++ step ∷ rest) ≡ all ++ (step_columns step ++ flat_map step_columns rest) = flat_map-append step_columns steps (step ∷ rest) in
    let live : step.column ≡ five_cells (cell grid) place (5 * i) =
    sym (ap (λ l. get_or l place 0) (ap (flat_map step_columns) strip ∙ columns) ∙ (get_or-append-add all (step_columns step ++ flat_map step_columns rest) step.gap 0 ∙ column_after_gap step.gap step.column (flat_map step_columns rest)))
    ∙ (shown.each i below).columns place in
    elim (cases_lt place (length grid.columns)) [
      | inl within ↦ omega (arith, within, code.is_grid.width)
      | inr east ↦ absurd (omega (arith, live, five_dead grid place (5 * i) (get_or_past grid.columns place 0 east), is_step.some))
    ]

-- no box has the text
pub IsStuck-no_code : (text bytes : List ℕ) (drawing : Drawing) (grid : GridCells) → 0 < length bytes → Reads text bytes drawing.columns.items drawing.x drawing.y → IsStuck drawing bytes → IsCode grid text → ⊥
IsStuck-no_code text bytes drawing grid some reads stuck code =
    let on = code_goes_on text bytes drawing.columns.items drawing.x drawing.y grid reads code in
    let shown = code.is_representation in
    let north : drawing.y ≡ 5 * length reads.strips = reads.drawn.north in
    let size : length shown.strips ≡ length reads.strips + suc (length on.others) = ap length on.is_all ∙ length-append reads.strips ((reads.steps ++ on.more) ∷ on.others) in
    elim stuck [
      | inl rows ↦
          let others : 1 ≤ length on.others = more_strips on.more on.others rows.rest on.each (sym rows.text ∙ on.text) in
          omega (arith, others, size, north, shown.count, rows.full, code.is_grid.height)
      | inr other ↦ elim other [
        | inl columns ↦
            let begins = more_steps on.more on.others columns.step columns.rest columns.is_step on.each (sym columns.text ∙ on.text) in
            let is_all : shown.strips ≡ reads.strips ++ (reads.steps ++ columns.step ∷ begins.rest) ∷ on.others = on.is_all ∙ ap (λ l. reads.strips ++ (reads.steps ++ l) ∷ on.others) begins.is in
            let within = live_in_box grid text code reads.strips on.others reads.steps begins.rest columns.step columns.is_step is_all in
            omega (arith, within, reads.drawn.west, columns.full)
        | inr nothing ↦ some_more on.more on.others bytes some on.each nothing.no_strip nothing.no_step on.text
      ]
    ]
