-- The cells of a text that is read, and why one is not read.
use Rattle.std.proofs.Common.{◌≡◌, ℕ, ◌+◌, ◌-◌, ◌*◌, ◌/◌, ◌^◌, ◌<◌, ◌≤◌, List, [], ◌∷◌, ◌++◌, length, get_or, refl, sym, ap, ap₂, subst, ◌∙◌, inl, inr, append_assoc, length-append, arith}
use Rattle.std.specs.Int.{bit_at}
use Rattle.std.specs.List.{flat_map, AllByRecursion}
use Rattle.std.proofs.Math.Seq.{get_or-append_seam}
use Rattle.std.proofs.lemmas.Bool.{cases_lt}
use Rattle.std.proofs.lemmas.List.{append-nil, get_or_append_left, nil_from_length}
use Rattle.std.proofs.lemmas.Nat.Bits.{bit_at_above, same_from_bits}
use Rattle.ca_apgcode.specs.Prelude.{GridCells, cell, IsLeastOf, Step, IsStep, IsStrip, IsCode, step_text, step_columns}
use Rattle.ca_apgcode.specs.inner.Reading.{step_at}
use Rattle.ca_apgcode.proofs.StepTexts.{step_again, not_both, later_strips}
use Rattle.ca_apgcode.proofs.Codes.{one_least_grid, each_by_index, cells_from_five, some_strips}
use Rattle.ca_apgcode.proofs.Heights.{pow_most}
use Rattle.ca_apgcode.proofs.Drawn.{IsDrawn, cells_of}
use Rattle.ca_apgcode.proofs.ReadTexts.{Reads, GoOn, first_strips, strips_text}

-- each strip that is drawn, the last one too
drawn_strip : (columns : List ℕ) (x y : ℕ) (strips : List (List Step)) (steps : List Step) (i : ℕ) → IsDrawn columns x y strips steps → i < length strips + 1 → IsStrip (cells_of columns) (5 * i) (get_or (strips ++ steps ∷ []) i [])
drawn_strip columns x y strips steps i drawn below = elim (cases_lt i (length strips)) [
  | inl before ↦ rw (get_or_append_left strips (steps ∷ []) [] i before) (drawn.above i before)
  | inr from ↦
      let here : i ≡ length strips = omega (arith, below, from) in
      rw (here, get_or-append_seam strips steps [] []) (subst (λ z. IsStrip (cells_of columns) z steps) drawn.north drawn.last)
]

-- the box that is read has the text
pub IsCode-read : (text columns : List ℕ) (x y : ℕ) (grid : GridCells) → Reads text [] columns x y → IsLeastOf columns grid → y < grid.height → IsCode grid text
IsCode-read text columns x y grid reads least high =
    let all = reads.strips ++ reads.steps ∷ [] in
    let size : length all ≡ length reads.strips + 1 = length-append reads.strips (reads.steps ∷ []) in
    let north : y ≡ 5 * length reads.strips = reads.drawn.north in
    let south = least.is_least.south in
    let low : grid.height ≤ y + 5 = elim (cases_lt (grid.height - 1) (y + 5)) [
      | inl within ↦ omega (arith, within)
      | inr out ↦
          let none : cell grid south.0 (grid.height - 1) ≡ 0 = ap (λ n. bit_at n (grid.height - 1)) (least.same south.0) ∙ bit_at_above (get_or columns south.0 0) (y + 5) (grid.height - 1) (reads.drawn.low south.0) out in
          absurd (omega (arith, none, south.1))
    ] in
    record {
      is_grid = least.is_grid;
      is_least = least.is_least;
      is_representation = record {
        strips = all;
        count = omega (arith, size, north, high, low);
        each = λ i below.
            let strip = drawn_strip columns x y reads.strips reads.steps i reads.drawn (omega (arith, below, size)) in
            record { each = strip.each; columns = λ k. strip.columns k ∙ ap (λ n. bit_at n (5 * i) + 2 * bit_at n (5 * i + 1) + 4 * bit_at n (5 * i + 2) + 8 * bit_at n (5 * i + 3) + 16 * bit_at n (5 * i + 4)) (sym (least.same k)) };
        whole = reads.whole ∙ append-nil (strips_text all);
      };
    }

-- where a box has the text, its strips go on as those that are read
pub code_goes_on : (text bytes columns : List ℕ) (x y : ℕ) (grid : GridCells) (reads : Reads text bytes columns x y) (code : IsCode grid text) → GoOn code.is_representation.strips reads.strips reads.steps bytes
code_goes_on text bytes columns x y grid reads code =
    let shown = code.is_representation in
    first_strips reads.strips reads.steps shown.strips bytes (some_strips grid text code)
    (each_by_index (AllByRecursion IsStep) reads.strips (λ i below. (reads.drawn.above i below).each))
    reads.drawn.last.each
    (each_by_index (AllByRecursion IsStep) shown.strips (λ i below. (shown.each i below).each))
    (sym reads.whole ∙ shown.whole)

-- nothing follows the last step
no_more : (more : List Step) (others : List (List Step)) → AllByRecursion IsStep more → [] ≡ flat_map step_text more ++ later_strips others → (more ≡ []) × (others ≡ [])
no_more [] [] each same = (refl, refl)
no_more [] (strip ∷ others) each same = absurd (cc)
no_more (step ∷ more) others each same =
    absurd (not_both step (flat_map step_text more ++ later_strips others) (step_at []) refl (ap step_at (same ∙ append_assoc (step_text step) (flat_map step_text more) (later_strips others)) ∙ step_again step (flat_map step_text more ++ later_strips others) each.0))

-- a box that has the text is the smallest one of the cells that are read
pub IsLeastOf-code : (text columns : List ℕ) (x y : ℕ) (grid : GridCells) → Reads text [] columns x y → IsCode grid text → IsLeastOf columns grid × (y < grid.height)
IsLeastOf-code text columns x y grid reads code =
    let shown = code.is_representation in
    let on = code_goes_on text [] columns x y grid reads code in
    let none = no_more on.more on.others on.each on.text in
    let all = reads.strips ++ reads.steps ∷ [] in
    let is_all : shown.strips ≡ all = on.is_all ∙ ap₂ (λ m o. reads.strips ++ (reads.steps ++ m) ∷ o) none.0 none.1 ∙ ap (λ l. reads.strips ++ l ∷ []) (append-nil reads.steps) in
    let size : length shown.strips ≡ length reads.strips + 1 = ap length is_all ∙ length-append reads.strips (reads.steps ∷ []) in
    let count : length shown.strips ≡ (grid.height + 4) / 5 = shown.count in
    let north : y ≡ 5 * length reads.strips = reads.drawn.north in
    let other : GridCells = record { height = 0; columns = columns } in (
      record {
        is_grid = code.is_grid;
        is_least = code.is_least;
        same = λ k. same_from_bits (get_or grid.columns k 0) (get_or columns k 0) (λ v. elim (cases_lt (v / 5) (length shown.strips)) [
          | inl within ↦
              let strip = drawn_strip columns x y reads.strips reads.steps (v / 5) reads.drawn (omega (arith, within, size)) in
              cells_from_five grid other k (v / 5) v refl (sym ((shown.each (v / 5) within).columns k) ∙ (ap (λ l. get_or (flat_map step_columns (get_or l (v / 5) [])) k 0) is_all ∙ strip.columns k))
          | inr south ↦
              bit_at_above (get_or grid.columns k 0) grid.height v (code.is_grid.rows k) (omega (arith, south, count))
              ∙ sym (bit_at_above (get_or columns k 0) (y + 5) v (reads.drawn.low k) (omega (arith, south, size, north)))
        ]);
      },
      omega (arith, count, size, north),
    )

-- nothing is left
pub reads_all : (text bytes columns : List ℕ) (x y : ℕ) → length bytes ≡ 0 → Reads text bytes columns x y → Reads text [] columns x y
reads_all text bytes columns x y none reads = subst (λ l. Reads text l columns x y) (nil_from_length bytes none) reads

-- the columns that are drawn are low
pub low_columns : (columns : List ℕ) (x y : ℕ) (strips : List (List Step)) (steps : List Step) → IsDrawn columns x y strips steps → (k : ℕ) → get_or columns k 0 < 2 ^ 40
low_columns columns x y strips steps drawn k =
    let north : y ≡ 5 * length strips = drawn.north in
    let most : y + 5 ≤ 40 = omega (arith, north, drawn.height) in
    omega (arith, drawn.low k, pow_most (y + 5) 40 most)

-- columns have one smallest box
pub one_least_of : (columns : List ℕ) (grid other : GridCells) → IsLeastOf columns grid → IsLeastOf columns other → grid ≡ other
one_least_of columns grid other one two = one_least_grid grid other one.is_grid two.is_grid one.is_least two.is_least (λ x y. ap (λ n. bit_at n y) (one.same x ∙ sym (two.same x)))
