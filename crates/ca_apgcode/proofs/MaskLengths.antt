-- Lengths of strips from masks of their columns.
use Rattle.std.proofs.Common.{◌≡◌, ◌≢◌, ℕ, zero, suc, ◌+◌, ◌-◌, ◌^◌, ◌<◌, ◌≤◌, max, length, get_or, refl, sym, ap, subst, ◌∙◌, inl, inr, length-append, arith}
use Rattle.std.specs.Prelude.{bit_or, count_ones}
use Rattle.std.specs.Int.{bit_at}
use Rattle.std.proofs.lemmas.Bool.{cases_eq, eq-eqb, ne_eqb}
use Rattle.std.proofs.lemmas.Nat.Bits.{bit_at-lt, bit_at_or, bit_at_above}
use Rattle.ca_apgcode.specs.Prelude.{GridCells, cell, five_cells, gap_text, step_text}
use Rattle.ca_apgcode.specs.inner.Lengths.{IsStripLength}
use Rattle.ca_apgcode.specs.inner.Sides.{IsStripMask, west_bit, bits_without, text_length}
use Rattle.ca_apgcode.proofs.Lengths.{MeasuresColumns, MeasuresColumns-none, MeasuresColumns-more, MeasuresColumns-all}
use Rattle.ca_apgcode.proofs.MaskBits.{ones_below, all_ones, ones_past, rest_bit, without_fits}
use Rattle.ca_apgcode.proofs.StepTexts.{long_text}

-- ---- the text of a step

-- four bits before a column, the nearest first, where `gap` columns before it have no live cells
pub record AreBefore (gap one two three four : ℕ) : Type 0 where
  pub none_one : 1 ≤ gap → one ≡ 0
  pub none_two : 2 ≤ gap → two ≡ 0
  pub none_three : 3 ≤ gap → three ≡ 0
  pub none_four : 4 ≤ gap → four ≡ 0
  pub some_one : gap ≡ 0 → one ≡ 1
  pub some_two : gap ≡ 1 → two ≡ 1
  pub some_three : gap ≡ 2 → three ≡ 1
  pub some_four : gap ≡ 3 → four ≡ 1

-- how long the text of a gap is
gap_length : (gap one two three four : ℕ) → one < 2 → two < 2 → three < 2 → four < 2 → AreBefore gap one two three four → length (gap_text gap) ≡ (1 - one) + (1 - max (max (max one two) three) four)
gap_length zero one two three four a b c d is = let e = is.some_one refl in omega (arith, a, b, c, d, e)
gap_length (suc zero) one two three four a b c d is = let e = is.none_one (omega arith) in let f = is.some_two refl in omega (arith, a, b, c, d, e, f)
gap_length (suc (suc zero)) one two three four a b c d is = let e = is.none_one (omega arith) in let f = is.some_three refl in omega (arith, a, b, c, d, e, f)
gap_length (suc (suc (suc zero))) one two three four a b c d is = let e = is.none_one (omega arith) in let f = is.some_four refl in omega (arith, a, b, c, d, e, f)
gap_length (suc (suc (suc (suc n)))) one two three four a b c d is =
    let gap = suc (suc (suc (suc n))) in
    let e = is.none_one (omega arith) in
    let f = is.none_two (omega arith) in
    let g = is.none_three (omega arith) in
    let h = is.none_four (omega arith) in
    ap length (long_text gap (omega arith)) ∙ omega (arith, e, f, g, h)

-- the next column has no live cells
AreBefore-dead : (gap one two three four : ℕ) → AreBefore gap one two three four → AreBefore (gap + 1) 0 one two three
AreBefore-dead gap one two three four is = record {
  none_one = λ h. refl;
  none_two = λ h. is.none_one (omega (arith, h));
  none_three = λ h. is.none_two (omega (arith, h));
  none_four = λ h. is.none_three (omega (arith, h));
  some_one = λ h. absurd (omega (arith, h));
  some_two = λ h. is.some_one (omega (arith, h));
  some_three = λ h. is.some_two (omega (arith, h));
  some_four = λ h. is.some_three (omega (arith, h));
}

-- or it has some
AreBefore-live : (one two three : ℕ) → AreBefore 0 1 one two three
AreBefore-live one two three = record {
  none_one = λ h. absurd (omega (arith, h));
  none_two = λ h. absurd (omega (arith, h));
  none_three = λ h. absurd (omega (arith, h));
  none_four = λ h. absurd (omega (arith, h));
  some_one = λ h. refl;
  some_two = λ h. absurd (omega (arith, h));
  some_three = λ h. absurd (omega (arith, h));
  some_four = λ h. absurd (omega (arith, h));
}

-- ---- a strip of a box

-- five cells are dead, or the mask has the bit
five_mask : (grid : GridCells) (y mask x : ℕ) → IsStripMask (cell grid) y mask → bit_at mask x ≡ 0 → five_cells (cell grid) x y ≡ 0
five_mask grid y mask x is none =
    let dead = λ (v : ℕ) (within : v < 5). not_one (cell grid x (y + v)) (bit_at-lt (get_or grid.columns x 0) (y + v)) (λ one. let live = is.all x v within one in omega (arith, live, none)) in
    let first : cell grid x y ≡ 0 = subst (λ k. cell grid x k ≡ 0) (let e : y + 0 ≡ y = omega arith in e) (dead 0 (omega arith)) in
    let a = dead 1 (omega arith) in
    let b = dead 2 (omega arith) in
    let c = dead 3 (omega arith) in
    let d = dead 4 (omega arith) in
    omega (arith, first, a, b, c, d)
  where
    not_one : (n : ℕ) → n < 2 → n ≢ 1 → n ≡ 0
    not_one n low other = omega (arith, low, other)

five_some : (grid : GridCells) (y mask x : ℕ) → IsStripMask (cell grid) y mask → bit_at mask x ≡ 1 → five_cells (cell grid) x y ≢ 0
five_some grid y mask x is one none =
    let at = is.some x one in
    each at.0 at.1 at.2
  where
    each : (v : ℕ) → v < 5 → cell grid x (y + v) ≡ 1 → ⊥
    each zero low live = let first : cell grid x y ≡ 1 = subst (λ k. cell grid x k ≡ 1) (let e : y + 0 ≡ y = omega arith in e) live in omega (arith, first, none)
    each (suc zero) low live = omega (arith, live, none)
    each (suc (suc zero)) low live = omega (arith, live, none)
    each (suc (suc (suc zero))) low live = omega (arith, live, none)
    each (suc (suc (suc (suc zero)))) low live = omega (arith, live, none)
    each (suc (suc (suc (suc (suc v))))) low live = omega (arith, low)

five_most : (grid : GridCells) (x y : ℕ) → five_cells (cell grid) x y ≤ 31
five_most grid x y =
    let at = λ (k : ℕ). bit_at-lt (get_or grid.columns x 0) k in
    let a = at y in
    let b = at (y + 1) in
    let c = at (y + 2) in
    let d = at (y + 3) in
    let e = at (y + 4) in
    omega (arith, a, b, c, d, e)

-- the length of a strip's text from its mask, and the bits before each of its columns
module _ (grid : GridCells) (y mask one two three four near gaps longs : ℕ) (is : IsStripMask (cell grid) y mask) (low : mask < 2 ^ 40)
    (is_one : (x : ℕ) → x < 64 → bit_at one x ≡ west_bit mask x) (is_two : (x : ℕ) → x < 64 → bit_at two x ≡ west_bit one x)
    (is_three : (x : ℕ) → x < 64 → bit_at three x ≡ west_bit two x) (is_four : (x : ℕ) → x < 64 → bit_at four x ≡ west_bit three x)
    (is_near : near ≡ bit_or (bit_or (bit_or one two) three) four)
    (are_gaps : (x : ℕ) → bit_at gaps x ≡ bit_at mask x - bit_at one x) (are_longs : (x : ℕ) → bit_at longs x ≡ bit_at mask x - bit_at near x) where
  -- the first columns
  record MeasuresMask (x : ℕ) : Type 0 where
    gap : ℕ
    n : ℕ
    measures : MeasuresColumns (cell grid) y x gap n
    few : gap ≤ x
    before : AreBefore gap (bit_at one x) (bit_at two x) (bit_at three x) (bit_at four x)
    sum : n ≡ ones_below mask x + ones_below gaps x + ones_below longs x

  near_bit : (x : ℕ) → bit_at near x ≡ max (max (max (bit_at one x) (bit_at two x)) (bit_at three x)) (bit_at four x)
  near_bit x = ap (λ n. bit_at n x) is_near ∙ (bit_at_or (bit_or (bit_or one two) three) four x ∙ ap (λ n. max n (bit_at four x)) (bit_at_or (bit_or one two) three x ∙ ap (λ n. max n (bit_at three x)) (bit_at_or one two x)))

  first : MeasuresMask 0
  first = record {
    gap = 0;
    n = 0;
    measures = MeasuresColumns-none (cell grid) y;
    few = omega arith;
    before = record {
      none_one = λ h. absurd (omega (arith, h));
      none_two = λ h. absurd (omega (arith, h));
      none_three = λ h. absurd (omega (arith, h));
      none_four = λ h. absurd (omega (arith, h));
      some_one = λ h. is_one 0 (omega arith);
      some_two = λ h. is_two 0 (omega arith);
      some_three = λ h. is_three 0 (omega arith);
      some_four = λ h. is_four 0 (omega arith);
    };
    sum = refl;
  }

  -- a column without live cells
  dead : (x : ℕ) → x < 40 → bit_at mask x ≡ 0 → MeasuresMask x → MeasuresMask (suc x)
  dead x within none so_far =
      let column = five_cells (cell grid) x y in
      let blank : column ≡ 0 = five_mask grid y mask x is none in
      let next : suc x ≡ x + 1 = omega arith in
      let a = are_gaps x in
      let b = are_longs x in
      let sum = so_far.sum in
      let few = so_far.few in
      record {
        gap = so_far.gap + 1;
        n = so_far.n;
        measures = subst (λ k. MeasuresColumns (cell grid) y k (so_far.gap + 1) so_far.n) (sym next) (subst (MeasuresColumns (cell grid) y (x + 1) (so_far.gap + 1)) (let e : so_far.n + 0 ≡ so_far.n = omega arith in e)
            (MeasuresColumns-more (cell grid) y x so_far.gap column (so_far.gap + 1) so_far.n 0 refl (five_most grid x y) (omega (arith, few, within)) (rw (eq-eqb column 0 blank) refl) (rw (eq-eqb column 0 blank) refl) (omega arith) so_far.measures));
        few = omega (arith, few);
        before = subst (λ o. AreBefore (so_far.gap + 1) o (bit_at two (suc x)) (bit_at three (suc x)) (bit_at four (suc x))) (sym (is_one (suc x) (omega (arith, within)) ∙ none))
            (subst (λ o. AreBefore (so_far.gap + 1) 0 o (bit_at three (suc x)) (bit_at four (suc x))) (sym (is_two (suc x) (omega (arith, within))))
            (subst (λ o. AreBefore (so_far.gap + 1) 0 (bit_at one x) o (bit_at four (suc x))) (sym (is_three (suc x) (omega (arith, within))))
            (subst (λ o. AreBefore (so_far.gap + 1) 0 (bit_at one x) (bit_at two x) o) (sym (is_four (suc x) (omega (arith, within))))
            (AreBefore-dead so_far.gap (bit_at one x) (bit_at two x) (bit_at three x) (bit_at four x) so_far.before))));
        sum = omega (arith, sum, none, a, b);
      }

  -- a column with some
  live : (x : ℕ) → x < 40 → bit_at mask x ≡ 1 → MeasuresMask x → MeasuresMask (suc x)
  live x within one_here so_far =
      let column = five_cells (cell grid) x y in
      let some : column ≢ 0 = five_some grid y mask x is one_here in
      let next : suc x ≡ x + 1 = omega arith in
      let a = are_gaps x in
      let b = are_longs x in
      let c = near_bit x in
      let sum = so_far.sum in
      let few = so_far.few in
      let gap_is = gap_length so_far.gap (bit_at one x) (bit_at two x) (bit_at three x) (bit_at four x) (bit_at-lt one x) (bit_at-lt two x) (bit_at-lt three x) (bit_at-lt four x) so_far.before in
      let k = length (step_text (record { gap = so_far.gap; column = column })) in
      let k_is : k ≡ length (gap_text so_far.gap) + 1 = length-append (gap_text so_far.gap) _ in
      record {
        gap = 0;
        n = so_far.n + k;
        measures = subst (λ k'. MeasuresColumns (cell grid) y k' 0 (so_far.n + k)) (sym next)
            (MeasuresColumns-more (cell grid) y x so_far.gap column 0 so_far.n k refl (five_most grid x y) (omega (arith, few, within)) (rw (ne_eqb column 0 some) refl) (rw (ne_eqb column 0 some) refl) (omega (arith, k_is, gap_is)) so_far.measures);
        few = omega arith;
        before = subst (λ o. AreBefore 0 o (bit_at two (suc x)) (bit_at three (suc x)) (bit_at four (suc x))) (sym (is_one (suc x) (omega (arith, within)) ∙ one_here)) (AreBefore-live (bit_at two (suc x)) (bit_at three (suc x)) (bit_at four (suc x)));
        sum = omega (arith, sum, one_here, a, b, c, k_is, gap_is);
      }

  -- all columns
  columns : (x : ℕ) → x ≤ 40 → MeasuresMask x
  columns zero fits = first
  columns (suc x) fits = elim (cases_eq (bit_at mask x) 1) [
    | inl one_here ↦ live x (omega (arith, fits)) one_here (columns x (omega (arith, fits)))
    | inr other ↦ let below = bit_at-lt mask x in dead x (omega (arith, fits)) (omega (arith, below, other)) (columns x (omega (arith, fits)))
  ]

  -- no bit is further east
  east : (x : ℕ) → 40 ≤ x → bit_at mask x ≡ 0
  east x far = bit_at_above mask 40 x low far

  all_of : (n : ℕ) → n < 2 ^ 64 → ((x : ℕ) → 40 ≤ x → bit_at n x ≡ 0) → count_ones n ≡ ones_below n 40
  all_of n fits none = all_ones n 64 fits ∙ ones_past n 40 24 (λ x from below. none x from)

  pub of_mask : mask < 2 ^ 64 → gaps < 2 ^ 64 → longs < 2 ^ 64 → IsStripLength (cell grid) y (count_ones mask + count_ones gaps + count_ones longs)
  of_mask a b c =
      let all = columns 40 (omega arith) in
      let m = all_of mask a east in
      let g = all_of gaps b (λ x far. let here = are_gaps x in let none = east x far in omega (arith, here, none)) in
      let l = all_of longs c (λ x far. let here = are_longs x in let none = east x far in omega (arith, here, none)) in
      let sum = all.sum in
      subst (IsStripLength (cell grid) y) (omega (arith, sum, m, g, l)) (MeasuresColumns-all (cell grid) y 40 all.gap all.n (omega arith) (λ k far. five_mask grid y mask k is (east k far)) all.measures)

-- so the text of a strip is as long as its mask says
pub IsStripLength-mask : (grid : GridCells) (y mask one two three four : ℕ) → IsStripMask (cell grid) y mask → mask < 2 ^ 40 → ((x : ℕ) → x < 64 → bit_at one x ≡ west_bit mask x) → ((x : ℕ) → x < 64 → bit_at two x ≡ west_bit one x)
    → ((x : ℕ) → x < 64 → bit_at three x ≡ west_bit two x) → ((x : ℕ) → x < 64 → bit_at four x ≡ west_bit three x) → IsStripLength (cell grid) y (text_length mask one two three four)
IsStripLength-mask grid y mask one two three four is low is_one is_two is_three is_four =
    let near = bit_or (bit_or (bit_or one two) three) four in
    let fits : mask < 2 ^ 64 = omega (arith, low) in
    of_mask grid y mask one two three four near (bits_without mask one) (bits_without mask near) is low is_one is_two is_three is_four refl (rest_bit mask one) (rest_bit mask near)
    fits (without_fits mask one fits) (without_fits mask near fits)
