-- Columns that are drawn, step by step.
use Rattle.std.proofs.Common.{◌≡◌, ℕ, ◌+◌, ◌*◌, ◌/◌, ◌%◌, ◌^◌, ◌<◌, ◌≤◌, max, List, [], ◌∷◌, ◌++◌, length, get_or, replicate, slice_set, bit_or, refl, sym, ap, ap₂, subst, ◌∙◌, inl, inr, length-append, arith}
use Rattle.std.specs.Int.{bit_at}
use Rattle.std.specs.Int.Bits.{or_zero_l}
use Rattle.std.specs.List.{flat_map}
use Rattle.std.proofs.Math.Seq.{get_or-append_seam}
use Rattle.std.proofs.lemmas.Bool.{cases_lt, cases_eq}
use Rattle.std.proofs.lemmas.Grind.{get_or_default_zero, flat_map-append}
use Rattle.std.proofs.lemmas.List.{append-nil, get_or_past, get_or-set_same, get_or-set_other, get_or_append_left, get_or-replicate, length-set, length-replicate}
use Rattle.std.proofs.lemmas.Nat.{shl_whole, shl-shr, or_shr, or_lt, shl_below, shr_below, pow_below, pow_pos}
use Rattle.std.proofs.lemmas.Nat.Bits.{bit_at-zero, bit_at_or, bit_at_above, bit_at_cat_low}
use Rattle.ca_apgcode.specs.Prelude.{Step, IsStep, IsStrip, step_columns}
use Rattle.ca_apgcode.proofs.Columns.{five_bits}
use Rattle.ca_apgcode.proofs.Steps.{each_more, columns_before, columns_between, columns_at}

-- a step is written into columns of 64 cells as it is into others
pub drawn_columns : (columns : List ℕ) (i j k n m c y : ℕ) → i ≡ k → j ≡ k → n ≡ get_or columns i n → k < length columns → m ≡ c → c ≤ 31 → y < 40 → slice_set columns j (bit_or n (m * 2 ^ y % 2 ^ 64)) ≡ slice_set columns k (bit_or (get_or columns k 0) (c * 2 ^ y))
drawn_columns columns i j k n m c y is_i is_j read there is_m low high =
    let within : i < length columns = omega (arith, is_i, there) in
    let column : n ≡ get_or columns k 0 = read ∙ (get_or_default_zero columns i n within ∙ ap (λ p. get_or columns p 0) is_i) in
    let five : c < 2 ^ 5 = omega (arith, low) in
    let room : 5 + y ≤ 64 = omega (arith, high) in
    let shift : m * 2 ^ y % 2 ^ 64 ≡ c * 2 ^ y = ap (λ p. p * 2 ^ y % 2 ^ 64) is_m ∙ shl_whole c 5 y 64 five room in
    ap₂ (λ p v. slice_set columns p v) is_j (ap₂ bit_or column shift)

-- the cells of columns
abbrev pub cells_of : List ℕ → ℕ → ℕ → ℕ
cells_of columns x y = bit_at (get_or columns x 0) y

-- five binary digits of a number
abbrev five : ℕ → ℕ → ℕ
five n y = bit_at n y + 2 * bit_at n (y + 1) + 4 * bit_at n (y + 2) + 8 * bit_at n (y + 3) + 16 * bit_at n (y + 4)

five_zero : (y : ℕ) → five 0 y ≡ 0
five_zero y = rw (bit_at-zero y, bit_at-zero (y + 1), bit_at-zero (y + 2), bit_at-zero (y + 3), bit_at-zero (y + 4)) refl

five_past : (n y : ℕ) → n < 2 ^ y → five n y ≡ 0
five_past n y small = rw (bit_at_above n y y small (omega arith), bit_at_above n y (y + 1) small (omega arith), bit_at_above n y (y + 2) small (omega arith), bit_at_above n y (y + 3) small (omega arith), bit_at_above n y (y + 4) small (omega arith)) refl

-- a column that is drawn from a row down leaves the cells above it
bit_kept : (n c y k : ℕ) → k < y → bit_at (bit_or n (c * 2 ^ y)) k ≡ bit_at n k
bit_kept n c y k above =
    let none : bit_at (c * 2 ^ y) k ≡ 0 = ap (λ m. bit_at m k) (let e : c * 2 ^ y ≡ c * 2 ^ y + 0 = omega arith in e) ∙ (bit_at_cat_low c y 0 k above ∙ bit_at-zero k) in
    bit_at_or n (c * 2 ^ y) k ∙ (rw none (let e : max (bit_at n k) 0 ≡ bit_at n k = omega arith in e))

five_kept : (n c y z : ℕ) → z + 5 ≤ y → five (bit_or n (c * 2 ^ y)) z ≡ five n z
five_kept n c y z above = rw (bit_kept n c y z (omega arith), bit_kept n c y (z + 1) (omega arith), bit_kept n c y (z + 2) (omega arith), bit_kept n c y (z + 3) (omega arith), bit_kept n c y (z + 4) (omega arith)) refl

-- it is drawn where no cells were
five_drawn : (n c y : ℕ) → five n y ≡ 0 → n < 2 ^ (y + 5) → c ≤ 31 → five (bit_or n (c * 2 ^ y)) y ≡ c
five_drawn n c y blank small low =
    let rest : n / 2 ^ y % 32 ≡ 0 = five_bits n y ∙ blank in
    let order : n < 2 ^ (5 + y) = subst (λ k. n < 2 ^ k) (let e : y + 5 ≡ 5 + y = omega arith in e) small in
    let below : n / 2 ^ y < 2 ^ 5 = shr_below n 5 y order in
    let none : n / 2 ^ y ≡ 0 = omega (arith, rest, below) in
    let shifted : bit_or n (c * 2 ^ y) / 2 ^ y ≡ c = or_shr n (c * 2 ^ y) y ∙ (ap₂ bit_or none (shl-shr c y) ∙ or_zero_l c) in
    sym (five_bits (bit_or n (c * 2 ^ y)) y) ∙ (ap (λ m. m % 32) shifted ∙ (let e : c % 32 ≡ c = omega (arith, low) in e))

-- the strips from the north, and the steps of the one from y down, are drawn, and nothing besides
pub record IsDrawn (columns : List ℕ) (x y : ℕ) (strips : List (List Step)) (steps : List Step) : Type 0 where
  pub size : length columns ≡ 40
  pub west : x ≡ length (flat_map step_columns steps)
  pub room : x ≤ 40
  pub north : y ≡ 5 * length strips
  pub height : y < 40
  pub above : (i : ℕ) → i < length strips → IsStrip (cells_of columns) (5 * i) (get_or strips i [])
  pub last : IsStrip (cells_of columns) y steps
  pub low : (k : ℕ) → get_or columns k 0 < 2 ^ (y + 5)

-- nothing is drawn
no_cells : (columns : List ℕ) (k : ℕ) → columns ≡ replicate 40 0 → get_or columns k 0 ≡ 0
no_cells columns k dead = ap (λ l. get_or l k 0) dead ∙ elim (cases_lt k 40) [
  | inl within ↦ get_or-replicate {A = ℕ} 40 k 0 0 within
  | inr past ↦ let cells : List ℕ = replicate 40 0 in get_or_past cells k 0 past
]

pub IsDrawn-none : (columns : List ℕ) (x y : ℕ) → columns ≡ replicate 40 0 → x ≡ 0 → y ≡ 0 → IsDrawn columns x y [] []
IsDrawn-none columns x y dead is_x is_y = record {
  size = ap length dead;
  west = is_x;
  room = omega (arith, is_x);
  north = is_y;
  height = omega (arith, is_y);
  above = λ i below. elim below [ ];
  last = record { each = tt; columns = λ k. sym (ap (λ n. five n y) (no_cells columns k dead) ∙ five_zero y) };
  low = λ k. rw (no_cells columns k dead) (pow_pos (y + 5));
}

-- the next strip begins
pub IsDrawn-end : (columns new : List ℕ) (x y x' y' : ℕ) (strips : List (List Step)) (steps : List Step) → new ≡ columns → x' ≡ 0 → y' ≡ y + 5 → y' < 40 → IsDrawn columns x y strips steps → IsDrawn new x' y' (strips ++ steps ∷ []) []
IsDrawn-end columns new x y x' y' strips steps same is_x is_y high drawn =
    let count : length (strips ++ steps ∷ []) ≡ length strips + 1 = length-append strips (steps ∷ []) in
    let north : y ≡ 5 * length strips = drawn.north in
    record {
      size = ap length same ∙ drawn.size;
      west = is_x;
      room = omega (arith, is_x);
      north = omega (arith, count, north, is_y);
      height = high;
      above = λ i below. subst (λ l. IsStrip (cells_of l) (5 * i) (get_or (strips ++ steps ∷ []) i [])) (sym same) (elim (cases_lt i (length strips)) [
        | inl before ↦ rw (get_or_append_left strips (steps ∷ []) [] i before) (drawn.above i before)
        | inr from ↦
            let here : i ≡ length strips = omega (arith, below, count, from) in
            rw (here, get_or-append_seam strips steps [] []) (subst (λ z. IsStrip (cells_of columns) z steps) north drawn.last)
      ]);
      last = record {
        each = tt;
        columns = λ k. sym (ap₂ (λ l z. five (get_or l k 0) z) same is_y ∙ five_past (get_or columns k 0) (y + 5) (drawn.low k));
      };
      low = λ k. rw (same, is_y) (lower (get_or columns k 0) (y + 5) (y + 5 + 5) (omega arith) (drawn.low k));
    }
  where
    lower : (n a b : ℕ) → a < b → n < 2 ^ a → n < 2 ^ b
    lower n a b less small = omega (arith, small, pow_below a b less)

-- a step is drawn
pub IsDrawn-step : (columns new : List ℕ) (x y x' y' : ℕ) (strips : List (List Step)) (steps : List Step) (step : Step) → IsStep step → new ≡ slice_set columns (x + step.gap) (bit_or (get_or columns (x + step.gap) 0) (step.column * 2 ^ y)) → x' ≡ x + step.gap + 1 → y' ≡ y → x + step.gap < 40 → IsDrawn columns x y strips steps → IsDrawn new x' y' strips (steps ++ step ∷ [])
IsDrawn-step columns new x y x' y' strips steps step is_step written is_x is_y narrow drawn =
    let place = x + step.gap in
    let all = flat_map step_columns steps in
    let west : x ≡ length all = drawn.west in
    let north : y ≡ 5 * length strips = drawn.north in
    let size : length columns ≡ 40 = drawn.size in
    let gap_after : place ≡ length all + step.gap = omega (arith, west) in
    let past_all : length all ≤ place = omega (arith, west) in
    let there : place < length columns = omega (arith, size, narrow) in
    let value = bit_or (get_or columns place 0) (step.column * 2 ^ y) in
    let here : get_or new place 0 ≡ value = ap (λ l. get_or l place 0) written ∙ get_or-set_same columns place value 0 there in
    let others = λ (k : ℕ) (other : k ≡ place → ⊥). ap (λ l. get_or l k 0) written ∙ get_or-set_other columns place k value 0 other in
    let blank : five (get_or columns place 0) y ≡ 0 = sym (drawn.last.columns place) ∙ get_or_past all place 0 past_all in
    let filled : five (get_or new place 0) y ≡ step.column = ap (λ n. five n y) here ∙ five_drawn (get_or columns place 0) step.column y blank (drawn.low place) is_step.most in
    let kept = λ (k z : ℕ) (over : z + 5 ≤ y). elim (cases_eq k place) as (λ _. five (get_or columns k 0) z ≡ five (get_or new k 0) z) [
      | inl same ↦ rw (same, here) (sym (five_kept (get_or columns place 0) step.column y z over))
      | inr other ↦ ap (λ n. five n z) (sym (others k other))
    ] in
    let untouched = λ (k : ℕ) (other : k ≡ place → ⊥). ap (λ n. five n y) (sym (others k other)) in
    let grown : flat_map step_columns (steps ++ step ∷ []) ≡ all ++ (replicate step.gap 0 ++ step.column ∷ []) = flat_map-append step_columns steps (step ∷ []) ∙ ap (λ l. all ++ l) (append-nil (replicate step.gap 0 ++ step.column ∷ [])) in
    let width : length (all ++ (replicate step.gap 0 ++ step.column ∷ [])) ≡ place + 1 = rw (length-append all (replicate step.gap 0 ++ step.column ∷ []), length-append (replicate step.gap 0) (step.column ∷ []), length-replicate {A = ℕ} step.gap 0) (omega (arith, west)) in
    subst (λ z. IsDrawn new x' z strips (steps ++ step ∷ [])) (sym is_y) (record {
      size = ap length written ∙ (length-set columns place value ∙ size);
      west = is_x ∙ (sym width ∙ ap length (sym grown));
      room = omega (arith, is_x, narrow);
      north = north;
      height = drawn.height;
      above = λ i below. record {
        each = (drawn.above i below).each;
        columns = λ k. (drawn.above i below).columns k ∙ kept k (5 * i) (omega (arith, below, north));
      };
      last = record {
        each = each_more IsStep steps step drawn.last.each is_step;
        columns = λ k. ap (λ l. get_or l k 0) grown ∙ elim (cases_lt k (length all)) [
          | inl before ↦ columns_before all step.gap step.column k before ∙ (drawn.last.columns k ∙ untouched k (λ e. absurd (omega (arith, e, before, past_all))))
          | inr from ↦ elim (cases_lt k place) [
            | inl between ↦ columns_between all step.gap step.column k from (omega (arith, between, gap_after)) ∙ (sym (get_or_past all k 0 from) ∙ (drawn.last.columns k ∙ untouched k (λ e. absurd (omega (arith, e, between)))))
            | inr least ↦ elim (cases_eq k place) [
              | inl same ↦ columns_at all step.gap step.column k (same ∙ gap_after) ∙ (sym filled ∙ ap (λ j. five (get_or new j 0) y) (sym same))
              | inr other ↦
                  get_or_past (all ++ (replicate step.gap 0 ++ step.column ∷ [])) k 0 (omega (arith, width, least, other))
                  ∙ (sym (get_or_past all k 0 from) ∙ (drawn.last.columns k ∙ untouched k other))
            ]
          ]
        ];
      };
      low = λ k. elim (cases_eq k place) [
        | inl same ↦ rw (same, here) (or_lt (y + 5) (get_or columns place 0) (step.column * 2 ^ y) (drawn.low place) (shifted step.column y is_step.most))
        | inr other ↦ rw (others k other) (drawn.low k)
      ];
    })
  where
    shifted : (c y : ℕ) → c ≤ 31 → c * 2 ^ y < 2 ^ (y + 5)
    shifted c y low =
        let small : c < 2 ^ 5 = omega (arith, low) in
        subst (λ k. c * 2 ^ y < 2 ^ k) (let e : 5 + y ≡ y + 5 = omega arith in e) (shl_below c 5 y small)
