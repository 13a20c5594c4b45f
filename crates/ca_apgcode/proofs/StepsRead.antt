-- A step that is read stands at the front.
use Rattle.std.proofs.Common.{◌≡◌, ℕ, ◌+◌, ◌-◌, ◌<◌, ◌≤◌, ◌==◌, nat_le, nat_lt, ◌&&◌, true, List, [], ◌∷◌, ◌++◌, Option, Some, None, option_and_then, refl, sym, ap, ap₂, ◌∙◌, inl, inr, append_assoc, arith}
use Rattle.std.proofs.lemmas.Bool.{cases_Bool, ne_eqb, eqb-true}
use Rattle.std.proofs.lemmas.Bool.Decides.{nat_tests}
use Rattle.ca_apgcode.specs.Prelude.{Step, IsStep, digit, gap_text, step_text}
use Rattle.ca_apgcode.specs.inner.Reading.{digit_value, long_gap_at, gap_at, column_at, step_at}

some_same : {X : Type 0} (a b : X) → Some a ≡ Some b → a ≡ b
some_same a b same = cc

none_some : {X : Type 0} (a : X) (o : Option X) → o ≡ None → o ≡ Some a → ⊥
none_some a o none some = cc

parts_same : {X Y : Type 0} (a c : X) (b d : Y) (o : Option (X × Y)) → o ≡ Some (a, b) → o ≡ Some (c, d) → (a ≡ c) × (b ≡ d)
parts_same {X} {Y} a c b d o first second =
    let one : X × Y = (a, b) in
    let other : X × Y = (c, d) in
    let pairs : one ≡ other = some_same one other (sym first ∙ second) in
    (ap (λ (q : X × Y). q.0) pairs, ap (λ (q : X × Y). q.1) pairs)

low_digit : (b : ℕ) → (nat_le 48 b && nat_le b 57) ≡ true → b ≡ digit (b - 48)
low_digit b low = grind (arith, nat_tests)

low_bound : (b : ℕ) → (nat_le 48 b && nat_le b 57) ≡ true → b - 48 < 36
low_bound b low = grind (arith, nat_tests)

high_digit : (b : ℕ) → (nat_le 97 b && nat_le b 122) ≡ true → b ≡ digit (b - 87)
high_digit b high = grind (arith, nat_tests)

high_bound : (b : ℕ) → (nat_le 97 b && nat_le b 122) ≡ true → b - 87 < 36
high_bound b high = grind (arith, nat_tests)

-- a digit is that of its number
digit_there : (b n : ℕ) → digit_value b ≡ Some n → (b ≡ digit n) × (n < 36)
digit_there b n same =
    elim (cases_Bool (nat_le 48 b && nat_le b 57)) [
      | inl low ↦
          let e : b - 48 ≡ n = some_same (b - 48) n (rw low at same) in
          (low_digit b low ∙ ap digit e, rw (← e) (low_bound b low))
      | inr other ↦ elim (cases_Bool (nat_le 97 b && nat_le b 122)) [
        | inl high ↦
            let e : b - 87 ≡ n = some_same (b - 87) n (rw (other, high) at same) in
            (high_digit b high ∙ ap digit e, rw (← e) (high_bound b high))
        | inr none ↦ absurd (none_some n None refl (rw (other, none) at same))
      ]
    ]

long_text : (n : ℕ) → gap_text (n + 4) ≡ 121 ∷ digit n ∷ []
long_text n =
    let back : n + 4 - 4 ≡ n = omega arith in
    rw (ne_eqb (n + 4) 0 (λ e. absurd (omega (arith, e))), ne_eqb (n + 4) 1 (λ e. absurd (omega (arith, e))), ne_eqb (n + 4) 2 (λ e. absurd (omega (arith, e))), ne_eqb (n + 4) 3 (λ e. absurd (omega (arith, e)))) (ap (λ k. 121 ∷ digit k ∷ []) back)

-- one letter
letter_there : (b letter count : ℕ) (bs : List ℕ) (gap : ℕ) (rest : List ℕ) (o : Option (ℕ × List ℕ)) → b ≡ letter → gap_text count ≡ letter ∷ [] → count ≤ 39 → o ≡ Some (count, bs) → o ≡ Some (gap, rest) → (b ∷ bs ≡ gap_text gap ++ rest) × (gap ≤ 39)
letter_there b letter count bs gap rest o is_letter text low first second =
    let parts = parts_same count gap bs rest o first second in
    (ap₂ ◌∷◌ is_letter parts.1 ∙ (ap (λ l. l ++ rest) (sym text) ∙ ap (λ g. gap_text g ++ rest) parts.0), rw (← parts.0) low)

-- a `y` and a digit
long_there : (bs : List ℕ) (gap : ℕ) (rest : List ℕ) → long_gap_at bs ≡ Some (gap, rest) → (121 ∷ bs ≡ gap_text gap ++ rest) × (gap ≤ 39)
long_there [] gap rest same = let q : ℕ × List ℕ = (gap, rest) in absurd (none_some q None refl same)
long_there (d ∷ ds) gap rest same = long_cases (digit_value d) refl
  where
    long_cases : (o : Option ℕ) → digit_value d ≡ o → (121 ∷ d ∷ ds ≡ gap_text gap ++ rest) × (gap ≤ 39)
    long_cases None is = let q : ℕ × List ℕ = (gap, rest) in absurd (none_some q (long_gap_at (d ∷ ds)) (rw is refl) same)
    long_cases (Some n) is =
        let digits = digit_there d n is in
        let parts = parts_same (n + 4) gap ds rest (long_gap_at (d ∷ ds)) (rw is refl) same in
        let low : n + 4 ≤ 39 = omega (arith, digits.1) in
        (ap (λ l. 121 ∷ l) (ap₂ ◌∷◌ digits.0 parts.1) ∙ (ap (λ l. l ++ rest) (sym (long_text n)) ∙ ap (λ g. gap_text g ++ rest) parts.0), rw (← parts.0) low)

some_column : (n : ℕ) → (nat_lt 0 n && nat_lt n 32) ≡ true → 1 ≤ n
some_column n fits = grind (arith, nat_tests)

most_column : (n : ℕ) → (nat_lt 0 n && nat_lt n 32) ≡ true → n ≤ 31
most_column n fits = grind (arith, nat_tests)

-- columns without cells
gap_there : (bytes : List ℕ) (gap : ℕ) (rest : List ℕ) → gap_at bytes ≡ Some (gap, rest) → (bytes ≡ gap_text gap ++ rest) × (gap ≤ 39)
gap_there [] gap rest same = let q : ℕ × List ℕ = (gap, rest) in absurd (none_some q None refl same)
gap_there (b ∷ bs) gap rest same =
    elim (cases_Bool (b == 48)) [
      | inl e ↦ letter_there b 48 1 bs gap rest (gap_at (b ∷ bs)) (eqb-true b 48 e) refl (omega arith) (rw e refl) same
      | inr n0 ↦ elim (cases_Bool (b == 119)) [
        | inl e ↦ letter_there b 119 2 bs gap rest (gap_at (b ∷ bs)) (eqb-true b 119 e) refl (omega arith) (rw (n0, e) refl) same
        | inr n1 ↦ elim (cases_Bool (b == 120)) [
          | inl e ↦ letter_there b 120 3 bs gap rest (gap_at (b ∷ bs)) (eqb-true b 120 e) refl (omega arith) (rw (n0, n1, e) refl) same
          | inr n2 ↦ elim (cases_Bool (b == 121)) [
            | inl e ↦
                let y : b ≡ 121 = eqb-true b 121 e in
                let is : gap_at (b ∷ bs) ≡ long_gap_at bs = rw (n0, n1, n2, e) refl in
                let there = long_there bs gap rest (sym is ∙ same) in
                (ap (λ k. k ∷ bs) y ∙ there.0, there.1)
            | inr n3 ↦
                let parts = parts_same 0 gap (b ∷ bs) rest (gap_at (b ∷ bs)) (rw (n0, n1, n2, n3) refl) same in
                let none : 0 ≤ 39 = omega arith in
                (parts.1 ∙ ap (λ g. gap_text g ++ rest) parts.0, rw (← parts.0) none)
          ]
        ]
      ]
    ]

-- the column after them
column_there : (gap : ℕ) (bytes : List ℕ) (step : Step) (rest : List ℕ) → column_at gap bytes ≡ Some (step, rest) → (bytes ≡ digit step.column ∷ rest) × (step.gap ≡ gap) × (1 ≤ step.column) × (step.column ≤ 31)
column_there gap [] step rest same = let q : Step × List ℕ = (step, rest) in absurd (none_some q None refl same)
column_there gap (d ∷ ds) step rest same = column_cases (digit_value d) refl
  where
    column_cases : (o : Option ℕ) → digit_value d ≡ o → (d ∷ ds ≡ digit step.column ∷ rest) × (step.gap ≡ gap) × (1 ≤ step.column) × (step.column ≤ 31)
    column_cases None is = let q : Step × List ℕ = (step, rest) in absurd (none_some q (column_at gap (d ∷ ds)) (rw is refl) same)
    column_cases (Some n) is =
        let digits = digit_there d n is in
        elim (cases_Bool (nat_lt 0 n && nat_lt n 32)) [
          | inl fits ↦
              let made : Step = record { gap = gap; column = n } in
              let parts = parts_same made step ds rest (column_at gap (d ∷ ds)) (rw (is, fits) refl) same in
              let column : n ≡ step.column = ap (λ (s : Step). s.column) parts.0 in
              let some : 1 ≤ n = some_column n fits in
              let most : n ≤ 31 = most_column n fits in
              (ap₂ ◌∷◌ (digits.0 ∙ ap digit column) parts.1, sym (ap (λ (s : Step). s.gap) parts.0), rw (← column) some, rw (← column) most)
          | inr out ↦ let q : Step × List ℕ = (step, rest) in absurd (none_some q (column_at gap (d ∷ ds)) (rw (is, out) refl) same)
        ]

-- a step
pub step_there : (bytes : List ℕ) (step : Step) (rest : List ℕ) → step_at bytes ≡ Some (step, rest) → IsStep step × (bytes ≡ step_text step ++ rest)
step_there bytes step rest same = step_cases (gap_at bytes) refl
  where
    step_cases : (o : Option (ℕ × List ℕ)) → gap_at bytes ≡ o → IsStep step × (bytes ≡ step_text step ++ rest)
    step_cases None is = let q : Step × List ℕ = (step, rest) in absurd (none_some q (step_at bytes) (ap (option_and_then (λ (g : ℕ × List ℕ). column_at g.0 g.1)) is) same)
    step_cases (Some g) is =
        let gap = gap_there bytes g.0 g.1 is in
        let column = column_there g.0 g.1 step rest (sym (ap (option_and_then (λ (g : ℕ × List ℕ). column_at g.0 g.1)) is) ∙ same) in (
          record { gap = rw column.1 gap.1; some = column.2; most = column.3 },
          gap.0 ∙ (ap (λ l. gap_text g.0 ++ l) column.0 ∙ (ap (λ n. gap_text n ++ digit step.column ∷ rest) (sym column.1) ∙ sym (append_assoc (gap_text step.gap) (digit step.column ∷ []) rest))),
        )
