-- Where no variable comes twice among slots, all slots of one variable take one cell.
use Rattle.std.proofs.Common.{◌≡◌, ◌==◌, ◌%◌, ◌*◌, ◌^◌, ◌<◌, ℕ, List, [], ◌∷◌, ◌++◌, true, false, not, ◌||◌, zip, refl, ap, sym, subst, ◌∙◌, inl, inr, arith, eq-eqb, append_assoc, bit_or}
use Rattle.std.specs.Int.{bit_at}
use Rattle.std.specs.List.{list_all, list_any}
use Rattle.std.proofs.Math.Pow.{pow-lt}
use Rattle.std.proofs.Math.Nat.{mod-eq_of_lt}
use Rattle.std.proofs.Math.Bool.{or-true}
use Rattle.std.proofs.lemmas.Bool.{cases_Bool, false≢true}
use Rattle.std.proofs.lemmas.Bool.Decides.{nat_tests}
use Rattle.std.proofs.lemmas.List.Folds.{list_all-append}
use Rattle.std.proofs.lemmas.Nat.Bits.{bit_at_or, bit_at-pow_same, bit_at-lt}
use Rattle.ca_rule.specs.declared.table.slot.Slot.{Slot}
use Rattle.ca_rule.specs.declared.table.slot.Slot.TheVariants.{Number, Variable}
use Rattle.ca_rule.specs.Prelude.{SlotCell, is_variable, take_one_cell}
use Rattle.ca_rule.specs.inner.TableDistinct.{are_distinct}

-- slots that aren't the variable take any cell beside it
beside : (v c : ℕ) (slots : List Slot) (cells : List ℕ) → list_any (is_variable v) slots ≡ false → list_all (λ (t : SlotCell). not (is_variable v t.0) || (t.1 == c)) (zip slots cells) ≡ true
beside v c [] cells none = refl
beside v c (s ∷ ss) [] none = refl
beside v c (s ∷ ss) (d ∷ ds) none =
    elim (cases_Bool (is_variable v s)) [
      | inl e ↦ let k : true ≡ false = rw e at none in absurd (false≢true (sym k))
      | inr e ↦ rw e (beside v c ss ds (rw e at none))
    ]

-- none of those before is the variable
abbrev IsApart : ℕ → List SlotCell → Type 0
IsApart v before = list_all (λ (t : SlotCell). not (is_variable v t.0)) before ≡ true

apart-any : (v c : ℕ) (before : List SlotCell) → IsApart v before → list_all (λ (t : SlotCell). not (is_variable v t.0) || (t.1 == c)) before ≡ true
apart-any v c [] apart = refl
apart-any v c (t ∷ ts) apart =
    elim (cases_Bool (is_variable v t.0)) [
      | inl e ↦ let k : false ≡ true = rw e at apart in absurd (false≢true k)
      | inr e ↦ rw e (apart-any v c ts (rw e at apart))
    ]

apart-more : (v : ℕ) (before : List SlotCell) (t : SlotCell) → IsApart v before → is_variable v t.0 ≡ false → IsApart v (before ++ t ∷ [])
apart-more v before t apart other = list_all-append (λ (x : SlotCell). not (is_variable v x.0)) before (t ∷ []) ∙ rw (apart, other) refl

same-cell : (c : ℕ) → (c == c) ≡ true
same-cell c = eq-eqb c c refl

-- a slot takes one cell, apart from those before and after it
alone : (w d : ℕ) (before : List SlotCell) (ss : List Slot) (ds : List ℕ) → IsApart w before → list_any (is_variable w) ss ≡ false
    → take_one_cell (before ++ (Variable w, d) ∷ zip ss ds) (Variable w) d ≡ true
alone w d before ss ds apart none =
    list_all-append (λ (t : SlotCell). not (is_variable w t.0) || (t.1 == d)) before ((Variable w, d) ∷ zip ss ds)
    ∙ rw (apart-any w d before apart, same-cell d, or-true (not (w == w)), beside w d ss ds none) refl

one-cell : (before : List SlotCell) (slots : List Slot) (cells : List ℕ) → ((v : ℕ) → list_any (is_variable v) slots ≡ true → IsApart v before) → are_distinct slots ≡ true
    → list_all (λ (t : SlotCell). take_one_cell (before ++ zip slots cells) t.0 t.1) (zip slots cells) ≡ true
one-cell before [] cells apart distinct = refl
one-cell before (s ∷ ss) [] apart distinct = refl
one-cell before (Number n ∷ ss) (d ∷ ds) apart distinct =
    let later = one-cell (before ++ (Number n, d) ∷ []) ss ds (λ v some. apart-more v before (Number n, d) (apart v some) refl) distinct in
    subst (λ all. list_all (λ (t : SlotCell). take_one_cell all t.0 t.1) (zip ss ds) ≡ true) (append_assoc before ((Number n, d) ∷ []) (zip ss ds)) later
one-cell before (Variable w ∷ ss) (d ∷ ds) apart distinct =
    elim (cases_Bool (list_any (is_variable w) ss)) [
      | inl e ↦ let k : false ≡ true = rw e at distinct in absurd (false≢true k)
      | inr e ↦
          let others : are_distinct ss ≡ true = rw e at distinct in
          let first : list_any (is_variable w) (Variable w ∷ ss) ≡ true = rw (same-cell w) refl in
          let unlike : (v : ℕ) → list_any (is_variable v) ss ≡ true → (v == w) ≡ false = λ v some. elim (cases_Bool (v == w)) [
            | inr u ↦ u
            | inl u ↦ let same : v ≡ w = grind (arith, nat_tests) in absurd (false≢true (sym e ∙ ap (λ x. list_any (is_variable x) ss) (sym same) ∙ some))
          ] in
          let later = one-cell (before ++ (Variable w, d) ∷ []) ss ds (λ v some. apart-more v before (Variable w, d) (apart v (rw (unlike v some) some)) (unlike v some)) others in
          let rest = subst (λ all. list_all (λ (t : SlotCell). take_one_cell all t.0 t.1) (zip ss ds) ≡ true) (append_assoc before ((Variable w, d) ∷ []) (zip ss ds)) later in
          rw (alone w d before ss ds (apart w first) e) rest
    ]

-- so all slots of one variable take one cell
pub distinct-take : (slots : List Slot) (cells : List ℕ) → are_distinct slots ≡ true → list_all (λ (t : SlotCell). take_one_cell (zip slots cells) t.0 t.1) (zip slots cells) ≡ true
distinct-take slots cells distinct = one-cell [] slots cells (λ v some. refl) distinct

-- a bit more
pub set-bit : (seen i : ℕ) → i < 64 → bit_at (bit_or seen (1 * 2 ^ i % 2 ^ 64)) i ≡ 1
set-bit seen i few =
    let power : 2 ^ i < 2 ^ 64 = pow-lt few in
    let whole : 1 * 2 ^ i ≡ 2 ^ i = omega arith in
    let one : bit_at (1 * 2 ^ i % 2 ^ 64) i ≡ 1 = ap (λ n. bit_at n i) (ap (λ n. n % 2 ^ 64) whole ∙ mod-eq_of_lt power) ∙ bit_at-pow_same i in
    let both_lists = bit_at_or seen (1 * 2 ^ i % 2 ^ 64) i in
    let small = bit_at-lt seen i in
    omega arith

pub kept-bit : (seen more i : ℕ) → bit_at seen i ≡ 1 → bit_at (bit_or seen more) i ≡ 1
kept-bit seen more i e =
    let both_lists = bit_at_or seen more i in
    let small = bit_at-lt more i in
    omega arith

-- no slot is a variable whose bit is set, with one more slot
pub apart-front : (v w seen : ℕ) (slots later : List Slot) → slots ≡ Variable w ∷ later → bit_at seen (w % 64) ≡ 0 → bit_at seen (v % 64) ≡ 1
    → list_any (is_variable v) later ≡ false → list_any (is_variable v) slots ≡ false
apart-front v w seen slots later e none some rest =
    ap (list_any (is_variable v)) e ∙ elim (cases_Bool (v == w)) [
      | inl u ↦ let same : v ≡ w = grind (arith, nat_tests) in let one : bit_at seen (w % 64) ≡ 1 = ap (λ n. bit_at seen (n % 64)) (sym same) ∙ some in absurd (omega (arith, one, none))
      | inr u ↦ rw u rest
    ]
