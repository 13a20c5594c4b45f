-- The printed form of a rule names it.
use Rattle.std.proofs.Common.{◌≡◌, ◌==◌, ◌&&◌, ◌||◌, ℕ, zero, suc, ◌+◌, ◌<◌, List, [], ◌∷◌, ◌++◌, Bool, true, false, not, nat_le, length, drop, map, get_or, refl, ap, sym, ◌∙◌, inl, inr, arith, append_assoc}
use Rattle.std.specs.List.{list_all, list_any, filter}
use Rattle.std.proofs.lemmas.Bool.{and_parts, cases_Bool}
use Rattle.std.proofs.lemmas.Bool.Decides.{nat_tests}
use Rattle.ca_rule.specs.Prelude.{most_of, is_count, has_digit, counts_of, are_digits_up_to, FitsHood, IsSuffix, NamesBsRule, digits_of, suffix_of, printed_bs_rule}
use Rattle.ca_rule.specs.declared.{bs_rule.BsRule.BsRule, counts.Counts.Counts, hood.Hood.Hood}
use Rattle.ca_rule.specs.declared.hood.Hood.TheVariants.{Moore, VonNeumann, Hex}

-- the counts that there can be
abbrev pub numbers : List ℕ
numbers = 0 ∷ 1 ∷ 2 ∷ 3 ∷ 4 ∷ 5 ∷ 6 ∷ 7 ∷ 8 ∷ []

-- the digits of the counts from n onwards
abbrev pub digits_from : Counts → ℕ → List ℕ
digits_from counts n = map (λ m. 48 + m) (filter (is_count counts) (drop n numbers))

-- what holds of each of them holds of each number below 9
pub below_nine : (P : ℕ → Type 0) → P 0 × P 1 × P 2 × P 3 × P 4 × P 5 × P 6 × P 7 × P 8 → (n : ℕ) → n < 9 → P n
below_nine P all zero h = all.0
below_nine P all (suc zero) h = all.1
below_nine P all (suc (suc zero)) h = all.2
below_nine P all (suc (suc (suc zero))) h = all.3
below_nine P all (suc (suc (suc (suc zero)))) h = all.4
below_nine P all (suc (suc (suc (suc (suc zero))))) h = all.5
below_nine P all (suc (suc (suc (suc (suc (suc zero)))))) h = all.6
below_nine P all (suc (suc (suc (suc (suc (suc (suc zero))))))) h = all.7
below_nine P all (suc (suc (suc (suc (suc (suc (suc (suc zero)))))))) h = all.8
below_nine P all (suc (suc (suc (suc (suc (suc (suc (suc (suc n))))))))) h = absurd (omega arith)

numbers-drop : (n : ℕ) → n < 9 → drop n numbers ≡ n ∷ drop (n + 1) numbers
numbers-drop = below_nine (λ n. drop n numbers ≡ n ∷ drop (n + 1) numbers) (refl, refl, refl, refl, refl, refl, refl, refl, refl)

-- from a count onwards they begin with its digit
pub digits_from-counted : (counts : Counts) (n : ℕ) → n < 9 → is_count counts n ≡ true → digits_from counts n ≡ (48 + n) ∷ digits_from counts (n + 1)
digits_from-counted counts n h t = ap (λ ns. map (λ m. 48 + m) (filter (is_count counts) ns)) (numbers-drop n h) ∙ rw t refl

-- from another number onwards they are those of the next one
pub digits_from-other : (counts : Counts) (n : ℕ) → n < 9 → is_count counts n ≡ false → digits_from counts n ≡ digits_from counts (n + 1)
digits_from-other counts n h t = ap (λ ns. map (λ m. 48 + m) (filter (is_count counts) ns)) (numbers-drop n h) ∙ rw t refl

-- a digit that is pushed comes before those from the next number onwards
pub push_counted : (counts : Counts) (n : ℕ) (items whole : List ℕ) → n < 9 → is_count counts n ≡ true → items ++ digits_from counts n ≡ whole → (items ++ ((48 + n) ∷ [])) ++ digits_from counts (n + 1) ≡ whole
push_counted counts n items whole h t e = append_assoc items _ _ ∙ ap (λ l. items ++ l) (sym (digits_from-counted counts n h t)) ∙ e

-- a digit is among those of the counts where it is one of them
has_digit-of : (p : ℕ → Bool) (n : ℕ) (ns : List ℕ) → has_digit (map (λ m. 48 + m) (filter p ns)) n ≡ (list_any (λ m. m == n) ns && p n)
has_digit-of p n [] = refl
has_digit-of p n (m ∷ ms) =
    let more = has_digit-of p n ms in
    elim (cases_Bool (m == n)) [
      | inl e ↦ let same : m ≡ n = grind (arith, nat_tests) in let at = ap p same in elim (cases_Bool (p m)) [
        | inl t ↦ let digit : (48 + m == 48 + n) ≡ true = grind (arith, nat_tests) in rw (t, e, digit) (sym (sym at ∙ t))
        | inr t ↦ let none : p n ≡ false = sym at ∙ t in rw (t, e) (more ∙ grind (arith, nat_tests))
      ]
      | inr e ↦ elim (cases_Bool (p m)) [
        | inl t ↦ let digit : (48 + m == 48 + n) ≡ false = grind (arith, nat_tests) in rw (t, e, digit) more
        | inr t ↦ rw (t, e) more
      ]
    ]

-- a number from 0 to 8 is a count where its digit is printed
pub digit_counts : (counts : Counts) (n : ℕ) → list_any (λ m. m == n) numbers ≡ true → has_digit (digits_of counts) n ≡ is_count counts n
digit_counts counts n h = has_digit-of (is_count counts) n numbers ∙ rw h refl

-- nine cells, one by one
pub nine_cells : (cells : List Bool) → length cells ≡ 9 → map (λ n. get_or cells n false) numbers ≡ cells
nine_cells (a ∷ b ∷ c ∷ d ∷ e ∷ f ∷ g ∷ h ∷ i ∷ []) len = refl
nine_cells [] len = absurd (omega arith)
nine_cells (a ∷ []) len = absurd (omega arith)
nine_cells (a ∷ b ∷ []) len = absurd (omega arith)
nine_cells (a ∷ b ∷ c ∷ []) len = absurd (omega arith)
nine_cells (a ∷ b ∷ c ∷ d ∷ []) len = absurd (omega arith)
nine_cells (a ∷ b ∷ c ∷ d ∷ e ∷ []) len = absurd (omega arith)
nine_cells (a ∷ b ∷ c ∷ d ∷ e ∷ f ∷ []) len = absurd (omega arith)
nine_cells (a ∷ b ∷ c ∷ d ∷ e ∷ f ∷ g ∷ []) len = absurd (omega arith)
nine_cells (a ∷ b ∷ c ∷ d ∷ e ∷ f ∷ g ∷ h ∷ []) len = absurd (omega arith)
nine_cells (a ∷ b ∷ c ∷ d ∷ e ∷ f ∷ g ∷ h ∷ i ∷ j ∷ more) len = absurd (omega arith)

pub map_same : (f g : ℕ → Bool) (ns : List ℕ) → ((n : ℕ) → list_any (λ m. m == n) ns ≡ true → f n ≡ g n) → map f ns ≡ map g ns
map_same f g [] h = refl
map_same f g (m ∷ ms) h =
    let first : f m ≡ g m = h m (grind (arith, nat_tests)) in
    let later = map_same f g ms (λ n k. h n (rw k (grind (arith, nat_tests)))) in
    ap (λ x. x ∷ map f ms) first ∙ ap (λ l. g m ∷ l) later

-- the digits of counts say which counts they are
pub counts-printed : (counts : Counts) → length counts.holds ≡ 9 → counts ≡ counts_of (digits_of counts)
counts-printed counts len =
    sym (ap (λ l. record { holds = l }) (map_same (has_digit (digits_of counts)) (is_count counts) numbers (λ n h. digit_counts counts n h) ∙ nine_cells counts.holds len))

digits-fit_from : (p : ℕ → Bool) (most : ℕ) (ns : List ℕ) → list_all (λ n. nat_le n most || not (p n)) ns ≡ true → are_digits_up_to most (map (λ m. 48 + m) (filter p ns)) ≡ true
digits-fit_from p most [] h = refl
digits-fit_from p most (m ∷ ms) h =
    let parts = and_parts (nat_le m most || not (p m)) (list_all (λ n. nat_le n most || not (p n)) ms) h in
    let more = digits-fit_from p most ms parts.1 in
    elim (cases_Bool (p m)) [
      | inl t ↦ let fits : nat_le m most ≡ true = grind (arith, nat_tests) in let digit : (nat_le 48 (48 + m) && nat_le (48 + m) (48 + most)) ≡ true = grind (arith, nat_tests) in rw (t, digit) more
      | inr t ↦ rw t more
    ]

-- the digits of counts that fit a neighbourhood are digits of it
pub digits-fit : (counts : Counts) (hood : Hood) → FitsHood counts hood → are_digits_up_to (most_of hood) (digits_of counts) ≡ true
digits-fit counts hood h = digits-fit_from (is_count counts) (most_of hood) numbers h

suffix-is : (hood : Hood) → IsSuffix hood (suffix_of hood)
suffix-is Moore = refl
suffix-is VonNeumann = (86, inl refl, refl)
suffix-is Hex = (72, inl refl, refl)

-- the printed form of a rule names it
pub names_itself : (rule : BsRule) → length rule.birth.holds ≡ 9 → length rule.survival.holds ≡ 9 → is_count rule.birth 0 ≡ false → FitsHood rule.birth rule.hood → FitsHood rule.survival rule.hood
    → NamesBsRule (printed_bs_rule rule.hood rule.birth rule.survival) rule
names_itself rule lb ls stays fb fs = record {
  birth = digits_of rule.birth;
  survival = digits_of rule.survival;
  spells = record {
    birth_digits = digits-fit rule.birth rule.hood fb;
    survival_digits = digits-fit rule.survival rule.hood fs;
    form = inl (66, 83, 47 ∷ [], suffix_of rule.hood, inl refl, inl refl, inr refl, suffix-is rule.hood, refl);
  };
  stays_empty = digit_counts rule.birth 0 refl ∙ stays;
  birth_is = counts-printed rule.birth lb;
  survival_is = counts-printed rule.survival ls;
}
