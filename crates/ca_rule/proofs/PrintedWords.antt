-- The printed form of a rule is one word.
use Rattle.std.proofs.Common.{◌≡◌, ℕ, ◌+◌, List, [], ◌∷◌, ◌++◌, Bool, true, nat_le, map, filter, refl, inl, inr, arith}
use Rattle.std.specs.List.{list_all}
use Rattle.std.proofs.lemmas.Bool.{and_parts, and_from, cases_Bool}
use Rattle.std.proofs.lemmas.Bool.Decides.{nat_tests}
use Rattle.ca_plane.specs.Prelude.{Every, is_word_byte, IsWord}
use Rattle.ca_plane.proofs.Fronts.{every_append}
use Rattle.ca_rule.specs.Prelude.{is_count, digits_of, suffix_of, printed_bs_rule}
use Rattle.ca_rule.specs.declared.{counts.Counts.Counts, hood.Hood.Hood}
use Rattle.ca_rule.specs.declared.hood.Hood.TheVariants.{Moore, VonNeumann, Hex}
use Rattle.ca_rule.proofs.PrintedRules.{numbers}

-- the digits of some numbers up to 8 may be in a word
pub digits_in_word : (p : ℕ → Bool) (ns : List ℕ) → list_all (λ n. nat_le n 8) ns ≡ true → Every is_word_byte (map (λ n. 48 + n) (filter p ns))
digits_in_word p [] h = refl
digits_in_word p (m ∷ ms) h =
    let parts = and_parts (nat_le m 8) (list_all (λ n. nat_le n 8) ms) h in
    let more = digits_in_word p ms parts.1 in
    let digit : is_word_byte (48 + m) ≡ true = grind (arith, nat_tests) in
    elim (cases_Bool (p m)) [ inl t ↦ rw t (and_from _ _ digit more) | inr t ↦ rw t more ]

suffix_in_word : (hood : Hood) → Every is_word_byte (suffix_of hood)
suffix_in_word Moore = refl
suffix_in_word VonNeumann = refl
suffix_in_word Hex = refl

-- the printed form of a rule is a word
pub printed_is_word : (hood : Hood) (birth survival : Counts) → IsWord (printed_bs_rule hood birth survival)
printed_is_word hood birth survival =
    let later = every_append is_word_byte (digits_of survival) (suffix_of hood) (digits_in_word (is_count survival) numbers refl) (suffix_in_word hood) in
    every_append is_word_byte (digits_of birth) (47 ∷ 83 ∷ (digits_of survival ++ suffix_of hood)) (digits_in_word (is_count birth) numbers refl) later
