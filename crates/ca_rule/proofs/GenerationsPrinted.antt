-- The printed form of a rule of the family Generations names it, and is one word.
use Rattle.std.proofs.Common.{◌≡◌, ◌≤◌, ℕ, List, [], ◌∷◌, ◌++◌, true, false, ◌&&◌, nat_le, length, Some, None, decimal, if◌then◌else◌, refl, sym, ap, ◌∙◌, arith}
use Rattle.std.specs.List.{list_all}
use Rattle.std.proofs.lemmas.Bool.{and_from}
use Rattle.std.proofs.lemmas.Bool.Decides.{nat_tests}
use Rattle.ca_plane.specs.Prelude.{AreDigits, Every, is_digit, is_word_byte, IsWord, value}
use Rattle.ca_plane.proofs.Decimals.{decimal_writes}
use Rattle.ca_plane.proofs.Fronts.{every_append, every_digit, every_wider}
use Rattle.ca_rule.specs.Prelude.{is_count, are_digits, state_count, NamesGenerationsRule, printed_generations_rule, digits_of}
use Rattle.ca_rule.specs.declared.{counts.Counts.Counts, gen_rule.GenRule.GenRule}
use Rattle.ca_rule.specs.declared.hood.Hood.TheVariants.{Moore}
use Rattle.ca_rule.proofs.PrintedRules.{numbers, digits-fit, digit_counts, counts-printed}
use Rattle.ca_rule.proofs.PrintedWords.{digits_in_word}

pub are_digits-of : (ds : List ℕ) → AreDigits ds → are_digits ds ≡ true
are_digits-of [] h = h
are_digits-of (d ∷ ds) h = and_from (nat_le 1 (length (d ∷ ds))) (list_all is_digit (d ∷ ds)) (grind (arith, nat_tests)) h

-- digits that write a number of states are read as it
pub state_count-of : (n : ℕ) (ds : List ℕ) → AreDigits ds → n ≡ value ds → 2 ≤ n → n ≤ 256 → state_count ds ≡ Some n
state_count-of n ds h e low high =
    let least : nat_le 2 (value ds) ≡ true = grind (arith, nat_tests) in
    let most : nat_le (value ds) 256 ≡ true = grind (arith, nat_tests) in
    let good = and_from (are_digits ds) (nat_le 2 (value ds) && nat_le (value ds) 256) (are_digits-of ds h) (and_from (nat_le 2 (value ds)) (nat_le (value ds) 256) least most) in
    ap (λ t. if t then Some (value ds) else None) good ∙ ap Some (sym e)

-- the printed form of a rule names it
pub names_itself : (rule : GenRule) → length rule.survival.holds ≡ 9 → length rule.birth.holds ≡ 9 → is_count rule.birth 0 ≡ false → 2 ≤ rule.states → rule.states ≤ 256
    → NamesGenerationsRule (printed_generations_rule rule.survival rule.birth rule.states) rule
names_itself rule ls lb stays low high =
    let digits = decimal_writes rule.states (omega arith) in
    record {
      survival = digits_of rule.survival;
      birth = digits_of rule.birth;
      spells = record {
        survival_digits = digits-fit rule.survival Moore refl;
        birth_digits = digits-fit rule.birth Moore refl;
        number = decimal rule.states;
        number_is = state_count-of rule.states (decimal rule.states) digits.0 digits.1 low high;
        form = refl;
      };
      stays_empty = digit_counts rule.birth 0 refl ∙ stays;
      survival_is = counts-printed rule.survival ls;
      birth_is = counts-printed rule.birth lb;
    }

-- bytes of a word and one more after them are a word
word-before : (bs : List ℕ) (b : ℕ) (more : List ℕ) → Every is_word_byte bs → Every is_word_byte (b ∷ more) → IsWord (bs ++ (b ∷ more))
word-before [] b more h k = k
word-before (c ∷ cs) b more h k = every_append is_word_byte (c ∷ cs) (b ∷ more) h k

decimal-in_word : (n : ℕ) → n ≤ 256 → Every is_word_byte (decimal n)
decimal-in_word n high = every_wider is_digit is_word_byte (λ b t. grind (arith, nat_tests)) (decimal n) (every_digit (decimal n) (decimal_writes n (omega arith)).0)

-- the printed form of a rule is a word
pub printed_is_word : (survival birth : Counts) (states : ℕ) → states ≤ 256 → IsWord (printed_generations_rule survival birth states)
printed_is_word survival birth states high =
    let later = every_append is_word_byte (digits_of birth) (47 ∷ decimal states) (digits_in_word (is_count birth) numbers refl) (decimal-in_word states high) in
    word-before (digits_of survival) 47 (digits_of birth ++ (47 ∷ decimal states)) (digits_in_word (is_count survival) numbers refl) later
