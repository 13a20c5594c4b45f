-- Claims that are written are read as they are.
use Rattle.std.proofs.Common.{◌≡◌, ℕ, ◌<◌, ◌^◌, false, List, [], ◌∷◌, ◌++◌, ℤ, codes, decimal, refl, sym, inl, inr, subst, arith}
use Rattle.std.specs.Fmt.{signed_decimal}
use Rattle.std.specs.List.{AllByRecursion}
use Rattle.std.proofs.lemmas.Bool.{false≢true}
use Rattle.std.proofs.lemmas.Bool.Decides.{nat_tests}
use Rattle.ca_plane.specs.Prelude.{is_word_byte, is_digit, IsWord, AreDigits, IsInteger, greatest_shift}
use Rattle.ca_plane.proofs.Decimals.{decimal_writes, signed_writes}
use Rattle.ca_plane.proofs.Fronts.{every_wider}
use Rattle.ca_text.specs.declared.kind.Kind.{Kind}
use Rattle.ca_text.specs.declared.kind.Kind.TheVariants.{Still, Oscillator, Spaceship, Becomes, BecomesShifted, Dies}
use Rattle.ca_text.specs.Prelude.{twice, keyword_of, FollowName, words_after_name, HasGoodNumbers, IsShift, is_skipped}

-- a keyword is a word that begins no comment
pub keyword_word : (kind : Kind) → IsWord (keyword_of kind)
keyword_word Still = refl
keyword_word (Oscillator period) = refl
keyword_word (Spaceship period dx dy) = refl
keyword_word (Becomes generations) = refl
keyword_word (BecomesShifted generations dx dy) = refl
keyword_word (Dies generations) = refl

pub keyword_spoken : (kind : Kind) (later : List (List ℕ)) → is_skipped (keyword_of kind ∷ later) ≡ false
keyword_spoken Still later = refl
keyword_spoken (Oscillator period) later = refl
keyword_spoken (Spaceship period dx dy) later = refl
keyword_spoken (Becomes generations) later = refl
keyword_spoken (BecomesShifted generations dx dy) later = refl
keyword_spoken (Dies generations) later = refl

-- digits are a word
digits_word : (digits : List ℕ) → AreDigits digits → IsWord digits
digits_word [] h = h
digits_word (d ∷ ds) h = every_wider is_digit is_word_byte (λ c t. grind (arith, nat_tests)) (d ∷ ds) h

-- and so is a number with its sign
integer_word : (bytes : List ℕ) (n : ℤ) → IsInteger bytes n → IsWord bytes
integer_word bytes n (inl h) = digits_word bytes h.0
integer_word bytes n (inr (ds, whole, are, is)) = subst IsWord (sym whole) (minus ds are)
  where
    minus : (ds : List ℕ) → AreDigits ds → IsWord (codes "-" ++ ds)
    minus [] are = absurd (false≢true are)
    minus (d ∷ more) are = digits_word (d ∷ more) are

-- the numbers of a kind write what they are
written_shift : (d : ℤ) → IsShift d → IsInteger (signed_decimal d) d
written_shift d near = signed_writes greatest_shift d (omega arith) near

-- so what is written after a name is what follows it in a claim,
pub written_follow : (name : List ℕ) (kind : Kind) → HasGoodNumbers kind → FollowName (words_after_name name kind) (twice name) kind
written_follow name Still good = (refl, refl)
written_follow name (Oscillator period) good =
    let is = decimal_writes period (omega (arith, good.1)) in
    (decimal period, refl, is.0, is.1, refl)
written_follow name (Spaceship period dx dy) good =
    let is = decimal_writes period (omega (arith, good.1)) in
    (decimal period, signed_decimal dx, signed_decimal dy, refl, is.0, is.1, written_shift dx good.2, written_shift dy good.3, refl)
written_follow name (Becomes generations) good =
    let is = decimal_writes generations (omega (arith, good)) in
    (decimal generations, refl, is.0, is.1)
written_follow name (BecomesShifted generations dx dy) good =
    let is = decimal_writes generations (omega (arith, good.0)) in
    (decimal generations, signed_decimal dx, signed_decimal dy, refl, is.0, is.1, written_shift dx good.1, written_shift dy good.2)
written_follow name (Dies generations) good =
    let is = decimal_writes generations (omega (arith, good.1)) in
    (decimal generations, refl, is.0, is.1, refl)

-- and these are words
count_word : (n : ℕ) → n < 2 ^ 64 → IsWord (decimal n)
count_word n small = digits_word (decimal n) (decimal_writes n small).0

shift_word : (d : ℤ) → IsShift d → IsWord (signed_decimal d)
shift_word d near = integer_word (signed_decimal d) d (written_shift d near)

pub written_words : (name : List ℕ) (kind : Kind) → IsWord name → HasGoodNumbers kind → AllByRecursion IsWord (words_after_name name kind)
written_words name Still word good = tt
written_words name (Oscillator period) word good = (count_word period (omega (arith, good.1)), tt)
written_words name (Spaceship period dx dy) word good = (count_word period (omega (arith, good.1)), (shift_word dx good.2, (shift_word dy good.3, tt)))
written_words name (Becomes generations) word good = (count_word generations (omega (arith, good)), (word, tt))
written_words name (BecomesShifted generations dx dy) word good = (count_word generations (omega (arith, good.0)), (word, (refl, (shift_word dx good.1, (shift_word dy good.2, tt)))))
written_words name (Dies generations) word good = (count_word generations (omega (arith, good.1)), tt)
