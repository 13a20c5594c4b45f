-- The names of the patterns of a census are words, and no two of them are the same.
use Rattle.std.proofs.Common.{◌≡◌, ◌≢◌, ℕ, ◌+◌, ◌<◌, ◌^◌, true, false, List, [], ◌∷◌, ◌++◌, codes, decimal, refl, sym, ◌∙◌, inl, inr, subst, arith}
use Rattle.std.specs.Str.{bytes_eq}
use Rattle.std.proofs.lemmas.Bool.{cases_Bool, false≢true}
use Rattle.std.proofs.lemmas.Bool.Decides.{nat_tests}
use Rattle.std.proofs.lemmas.Fmt.{decimal_injective}
use Rattle.std.proofs.lemmas.List.{append-nil, append_cancel_left}
use Rattle.std.proofs.lemmas.Slice.Eq.{bytes_eq-Decides}
use Rattle.ca_plane.specs.Prelude.{Every, IsWord, is_word_byte, is_digit}
use Rattle.ca_plane.proofs.Fronts.{every_append, every_word_byte}
use Rattle.ca_report.specs.Outside.{path_in}
use Rattle.ca_identify_lines.proofs.NameWords.{word_append, digits_pass, decimal_fits}
use Rattle.ca_census_files.specs.Prelude.{object_name, settled_name, rle_file}

-- the names are words
pub object_word : (name : List ℕ) (number : ℕ) → IsWord name → IsWord (object_name name number)
object_word name number h = word_append name (codes "-" ++ decimal number) h (decimal_fits number)

pub settled_word : (name : List ℕ) → IsWord name → IsWord (settled_name name)
settled_word name h = word_append name (codes "-settled") h refl

-- and so are the paths of their files
pub rle_word : (folder name : List ℕ) → IsWord folder → IsWord name → IsWord (path_in folder (rle_file name))
rle_word folder name place h = word_append folder (codes "/" ++ rle_file name) place (every_append is_word_byte name (codes ".rle") (every_word_byte name h) refl)

-- different bytes aren't equal by the test
other_bytes : (a b : List ℕ) → a ≢ b → bytes_eq a b ≡ false
other_bytes a b h = elim (cases_Bool (bytes_eq a b)) [ inl e ↦ absurd (h ((bytes_eq-Decides a b).0 e)) | inr e ↦ e ]

-- a name isn't one with more after it
longer : (name : List ℕ) (b : ℕ) (more : List ℕ) → name ≡ name ++ b ∷ more → ⊥
longer name b more e = let none = append_cancel_left name [] (b ∷ more) (append-nil name ∙ e) in cc

pub not_settled : (name : List ℕ) → bytes_eq name (settled_name name) ≡ false
not_settled name = other_bytes name (settled_name name) (longer name 45 (codes "settled"))

pub not_object : (name : List ℕ) (number : ℕ) → bytes_eq name (object_name name number) ≡ false
not_object name number = other_bytes name (object_name name number) (longer name 45 (decimal number))

-- a number has digits alone
digit_is : (d : ℕ) → d < 10 → is_digit (48 + d) ≡ true
digit_is d small = grind (arith, nat_tests)

no_number : (number : ℕ) → codes "settled" ≡ decimal number → ⊥
no_number number e = false≢true (subst (Every is_digit) (sym e) (digits_pass is_digit digit_is number))

pub settled_not_object : (name : List ℕ) (number : ℕ) → bytes_eq (settled_name name) (object_name name number) ≡ false
settled_not_object name number =
    other_bytes (settled_name name) (object_name name number)
    (λ e. no_number number (append_cancel_left (codes "-") (codes "settled") (decimal number) (append_cancel_left name (codes "-settled") (codes "-" ++ decimal number) e)))

-- objects with different numbers have different names
pub other_number : (name : List ℕ) (m n : ℕ) → m < 2 ^ 64 → n < 2 ^ 64 → m ≢ n → bytes_eq (object_name name m) (object_name name n) ≡ false
other_number name m n low high h =
    other_bytes (object_name name m) (object_name name n)
    (λ e. h (decimal_injective m n low high (append_cancel_left (codes "-") (decimal m) (decimal n) (append_cancel_left name (codes "-" ++ decimal m) (codes "-" ++ decimal n) e))))
