-- The bytes of lists of kinds: each may stand in a list, and none of them is a blank or a `#`, or ends a line.
use Rattle.std.proofs.Common.{◌≡◌, ℕ, ◌+◌, ◌-◌, List, [], ◌∷◌, length, Bool, true, false, ◌==◌, ◌&&◌, nat_le, refl, ap, ◌∙◌, inl, inr, arith, if◌then◌else◌}
use Rattle.std.specs.List.{list_all, list_any}
use Rattle.std.proofs.lemmas.Bool.{cases_Bool, and_parts, and_from, or_cases, false≢true}
use Rattle.std.proofs.lemmas.Bool.Decides.{nat_tests}
use Rattle.ca_plane.specs.Prelude.{Every, is_digit, is_end_or}
use Rattle.ca_plane.proofs.Fronts.{every_wider}
use Rattle.ca_rule.specs.Prelude.{stands_in_list}
use Rattle.ca_rule.proofs.OneSpelling.{with_front-every}
use Rattle.ca_rule_files.specs.declared.kinds.Kind.{Kind}
use Rattle.ca_rule_files.specs.Prelude.{kinds_of_one, kinds_of_two, kinds_of_three, kinds_of_four, kinds_with, is_letter, lettered_kinds, has_letter, are_letters, is_part, parts, is_kind_list}
use Rattle.ca_rule_files.proofs.TextBytes.{is_text_byte}

-- a byte that may be in a list of kinds
abbrev pub is_list_byte : ℕ → Bool
is_list_byte b = stands_in_list b && is_text_byte b

-- ---- letters

-- the letter may be in a list, in both cases
abbrev may_stand : Kind → Bool
may_stand k = is_list_byte k.letter && is_list_byte (k.letter - 32)

all-if : (v : Bool) (xs ys : List Kind) → list_all may_stand xs ≡ true → list_all may_stand ys ≡ true → list_all may_stand (if v then xs else ys) ≡ true
all-if true xs ys hx hy = hx
all-if false xs ys hx hy = hy

kinds-stand : (n : ℕ) → list_all may_stand (kinds_with n) ≡ true
kinds-stand n = all-if (n == 1) kinds_of_one _ refl (all-if (n == 2) kinds_of_two _ refl (all-if (n == 3) kinds_of_three _ refl (all-if (n == 4) kinds_of_four [] refl refl)))

lettered-stand : (n : ℕ) → list_all may_stand (lettered_kinds n) ≡ true
lettered-stand n = all-if (nat_le n 4) (kinds_with n) (kinds_with (8 - n)) (kinds-stand n) (kinds-stand (8 - n))

one-letter : (k : Kind) (b : ℕ) → may_stand k ≡ true → is_letter k.letter b ≡ true → is_list_byte b ≡ true
one-letter k b stand same =
    let both = and_parts (is_list_byte k.letter) (is_list_byte (k.letter - 32)) stand in
    elim (or_cases (b == k.letter) (b + 32 == k.letter) same) [
      | inl t ↦ let e : b ≡ k.letter = grind (arith, nat_tests) in ap is_list_byte e ∙ both.0
      | inr t ↦ let e : b ≡ k.letter - 32 = grind (arith, nat_tests) in ap is_list_byte e ∙ both.1
    ]

letter-among : (ks : List Kind) (b : ℕ) → list_all may_stand ks ≡ true → list_any (λ (k : Kind). is_letter k.letter b) ks ≡ true → is_list_byte b ≡ true
letter-among [] b stand any = absurd (false≢true any)
letter-among (k ∷ ks) b stand any =
    let both = and_parts (may_stand k) (list_all may_stand ks) stand in
    elim (or_cases (is_letter k.letter b) (list_any (λ (k : Kind). is_letter k.letter b) ks) any) [
      | inl t ↦ one-letter k b both.0 t
      | inr t ↦ letter-among ks b both.1 t
    ]

letters-stand : (n : ℕ) (letters : List ℕ) → list_all (has_letter n) letters ≡ true → list_all is_list_byte letters ≡ true
letters-stand n letters all = every_wider (has_letter n) is_list_byte (λ b h. letter-among (lettered_kinds n) b (lettered-stand n) h) letters all

-- ---- parts

after-digit : (n : ℕ) (letters : List ℕ) → are_letters n letters ≡ true → list_all is_list_byte letters ≡ true
after-digit n [] all = refl
after-digit n (b ∷ bs) all = elim (cases_Bool (b == 45)) [
  | inl t ↦
      let e : b ≡ 45 = grind (arith, nat_tests) in
      let k = rw t at all in
      and_from (is_list_byte b) (list_all is_list_byte bs) (ap is_list_byte e) (letters-stand n bs (and_parts (nat_le 1 (length bs)) (list_all (has_letter n) bs) k).1)
  | inr t ↦ let k = rw t at all in letters-stand n (b ∷ bs) k
]

digit-stands : (d : ℕ) → nat_le 48 d ≡ true → nat_le d 56 ≡ true → is_list_byte d ≡ true
digit-stands d low high = grind (arith, nat_tests)

part-stands : (part : List ℕ) → is_part part ≡ true → list_all is_list_byte part ≡ true
part-stands [] is = absurd (false≢true is)
part-stands (d ∷ letters) is =
    let both = and_parts (nat_le 48 d && nat_le d 56) (are_letters (d - 48) letters) is in
    let digit = and_parts (nat_le 48 d) (nat_le d 56) both.0 in
    and_from (is_list_byte d) (list_all is_list_byte letters) (digit-stands d digit.0 digit.1) (after-digit (d - 48) letters both.1)

parts-stand : (list : List ℕ) → list_all (list_all is_list_byte) (parts list) ≡ true → list_all is_list_byte list ≡ true
parts-stand [] all = refl
parts-stand (b ∷ bs) all = elim (cases_Bool (is_end_or is_digit bs)) [
  | inl t ↦
      let k = rw t at all in
      let both = and_parts (is_list_byte b && true) (list_all (list_all is_list_byte) (parts bs)) k in
      and_from (is_list_byte b) (list_all is_list_byte bs) (and_parts (is_list_byte b) true both.0).0 (parts-stand bs both.1)
  | inr t ↦
      let k = rw t at all in
      let both = with_front-every is_list_byte b (parts bs) k in
      and_from (is_list_byte b) (list_all is_list_byte bs) both.0 (parts-stand bs both.1)
]

all-parts : (ps : List (List ℕ)) → list_all is_part ps ≡ true → list_all (list_all is_list_byte) ps ≡ true
all-parts [] all = refl
all-parts (p ∷ ps) all =
    let both = and_parts (is_part p) (list_all is_part ps) all in
    and_from (list_all is_list_byte p) (list_all (list_all is_list_byte) ps) (part-stands p both.0) (all-parts ps both.1)

list-bytes : (list : List ℕ) → is_kind_list list ≡ true → Every is_list_byte list
list-bytes list is = parts-stand list (all-parts (parts list) is)

-- a list of kinds may stand in a text
pub listed-kinds : (list : List ℕ) → is_kind_list list ≡ true → Every stands_in_list list
listed-kinds list is = every_wider is_list_byte stands_in_list (λ b h. (and_parts (stands_in_list b) (is_text_byte b) h).0) list (list-bytes list is)

pub text-kinds : (list : List ℕ) → is_kind_list list ≡ true → Every is_text_byte list
text-kinds list is = every_wider is_list_byte is_text_byte (λ b h. (and_parts (stands_in_list b) (is_text_byte b) h).1) list (list-bytes list is)
