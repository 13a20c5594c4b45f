-- The front of bytes that pass a test, and the rest after it: for readers, whose code splits bytes and whose contracts join them.
use Rattle.std.proofs.Common.{◌≡◌, ℕ, ◌+◌, Bool, true, not, List, [], ◌∷◌, ◌++◌, length, refl, ap, sym, ◌∙◌, inl, inr, length-append, arith}
use Rattle.std.specs.List.{list_all}
use Rattle.std.proofs.lemmas.Bool.{and_parts, and_from, cases_Bool, not-true}
use Rattle.std.proofs.lemmas.List.Folds.{list_all-append}
use Rattle.std.proofs.lemmas.Bool.Decides.{nat_tests}
use Rattle.ca_plane.specs.Prelude.{Every, front, rest, is_end_or, is_digit, is_word_byte, AreDigits, IsWord}

-- the front and then the rest are the bytes
pub front_then_rest : (test : ℕ → Bool) (bs : List ℕ) → front test bs ++ rest test bs ≡ bs
front_then_rest test [] = refl
front_then_rest test (b ∷ bs) =
    let more = front_then_rest test bs in
    elim (cases_Bool (test b)) [ inl e ↦ rw e (ap (λ l. b ∷ l) more) | inr e ↦ rw e ]

-- each byte of the front passes
pub every_front : (test : ℕ → Bool) (bs : List ℕ) → Every test (front test bs)
every_front test [] = refl
every_front test (b ∷ bs) =
    let more = every_front test bs in
    elim (cases_Bool (test b)) [ inl e ↦ rw e (and_from _ _ e more) | inr e ↦ rw e ]

-- the rest is empty or begins with a byte that fails
pub rest_ends : (test : ℕ → Bool) (bs : List ℕ) → is_end_or (λ b. not (test b)) (rest test bs) ≡ true
rest_ends test [] = refl
rest_ends test (b ∷ bs) =
    let more = rest_ends test bs in
    elim (cases_Bool (test b)) [ inl e ↦ rw e more | inr e ↦ rw e (ap not e) ]

-- bytes that all pass are the front, where what follows doesn't begin with one that passes
pub front_append : (test : ℕ → Bool) (xs ys : List ℕ) → Every test xs → is_end_or (λ b. not (test b)) ys ≡ true → front test (xs ++ ys) ≡ xs
front_append test [] [] h e = refl
front_append test [] (y ∷ ys) h e = rw (not-true (test y) e) refl
front_append test (x ∷ xs) ys h e =
    let parts = and_parts (test x) (list_all test xs) h in
    rw parts.0 (ap (λ l. x ∷ l) (front_append test xs ys parts.1 e))

-- and what follows them is the rest
pub rest_append : (test : ℕ → Bool) (xs ys : List ℕ) → Every test xs → is_end_or (λ b. not (test b)) ys ≡ true → rest test (xs ++ ys) ≡ ys
rest_append test [] [] h e = refl
rest_append test [] (y ∷ ys) h e = rw (not-true (test y) e) refl
rest_append test (x ∷ xs) ys h e =
    let parts = and_parts (test x) (list_all test xs) h in
    rw parts.0 (rest_append test xs ys parts.1 e)

-- no byte is lost
pub front_length : (test : ℕ → Bool) (bs : List ℕ) → length (front test bs) + length (rest test bs) ≡ length bs
front_length test bs = sym (length-append (front test bs) (rest test bs)) ∙ ap length (front_then_rest test bs)

-- each byte of two lists one after the other passes
pub every_append : (test : ℕ → Bool) (xs ys : List ℕ) → Every test xs → Every test ys → Every test (xs ++ ys)
every_append test xs ys h k = list_all-append test xs ys ∙ and_from _ _ h k

-- each byte of the first of them passes
pub every_left : (test : ℕ → Bool) (xs ys : List ℕ) → Every test (xs ++ ys) → Every test xs
every_left test xs ys h = (and_parts _ _ (sym (list_all-append test xs ys) ∙ h)).0

-- each byte of the second of them passes
pub every_right : (test : ℕ → Bool) (xs ys : List ℕ) → Every test (xs ++ ys) → Every test ys
every_right test xs ys h = (and_parts _ _ (sym (list_all-append test xs ys) ∙ h)).1

-- each byte passes a wider test
pub every_wider : (test wider : ℕ → Bool) → ((b : ℕ) → test b ≡ true → wider b ≡ true) → (xs : List ℕ) → Every test xs → Every wider xs
every_wider test wider w [] h = refl
every_wider test wider w (x ∷ xs) h =
    let parts = and_parts (test x) (list_all test xs) h in
    and_from _ _ (w x parts.0) (every_wider test wider w xs parts.1)

-- the bytes of the rest pass what all the bytes pass
pub every_rest : (test other : ℕ → Bool) (bs : List ℕ) → Every other bs → Every other (rest test bs)
every_rest test other bs h = every_right other (front test bs) (rest test bs) (ap (list_all other) (front_then_rest test bs) ∙ h)

-- bytes that pass, and others that begin with none that does, are split in one way
pub one_split : (test : ℕ → Bool) (xs ys after behind : List ℕ) → Every test xs → Every test ys → is_end_or (λ b. not (test b)) after ≡ true → is_end_or (λ b. not (test b)) behind ≡ true
    → xs ++ after ≡ ys ++ behind → (xs ≡ ys) × (after ≡ behind)
one_split test xs ys after behind h k a b e = (
  sym (front_append test xs after h a) ∙ ap (front test) e ∙ front_append test ys behind k b,
  sym (rest_append test xs after h a) ∙ ap (rest test) e ∙ rest_append test ys behind k b,
)

-- each of some digits is one
pub every_digit : (digits : List ℕ) → AreDigits digits → Every is_digit digits
every_digit [] h = refl
every_digit (d ∷ ds) h = h

-- each byte of a word may be in one
pub every_word_byte : (word : List ℕ) → IsWord word → Every is_word_byte word
every_word_byte [] h = refl
every_word_byte (b ∷ bs) h = h

-- digits are bytes of a word
pub digits_in_word : (digits : List ℕ) → AreDigits digits → Every is_word_byte digits
digits_in_word digits h = every_wider is_digit is_word_byte (λ b t. grind (arith, nat_tests)) digits (every_digit digits h)
