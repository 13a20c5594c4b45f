-- The suffix at the end of a rule text, and the text before it.
use Rattle.std.proofs.Common.{◌≡◌, ◌==◌, ◌||◌, ℕ, ◌+◌, List, [], ◌∷◌, ◌++◌, Bool, true, false, not, refl, ap, ◌∙◌, inl, inr, if◌then◌else◌, arith}
use Rattle.std.specs.List.{list_all}
use Rattle.std.proofs.lemmas.Bool.{and_parts, and_from, cases_Bool, not-true}
use Rattle.std.proofs.lemmas.Bool.Decides.{nat_tests}
use Rattle.std.proofs.lemmas.List.{append-nil}
use Rattle.std.proofs.lemmas.List.Folds.{list_any-append}
use Rattle.ca_plane.specs.Prelude.{Every}
use Rattle.ca_rule.specs.inner.TextParts.{hood_at, hood_of, body_of}
use Rattle.ca_rule.specs.Prelude.{IsLetter, IsSuffix, has_colon, is_rule_letter}
use Rattle.ca_rule.specs.declared.hood.Hood.{Hood}
use Rattle.ca_rule.specs.declared.hood.Hood.TheVariants.{Moore, VonNeumann, Hex}

-- what the test of a letter says
pub IsLetter-from_test : (upper byte : ℕ) → is_rule_letter upper byte ≡ true → IsLetter upper byte
IsLetter-from_test upper byte h = grind (arith, nat_tests)

-- and the test where it is the letter
pub is_rule_letter-from : (upper byte : ℕ) → IsLetter upper byte → is_rule_letter upper byte ≡ true
is_rule_letter-from upper byte (inl e) = grind (arith, nat_tests)
is_rule_letter-from upper byte (inr e) = grind (arith, nat_tests)

-- what is so of a letter in both cases
pub letter-is : {X : Type 0} (f : ℕ → X) (upper byte : ℕ) (x : X) → (f upper ≡ x) × (f (upper + 32) ≡ x) → IsLetter upper byte → f byte ≡ x
letter-is f upper byte x both (inl e) = ap f e ∙ both.0
letter-is f upper byte x both (inr e) = ap f e ∙ both.1

-- a test that a letter passes in both cases
abbrev pub PassesLetter : (ℕ → Bool) → ℕ → Type 0
PassesLetter test upper = (test upper ≡ true) × (test (upper + 32) ≡ true)

-- a suffix passes a test that V and H pass
pub suffix-passes : (test : ℕ → Bool) → PassesLetter test 86 → PassesLetter test 72 → (hood : Hood) (suffix : List ℕ) → IsSuffix hood suffix → Every test suffix
suffix-passes test v h Moore suffix s = ap (list_all test) s
suffix-passes test v h VonNeumann suffix s = ap (list_all test) s.2 ∙ and_from (test s.0) true (letter-is test 86 s.0 true v s.1) refl
suffix-passes test v h Hex suffix s = ap (list_all test) s.2 ∙ and_from (test s.0) true (letter-is test 72 s.0 true h s.1) refl

cons_if : (t : Bool) (c : ℕ) (xs ys : List ℕ) → c ∷ (if t then xs else ys) ≡ (if t then c ∷ xs else c ∷ ys)
cons_if true c xs ys = refl
cons_if false c xs ys = refl

-- the last byte says which neighbourhood it is
pub hood_of-last : (bs : List ℕ) (b : ℕ) → hood_of (bs ++ (b ∷ [])) ≡ hood_at b
hood_of-last [] b = refl
hood_of-last (c ∷ []) b = refl
hood_of-last (c ∷ d ∷ bs) b = hood_of-last (d ∷ bs) b

-- and whether it belongs to the text before the suffix
pub body_of-last : (bs : List ℕ) (b : ℕ) → body_of (bs ++ (b ∷ [])) ≡ (if is_rule_letter 86 b || is_rule_letter 72 b then bs else bs ++ (b ∷ []))
body_of-last [] b = refl
body_of-last (c ∷ []) b = cons_if (is_rule_letter 86 b || is_rule_letter 72 b) c [] (b ∷ [])
body_of-last (c ∷ d ∷ bs) b = ap (λ l. c ∷ l) (body_of-last (d ∷ bs) b) ∙ cons_if (is_rule_letter 86 b || is_rule_letter 72 b) c (d ∷ bs) (d ∷ (bs ++ (b ∷ [])))

-- a byte that is no suffix and no colon
abbrev pub is_plain : ℕ → Bool
is_plain b = not (is_rule_letter 86 b || is_rule_letter 72 b || (b == 58))

hood_at-plain : (b : ℕ) → is_plain b ≡ true → hood_at b ≡ Moore
hood_at-plain b h = grind (arith, nat_tests)

body_at-plain : (b : ℕ) → is_plain b ≡ true → body_of (b ∷ []) ≡ b ∷ []
body_at-plain b h = grind (arith, nat_tests)

hood_of-plain : (bs : List ℕ) → Every is_plain bs → hood_of bs ≡ Moore
hood_of-plain [] h = refl
hood_of-plain (b ∷ []) h = hood_at-plain b (and_parts _ _ h).0
hood_of-plain (b ∷ c ∷ bs) h = hood_of-plain (c ∷ bs) (and_parts _ _ h).1

body_of-plain : (bs : List ℕ) → Every is_plain bs → body_of bs ≡ bs
body_of-plain [] h = refl
body_of-plain (b ∷ []) h = body_at-plain b (and_parts _ _ h).0
body_of-plain (b ∷ c ∷ bs) h = ap (λ l. b ∷ l) (body_of-plain (c ∷ bs) (and_parts _ _ h).1)

-- bytes that pass a test that `:` fails hold none
pub none_colon : (test : ℕ → Bool) → ((b : ℕ) → test b ≡ true → (b == 58) ≡ false) → (bs : List ℕ) → Every test bs → has_colon bs ≡ false
none_colon test other [] h = refl
none_colon test other (b ∷ bs) h = let parts = and_parts (test b) (list_all test bs) h in rw (other b parts.0) (none_colon test other bs parts.1)

-- plain bytes and a suffix hold no colon
pub no_colon : (text body suffix : List ℕ) (hood : Hood) → text ≡ body ++ suffix → Every is_plain body → IsSuffix hood suffix → has_colon text ≡ false
no_colon text body suffix hood e h s =
    let later = none_colon (λ b. not (b == 58)) (λ b t. not-true (b == 58) t) suffix (suffix-passes (λ b. not (b == 58)) (refl, refl) (refl, refl) hood suffix s) in
    ap has_colon e ∙ list_any-append (λ b. b == 58) body suffix ∙ rw (none_colon is_plain (λ b t. grind (arith, nat_tests)) body h) later

-- a text taken apart at its suffix
pub record IsSplit (text body : List ℕ) (hood : Hood) : Type 0 where
  pub hood_is : hood_of text ≡ hood
  pub body_is : body_of text ≡ body

-- the byte is a suffix
abbrev is_suffix_letter : ℕ → Bool
is_suffix_letter b = is_rule_letter 86 b || is_rule_letter 72 b

split-letter : (text body : List ℕ) (b : ℕ) (hood : Hood) → text ≡ body ++ (b ∷ []) → hood_at b ≡ hood → is_suffix_letter b ≡ true → IsSplit text body hood
split-letter text body b hood e h t = record { hood_is = ap hood_of e ∙ hood_of-last body b ∙ h; body_is = ap body_of e ∙ body_of-last body b ∙ rw t refl }

-- a suffix after plain bytes is found
pub split : (text body suffix : List ℕ) (hood : Hood) → text ≡ body ++ suffix → Every is_plain body → IsSuffix hood suffix → IsSplit text body hood
split text body suffix Moore e h s =
    let same : text ≡ body = e ∙ ap (λ l. body ++ l) s ∙ append-nil body in
    record { hood_is = ap hood_of same ∙ hood_of-plain body h; body_is = ap body_of same ∙ body_of-plain body h }
split text body suffix VonNeumann e h s =
    split-letter text body s.0 VonNeumann (e ∙ ap (λ l. body ++ l) s.2) (letter-is hood_at 86 s.0 VonNeumann (refl, refl) s.1) (letter-is is_suffix_letter 86 s.0 true (refl, refl) s.1)
split text body suffix Hex e h s =
    split-letter text body s.0 Hex (e ∙ ap (λ l. body ++ l) s.2) (letter-is hood_at 72 s.0 Hex (refl, refl) s.1) (letter-is is_suffix_letter 72 s.0 true (refl, refl) s.1)

-- the suffix that a text is found to have
pub record HasSuffix (text body : List ℕ) (hood : Hood) : Type 0 where
  pub suffix : List ℕ
  pub is_suffix : IsSuffix hood suffix
  pub whole : text ≡ body ++ suffix

suffix-one : (b : ℕ) → HasSuffix (b ∷ []) (body_of (b ∷ [])) (hood_at b)
suffix-one b =
    elim (cases_Bool (is_rule_letter 86 b)) [
      | inl v ↦ rw v (record { suffix = b ∷ []; is_suffix = (b, IsLetter-from_test 86 b v, refl); whole = refl })
      | inr v ↦ elim (cases_Bool (is_rule_letter 72 b)) [
        | inl h ↦ rw (v, h) (record { suffix = b ∷ []; is_suffix = (b, IsLetter-from_test 72 b h, refl); whole = refl })
        | inr h ↦ rw (v, h) (record { suffix = []; is_suffix = refl; whole = refl })
      ]
    ]

-- what is found to be the suffix is one, and follows the rest
pub has_suffix : (text : List ℕ) → HasSuffix text (body_of text) (hood_of text)
has_suffix [] = record { suffix = []; is_suffix = refl; whole = refl }
has_suffix (b ∷ []) = suffix-one b
has_suffix (b ∷ c ∷ bs) =
    let more = has_suffix (c ∷ bs) in
    record { suffix = more.suffix; is_suffix = more.is_suffix; whole = ap (λ l. b ∷ l) more.whole }
