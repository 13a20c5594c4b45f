use Rattle.std.proofs.Common.{◌≡◌, ◌≢◌, ℕ, ◌+◌, List, [], ◌∷◌, ◌++◌, length, get_or, drop, Bool, true, false, Option, Some, codes, refl, sym, ap, subst, ◌∙◌, inl, inr, arith}
use Rattle.std.specs.Prelude.{pos, neg_ℤ}
use Rattle.std.specs.Str.{bytes_eq}
use Rattle.std.proofs.lemmas.Bool.{false≢true}
use Rattle.std.proofs.lemmas.Int.{ints}
use Rattle.ca_plane.specs.Prelude.{AreDigits, lines_of, words_of, text_of}
use Rattle.ca_text.specs.declared.{both.Both.Both, kind.Kind.Kind}
use Rattle.ca_text.specs.declared.kind.Kind.TheVariants.{Still, Oscillator, Spaceship, Becomes, BecomesShifted, Dies}
use Rattle.ca_text.specs.Prelude.{of_one, still_of, becomes_of, twice, WordsClaim, HasGoodNumbers, ClaimTextLine, Version, Rule, Load, Claims, is_second, IsKindAfter, ClaimWordsSay, ClaimLinesSay}
use Rattle.ca_text.specs.Prelude.{said_lines, HasClaimLine, AreMisspelledClaimWords, HaveBadNumber, AskUnknown, LoadTaken}
use Rattle.ca_text.proofs.KindWords.{claim_begins, not_numbered}
use Rattle.ca_text.proofs.OneMeaning.{not_version}
use Rattle.ca_text.proofs.laws.worked_examples.Goals as goal

-- one cell to the left and two down, in four generations
shift_good : HasGoodNumbers (Spaceship 4 (neg_ℤ (pos 1)) (pos 2))
shift_good = (omega arith, omega arith, (omega (arith, ints), omega (arith, ints)), (omega (arith, ints), omega (arith, ints)), λ e f. omega (arith, ints))

-- a claim of the first version may stand in any text
in_any : {second : Bool} → false ≡ true → second ≡ true
in_any never = absurd (false≢true never)

-- what the words of four claims say
says_still : (name : List ℕ) → WordsClaim (codes "still" ∷ name ∷ []) (twice name) Still
says_still name = ([], refl, (refl, refl))

says_oscillator : WordsClaim (codes "oscillator" ∷ codes "c" ∷ codes "007" ∷ []) (twice (codes "c")) (Oscillator 7)
says_oscillator = (codes "007" ∷ [], refl, (codes "007", refl, refl, refl, refl))

says_spaceship : WordsClaim (codes "spaceship" ∷ codes "g" ∷ codes "4" ∷ codes "-1" ∷ codes "2" ∷ []) (twice (codes "g")) (Spaceship 4 (neg_ℤ (pos 1)) (pos 2))
says_spaceship = (codes "4" ∷ codes "-1" ∷ codes "2" ∷ [], refl, (codes "4", codes "-1", codes "2", refl, refl, refl, inr (codes "1", refl, refl, refl), inl (refl, refl), refl))

says_becomes : WordsClaim (codes "becomes" ∷ codes "g" ∷ codes "0" ∷ codes "c" ∷ []) (record { first = codes "g"; second = codes "c" }) (Becomes 0)
says_becomes = (codes "0" ∷ codes "c" ∷ [], refl, (codes "0", refl, refl, refl))

pub returns-clause-every_line : goal.returns-clause-every_line
returns-clause-every_line c = (
  refl,
  refl,
  refl,
  (
    refl,
    (
      refl,
      refl,
      refl,
      (
        refl,
        refl,
        refl,
        (
          refl,
          (says_still (codes "b"), in_any),
          (tt, (refl, refl)),
          (
            refl,
            (says_oscillator, in_any),
            ((omega arith, omega arith), (refl, refl)),
            (refl, (refl, (says_spaceship, in_any), (shift_good, (refl, refl)), (refl, (says_becomes, in_any), (omega arith, (refl, refl)), tt))),
          ),
        ),
      ),
    ),
  ),
)

-- a list with an element isn't empty
not_empty : {X : Type 0} (x : X) (xs : List X) → x ∷ xs ≢ []
not_empty x xs e = cc

-- two paths differ
p_or_q : codes "p" ≡ codes "q" → ⊥
p_or_q e = false≢true (sym (ap (λ path. bytes_eq path (codes "p")) e))

pub returns-clause-rule_needed : goal.returns-clause-rule_needed
returns-clause-rule_needed c = (not_empty _ _, inl (inr (inl refl)))

pub returns-clause-claimed_needed : goal.returns-clause-claimed_needed
returns-clause-claimed_needed c = (not_empty _ _, inr (inl (inl refl)))

pub returns-clause-spare_unneeded : goal.returns-clause-spare_unneeded
returns-clause-spare_unneeded c = λ h. elim h.1 [
  | inl none ↦ none
  | inr some ↦ elim some [ inl claim ↦ elim claim [ inl same ↦ p_or_q same | inr same ↦ p_or_q same ] | inr none ↦ none ]
]

pub returns-clause-none_needed : goal.returns-clause-none_needed
returns-clause-none_needed c = λ path h. h.0 refl

-- a line is faulty after lines that say this
faulty : (bytes : List ℕ) (P : List ClaimTextLine → List (List ℕ) → Type 0) (before : List (List ℕ)) (said : List (Option ClaimTextLine)) (line : List ℕ) → ClaimLinesSay [] before said
    → lines_of bytes ≡ before ++ line ∷ [] → P (said_lines said) (words_of line) → HasClaimLine bytes (length before + 1) P
faulty bytes P before said line good among holds =
    record { before = before; line = line; later = []; said = said; good = good; among = among; number = refl; holds = holds }

-- the first line is
first_faulty : (line : List ℕ) (P : List ClaimTextLine → List (List ℕ) → Type 0) → lines_of line ≡ line ∷ [] → P [] (words_of line) → HasClaimLine line 1 P
first_faulty line P among holds = faulty line P [] [] line tt among holds

-- the second is, after one that loads a name
second_faulty : (line : List ℕ) (P : List ClaimTextLine → List (List ℕ) → Type 0) → lines_of (text_of (codes "load a p" ∷ line ∷ [])) ≡ codes "load a p" ∷ line ∷ []
    → P (Load (codes "a") (codes "p") ∷ []) (words_of line) → HasClaimLine (text_of (codes "load a p" ∷ line ∷ [])) 2 P
second_faulty line P among holds =
    faulty (text_of (codes "load a p" ∷ line ∷ [])) P (codes "load a p" ∷ []) (Some (Load (codes "a") (codes "p")) ∷ []) line (refl, refl, refl, tt) among holds

pub returns-clause-unknown : goal.returns-clause-unknown
returns-clause-unknown c = first_faulty (codes "still q") AskUnknown refl (refl, still_of (codes "q"), (says_still (codes "q"), in_any), tt, λ h. false≢true h.0)

pub returns-clause-taken : goal.returns-clause-taken
returns-clause-taken c = second_faulty (codes "load a q") LoadTaken refl (refl, codes "a", codes "q", refl, refl)

pub returns-clause-other_unknown : goal.returns-clause-other_unknown
returns-clause-other_unknown c = second_faulty (codes "becomes a 1 b") AskUnknown refl
    (refl, becomes_of (codes "a") 1 (codes "b"), ((codes "1" ∷ codes "b" ∷ [], refl, (codes "1", refl, refl, refl)), in_any), omega arith, λ h. false≢true h.1)

-- `rule r q` says nothing
two_say_nothing : (earlier : List ClaimTextLine) (line : ClaimTextLine) → ClaimWordsSay earlier (codes "rule" ∷ codes "r" ∷ codes "q" ∷ []) line → ⊥
two_say_nothing earlier Version h = let same = h.0 in cc
two_say_nothing earlier (Rule path) h = cc
two_say_nothing earlier (Load name path) h = false≢true (sym (ap (λ words. bytes_eq (get_or words 0 []) (codes "rule")) h))
two_say_nothing earlier (Claims claim) h = false≢true (claim_begins (codes "rule" ∷ codes "r" ∷ codes "q" ∷ []) claim.patterns claim.kind h.0)

pub returns-clause-two_tables : goal.returns-clause-two_tables
returns-clause-two_tables c =
    faulty (text_of (codes "rule r" ∷ codes "rule r q" ∷ [])) AreMisspelledClaimWords (codes "rule r" ∷ []) (Some (Rule (codes "r")) ∷ []) (codes "rule r q") (refl, refl, tt, tt) refl
    (refl, two_say_nothing _)

-- `gun a` says nothing
says_nothing : (earlier : List ClaimTextLine) (line : ClaimTextLine) → ClaimWordsSay earlier (codes "gun" ∷ codes "a" ∷ []) line → ⊥
says_nothing earlier Version h = let same = h.0 in cc
says_nothing earlier (Rule path) h = cc
says_nothing earlier (Load name path) h = cc
says_nothing earlier (Claims claim) h = false≢true (claim_begins (codes "gun" ∷ codes "a" ∷ []) claim.patterns claim.kind h.0)

pub returns-clause-misspelled : goal.returns-clause-misspelled
returns-clause-misspelled c = second_faulty (codes "gun a") AreMisspelledClaimWords refl (refl, says_nothing _)

-- `x` is no number
no_digits : (n : List ℕ) → codes "x" ∷ [] ≡ n ∷ [] → AreDigits n → ⊥
no_digits n e digits = false≢true (subst AreDigits (sym (ap (λ words. get_or words 0 []) e)) digits)

-- `oscillator a x` says nothing
letter_says_nothing : (earlier : List ClaimTextLine) (line : ClaimTextLine) → ClaimWordsSay earlier (codes "oscillator" ∷ codes "a" ∷ codes "x" ∷ []) line → ⊥
letter_says_nothing earlier Version h = let same = h.0 in cc
letter_says_nothing earlier (Rule path) h = cc
letter_says_nothing earlier (Load name path) h = cc
letter_says_nothing earlier (Claims claim) h = not_numbered (codes "oscillator") (codes "a" ∷ codes "x" ∷ []) refl (λ a n e. no_digits n (ap (λ words. drop 1 words) e)) claim h.0

pub returns-clause-no_number : goal.returns-clause-no_number
returns-clause-no_number c = second_faulty (codes "oscillator a x") AreMisspelledClaimWords refl (refl, letter_says_nothing _)

pub returns-clause-no_shift : goal.returns-clause-no_shift
returns-clause-no_shift c = second_faulty (codes "spaceship a 4 0 0") HaveBadNumber refl (
  refl,
  of_one (codes "a") (Spaceship 4 (pos 0) (pos 0)),
  ((codes "4" ∷ codes "0" ∷ codes "0" ∷ [], refl, (codes "4", codes "0", codes "0", refl, refl, refl, inl (refl, refl), inl (refl, refl), refl)), in_any),
  λ h. h.4 refl refl,
)

pub returns-clause-no_period : goal.returns-clause-no_period
returns-clause-no_period c =
    first_faulty (codes "oscillator b 1") HaveBadNumber refl (refl, of_one (codes "b") (Oscillator 1), ((codes "1" ∷ [], refl, (codes "1", refl, refl, refl, refl)), in_any), λ h. omega arith)

-- the words of both claims of the second version
says_shift : WordsClaim (codes "becomes" ∷ codes "a" ∷ codes "0" ∷ codes "a" ∷ codes "shift" ∷ codes "-1" ∷ codes "2" ∷ []) (twice (codes "a")) (BecomesShifted 0 (neg_ℤ (pos 1)) (pos 2))
says_shift = (codes "0" ∷ codes "a" ∷ codes "shift" ∷ codes "-1" ∷ codes "2" ∷ [], refl, (codes "0", codes "-1", codes "2", refl, refl, refl, inr (codes "1", refl, refl, refl), inl (refl, refl)))

says_death : WordsClaim (codes "dies" ∷ codes "a" ∷ codes "3" ∷ []) (twice (codes "a")) (Dies 3)
says_death = (codes "3" ∷ [], refl, (codes "3", refl, refl, refl, refl))

moves_good : HasGoodNumbers (BecomesShifted 0 (neg_ℤ (pos 1)) (pos 2))
moves_good = (omega arith, (omega (arith, ints), omega (arith, ints)), (omega (arith, ints), omega (arith, ints)))

pub returns-clause-second : goal.returns-clause-second
returns-clause-second c = (
  refl,
  (
    refl,
    (refl, refl),
    tt,
    (
      refl,
      refl,
      refl,
      (refl, (says_shift, λ _. refl), (moves_good, (refl, refl)), (refl, (says_death, λ _. refl), ((omega arith, omega arith), (refl, refl)), tt)),
    ),
  ),
)

-- lines that say something aren't none
some_lines : (line : ClaimTextLine) (lines : List ClaimTextLine) → line ∷ lines ≡ [] → ⊥
some_lines line lines e = cc

pub returns-clause-late_version : goal.returns-clause-late_version
returns-clause-late_version c =
    second_faulty (codes "claims 2") AreMisspelledClaimWords refl (refl, not_version _ (codes "2" ∷ []) (λ same none. some_lines _ _ none))

pub returns-clause-two_versions : goal.returns-clause-two_versions
returns-clause-two_versions c =
    faulty (text_of (codes "claims 2" ∷ codes "claims 2" ∷ [])) AreMisspelledClaimWords (codes "claims 2" ∷ []) (Some Version ∷ []) (codes "claims 2") (refl, (refl, refl), tt, tt) refl
    (refl, not_version _ (codes "2" ∷ []) (λ same none. some_lines _ _ none))

-- 3 isn't 2
not_two : codes "3" ∷ [] ≡ codes "2" ∷ [] → ⊥
not_two e = false≢true (ap (λ words. bytes_eq (get_or words 0 []) (codes "2")) e)

pub returns-clause-third_version : goal.returns-clause-third_version
returns-clause-third_version c = first_faulty (codes "claims 3") AreMisspelledClaimWords refl (refl, not_version [] (codes "3" ∷ []) (λ same none. not_two same))

-- `dies a 1` says nothing in a text of the first version
death_says_nothing : (earlier line : ClaimTextLine) → is_second (earlier ∷ []) ≡ false → ClaimWordsSay (earlier ∷ []) (codes "dies" ∷ codes "a" ∷ codes "1" ∷ []) line → ⊥
death_says_nothing earlier Version first h = false≢true (ap (λ words. bytes_eq (get_or words 0 []) (codes "claims")) h.0)
death_says_nothing earlier (Rule path) first h = false≢true (ap (λ words. bytes_eq (get_or words 0 []) (codes "rule")) h)
death_says_nothing earlier (Load name path) first h = false≢true (ap (λ words. bytes_eq (get_or words 0 []) (codes "load")) h)
death_says_nothing earlier (Claims claim) first h = none claim.patterns claim.kind h.0 h.1
  where
    none : (names : Both (List ℕ)) (kind : Kind) → WordsClaim (codes "dies" ∷ codes "a" ∷ codes "1" ∷ []) names kind → IsKindAfter (earlier ∷ []) kind → ⊥
    none names (Dies v) w after = false≢true (sym first ∙ after refl)
    none names Still w after = let same = w.1 in cc
    none names kind w after = let same = w.1 in cc

pub returns-clause-early_claim : goal.returns-clause-early_claim
returns-clause-early_claim c = second_faulty (codes "dies a 1") AreMisspelledClaimWords refl (refl, λ line h. death_says_nothing _ line refl h)

pub returns-clause-no_life : goal.returns-clause-no_life
returns-clause-no_life c =
    faulty (text_of (codes "claims 2" ∷ codes "dies a 0" ∷ [])) HaveBadNumber (codes "claims 2" ∷ []) (Some Version ∷ []) (codes "dies a 0") (refl, (refl, refl), tt, tt) refl
    (refl, of_one (codes "a") (Dies 0), ((codes "0" ∷ [], refl, (codes "0", refl, refl, refl, refl)), λ _. refl), λ h. omega (arith, h.0))
