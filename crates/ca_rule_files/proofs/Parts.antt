-- The first part of a list of kinds, and the others.
use Rattle.std.proofs.Common.{◌≡◌, ℕ, ◌≤◌, length, arith, List, [], ◌∷◌, not, refl, sym, ap, ◌∙◌, inl, inr, if◌then◌else◌}
use Rattle.std.proofs.lemmas.Bool.{cases_Bool}
use Rattle.ca_plane.specs.Prelude.{is_digit, front, rest, with_front}
use Rattle.ca_plane.proofs.Fronts.{front_length}
use Rattle.ca_rule_files.specs.Prelude.{parts}

-- the bytes before the first digit, and the bytes from it onwards
abbrev before : List ℕ → List ℕ
before bytes = front (λ b. not (is_digit b)) bytes

abbrev behind : List ℕ → List ℕ
behind bytes = rest (λ b. not (is_digit b)) bytes

first-part : (b : ℕ) (bs : List ℕ) → parts (b ∷ bs) ≡ (b ∷ before bs) ∷ parts (behind bs)
first-part b [] = refl
first-part b (c ∷ cs) = elim (cases_Bool (is_digit c)) [
  | inl t ↦
      ap (λ v. if v then (b ∷ []) ∷ parts (c ∷ cs) else with_front b (parts (c ∷ cs))) t
      ∙ ap (λ v. (b ∷ (if not v then c ∷ before cs else [])) ∷ parts (if not v then behind cs else c ∷ cs)) (sym t)
  | inr t ↦
      ap (λ v. if v then (b ∷ []) ∷ parts (c ∷ cs) else with_front b (parts (c ∷ cs))) t
      ∙ ap (with_front b) (first-part c cs)
      ∙ ap (λ v. (b ∷ (if not v then c ∷ before cs else [])) ∷ parts (if not v then behind cs else c ∷ cs)) (sym t)
]

pub first_part : (b : ℕ) (bs letters later : List ℕ) → letters ≡ front (λ b. not (is_digit b)) bs → later ≡ rest (λ b. not (is_digit b)) bs → parts (b ∷ bs) ≡ (b ∷ letters) ∷ parts later
first_part b bs letters later f r = first-part b bs ∙ ap (λ l. (b ∷ l) ∷ parts (behind bs)) (sym f) ∙ ap (λ l. (b ∷ letters) ∷ parts l) (sym r)

pub rest_no_longer : (bs later : List ℕ) → later ≡ rest (λ b. not (is_digit b)) bs → length later ≤ length bs
rest_no_longer bs later r = let sum = front_length (λ b. not (is_digit b)) bs in let same = ap length r in omega arith
