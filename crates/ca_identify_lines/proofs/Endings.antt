-- What comes before the last dot of a name.
use Rattle.std.proofs.Common.{◌≡◌, ℕ, Bool, true, false, List, [], ◌∷◌, ◌++◌, length, nat_eq, refl, ap, sym, ◌∙◌, append_assoc, arith}
use Rattle.std.specs.List.{list_any}
use Rattle.std.proofs.lemmas.Bool.{or_right, or_parts, ne_eqb}
use Rattle.ca_identify_lines.specs.Prelude.{without_ending}

abbrev pub is_dot : ℕ → Bool
is_dot b = nat_eq b 46

-- a dot stands among bytes and others
any_dot : (before later : List ℕ) → list_any is_dot (before ++ 46 ∷ later) ≡ true
any_dot [] later = refl
any_dot (b ∷ bs) later = or_right (is_dot b) (list_any is_dot (bs ++ 46 ∷ later)) (any_dot bs later)

-- what comes before the last dot
pub before_dot : (before later : List ℕ) → list_any is_dot later ≡ false → without_ending (before ++ 46 ∷ later) ≡ before
before_dot [] later none = rw none refl
before_dot (b ∷ bs) later none = rw (any_dot bs later) (ap (λ l. b ∷ l) (before_dot bs later none))

-- a name without a dot is whole
pub no_dot : (name : List ℕ) → list_any is_dot name ≡ false → without_ending name ≡ name
no_dot [] none = refl
no_dot (b ∷ bs) none = let parts = or_parts (is_dot b) (list_any is_dot bs) none in rw (parts.1, parts.0) refl

-- the byte before some without a dot is the last dot
pub at_dot : (name front before later : List ℕ) (last : ℕ) → name ≡ front ++ later → list_any is_dot later ≡ false → front ≡ before ++ last ∷ [] → last ≡ 46
    → before ≡ without_ending name
at_dot name front before later last whole none ends dot =
    let here : name ≡ before ++ 46 ∷ later =
    whole ∙ ap (λ l. l ++ later) ends ∙ append_assoc before (last ∷ []) later ∙ ap (λ b. before ++ b ∷ later) dot in
    sym (ap without_ending here ∙ before_dot before later none)

-- or it is none, and has none after it
pub before_other : (name front before later : List ℕ) (last : ℕ) → name ≡ front ++ later → list_any is_dot later ≡ false → front ≡ before ++ last ∷ [] → (last ≡ 46 → ⊥)
    → (more : List ℕ) × (name ≡ before ++ more) × (list_any is_dot more ≡ false)
before_other name front before later last whole none ends other = (
  last ∷ later,
  whole ∙ ap (λ l. l ++ later) ends ∙ append_assoc before (last ∷ []) later,
  rw (ne_eqb last 46 other) none,
)

-- or there is no dot
pub at_none : (name front later : List ℕ) → name ≡ front ++ later → list_any is_dot later ≡ false → length front ≡ 0 → name ≡ without_ending name
at_none name [] later whole none empty = sym (no_dot name (ap (list_any is_dot) whole ∙ none))
at_none name (b ∷ bs) later whole none empty = absurd (omega arith)
