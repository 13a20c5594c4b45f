-- The fields of a line.
use Rattle.std.proofs.Common.{◌≡◌, ◌==◌, ◌≤◌, ℕ, not, List, [], ◌∷◌, length, map, take, drop, refl, ap, arith, inl, inr}
use Rattle.std.proofs.lemmas.Bool.{cases_Bool}
use Rattle.ca_plane.specs.Prelude.{front, rest, trimmed, with_front}
use Rattle.ca_rule.specs.Prelude.{comma_parts, fields_between}

-- one part follows the last comma
last-part : (bytes : List ℕ) → rest (λ b. not (b == 44)) bytes ≡ [] → comma_parts bytes ≡ front (λ b. not (b == 44)) bytes ∷ []
last-part [] e = refl
last-part (b ∷ bs) e =
    elim (cases_Bool (b == 44)) [
      | inl t ↦ let k = rw t at e in cc
      | inr t ↦ rw t (ap (with_front b) (last-part bs (let k = rw t at e in k)))
    ]

-- one part comes before a comma
next-part : (bytes later : List ℕ) (comma : ℕ) → rest (λ b. not (b == 44)) bytes ≡ comma ∷ later → comma_parts bytes ≡ front (λ b. not (b == 44)) bytes ∷ comma_parts later
next-part [] later comma e = cc
next-part (b ∷ bs) later comma e =
    elim (cases_Bool (b == 44)) [
      | inl t ↦ rw t (let k = rw t at e in ap (λ l. [] ∷ comma_parts l) (ap (drop 1) k))
      | inr t ↦ rw t (ap (with_front b) (next-part bs later comma (let k = rw t at e in k)))
    ]

-- no bytes
pub length_zero : (bytes : List ℕ) → length bytes ≡ 0 → bytes ≡ []
length_zero [] e = refl
length_zero (b ∷ bs) e = absurd (omega arith)

-- the same of fields
pub last-field : (bytes : List ℕ) → rest (λ b. not (b == 44)) bytes ≡ [] → fields_between bytes ≡ trimmed (front (λ b. not (b == 44)) bytes) ∷ []
last-field bytes e = ap (map trimmed) (last-part bytes e)

pub next-field : (bytes later : List ℕ) (comma : ℕ) → rest (λ b. not (b == 44)) bytes ≡ comma ∷ later → fields_between bytes ≡ trimmed (front (λ b. not (b == 44)) bytes) ∷ fields_between later
next-field bytes later comma e = ap (map trimmed) (next-part bytes later comma e)

-- each byte is a field
pub byte-field : (bytes : List ℕ) → 1 ≤ length bytes → map (λ (b : ℕ). b ∷ []) bytes ≡ take 1 bytes ∷ map (λ (b : ℕ). b ∷ []) (drop 1 bytes)
byte-field [] some = absurd (omega arith)
byte-field (b ∷ bs) some = refl

-- what a function that cuts fields cites
pub ruleset parts = (last-field, next-field, byte-field)
