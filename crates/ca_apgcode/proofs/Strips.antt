-- Strips, one below the other.
use Rattle.std.proofs.Common.{◌≡◌, ℕ, ◌+◌, ◌*◌, ◌<◌, ◌==◌, if◌then◌else◌, List, [], ◌∷◌, ◌++◌, length, map, get_or, refl, sym, ap, ◌∙◌, inl, inr, append_assoc, length-append, arith}
use Rattle.std.specs.List.{flat_map, join_with_byte}
use Rattle.std.proofs.lemmas.Bool.{cases_lt, eq-eqb, ne_eqb}
use Rattle.std.proofs.lemmas.List.{get_or_append_left, map-append, length-map}
use Rattle.std.proofs.Math.Seq.{get_or-append_seam}
use Rattle.ca_plane.specs.Prelude.{Puts}
use Rattle.ca_apgcode.specs.Prelude.{Step, IsStrip, step_text}
use Rattle.ca_apgcode.specs.inner.Puts.{PutsStrip}

-- one more piece after others
pub joined_more : (c : ℕ) (piece : List ℕ) (pieces : List (List ℕ)) (last : List ℕ) → join_with_byte c ((piece ∷ pieces) ++ last ∷ []) ≡ join_with_byte c (piece ∷ pieces) ++ c ∷ last
joined_more c piece [] last = refl
joined_more c piece (next ∷ pieces) last = ap (λ l. piece ++ c ∷ l) (joined_more c next pieces last) ∙ sym (append_assoc piece (c ∷ join_with_byte c (next ∷ pieces)) (c ∷ last))

-- the first strips of cells are written
pub record BeginsStrips (cells : ℕ → ℕ → ℕ) (count : ℕ) (text : List ℕ) : Type 0 where
  pub strips : List (List Step)
  pub many : length strips ≡ count
  pub each : (i : ℕ) → i < count → IsStrip cells (5 * i) (get_or strips i [])
  pub whole : text ≡ join_with_byte 122 (map (flat_map step_text) strips)

-- none of them
pub BeginsStrips-none : (cells : ℕ → ℕ → ℕ) (text : List ℕ) → text ≡ [] → BeginsStrips cells 0 text
BeginsStrips-none cells text none = record { strips = []; many = refl; each = λ i below. absurd (omega (arith, below)); whole = none }

-- pieces, and what follows them
joined_with : (pieces : List (List ℕ)) (count : ℕ) (last : List ℕ) → length pieces ≡ count → (join_with_byte 122 pieces ++ (if count == 0 then [] else 122 ∷ [])) ++ last ≡ join_with_byte 122 (pieces ++ last ∷ [])
joined_with [] count last many = rw (eq-eqb count 0 (sym many)) refl
joined_with (piece ∷ pieces) count last many =
    let some : count ≡ 0 → ⊥ = λ none. absurd (omega (arith, many, none)) in
    rw (ne_eqb count 0 some) (append_assoc (join_with_byte 122 (piece ∷ pieces)) (122 ∷ []) last ∙ sym (joined_more 122 piece pieces last))

-- one more
pub BeginsStrips-more : (cells : ℕ → ℕ → ℕ) (count : ℕ) (old now new : List ℕ) → Puts old now (if count == 0 then [] else 122 ∷ []) → PutsStrip cells (5 * count) now new → BeginsStrips cells count old → BeginsStrips cells (count + 1) new
BeginsStrips-more cells count old now new joint puts begins =
    let texts = map (flat_map step_text) begins.strips in
    let many : length begins.strips ≡ count = begins.many in
    record {
      strips = begins.strips ++ puts.steps ∷ [];
      many = length-append begins.strips (puts.steps ∷ []) ∙ ap (λ n. n + 1) many;
      each = λ i below. elim (cases_lt i count) [
        | inl before ↦ let within : i < length begins.strips = omega (arith, many, before) in rw (get_or_append_left begins.strips (puts.steps ∷ []) [] i within) (begins.each i before)
        | inr from ↦ let here : i ≡ length begins.strips = omega (arith, many, below, from) in rw (here, get_or-append_seam begins.strips puts.steps [] []) (rw many puts.is_strip)
      ];
      whole =
          puts.puts.whole
          ∙ ap (λ l. l ++ flat_map step_text puts.steps) (joint.whole ∙ ap (λ l. l ++ (if count == 0 then [] else 122 ∷ [])) begins.whole)
          ∙ joined_with texts count (flat_map step_text puts.steps) (length-map begins.strips (flat_map step_text) ∙ many)
          ∙ ap (join_with_byte 122) (sym (map-append (flat_map step_text) begins.strips (puts.steps ∷ [])));
    }
