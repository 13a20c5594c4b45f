-- How a text is escaped from one place to the next.
use Rattle.std.proofs.Common.{◌≡◌, ℕ, suc, ◌+◌, ◌<◌, List, [], ◌∷◌, ◌++◌, false, Option, Err, length, get_or, take, drop, add-one, refl, sym, ap, subst, ◌∙◌, inl, inr, append_assoc, drop-cons}
use Rattle.std.proofs.Math.Seq.{take-suc}
use Rattle.std.proofs.lemmas.Bool.{cases_Bool, false≢true}
use Rattle.std.specs.Io.KnownBytes.{Appends}
use Rattle.ca_plane.specs.Prelude.{Counted}
use Rattle.ca_report.specs.Prelude.{Sends, is_control_pair, escaped}
use Rattle.ca_report.proofs.InPieces.{sends_part, sends_later}
use Rattle.ca_report.specs.inner.Parts.{begins_with_control}

-- a first byte that begins no control character stays
pub plain_first : (b : ℕ) (bs : List ℕ) → begins_with_control (b ∷ bs) ≡ false → escaped (b ∷ bs) ≡ b ∷ escaped bs
plain_first b [] h = rw h refl
plain_first b (c ∷ bs) h = elim (cases_Bool (is_control_pair b c)) [
  | inl e ↦ absurd (false≢true (sym (rw e at h)))
  | inr e ↦ let alone = rw e at h in rw e (rw alone refl)
]

-- so does one further on
pub plain_next : (text : List ℕ) (i : ℕ) → i < length text → begins_with_control (drop i text) ≡ false → escaped text ≡ take i text ++ escaped (drop i text)
    → escaped text ≡ take (i + 1) text ++ escaped (drop (i + 1) text)
plain_next text i below plain so_far =
    let b = get_or text i 0 in
    let split = drop-cons text i 0 below in
    let next : escaped (drop i text) ≡ b ∷ escaped (drop (suc i) text) = ap escaped split ∙ plain_first b (drop (suc i) text) (subst (λ l. begins_with_control l ≡ false) split plain) in
    rw add-one (so_far ∙ ap (λ l. take i text ++ l) next ∙ sym (append_assoc (take i text) (b ∷ []) (escaped (drop (suc i) text)))
    ∙ ap (λ l. l ++ escaped (drop (suc i) text)) (sym (take-suc text i 0 below)))

-- a first part of a text was sent, and then a part of the next
pub sends_next : {W T U E : Type 0} (contents : W → Option (List ℕ)) (old mid new : Counted W) (text front part later : List ℕ) (failure e : E) → text ≡ front ++ (part ++ later)
    → Appends (contents old.inner) (contents mid.inner) front → mid.failures ≡ old.failures → Sends {T = T} contents mid new part failure (Err e)
    → Sends {T = U} contents old new text failure (Err e)
sends_next {U = U} contents old mid new text front part later failure e whole sent kept sends =
    rw whole (sends_later contents old mid new front (part ++ later) front (part ++ later) failure (Err e) refl refl sent kept
    (sends_part {U = U} contents mid new part part later failure e refl sends))
