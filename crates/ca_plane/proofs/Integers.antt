-- A text spells one integer at most.
use Rattle.std.proofs.Common.{◌≡◌, ℕ, List, ◌∷◌, [], inl, inr, ℤ, pos, neg_ℤ, true≢false, sym, ap, subst, ◌∙◌}
use Rattle.std.specs.List.{list_all}
use Rattle.std.proofs.lemmas.List.{append_cancel_left}
use Rattle.std.proofs.lemmas.Bool.{and_parts}
use Rattle.ca_plane.specs.Prelude.{is_digit, AreDigits, IsInteger, value}

-- digits have no minus sign
no_minus : (digits : List ℕ) → AreDigits (45 ∷ digits) → ⊥
no_minus digits h = true≢false (sym (and_parts (is_digit 45) (list_all is_digit digits) h).0)

-- a text spells one integer at most
pub one_integer : (bytes : List ℕ) (x y : ℤ) → IsInteger bytes x → IsInteger bytes y → x ≡ y
one_integer bytes x y (inl (d, p)) (inl (e, q)) = p ∙ sym q
one_integer bytes x y (inl (d, p)) (inr (digits, spelled, e, q)) = absurd (no_minus digits (subst AreDigits spelled d))
one_integer bytes x y (inr (digits, spelled, e, q)) (inl (d, p)) = absurd (no_minus digits (subst AreDigits spelled d))
one_integer bytes x y (inr (a, e, d, p)) (inr (b, f, g, q)) =
    let same : a ≡ b = append_cancel_left (45 ∷ []) a b (sym e ∙ f) in
    p ∙ ap (λ (l : List ℕ). neg_ℤ (pos (value l))) same ∙ sym q
