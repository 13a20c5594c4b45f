-- Bytes without the blanks at their end, a byte at a time.
use Rattle.std.proofs.Common.{◌≡◌, ℕ, true, false, List, [], ◌∷◌, ◌++◌, refl, ap, ◌∙◌, sym, inl, inr}
use Rattle.std.specs.List.{list_all}
use Rattle.std.proofs.lemmas.Bool.{cases_Bool}
use Rattle.ca_plane.specs.Prelude.{is_blank, without_last_blanks}

-- a list with one more byte is all blanks where it was and the byte is a blank
all_more : (bs : List ℕ) (c : ℕ) → is_blank c ≡ true → list_all is_blank (bs ++ c ∷ []) ≡ list_all is_blank bs
all_more [] c h = rw h refl
all_more (b ∷ bs) c h = rw (all_more bs c h) refl

-- a last byte that is a blank is left out
blank_last : (bs : List ℕ) (c : ℕ) → is_blank c ≡ true → without_last_blanks (bs ++ c ∷ []) ≡ without_last_blanks bs
blank_last [] c h = rw h refl
blank_last (b ∷ bs) c h = rw (all_more (b ∷ bs) c h, blank_last bs c h) refl

none_more : (bs : List ℕ) (c : ℕ) → is_blank c ≡ false → list_all is_blank (bs ++ c ∷ []) ≡ false
none_more [] c h = rw h refl
none_more (b ∷ bs) c h = elim (cases_Bool (is_blank b)) [ inl e ↦ rw e (none_more bs c h) | inr e ↦ rw e refl ]

-- bytes whose last is no blank stay whole
kept_last : (bs : List ℕ) (c : ℕ) → is_blank c ≡ false → without_last_blanks (bs ++ c ∷ []) ≡ bs ++ c ∷ []
kept_last [] c h = rw h refl
kept_last (b ∷ bs) c h = rw (none_more (b ∷ bs) c h) (ap (λ l. b ∷ l) (kept_last bs c h))

-- the same of bytes that are split at their last
pub behind_blank : (bytes before : List ℕ) (c : ℕ) → is_blank c ≡ true → bytes ≡ before ++ c ∷ [] → without_last_blanks bytes ≡ without_last_blanks before
behind_blank bytes before c h e = ap without_last_blanks e ∙ blank_last before c h

pub behind_other : (bytes before : List ℕ) (c : ℕ) → is_blank c ≡ false → bytes ≡ before ++ c ∷ [] → without_last_blanks bytes ≡ bytes
behind_other bytes before c h e = ap without_last_blanks e ∙ kept_last before c h ∙ sym e
