-- Files that were read, by their format.
use Rattle.std.proofs.Common.{◌≡◌, ℕ, List, [], ◌∷◌, sym, subst, ◌∙◌}
use Rattle.std.specs.Prelude.{ℤ}
use Rattle.std.specs.List.{All, AllByRecursion}
use Rattle.std.proofs.lemmas.List.Elements.{All-nil, All-cons, All-contains}
use Rattle.ca_plane.specs.Prelude.{Picture, cell, IsInRange}
use Rattle.ca_plane.proofs.Pictures.{Contains-cell}
use Rattle.ca_macro.specs.Prelude.{AreInRange}
use Rattle.ca_pattern.specs.declared.format.Format.{Format}
use Rattle.ca_pattern.specs.Prelude.{format_of}

-- what holds of bytes in their format holds of them
pub in_format : (P : Format → Type 0) (bytes : List ℕ) (format : Format) → format_of bytes ≡ format → P format → P (format_of bytes)
in_format P bytes format is h = subst P (sym is) h

pub All-each : {X : Type 0} (P : X → Type 0) (xs : List X) → AllByRecursion P xs → All P xs
All-each P [] h = All-nil P
All-each P (x ∷ xs) h = All-cons P x xs h.0 (All-each P xs h.1)

-- where all that a picture lists is in range, so is each live cell that it shows
pub shown_in_range : (cells : ℤ → ℤ → ℕ) (q : Picture) → ((x y : ℤ) → cells x y ≡ cell q x y) → AllByRecursion (λ e. IsInRange e.0) q → AreInRange cells
shown_in_range cells q shown range = λ x y live.
    All-contains (λ e. IsInRange e.0) q (record { y = y; x = x }, cell q x y) (All-each (λ e. IsInRange e.0) q range) (Contains-cell q x y (λ e. live (shown x y ∙ e)))
