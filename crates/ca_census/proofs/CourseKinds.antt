-- What the object with a course is: a claim that is true of its first plane.
use Rattle.std.proofs.Common.{◌≡◌, ◌≢◌, ℕ, ◌<◌, ◌≤◌, List, [], ◌∷◌, length, ◌⊎◌, inl, inr, sym, ap₂, subst, ◌∙◌, arith, w64, to_z, of_z}
use Rattle.std.specs.Prelude.{ℤ, pos, ◌-ℤ◌}
use Rattle.std.specs.List.{All}
use Rattle.std.proofs.lemmas.Bool.{cases_eq}
use Rattle.std.proofs.lemmas.Int.{ints}
use Rattle.std.proofs.lemmas.List.Elements.{All-nil, All-cons, All-contains}
use Rattle.ca_plane.specs.declared.point.Point.{Point}
use Rattle.ca_plane.specs.Prelude.{Picture, cell, shifted, IsAfter, longest_period}
use Rattle.ca_plane.proofs.Pictures.{Contains-cell}
use Rattle.ca_plane.proofs.Shifts.{cell-shifted}
use Rattle.ca_parts.specs.Phases.{IsShortStep}
use Rattle.ca_parts.specs.Prelude.{Course, plane_at}
use Rattle.ca_clusters.specs.Prelude.{first_plane, GoesRound}
use Rattle.ca_text.specs.Prelude.{IsChanged, IsNowhere}
use Rattle.ca_text.specs.declared.kind.Kind.TheVariants.{Oscillator, Spaceship}
use Rattle.ca_text.proofs.Shifts.{shift_reads}
use Rattle.ca_answers.specs.Prelude.{IsTrueWithin}

-- ---- pictures that aren't the same

-- planes have the same states at the points of a list, or differ at one of them
search_points : (f g : ℤ → ℤ → ℕ) (es : Picture) → All (λ (e : Point × ℕ). f e.0.x e.0.y ≡ g e.0.x e.0.y) es ⊎ ((x : ℤ) × (y : ℤ) × (f x y ≢ g x y))
search_points f g [] = inl (All-nil (λ (e : Point × ℕ). f e.0.x e.0.y ≡ g e.0.x e.0.y))
search_points f g (e ∷ es) =
    elim (cases_eq (f e.0.x e.0.y) (g e.0.x e.0.y)) [
      | inr other ↦ inr (e.0.x, e.0.y, other)
      | inl same ↦
          elim (search_points f g es) [
            | inr other ↦ inr other
            | inl all ↦ inl (All-cons (λ (d : Point × ℕ). f d.0.x d.0.y ≡ g d.0.x d.0.y) e es same all)
          ]
    ]

-- pictures have the same states at all places, or differ at one
same_or_other : (p q : Picture) → ((x y : ℤ) → cell p x y ≡ cell q x y) ⊎ ((x : ℤ) × (y : ℤ) × (cell p x y ≢ cell q x y))
same_or_other p q =
    elim (search_points (cell p) (cell q) p) [
      | inr other ↦ inr other
      | inl here ↦
          elim (search_points (cell p) (cell q) q) [
            | inr other ↦ inr other
            | inl there ↦ inl (λ x y.
                elim (cases_eq (cell p x y) 0) [
                  | inr live ↦ All-contains (λ (e : Point × ℕ). cell p e.0.x e.0.y ≡ cell q e.0.x e.0.y) p (record { y = y; x = x }, cell p x y) here (Contains-cell p x y live)
                  | inl dead ↦
                      elim (cases_eq (cell q x y) 0) [
                        | inr live ↦ All-contains (λ (e : Point × ℕ). cell p e.0.x e.0.y ≡ cell q e.0.x e.0.y) q (record { y = y; x = x }, cell q x y) there (Contains-cell q x y live)
                        | inl none ↦ dead ∙ sym none
                      ]
                ])
          ]
    ]

-- ---- a course that goes round

module _ (next : List ℕ → ℕ) (course : Course) (is : GoesRound next course) where
  abbrev first : Picture
  first = first_plane course

  -- before its period is over, its first plane is there again under no vector
  nowhere : (m : ℕ) → 1 ≤ m → m < length course.planes → IsNowhere next first m
  nowhere m some below dx dy back = let least = is.least.least m (some, dx, dy, back) in omega (arith, least, below)

  -- so some cell is another one
  changed : (m : ℕ) → 1 ≤ m → m < length course.planes → IsChanged next first m
  changed m some below =
      elim (same_or_other (plane_at course.planes m) first) [
        | inr other ↦ (other.0, other.1, λ e. other.2 (sym (is.phases.each m below other.0 other.1) ∙ e))
        | inl same ↦ absurd (nowhere m some below (pos 0) (pos 0) (λ x y.
            let ax : x ≡ x -ℤ pos 0 = omega (arith, ints) in
            let ay : y ≡ y -ℤ pos 0 = omega (arith, ints) in
            is.phases.each m below x y ∙ same x y ∙ ap₂ (cell first) ax ay ∙ sym (cell-shifted first (pos 0) (pos 0) x y)))
      ]

  module _ (period : ℕ) (dx dy : ℤ) (all : period ≡ length course.planes) (right : dx ≡ course.dx) (down : dy ≡ course.dy) (short : period ≤ longest_period) where
    back : IsAfter next first period (shifted first dx dy)
    back = rw (all, right, down) is.phases.back

    -- one that isn't moved is an oscillator
    pub oscillates : dx ≡ pos 0 → dy ≡ pos 0 → period ≢ 1 → IsTrueWithin next first longest_period (Oscillator period)
    oscillates no_right no_down more = record {
      numbers = let some = is.phases.some in (omega (arith, some, all, more), short);
      within = short;
      holds = record {
        live = λ _. is.live;
        stands = subst (λ d. IsAfter next first period (shifted first (pos 0) d)) no_down (subst (λ d. IsAfter next first period (shifted first d dy)) no_right back);
        least = λ m some below. changed m some (omega (arith, below, all));
      };
    }

    -- one that is moved is a spaceship
    pub travels : IsShortStep dx → IsShortStep dy → ((dx ≡ pos 0) × (dy ≡ pos 0) → ⊥) → IsTrueWithin next first longest_period (Spaceship period dx dy)
    travels short_right short_down moved = record {
      numbers = let some = is.phases.some in (omega (arith, some, all), short, short_right, short_down, λ no_right no_down. moved (no_right, no_down));
      within = short;
      holds = record {
        live = λ _. is.live;
        stands = back;
        least = λ m some below. nowhere m some (omega (arith, below, all));
      };
    }

-- as it is read
pub spaceship_reads : (next : List ℕ → ℕ) (p : Picture) (period : ℕ) (dx dy : ℤ) → IsShortStep dx → IsShortStep dy → IsTrueWithin next p longest_period (Spaceship period dx dy)
    → IsTrueWithin next p longest_period (Spaceship period (to_z w64 (of_z w64 dx)) (to_z w64 (of_z w64 dy)))
spaceship_reads next p period dx dy short_right short_down true =
    subst (λ v. IsTrueWithin next p longest_period (Spaceship period (to_z w64 (of_z w64 dx)) v)) (sym (shift_reads dy short_down))
    (subst (λ u. IsTrueWithin next p longest_period (Spaceship period u dy)) (sym (shift_reads dx short_right)) true)
