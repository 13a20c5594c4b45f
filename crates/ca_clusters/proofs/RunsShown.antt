-- What a part that is run shows after some generations, going on alone.
use Rattle.std.proofs.Common.{◌≡◌, ℕ, ◌/◌, ◌%◌, ◌<◌, ◌≤◌, List, length, IsTrue, sym, ap, ap₂, ◌∙◌, inl, inr, arith}
use Rattle.std.specs.Prelude.{ℤ, pos, ◌-ℤ◌, ◌*ℤ◌}
use Rattle.std.proofs.Math.Nat.{div-eq_of_lt, mod-eq_of_lt}
use Rattle.std.proofs.Math.IntN.{zero-*ℤ}
use Rattle.std.proofs.lemmas.Bool.{cases_Bool}
use Rattle.std.proofs.lemmas.Int.{ints}
use Rattle.ca_plane.specs.Prelude.{cell, after, IsAfter}
use Rattle.ca_plane.proofs.Shifts.{cell-shifted}
use Rattle.ca_parts.specs.Prelude.{Course, AreApart, AreApartAfter, plane_at, shown}
use Rattle.ca_parts.proofs.ApartPlanes.{AreApart-same}
use Rattle.ca_parts.proofs.ShownCourses.{IsAfter-shown}
use Rattle.ca_clusters.specs.declared.part.Part.{Part}
use Rattle.ca_clusters.specs.inner.Runs.{IsRun, IsRunTo, origin}

-- a coordinate from which no way is taken
not_moved : (k : ℕ) (z step : ℤ) → k ≡ 0 → z -ℤ (pos k *ℤ step) ≡ z
not_moved k z step none = let e : pos k *ℤ step ≡ pos 0 = ap (λ (m : ℕ). pos m *ℤ step) none ∙ zero-*ℤ step in omega (arith, ints, e)

-- before the first period ends, a course shows its planes
shown_early : (course : Course) (n : ℕ) → n < length course.planes → (x y : ℤ) → cell (shown course n) x y ≡ cell (plane_at course.planes n) x y
shown_early course n low x y =
    let turns : n / length course.planes ≡ 0 = div-eq_of_lt low in
    let left : ℤ = x -ℤ (pos (n / length course.planes) *ℤ course.dx) in
    let up : ℤ = y -ℤ (pos (n / length course.planes) *ℤ course.dy) in
    cell-shifted (plane_at course.planes (n % length course.planes)) (pos (n / length course.planes) *ℤ course.dx) (pos (n / length course.planes) *ℤ course.dy) x y
    ∙ ap (λ (k : ℕ). cell (plane_at course.planes k) left up) (mod-eq_of_lt low)
    ∙ ap₂ (cell (plane_at course.planes n)) (not_moved (n / length course.planes) x course.dx turns) (not_moved (n / length course.planes) y course.dy turns)

-- a part that comes back is what it shows, after any number of generations
pub IsAfter-round : (next : List ℕ → ℕ) (count : ℕ) (part : Part) → IsRun next count part → IsTrue part.is_back → (n : ℕ) → IsAfter next (origin part) n (shown part.shows n)
IsAfter-round next count part run back n = IsAfter-shown next (origin part) part.shows (run.round back).phases n

-- a part that is run to the horizon is so up to there, at least
pub IsAfter-run : (next : List ℕ → ℕ) (count horizon : ℕ) (part : Part) → IsRunTo next count horizon part → (n : ℕ) → n ≤ horizon → IsAfter next (origin part) n (shown part.shows n)
IsAfter-run next count horizon part to n within = elim (cases_Bool part.is_back) [
  | inl back ↦ IsAfter-round next count part to.run back n
  | inr open_end ↦
      let low : n < length part.shows.planes = omega (arith, to.far open_end) in
      λ x y. to.run.beginning.each n low x y ∙ sym (shown_early part.shows n low x y)
]

-- ---- two parts

-- they are apart where what they show is,
pub apart_from_shown : (next : List ℕ → ℕ) (count horizon : ℕ) (part another : Part) → IsRunTo next count horizon part → IsRunTo next count horizon another → (n : ℕ) → n ≤ horizon
    → AreApartAfter part.shows another.shows n → AreApart (after next (origin part) n) (after next (origin another) n)
apart_from_shown next count horizon part another to to_too n within =
    AreApart-same (cell (shown part.shows n)) (cell (shown another.shows n)) (after next (origin part) n) (after next (origin another) n)
    (IsAfter-run next count horizon part to n within) (IsAfter-run next count horizon another to_too n within)

-- and only there
pub shown_from_apart : (next : List ℕ → ℕ) (count horizon : ℕ) (part another : Part) → IsRunTo next count horizon part → IsRunTo next count horizon another → (n : ℕ) → n ≤ horizon
    → AreApart (after next (origin part) n) (after next (origin another) n) → AreApartAfter part.shows another.shows n
shown_from_apart next count horizon part another to to_too n within =
    AreApart-same (after next (origin part) n) (after next (origin another) n) (cell (shown part.shows n)) (cell (shown another.shows n))
    (λ x y. sym (IsAfter-run next count horizon part to n within x y)) (λ x y. sym (IsAfter-run next count horizon another to_too n within x y))

-- where both come back this holds after any number of generations
pub apart_from_rounds : (next : List ℕ → ℕ) (count : ℕ) (part another : Part) → IsRun next count part → IsRun next count another → IsTrue part.is_back → IsTrue another.is_back → (n : ℕ)
    → AreApartAfter part.shows another.shows n → AreApart (after next (origin part) n) (after next (origin another) n)
apart_from_rounds next count part another run run_too back back_too n =
    AreApart-same (cell (shown part.shows n)) (cell (shown another.shows n)) (after next (origin part) n) (after next (origin another) n)
    (IsAfter-round next count part run back n) (IsAfter-round next count another run_too back_too n)
