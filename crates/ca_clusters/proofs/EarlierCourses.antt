-- The course of what a plane was some generations earlier, by the planes of its own course.
use Rattle.std.proofs.Common.{◌≡◌, ℕ, zero, suc, ◌+◌, ◌-◌, ◌*◌, ◌/◌, ◌%◌, ◌<◌, ◌≤◌, List, [], ◌∷◌, ◌++◌, Result, Ok, Err, length, inl, inr, refl, sym, ap, ap₂, ◌∙◌, subst, arith}
use Rattle.std.specs.Prelude.{ℤ, pos, negsuc, neg_ℤ, ◌+ℤ◌, ◌-ℤ◌, ◌*ℤ◌, replicate}
use Rattle.std.specs.Result.{IsErrAnd, IsErrOf}
use Rattle.std.proofs.Math.IntN.{zero-*ℤ}
use Rattle.std.proofs.lemmas.Bool.{cases_lt}
use Rattle.std.proofs.lemmas.Int.{ints}
use Rattle.std.proofs.lemmas.List.{get_or_append_left, get_or_push, length_push}
use Rattle.ca_plane.specs.Prelude.{Picture, cell, shifted, after, IsAfter, IsSame, IsLive}
use Rattle.ca_plane.proofs.Shifts.{cell-shifted}
use Rattle.ca_plane.proofs.After.{after_again}
use Rattle.ca_steps.specs.Prelude.{IsBackAnywhere, IsLeast}
use Rattle.ca_parts.specs.Prelude.{Course, plane_at, shown}
use Rattle.ca_parts.proofs.Returning.{IsBackBy, IsBackBy-from_shifted, shifted-from_IsBackBy, after_seen_so, after_return, back_times}
use Rattle.ca_parts.proofs.Turns.{times-plus}
use Rattle.ca_parts.proofs.LaterPictures.{live_or_not}
use Rattle.ca_parts.proofs.LaterDivisions.{nothing_comes, IsBackBy-later}
use Rattle.ca_parts.proofs.ShownCourses.{IsAfter-shown}
use Rattle.ca_clusters.specs.Clusters.{first_plane, GoesRound}
use Rattle.ca_clusters.specs.inner.Earlier.{IsEarlierCourse, way_from, shown_from}

-- ---- the way from an earlier start

neg-times : (a : ℕ) (d : ℤ) → neg_ℤ (pos a) *ℤ d ≡ neg_ℤ (pos a *ℤ d)
neg-times zero d = rw (zero-*ℤ d) refl
neg-times (suc a) (pos d) = omega (arith, ints)
neg-times (suc a) (negsuc d) = omega (arith, ints)

-- before the first plane it is the way back from that
pub way_from-back : (a turns periods : ℕ) (step : ℤ) → a + periods ≡ turns → way_from turns periods step ≡ neg_ℤ (pos a *ℤ step)
way_from-back a turns periods step sum =
    let e : pos periods -ℤ pos turns ≡ neg_ℤ (pos a) = omega (arith, ints, sum) in
    ap (λ z. z *ℤ step) e ∙ neg-times a step

way_from-ahead : (a turns periods : ℕ) (step : ℤ) → a + turns ≡ periods → way_from turns periods step ≡ pos a *ℤ step
way_from-ahead a turns periods step sum =
    let e : pos periods -ℤ pos turns ≡ pos a = omega (arith, ints, sum) in
    ap (λ z. z *ℤ step) e

behind : (w turned back on : ℤ) → w ≡ neg_ℤ back → turned ≡ back +ℤ on → w +ℤ turned ≡ on
behind w turned back on one two = omega (arith, ints)

ahead : (w turned more on : ℤ) → w ≡ more → on ≡ more +ℤ turned → w +ℤ turned ≡ on
ahead w turned more on one two = omega (arith, ints)

-- from the earlier start on it goes the way from the first plane on, and the one up to that
way_from-split : (turns periods : ℕ) (step : ℤ) → way_from turns periods step +ℤ (pos turns *ℤ step) ≡ pos periods *ℤ step
way_from-split turns periods step =
    elim (cases_lt periods turns) [
      | inl less ↦
          let a : ℕ = turns - periods in
          let sum : a + periods ≡ turns = omega arith in
          behind (way_from turns periods step) (pos turns *ℤ step) (pos a *ℤ step) (pos periods *ℤ step) (way_from-back a turns periods step sum)
          (ap (λ m. pos m *ℤ step) (sym sum) ∙ times-plus a periods step)
      | inr more ↦
          let a : ℕ = periods - turns in
          let sum : a + turns ≡ periods = omega arith in
          ahead (way_from turns periods step) (pos turns *ℤ step) (pos a *ℤ step) (pos periods *ℤ step) (way_from-ahead a turns periods step sum)
          (ap (λ m. pos m *ℤ step) (sym sum) ∙ times-plus a turns step)
    ]

-- ---- what is shown from there

-- what is shown from an earlier start on is what is shown from the first plane on, moved back
shown_from-seen : (course : Course) (turns k : ℕ) (x y : ℤ) → cell (shown_from course turns k) x y ≡ cell (shown course k) (x +ℤ (pos turns *ℤ course.dx)) (y +ℤ (pos turns *ℤ course.dy))
shown_from-seen course turns k x y =
    let periods : ℕ = k / length course.planes in
    let plane : Picture = plane_at course.planes (k % length course.planes) in
    let u : ℤ = way_from turns periods course.dx in
    let v : ℤ = way_from turns periods course.dy in
    let ax : x -ℤ u ≡ (x +ℤ (pos turns *ℤ course.dx)) -ℤ (pos periods *ℤ course.dx) = omega (arith, ints, way_from-split turns periods course.dx) in
    let ay : y -ℤ v ≡ (y +ℤ (pos turns *ℤ course.dy)) -ℤ (pos periods *ℤ course.dy) = omega (arith, ints, way_from-split turns periods course.dy) in
    cell-shifted plane u v x y ∙ ap₂ (cell plane) ax ay
    ∙ sym (cell-shifted plane (pos periods *ℤ course.dx) (pos periods *ℤ course.dy) (x +ℤ (pos turns *ℤ course.dx)) (y +ℤ (pos turns *ℤ course.dy)))

module _ (next : List ℕ → ℕ) (quiet : next (replicate 9 0) ≡ 0) (course : Course) (round : GoesRound next course) (turns first : ℕ) (e : Picture) (same : IsSame e (shown_from course turns first)) where
  -- what it was goes on as the first plane does, from the generation of that time on
  after_early : (m : ℕ) (x y : ℤ) → after next e m x y ≡ after next (first_plane course) (first + m) (x +ℤ (pos turns *ℤ course.dx)) (y +ℤ (pos turns *ℤ course.dy))
  after_early m x y =
      let u : ℤ = pos turns *ℤ course.dx in
      let v : ℤ = pos turns *ℤ course.dy in
      let p = first_plane course in
      sym (after_seen_so next (cell e) (after next p first) u v
      (λ a b. IsAfter-shown next p course round.phases first (a +ℤ u) (b +ℤ v) ∙ sym (shown_from-seen course turns first a b) ∙ sym (same a b)) m x y)
      ∙ after_again next (cell p) first m (x +ℤ u) (y +ℤ v)

  -- and shows what the course shows from that time on
  IsAfter-shown_from : (m : ℕ) → IsAfter next e m (shown_from course turns (first + m))
  IsAfter-shown_from m x y =
      after_early m x y
      ∙ IsAfter-shown next (first_plane course) course round.phases (first + m) (x +ℤ (pos turns *ℤ course.dx)) (y +ℤ (pos turns *ℤ course.dy))
      ∙ sym (shown_from-seen course turns (first + m) x y)

  -- it is back after a period, by the same vector
  early_back : IsBackBy next (cell e) (length course.planes) course.dx course.dy
  early_back x y =
      let u : ℤ = pos turns *ℤ course.dx in
      let v : ℤ = pos turns *ℤ course.dy in
      let p = first_plane course in
      let ax : (x +ℤ course.dx) +ℤ u ≡ (x +ℤ u) +ℤ course.dx = omega (arith, ints) in
      let ay : (y +ℤ course.dy) +ℤ v ≡ (y +ℤ v) +ℤ course.dy = omega (arith, ints) in
      let turned : first + length course.planes ≡ length course.planes + first = omega arith in
      let none : first ≡ first + 0 = omega arith in
      after_early (length course.planes) (x +ℤ course.dx) (y +ℤ course.dy)
      ∙ ap (λ k. after next p k ((x +ℤ course.dx) +ℤ u) ((y +ℤ course.dy) +ℤ v)) turned
      ∙ ap₂ (after next p (length course.planes + first)) ax ay
      ∙ after_return next (cell p) (length course.planes) course.dx course.dy (IsBackBy-from_shifted next p (length course.planes) course.dx course.dy round.phases.back) first (x +ℤ u) (y +ℤ v)
      ∙ ap (λ k. after next p k (x +ℤ u) (y +ℤ v)) none
      ∙ sym (after_early 0 x y)

  -- after n generations it is the first plane
  early_later : (n : ℕ) → first + n ≡ turns * length course.planes → IsAfter next e n (first_plane course)
  early_later n sum x y =
      let u : ℤ = pos turns *ℤ course.dx in
      let v : ℤ = pos turns *ℤ course.dy in
      let p = first_plane course in
      after_early n x y ∙ ap (λ k. after next p k (x +ℤ u) (y +ℤ v)) sum
      ∙ back_times next (cell p) (length course.planes) turns course.dx course.dy (IsBackBy-from_shifted next p (length course.planes) course.dx course.dy round.phases.back) x y

  early_live : (n : ℕ) → IsAfter next e n (first_plane course) → IsLive e
  early_live n later =
      elim (live_or_not e) [
        | inl live ↦ live
        | inr dead ↦ let (x, y, live) = round.live in absurd (live (sym (later x y) ∙ nothing_comes next quiet (cell e) dead n x y))
      ]

  -- and it is back no earlier than that
  early_least : (n : ℕ) → IsAfter next e n (first_plane course) → IsLeast (IsBackAnywhere next e) (length course.planes)
  early_least n later = record {
    one = (round.phases.some, course.dx, course.dy, shifted-from_IsBackBy next e (length course.planes) course.dx course.dy early_back);
    least = λ m (some, u, v, back). round.least.least m (
      some,
      u,
      v,
      shifted-from_IsBackBy next (first_plane course) m u v (IsBackBy-later next e (first_plane course) n m u v later (IsBackBy-from_shifted next e m u v back)),
    );
  }

-- planes that show what the course shows from that time on are those of the earlier course
pub IsEarlierCourse-from_planes : (course : Course) (turns first n : ℕ) (planes : List Picture) → first + n ≡ turns * length course.planes → 1 ≤ length course.planes
    → length planes ≡ length course.planes → ((k : ℕ) → k < length course.planes → IsSame (plane_at planes k) (shown_from course turns (first + k)))
    → IsEarlierCourse n course (record { planes = planes; dx = course.dx; dy = course.dy })
IsEarlierCourse-from_planes course turns first n planes sum some long each next quiet round =
    let e = plane_at planes 0 in
    let none : first + 0 ≡ first = omega arith in
    let same : IsSame e (shown_from course turns first) = subst (λ k. IsSame e (shown_from course turns k)) none (each 0 some) in
    let later = early_later next quiet course round turns first e same n sum in
    let back = shifted-from_IsBackBy next e (length course.planes) course.dx course.dy (early_back next quiet course round turns first e same) in (
      record {
        live = early_live next quiet course round turns first e same n later;
        phases = record {
          some = subst (λ m. 1 ≤ m) (sym long) some;
          each = λ k below x y.
              let within : k < length course.planes = omega (arith, below, long) in
              IsAfter-shown_from next quiet course round turns first e same k x y ∙ sym (each k within x y);
          back = subst (λ m. IsAfter next e m (shifted e course.dx course.dy)) (sym long) back;
        };
        least = subst (IsLeast (IsBackAnywhere next e)) (sym long) (early_least next quiet course round turns first e same n later);
      },
      record {
        back = (length course.planes, some, course.dx, course.dy, back);
        later = later;
      },
    )

-- what holds of each plane by its place holds of one more
pub each_push : (P : ℕ → Picture → Type 0) (planes : List Picture) (q : Picture) → ((j : ℕ) → j < length planes → P j (plane_at planes j)) → P (length planes) q
    → (j : ℕ) → j < length (planes ++ q ∷ []) → P j (plane_at (planes ++ q ∷ []) j)
each_push P planes q each here j below =
    elim (cases_lt j (length planes)) [
      | inl early ↦ subst (P j) (sym (get_or_append_left planes (q ∷ []) [] j early)) (each j early)
      | inr late ↦
          let last : length planes ≡ j = omega (arith, below, late, length_push planes q) in
          subst (P j) (sym (get_or_push planes q [] j last)) (subst (λ k. P k q) last here)
    ]

-- ---- faults

-- the fault that a call passes on
pub passed_on : {T U E : Type 0} (r : Result T E) (f g : E) → IsErrAnd r (λ e. e ≡ f) → IsErrOf r g → IsErrOf {T = U} (Err f) g
passed_on (Ok t) f g was is =
    let no : ⊥ = cc in
    absurd no
passed_on (Err e) f g was is = cc
