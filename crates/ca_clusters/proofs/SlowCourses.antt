-- Courses go no faster than one cell a generation, so that their vectors are short.
use Rattle.std.proofs.Common.{◌≡◌, ◌≢◌, ℕ, zero, suc, ◌+◌, ◌-◌, ◌*◌, ◌/◌, ◌%◌, ◌^◌, ◌<◌, ◌≤◌, List, [], ◌∷◌, length, ◌⊎◌, inl, inr, sym, ap, ◌∙◌, subst, arith}
use Rattle.std.specs.Prelude.{ℤ, pos, negsuc, neg_ℤ, ◌+ℤ◌, ◌-ℤ◌, ◌*ℤ◌, ◌≤ℤ◌, ◌<ℤ◌, replicate, unsigned_abs, FitsSigned}
use Rattle.std.specs.List.{All}
use Rattle.std.specs.Int.{w64}
use Rattle.std.proofs.Math.Nat.{mul-le-mul_right}
use Rattle.std.proofs.lemmas.Bool.{cases_eq, cases_lt}
use Rattle.std.proofs.lemmas.Int.{ints, by_lt_z, fits_signed_mul}
use Rattle.std.proofs.lemmas.Nat.{mod_below, div-add-mod'}
use Rattle.std.proofs.lemmas.List.Elements.{All-nil, All-cons, All-weaker, All-contains}
use Rattle.ca_plane.specs.declared.point.Point.{Point}
use Rattle.ca_plane.specs.Prelude.{Picture, cell, IsLive, IsWithin, LeavesPlane, longest_period, most_generations}
use Rattle.ca_plane.proofs.After.{after_dead}
use Rattle.ca_plane.proofs.Pictures.{Contains-cell}
use Rattle.ca_parts.specs.Prelude.{Course, IsCourse, plane_at}
use Rattle.ca_parts.proofs.Returning.{IsBackBy, IsBackBy-from_shifted}
use Rattle.ca_clusters.specs.Clusters.{first_plane, GoesRound}
use Rattle.ca_clusters.specs.Ranges.{WasOutside}
use Rattle.ca_clusters.specs.inner.Earlier.{way_from, LeavesFrom}
use Rattle.ca_clusters.proofs.EarlierCourses.{way_from-back}

-- ---- the live cell that is the farthest

-- where some listed point is live, one of these is the farthest
farthest_of : (p : Picture) (far : ℤ → ℤ → ℤ) (es : Picture)
    → All (λ e. cell p e.0.x e.0.y ≡ 0) es ⊎ ((x : ℤ) × (y : ℤ) × (cell p x y ≢ 0) × All (λ e. cell p e.0.x e.0.y ≢ 0 → far e.0.x e.0.y ≤ℤ far x y) es)
farthest_of p far [] = inl (All-nil (λ (e : Point × ℕ). cell p e.0.x e.0.y ≡ 0))
farthest_of p far (e ∷ es) =
    elim (cases_eq (cell p e.0.x e.0.y) 0) [
      | inl none ↦ elim (farthest_of p far es) [
        | inl all ↦ inl (All-cons (λ (f : Point × ℕ). cell p f.0.x f.0.y ≡ 0) e es none all)
        | inr (x, y, live, all) ↦ inr (x, y, live, All-cons (λ (f : Point × ℕ). cell p f.0.x f.0.y ≢ 0 → far f.0.x f.0.y ≤ℤ far x y) e es (λ here. absurd (here none)) all)
      ]
      | inr here ↦ elim (farthest_of p far es) [
        | inl all ↦ inr (
          e.0.x,
          e.0.y,
          here,
          All-cons (λ (f : Point × ℕ). cell p f.0.x f.0.y ≢ 0 → far f.0.x f.0.y ≤ℤ far e.0.x e.0.y) e es (λ _. omega (arith, ints))
              (All-weaker (λ (f : Point × ℕ). cell p f.0.x f.0.y ≡ 0) (λ (f : Point × ℕ). cell p f.0.x f.0.y ≢ 0 → far f.0.x f.0.y ≤ℤ far e.0.x e.0.y) (λ f none live. absurd (live none)) es all),
        )
        | inr (x, y, live, all) ↦ by_lt_z (far e.0.x e.0.y) (far x y)
            (λ less. inr (x, y, live, All-cons (λ (f : Point × ℕ). cell p f.0.x f.0.y ≢ 0 → far f.0.x f.0.y ≤ℤ far x y) e es (λ _. omega (arith, ints, less)) all))
            (λ more. inr (
              e.0.x,
              e.0.y,
              here,
              All-cons (λ (f : Point × ℕ). cell p f.0.x f.0.y ≢ 0 → far f.0.x f.0.y ≤ℤ far e.0.x e.0.y) e es (λ _. omega (arith, ints))
                  (All-weaker (λ (f : Point × ℕ). cell p f.0.x f.0.y ≢ 0 → far f.0.x f.0.y ≤ℤ far x y) (λ (f : Point × ℕ). cell p f.0.x f.0.y ≢ 0 → far f.0.x f.0.y ≤ℤ far e.0.x e.0.y) (λ f near there. let less = near there in omega (arith, ints, less, more)) es all),
            ))
      ]
    ]

-- a live picture has one
farthest : (p : Picture) (far : ℤ → ℤ → ℤ) → IsLive p → (x : ℤ) × (y : ℤ) × (cell p x y ≢ 0) × ((a b : ℤ) → cell p a b ≢ 0 → far a b ≤ℤ far x y)
farthest p far (u, v, here) =
    elim (farthest_of p far p) [
      | inl none ↦ absurd (here (All-contains (λ (e : Point × ℕ). cell p e.0.x e.0.y ≡ 0) p (record { y = v; x = u }, cell p u v) none (Contains-cell p u v here)))
      | inr (x, y, live, all) ↦ (
        x,
        y,
        live,
        λ a b there. All-contains (λ (e : Point × ℕ). cell p e.0.x e.0.y ≢ 0 → far e.0.x e.0.y ≤ℤ far x y) p (record { y = b; x = a }, cell p a b) all (Contains-cell p a b there) there,
      )
    ]

-- ---- speed

module _ (next : List ℕ → ℕ) (quiet : next (replicate 9 0) ≡ 0) (p : Picture) (m : ℕ) (u v : ℤ) (back : IsBackBy next (cell p) m u v) (live : IsLive p) where
  -- what is back isn't farther than all that could come of its live cells
  no_farther : (far : ℤ → ℤ → ℤ) → ((x y a b : ℤ) → IsWithin m (x +ℤ u) (y +ℤ v) a b → far x y <ℤ far a b) → ⊥
  no_farther far beyond =
      let (x, y, here, all) = farthest p far live in
      here (sym (back x y) ∙ after_dead next (cell p) quiet m (x +ℤ u) (y +ℤ v) (λ a b within. elim (cases_eq (cell p a b) 0) [
        | inl none ↦ none
        | inr there ↦ let near = all a b there in let past = beyond x y a b within in absurd (omega (arith, ints, near, past))
      ]))

  -- so the vector is no longer than the time
  no_faster : (neg_ℤ (pos m) ≤ℤ u) × (u ≤ℤ pos m) × (neg_ℤ (pos m) ≤ℤ v) × (v ≤ℤ pos m)
  no_faster = (
    by_lt_z u (neg_ℤ (pos m)) (λ fast. absurd (no_farther (λ a b. neg_ℤ a) (λ x y a b within. omega (arith, ints, fast, within)))) (λ slow. slow),
    by_lt_z (pos m) u (λ fast. absurd (no_farther (λ a b. a) (λ x y a b within. omega (arith, ints, fast, within)))) (λ slow. slow),
    by_lt_z v (neg_ℤ (pos m)) (λ fast. absurd (no_farther (λ a b. neg_ℤ b) (λ x y a b within. omega (arith, ints, fast, within)))) (λ slow. slow),
    by_lt_z (pos m) v (λ fast. absurd (no_farther (λ a b. b) (λ x y a b within. omega (arith, ints, fast, within)))) (λ slow. slow),
  )

-- ---- ways

-- fewer generations than a period more than so many are no more whole periods
whole_turns : (turns periods period rest : ℕ) → periods * period + rest < turns * period + period → periods ≤ turns
whole_turns turns periods period rest less =
    elim (cases_lt turns periods) [
      | inr few ↦ few
      | inl many ↦
          let more : suc turns * period ≤ periods * period = mul-le-mul_right period many in
          absurd (omega (arith, less, more))
    ]

-- the length of a way that is bounded on both sides
abs_within : (m : ℕ) (d : ℤ) → neg_ℤ (pos m) ≤ℤ d → d ≤ℤ pos m → unsigned_abs d ≤ m
abs_within m (pos d) low high = omega (arith, ints, high)
abs_within m (negsuc d) low high = omega (arith, ints, low)

abs_back : (a : ℕ) → unsigned_abs (neg_ℤ (pos a)) ≤ a
abs_back zero = omega arith
abs_back (suc a) = omega arith

-- the way back over some periods, by a step that is no longer than a period, is as short as these are
fits_back : (a turns periods period : ℕ) (step : ℤ) → a + periods ≡ turns → a * period < 2 ^ 63 → neg_ℤ (pos period) ≤ℤ step → step ≤ℤ pos period → FitsSigned w64 (way_from turns periods step)
fits_back a turns periods period step sum short low high =
    let e : neg_ℤ (pos a) ≡ pos periods -ℤ pos turns = omega (arith, ints, sum) in
    fits_signed_mul w64 (pos periods -ℤ pos turns) step a period (subst (λ z. unsigned_abs z ≤ a) e (abs_back a)) (abs_within period step low high) short

-- ---- courses

module _ (next : List ℕ → ℕ) (quiet : next (replicate 9 0) ≡ 0) (course : Course) (round : GoesRound next course) (most : length course.planes ≤ longest_period) where
  slow : (neg_ℤ (pos (length course.planes)) ≤ℤ course.dx) × (course.dx ≤ℤ pos (length course.planes)) × (neg_ℤ (pos (length course.planes)) ≤ℤ course.dy) × (course.dy ≤ℤ pos (length course.planes))
  slow =
      no_faster next quiet (first_plane course) (length course.planes) course.dx course.dy
      (IsBackBy-from_shifted next (first_plane course) (length course.planes) course.dx course.dy round.phases.back) round.live

  -- the planes of another one period and the same vector are a course too
  pub IsCourse-slow : (planes : List Picture) (dx dy : ℤ) → length planes ≡ length course.planes → dx ≡ course.dx → dy ≡ course.dy → IsCourse (record { planes = planes; dx = dx; dy = dy })
  IsCourse-slow planes dx dy long across down =
      let (left, right, above, below) = slow in
      let some = round.phases.some in
      record {
        some = omega (arith, some, long);
        most = omega (arith, most, long);
        across = (omega (arith, ints, left, most, across), omega (arith, ints, right, most, across));
        down = (omega (arith, ints, above, most, down), omega (arith, ints, below, most, down));
      }

  -- a plane that leaves the square, at most a period after an earlier time, was outside
  pub WasOutside-from_leaves : (turns first n k : ℕ) → first + n ≡ turns * length course.planes → first ≤ k → k < first + length course.planes → n ≤ most_generations
      → (FitsSigned w64 (way_from turns (k / length course.planes) course.dx) → FitsSigned w64 (way_from turns (k / length course.planes) course.dy) → LeavesFrom course turns k)
      → WasOutside n course
  WasOutside-from_leaves turns first n k start from to few leaves =
      let P : ℕ = length course.planes in
      let K : ℕ = k / P in
      let r : ℕ = k % P in
      let some = round.phases.some in
      let split : K * P + r ≡ k = div-add-mod' k P in
      let below : r < P = mod_below k P some in
      let early : K ≤ turns = whole_turns turns K P r (omega (arith, split, start, to)) in
      let a : ℕ = turns - K in
      let sum : a + K ≡ turns = omega (arith, early) in
      let product : (a + K) * P ≡ turns * P = ap (λ m. m * P) sum in
      let is : (k - first) + a * P ≡ n + r = omega (arith, product, split, start, from) in
      let (left, right, above, under) = slow in
      let short : a * P < 2 ^ 63 = omega (arith, is, below, few, most, from, to) in
      let across = fits_back a turns K P course.dx sum short left right in
      let down = fits_back a turns K P course.dy sum short above under in
      let back : LeavesPlane (plane_at course.planes r) (way_from turns K course.dx) (way_from turns K course.dy) = leaves across down in (
        k - first,
        r,
        a,
        omega (arith, from, to),
        below,
        is,
        subst (λ v. LeavesPlane (plane_at course.planes r) (neg_ℤ (pos a *ℤ course.dx)) v) (way_from-back a turns K course.dy sum)
            (subst (λ u. LeavesPlane (plane_at course.planes r) u (way_from turns K course.dy)) (way_from-back a turns K course.dx sum) back),
      )
