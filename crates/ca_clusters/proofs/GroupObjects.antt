-- Groups that go along with their cluster for one period, and are back with it, are its objects.
use Rattle.std.proofs.Common.{◌≡◌, ℕ, ◌+◌, ◌-◌, ◌*◌, ◌/◌, ◌%◌, ◌<◌, ◌≤◌, List, [], ◌∷◌, ◌++◌, length, map, take, get_or, inl, inr, sym, ap, ap₂, ◌∙◌, subst, arith}
use Rattle.std.specs.Prelude.{ℤ, pos, ◌-ℤ◌, ◌*ℤ◌}
use Rattle.std.specs.List.{All, AllPairs, sum_by}
use Rattle.std.proofs.lemmas.Bool.{cases_lt}
use Rattle.std.proofs.lemmas.Nat.{mod_below, div-add-mod'}
use Rattle.std.proofs.lemmas.List.{get_or-take, length-take, map-append}
use Rattle.std.proofs.lemmas.List.Elements.{All-push, All-weaker}
use Rattle.ca_plane.specs.Prelude.{Picture, IsLive, IsSame, cell, shifted, after, IsAfter}
use Rattle.ca_steps.specs.Prelude.{IsBackAnywhere}
use Rattle.ca_steps.proofs.Returns.{after_back, back_times}
use Rattle.ca_parts.specs.Prelude.{Course, ArePhases, plane_at, DontTouch}
use Rattle.ca_clusters.specs.Clusters.{first_plane, GoesRound}
use Rattle.ca_clusters.specs.Objects.{AreDisjoint, AreObjects}
use Rattle.ca_clusters.specs.declared.objects.groups.Run.{Run}
use Rattle.ca_clusters.specs.inner.Groups.{AreGroups, GoAlong, AreGenerations, start_of, IsBackWith, AreCoursesOf}
use Rattle.ca_clusters.proofs.GroupRuns.{same_sums, sum_of_map, pairs_of_map}

-- ---- the course of one group

-- the planes before the first one that is the one at the begin again, moved
module _ (next : List ℕ → ℕ) (planes : List Picture) (k : ℕ) (course : Course) (are : AreGenerations next planes) (some : 1 ≤ k) (low : k < length planes) (cut : course.planes ≡ take k planes)
    (back : IsSame (plane_at planes k) (shifted (plane_at planes 0) course.dx course.dy))
    (away : (j : ℕ) → 1 ≤ j → j < k → (dx dy : ℤ) → IsSame (plane_at planes j) (shifted (plane_at planes 0) dx dy) → ⊥) where
  long_cut : length course.planes ≡ k
  long_cut = let long = length-take k planes in let is = ap (λ ps. length ps) cut in omega (arith, long, is, low)

  plane_cut : (j : ℕ) → j < k → plane_at course.planes j ≡ plane_at planes j
  plane_cut j before = ap (λ ps. get_or ps j []) cut ∙ get_or-take k planes j [] before

  pub first_cut : first_plane course ≡ plane_at planes 0
  first_cut = plane_cut 0 (omega (arith, some))

  back_cut : IsAfter next (plane_at planes 0) (length course.planes) (shifted (plane_at planes 0) course.dx course.dy)
  back_cut = subst (λ m. IsAfter next (plane_at planes 0) m (shifted (plane_at planes 0) course.dx course.dy)) (sym long_cut) (λ x y. are.each k low x y ∙ back x y)

  away_cut : (n : ℕ) → IsBackAnywhere next (plane_at planes 0) n → length course.planes ≤ n
  away_cut n (once, dx, dy, again) =
      let long = long_cut in
      elim (cases_lt n k) [
        | inl early ↦ absurd (away n once early dx dy (λ x y. sym (are.each n (omega (arith, early, low)) x y) ∙ again x y))
        | inr late ↦ omega (arith, late, long)
      ]

  each_cut : (j : ℕ) → j < length course.planes → IsAfter next (plane_at planes 0) j (plane_at course.planes j)
  each_cut j before =
      let long = long_cut in
      subst (IsAfter next (plane_at planes 0) j) (sym (plane_cut j (omega (arith, long, before)))) (are.each j (omega (arith, long, before, low)))

  pub GoesRound-cut : IsLive (plane_at planes 0) → GoesRound next course
  GoesRound-cut live =
      let long = long_cut in
      let first = sym first_cut in
      record {
        live = subst IsLive first live;
        phases = subst (λ p. ArePhases next p course) first (record { some = omega (arith, long, some); each = each_cut; back = back_cut });
        least = record {
          one = (omega (arith, long, some), course.dx, course.dy, subst (λ p. IsAfter next p (length course.planes) (shifted p course.dx course.dy)) first back_cut);
          least = λ n again. away_cut n (subst (λ p. IsBackAnywhere next p n) (sym first) again);
        };
      }

-- one more course
pub AreCoursesOf-put : (next : List ℕ → ℕ) (cluster : Course) (runs : List Run) (courses : List Course) (run : Run) (course : Course) → AreCoursesOf next cluster (map start_of runs) courses
    → AreGenerations next run.planes.items → length run.planes.items ≡ length cluster.planes + 1
    → IsSame (plane_at run.planes.items (length run.planes.items - 1)) (shifted (start_of run) cluster.dx cluster.dy)
    → GoesRound next course → first_plane course ≡ start_of run → AreCoursesOf next cluster (map start_of (runs ++ run ∷ [])) (courses ++ course ∷ [])
AreCoursesOf-put next cluster runs courses run course so_far are long same round start =
    let last : length run.planes.items - 1 ≡ length cluster.planes = omega (arith, long) in
    let back : IsBackWith next cluster (start_of run) = λ x y.
    are.each (length cluster.planes) (omega (arith, long)) x y ∙ ap (λ m. cell (plane_at run.planes.items m) x y) (sym last) ∙ same x y in
    record {
      starts = map-append first_plane courses (course ∷ []) ∙ ap₂ (λ (ps : List Picture) (p : Picture). ps ++ p ∷ []) so_far.starts start ∙ sym (map-append start_of runs (run ∷ []));
      round = All-push (GoesRound next) courses course so_far.round round;
      back = subst (All (IsBackWith next cluster)) (sym (map-append start_of runs (run ∷ []))) (All-push (IsBackWith next cluster) (map start_of runs) (start_of run) so_far.back back);
    }

-- ---- whole periods

-- what is back after some generations, moved, is after any number what it is after what is left over of whole periods, moved by as many vectors
after_periods : (next : List ℕ → ℕ) (p : Picture) (period : ℕ) (dx dy : ℤ) → IsAfter next p period (shifted p dx dy) → (n : ℕ) (x y : ℤ)
    → after next p n x y ≡ after next p (n % period) (x -ℤ (pos (n / period) *ℤ dx)) (y -ℤ (pos (n / period) *ℤ dy))
after_periods next p period dx dy back n x y =
    ap (λ m. after next p m x y) (sym (div-add-mod' n period))
    ∙ after_back next p (n / period * period) (n % period) (pos (n / period) *ℤ dx) (pos (n / period) *ℤ dy) (back_times next p period (n / period) dx dy back) x y

module _ (next : List ℕ → ℕ) (cluster : Course) (groups : List Picture) (phases : ArePhases next (first_plane cluster) cluster)
    (along : GoAlong next cluster.planes (length cluster.planes) groups) (back : All (IsBackWith next cluster) groups) where
  -- at all times the groups are the cluster together,
  whole_always : (n : ℕ) (x y : ℤ) → after next (first_plane cluster) n x y ≡ sum_by (λ p. after next p n x y) groups
  whole_always n x y =
      let period = length cluster.planes in
      let low = mod_below n period phases.some in
      let u : ℤ = x -ℤ (pos (n / period) *ℤ cluster.dx) in
      let v : ℤ = y -ℤ (pos (n / period) *ℤ cluster.dy) in
      after_periods next (first_plane cluster) period cluster.dx cluster.dy phases.back n x y
      ∙ phases.each (n % period) low u v ∙ along.whole (n % period) low u v
      ∙ sym (same_sums (λ p. after next p n x y) (λ p. after next p (n % period) u v) groups
      (All-weaker (IsBackWith next cluster) (λ p. after next p n x y ≡ after next p (n % period) u v) (λ p there. after_periods next p period cluster.dx cluster.dy there n x y) groups back))

  -- and no place is live in two
  alone_always : AllPairs (λ p q. (n : ℕ) → AreDisjoint (after next p n) (after next q n)) groups
  alone_always i j d low high n x y =
      let period = length cluster.planes in
      let below = mod_below n period phases.some in
      let one = after_periods next (get_or groups i d) period cluster.dx cluster.dy (back i d (omega (arith, low, high))) n x y in
      let two = after_periods next (get_or groups j d) period cluster.dx cluster.dy (back j d high) n x y in
      elim (along.alone i j d low high (n % period) below (x -ℤ (pos (n / period) *ℤ cluster.dx)) (y -ℤ (pos (n / period) *ℤ cluster.dy))) [
        | inl none ↦ inl (one ∙ none)
        | inr none ↦ inr (two ∙ none)
      ]

-- ---- the objects

pub AreObjects-from_groups : (next : List ℕ → ℕ) (cluster : Course) (groups : List Picture) (objects : List Course) → GoesRound next cluster → AreGroups (cell (first_plane cluster)) groups
    → GoAlong next cluster.planes (length cluster.planes) groups → AreCoursesOf next cluster groups objects → AreObjects next (first_plane cluster) objects
AreObjects-from_groups next cluster groups objects round are along courses =
    let starts = sym courses.starts in
    let islands = subst (AllPairs (λ p q. DontTouch (cell p) (cell q))) starts are.islands in
    let alone = subst (AllPairs (λ p q. (n : ℕ) → AreDisjoint (after next p n) (after next q n))) starts (alone_always next cluster groups round.phases along courses.back) in
    record {
      round = courses.round;
      islands = pairs_of_map (λ p q. DontTouch (cell p) (cell q)) first_plane objects islands;
      alone = pairs_of_map (λ p q. (n : ℕ) → AreDisjoint (after next p n) (after next q n)) first_plane objects alone;
      whole = λ n x y.
          whole_always next cluster groups round.phases along courses.back n x y
          ∙ ap (λ gs. sum_by (λ (p : Picture). after next p n x y) gs) starts
          ∙ sum_of_map (λ (p : Picture). after next p n x y) first_plane objects;
    }
