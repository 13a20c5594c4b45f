-- What a part that comes back shows after any number of generations, by its planes over one period.
use Rattle.std.proofs.Common.{◌≡◌, ◌≢◌, ℕ, zero, suc, ◌+◌, ◌*◌, ◌/◌, ◌%◌, ◌<◌, ◌≤◌, List, length, sym, ap, ap₂, ◌∙◌, subst, inl, inr, ◌⊎◌, arith}
use Rattle.std.specs.Prelude.{ℤ, pos, neg_ℤ, ◌+ℤ◌, ◌-ℤ◌, ◌*ℤ◌, ◌≤ℤ◌}
use Rattle.std.proofs.Math.Nat.{mul-zero}
use Rattle.std.proofs.lemmas.Nat.{mod_below, div-add-mod', div-mul-add, mod-mul-add}
use Rattle.std.proofs.lemmas.Int.{ints}
use Rattle.ca_plane.specs.Prelude.{Picture, cell, shifted, after, IsAfter}
use Rattle.ca_plane.proofs.Shifts.{cell-shifted}
use Rattle.ca_plane.proofs.After.{around-nine_states}
use Rattle.ca_parts.specs.declared.{track.Track.Track, meeting.Meeting.Meeting}
use Rattle.ca_parts.specs.declared.meeting.Meeting.TheVariants.{Never, At, NotYet}
use Rattle.ca_parts.specs.Prelude.{AreApart}
use Rattle.ca_parts.specs.Phases.{Course, ArePhases}
use Rattle.ca_parts.specs.Meetings.{IsMeeting}
use Rattle.ca_parts.specs.inner.Apart.{AreFurtherWhenMoved}
use Rattle.ca_parts.specs.Phases.{plane_at, shown}
use Rattle.ca_parts.specs.Meetings.{AreApartAfter, IsShownMeeting}
use Rattle.ca_parts.specs.inner.Courses.{ClosesRound}
use Rattle.ca_parts.specs.Partings.{EndPeriods, GoOneWay}
use Rattle.ca_parts.specs.inner.Tracks.{IsAcross, IsDown, AreClear, GoAlike, way}
use Rattle.ca_parts.proofs.ApartPlanes.{AreApart-same}
use Rattle.ca_parts.proofs.TwoApart.{apart_from_further, further_from_apart, further-moved, moved-further}
use Rattle.ca_parts.proofs.Returning.{IsBackBy-from_shifted, back_times, after_return}
use Rattle.ca_parts.proofs.Turns.{times-plus, goes_same_way}

-- after k + j periods it is the plane at k, moved by j times the vector
pub IsAfter-shown : (next : List ℕ → ℕ) (p : Picture) (course : Course) → ArePhases next p course → (n : ℕ) → IsAfter next p n (shown course n)
IsAfter-shown next p course phases n x y =
    let P = length course.planes in
    let u : ℤ = pos (n / P) *ℤ course.dx in
    let v : ℤ = pos (n / P) *ℤ course.dy in
    let split : n / P * P + n % P ≡ n = div-add-mod' n P in
    let ax : (x -ℤ u) +ℤ u ≡ x = omega (arith, ints) in
    let ay : (y -ℤ v) +ℤ v ≡ y = omega (arith, ints) in
    let back = back_times next (cell p) P (n / P) course.dx course.dy (IsBackBy-from_shifted next p P course.dx course.dy phases.back) in
    ap (λ m. after next p m x y) (sym split) ∙ ap₂ (after next p (n / P * P + n % P)) (sym ax) (sym ay)
    ∙ after_return next (cell p) (n / P * P) u v back (n % P) (x -ℤ u) (y -ℤ v)
    ∙ phases.each (n % P) (mod_below n P phases.some) (x -ℤ u) (y -ℤ v)
    ∙ sym (cell-shifted (plane_at course.planes (n % P)) u v x y)

-- so pictures are apart just where what their planes show is
apart_from_shown : (next : List ℕ → ℕ) (p q : Picture) (one other : Course) → ArePhases next p one → ArePhases next q other → (n : ℕ) → AreApartAfter one other n → AreApart (after next p n) (after next q n)
apart_from_shown next p q one other phases phases_too n apart =
    AreApart-same (cell (shown one n)) (cell (shown other n)) (after next p n) (after next q n) (IsAfter-shown next p one phases n) (IsAfter-shown next q other phases_too n) apart

shown_from_apart : (next : List ℕ → ℕ) (p q : Picture) (one other : Course) → ArePhases next p one → ArePhases next q other → (n : ℕ) → AreApart (after next p n) (after next q n) → AreApartAfter one other n
shown_from_apart next p q one other phases phases_too n apart =
    AreApart-same (after next p n) (after next q n) (cell (shown one n)) (cell (shown other n))
    (λ x y. sym (IsAfter-shown next p one phases n x y)) (λ x y. sym (IsAfter-shown next q other phases_too n x y)) apart

pub IsMeeting-from_shown : (next : List ℕ → ℕ) (p q : Picture) (one other : Course) (most : ℕ) (meeting : Meeting) → ArePhases next p one → ArePhases next q other → IsShownMeeting one other most meeting → IsMeeting next p q most meeting
IsMeeting-from_shown next p q one other most Never phases phases_too shown = λ n. apart_from_shown next p q one other phases phases_too n (shown n)
IsMeeting-from_shown next p q one other most (At n) phases phases_too shown = (
  record {
    meet = λ apart. shown.0 (shown_from_apart next p q one other phases phases_too n apart);
    before = λ m less. apart_from_shown next p q one other phases phases_too m (shown.1 m less);
  },
  shown.2,
)
IsMeeting-from_shown next p q one other most NotYet phases phases_too shown = λ n within. apart_from_shown next p q one other phases phases_too n (shown n within)

-- ---- on an axis

-- a live cell that is shown is one of the plane, moved
live-shown : (course : Course) (n : ℕ) (x y : ℤ) → cell (shown course n) x y ≢ 0
    → cell (plane_at course.planes (n % length course.planes)) (x -ℤ (pos (n / length course.planes) *ℤ course.dx)) (y -ℤ (pos (n / length course.planes) *ℤ course.dy)) ≢ 0
live-shown course n x y live = λ none. live (cell-shifted (plane_at course.planes (n % length course.planes)) (pos (n / length course.planes) *ℤ course.dx) (pos (n / length course.planes) *ℤ course.dy) x y ∙ none)

-- a coordinate that lies between two ends when it is moved back
between-moved : (first last z u w : ℤ) → w ≡ u → (first ≤ℤ (z -ℤ u)) × ((z -ℤ u) ≤ℤ last) → ((first +ℤ w) ≤ℤ z) × (z ≤ℤ (last +ℤ w))
between-moved first last z u w same between = (omega (arith, ints, same, between), omega (arith, ints, same, between))

-- what is shown lies on the track across
on_track-across : (course : Course) (track : Track) (n : ℕ) → IsAcross course track → 1 ≤ track.period → (x y : ℤ) → cell (shown course n) x y ≢ 0 → ((track.first +ℤ way track n) ≤ℤ x) × (x ≤ℤ (track.last +ℤ way track n))
on_track-across course track n across some x y live =
    let moved : way track n ≡ pos (n / length course.planes) *ℤ course.dx = ap₂ (λ (m : ℕ) (d : ℤ). pos (n / m) *ℤ d) across.period across.step in
    between-moved track.first track.last x _ (way track n) moved
    (across.all (n % length course.planes) (mod_below n (length course.planes) (subst (λ m. 1 ≤ m) across.period some)) _ _ (live-shown course n x y live))

-- and on the one downward
on_track-down : (course : Course) (track : Track) (n : ℕ) → IsDown course track → 1 ≤ track.period → (x y : ℤ) → cell (shown course n) x y ≢ 0 → ((track.first +ℤ way track n) ≤ℤ y) × (y ≤ℤ (track.last +ℤ way track n))
on_track-down course track n down some x y live =
    let moved : way track n ≡ pos (n / length course.planes) *ℤ course.dy = ap₂ (λ (m : ℕ) (d : ℤ). pos (n / m) *ℤ d) down.period down.step in
    between-moved track.first track.last y _ (way track n) moved
    (down.all (n % length course.planes) (mod_below n (length course.planes) (subst (λ m. 1 ≤ m) down.period some)) _ _ (live-shown course n x y live))

-- two coordinates within 2 aren't on tracks that are clear
not_clear : (a0 a1 b0 b1 x u : ℤ) → (((a1 +ℤ pos 3) ≤ℤ b0) ⊎ ((b1 +ℤ pos 3) ≤ℤ a0)) → (a0 ≤ℤ x) × (x ≤ℤ a1) → (b0 ≤ℤ u) × (u ≤ℤ b1) → (x -ℤ pos 2) ≤ℤ u → u ≤ℤ (x +ℤ pos 2) → ⊥
not_clear a0 a1 b0 b1 x u (inl clear) one other low high = omega (arith, ints, clear, one, other, low, high)
not_clear a0 a1 b0 b1 x u (inr clear) one other low high = omega (arith, ints, clear, one, other, low, high)

pub apart_from_clear-across : (one other : Course) (a b : Track) (n : ℕ) → IsAcross one a → IsAcross other b → 1 ≤ a.period → 1 ≤ b.period → AreClear a b n → AreApartAfter one other n
apart_from_clear-across one other a b n across across_too some some_too clear =
    apart_from_further (cell (shown one n)) (cell (shown other n)) (λ x y u v live live_too within.
    not_clear (a.first +ℤ way a n) (a.last +ℤ way a n) (b.first +ℤ way b n) (b.last +ℤ way b n) x u clear
    (on_track-across one a n across some x y live) (on_track-across other b n across_too some_too u v live_too) within.0 within.1)

pub apart_from_clear-down : (one other : Course) (a b : Track) (n : ℕ) → IsDown one a → IsDown other b → 1 ≤ a.period → 1 ≤ b.period → AreClear a b n → AreApartAfter one other n
apart_from_clear-down one other a b n down down_too some some_too clear =
    apart_from_further (cell (shown one n)) (cell (shown other n)) (λ x y u v live live_too within.
    not_clear (a.first +ℤ way a n) (a.last +ℤ way a n) (b.first +ℤ way b n) (b.last +ℤ way b n) y v clear
    (on_track-down one a n down some x y live) (on_track-down other b n down_too some_too u v live_too) within.2 within.3)

-- ---- planes that are moved alike

-- planes that are apart are so when both are moved
AreApart-moved : (f g f' g' : ℤ → ℤ → ℕ) (a b : ℤ) → ((x y : ℤ) → f' x y ≡ f (a +ℤ x) (b +ℤ y)) → ((x y : ℤ) → g' x y ≡ g (a +ℤ x) (b +ℤ y)) → AreApart f g → AreApart f' g'
AreApart-moved f g f' g' a b one two apart =
    AreApart-same (λ x y. f (a +ℤ x) (b +ℤ y)) (λ x y. g (a +ℤ x) (b +ℤ y)) f' g' one two (λ x y.
    elim (apart (a +ℤ x) (b +ℤ y)) [
      | inl none ↦ inl (around-nine_states f a b x y ∙ none)
      | inr none ↦ inr (around-nine_states g a b x y ∙ none)
    ])

-- a picture that is moved, seen from elsewhere
shifted-seen : (p : Picture) (dx dy ex ey a b x y : ℤ) → (x -ℤ dx) ≡ ((a +ℤ x) -ℤ ex) → (y -ℤ dy) ≡ ((b +ℤ y) -ℤ ey) → cell (shifted p dx dy) x y ≡ cell (shifted p ex ey) (a +ℤ x) (b +ℤ y)
shifted-seen p dx dy ex ey a b x y across down = cell-shifted p dx dy x y ∙ ap₂ (cell p) across down ∙ sym (cell-shifted p ex ey (a +ℤ x) (b +ℤ y))

still-seen : (p : Picture) (dx dy a b x y : ℤ) → (x -ℤ dx) ≡ (a +ℤ x) → (y -ℤ dy) ≡ (b +ℤ y) → cell (shifted p dx dy) x y ≡ cell p (a +ℤ x) (b +ℤ y)
still-seen p dx dy a b x y across down = cell-shifted p dx dy x y ∙ ap₂ (cell p) across down

-- both moved, or one of them moved by the way between
pub apart_from_between : (p q : Picture) (ax ay bx by dx dy : ℤ) → dx ≡ ax -ℤ bx → dy ≡ ay -ℤ by → AreFurtherWhenMoved p dx dy q → AreApart (cell (shifted p ax ay)) (cell (shifted q bx by))
apart_from_between p q ax ay bx by dx dy across down far =
    AreApart-moved (cell (shifted p dx dy)) (cell q) (cell (shifted p ax ay)) (cell (shifted q bx by)) (neg_ℤ bx) (neg_ℤ by)
    (λ x y. shifted-seen p ax ay dx dy (neg_ℤ bx) (neg_ℤ by) x y (omega (arith, ints, across)) (omega (arith, ints, down)))
    (λ x y. still-seen q bx by (neg_ℤ bx) (neg_ℤ by) x y (omega (arith, ints)) (omega (arith, ints)))
    (apart_from_further (cell (shifted p dx dy)) (cell q) (further-moved p dx dy q far))

pub between_from_apart : (p q : Picture) (ax ay bx by dx dy : ℤ) → dx ≡ ax -ℤ bx → dy ≡ ay -ℤ by → AreApart (cell (shifted p ax ay)) (cell (shifted q bx by)) → AreFurtherWhenMoved p dx dy q
between_from_apart p q ax ay bx by dx dy across down apart =
    let back : (x y : ℤ) → cell q x y ≡ cell (shifted q bx by) (bx +ℤ x) (by +ℤ y) = λ x y.
    let ex : x ≡ (bx +ℤ x) -ℤ bx = omega (arith, ints) in
    let ey : y ≡ (by +ℤ y) -ℤ by = omega (arith, ints) in
    ap₂ (cell q) ex ey ∙ sym (cell-shifted q bx by (bx +ℤ x) (by +ℤ y)) in
    moved-further p dx dy q (further_from_apart (cell (shifted p dx dy)) (cell q)
    (AreApart-moved (cell (shifted p ax ay)) (cell (shifted q bx by)) (cell (shifted p dx dy)) (cell q) bx by
    (λ x y. shifted-seen p dx dy ax ay bx by x y (omega (arith, ints, across)) (omega (arith, ints, down))) back apart))

-- ---- round after round

-- what is shown after a number of whole periods more
shown-turns : (course : Course) (n turns k : ℕ) → n ≡ turns * length course.planes → 1 ≤ length course.planes → (x y : ℤ)
    → cell (shown course (n + k)) x y ≡ cell (shown course k) (neg_ℤ (pos turns *ℤ course.dx) +ℤ x) (neg_ℤ (pos turns *ℤ course.dy) +ℤ y)
shown-turns course n turns k is some x y =
    let P = length course.planes in
    let split : k / P * P + k % P ≡ k = div-add-mod' k P in
    let sum : n + k ≡ (turns + k / P) * P + k % P = omega (arith, is, split) in
    let below = mod_below k P some in
    let quotient : (n + k) / P ≡ turns + k / P = ap (λ m. m / P) sum ∙ div-mul-add (turns + k / P) P (k % P) below in
    let rest : (n + k) % P ≡ k % P = ap (λ m. m % P) sum ∙ mod-mul-add (turns + k / P) P (k % P) below in
    let plane : Picture = plane_at course.planes (k % P) in
    let across : pos ((n + k) / P) *ℤ course.dx ≡ (pos turns *ℤ course.dx) +ℤ (pos (k / P) *ℤ course.dx) = ap (λ m. pos m *ℤ course.dx) quotient ∙ times-plus turns (k / P) course.dx in
    let down : pos ((n + k) / P) *ℤ course.dy ≡ (pos turns *ℤ course.dy) +ℤ (pos (k / P) *ℤ course.dy) = ap (λ m. pos m *ℤ course.dy) quotient ∙ times-plus turns (k / P) course.dy in
    ap (λ m. cell (shifted (plane_at course.planes m) (pos ((n + k) / P) *ℤ course.dx) (pos ((n + k) / P) *ℤ course.dy)) x y) rest
    ∙ ap₂ (λ (u : ℤ) (v : ℤ). cell (shifted plane u v) x y) across down
    ∙ further plane (pos turns *ℤ course.dx) (pos (k / P) *ℤ course.dx) (pos turns *ℤ course.dy) (pos (k / P) *ℤ course.dy)
  where
    further : (p : Picture) (s u t v : ℤ) → cell (shifted p (s +ℤ u) (t +ℤ v)) x y ≡ cell (shifted p u v) (neg_ℤ s +ℤ x) (neg_ℤ t +ℤ y)
    further p s u t v = shifted-seen p (s +ℤ u) (t +ℤ v) u v (neg_ℤ s) (neg_ℤ t) x y (omega (arith, ints)) (omega (arith, ints))

-- one round more
apart-round : (one other : Course) (n : ℕ) → ClosesRound one other n → 1 ≤ length one.planes → 1 ≤ length other.planes → (k : ℕ) → AreApartAfter one other k → AreApartAfter one other (n + k)
apart-round one other n round some some_too k apart =
    let u : ℤ = pos round.turns *ℤ one.dx in
    let v : ℤ = pos round.turns *ℤ one.dy in
    AreApart-moved (cell (shown one k)) (cell (shown other k)) (cell (shown one (n + k))) (cell (shown other (n + k))) (neg_ℤ u) (neg_ℤ v)
    (shown-turns one n round.turns k round.first some)
    (λ x y. shown-turns other n round.others k round.second some_too x y ∙ ap₂ (λ (a : ℤ) (b : ℤ). cell (shown other k) (neg_ℤ a +ℤ x) (neg_ℤ b +ℤ y)) (sym round.across) (sym round.down))
    apart

apart-rounds : (one other : Course) (n : ℕ) → ClosesRound one other n → 1 ≤ length one.planes → 1 ≤ length other.planes → ((k : ℕ) → k < n → AreApartAfter one other k) → (m r : ℕ) → r < n → AreApartAfter one other (m * n + r)
apart-rounds one other n round some some_too apart zero r below =
    let none : r ≡ zero * n + r = omega arith in
    subst (AreApartAfter one other) none (apart r below)
apart-rounds one other n round some some_too apart (suc m) r below =
    let more : n + (m * n + r) ≡ suc m * n + r = omega arith in
    subst (AreApartAfter one other) more (apart-round one other n round some some_too (m * n + r) (apart-rounds one other n round some some_too apart m r below))

-- a factor of a number that isn't 0 isn't 0
positive_factor : (n t p : ℕ) → suc n ≡ t * p → 1 ≤ p
positive_factor n t zero is = absurd (omega (arith, is, mul-zero t))
positive_factor n t (suc p) is = omega arith

-- where the round closes, what is apart in the first is so in all
pub apart_from_round : (one other : Course) (n : ℕ) → ClosesRound one other (suc n) → ((k : ℕ) → k < n + 1 → AreApartAfter one other k) → (k : ℕ) → AreApartAfter one other k
apart_from_round one other n round apart k =
    subst (AreApartAfter one other) (div-add-mod' k (suc n))
    (apart-rounds one other (suc n) round (positive_factor n round.turns (length one.planes) round.first) (positive_factor n round.others (length other.planes) round.second)
    (λ j below. apart j (omega arith)) (k / suc n) (k % suc n) (mod_below k (suc n) (omega arith)))

-- parts that go one way over the same time have done so where both periods end
pub ClosesRound-from_ends : (one other : Course) (n : ℕ) → EndPeriods one other (suc n) → GoOneWay one other → ClosesRound one other (suc n)
ClosesRound-from_ends one other n ends alike =
    let some = positive_factor n ends.turns (length one.planes) ends.first in
    let some_too = positive_factor n ends.others (length other.planes) ends.second in
    let common : ends.turns * length one.planes ≡ ends.others * length other.planes = sym ends.first ∙ ends.second in
    record {
      turns = ends.turns;
      others = ends.others;
      first = ends.first;
      second = ends.second;
      across = goes_same_way one.dx other.dx (length one.planes) (length other.planes) ends.turns ends.others some some_too alike.across common;
      down = goes_same_way one.dy other.dy (length one.planes) (length other.planes) ends.turns ends.others some some_too alike.down common;
    }

-- tracks that go alike are those of such parts
pub alike-across : (one other : Course) (a b : Track) → IsAcross one a → IsAcross other b → GoAlike a b → pos (length other.planes) *ℤ one.dx ≡ pos (length one.planes) *ℤ other.dx
alike-across one other a b across across_too alike =
    sym (ap₂ (λ (m : ℕ) (d : ℤ). pos m *ℤ d) across_too.period across.step) ∙ alike ∙ ap₂ (λ (m : ℕ) (d : ℤ). pos m *ℤ d) across.period across_too.step

pub alike-down : (one other : Course) (a b : Track) → IsDown one a → IsDown other b → GoAlike a b → pos (length other.planes) *ℤ one.dy ≡ pos (length one.planes) *ℤ other.dy
alike-down one other a b down down_too alike =
    sym (ap₂ (λ (m : ℕ) (d : ℤ). pos m *ℤ d) down_too.period down.step) ∙ alike ∙ ap₂ (λ (m : ℕ) (d : ℤ). pos m *ℤ d) down.period down_too.step
