-- The clusters of a plane, by those that it has some generations later.
use Rattle.std.proofs.Common.{◌≡◌, ℕ, List, [], ◌∷◌, map, sym, arith}
use Rattle.std.specs.Prelude.{ℤ, replicate}
use Rattle.std.specs.List.{All, AllPairs, AllZip}
use Rattle.std.proofs.lemmas.List.Elements.{All-head, All-tail}
use Rattle.ca_plane.specs.Prelude.{Picture, cell, after, cells_after}
use Rattle.ca_parts.specs.declared.meeting.Meeting.TheVariants.{NotYet}
use Rattle.ca_parts.specs.Prelude.{Course, ArePhases, AreApartBefore, NeverMeet, together, IsEarlier, IsSettled, shown}
use Rattle.ca_parts.proofs.ApartPlanes.{AreApart-same}
use Rattle.ca_parts.proofs.EarlierDivisions.{earlier_settled, earlier_finest}
use Rattle.ca_parts.proofs.Lists.{All-zip, AllPairs-zip, AllZip-turned}
use Rattle.ca_parts.proofs.ShownCourses.{IsAfter-shown, IsMeeting-from_shown}
use Rattle.ca_clusters.specs.Clusters.{first_plane, GoesRound, AreClusters}
use Rattle.ca_clusters.specs.inner.Earlier.{IsEarlierCourse, AreApartUpTo, AreAlwaysApart}
use Rattle.ca_clusters.proofs.ApartCourses.{BeginApart}

-- ---- what courses show

-- courses that go round are those of their first planes
phases_zip : (next : List ℕ → ℕ) (courses : List Course) → All (GoesRound next) courses → AllZip (λ course p. ArePhases next p course) courses (map first_plane courses)
phases_zip next [] round = tt
phases_zip next (c ∷ cs) round = ((All-head (GoesRound next) c cs round).phases, phases_zip next cs (All-tail (GoesRound next) c cs round))

-- first planes of courses that are apart at first
begin_apart : (next : List ℕ → ℕ) (n : ℕ) (one other : Course) → GoesRound next one → GoesRound next other → AreApartUpTo n one other → BeginApart one other
begin_apart next n one other round round_too apart =
    AreApart-same (cell (shown one 0)) (cell (shown other 0)) (cell (first_plane one)) (cell (first_plane other)) (IsAfter-shown next (first_plane one) one round.phases 0)
    (IsAfter-shown next (first_plane other) other round_too.phases 0) (apart 0 (omega arith))

-- what never meets is always shown apart
always_apart : (next : List ℕ → ℕ) (p q : Picture) (one other : Course) → ArePhases next p one → ArePhases next q other → NeverMeet next p q → AreAlwaysApart one other
always_apart next p q one other phases phases_too never k =
    AreApart-same (after next p k) (after next q k) (cell (shown one k)) (cell (shown other k)) (λ x y. sym (IsAfter-shown next p one phases k x y))
    (λ x y. sym (IsAfter-shown next q other phases_too k x y)) (never k)

-- the first planes of earlier courses are what those of the later ones were
earlier_zip : (next : List ℕ → ℕ) → next (replicate 9 0) ≡ 0 → (n : ℕ) (clusters earlier : List Course) → All (GoesRound next) clusters → AllZip (IsEarlierCourse n) clusters earlier
    → AllZip (IsEarlier next n) (map first_plane earlier) (map first_plane clusters)
earlier_zip next quiet n [] [] round zip = tt
earlier_zip next quiet n [] (e ∷ es) round zip = absurd zip
earlier_zip next quiet n (c ∷ cs) [] round zip = absurd zip
earlier_zip next quiet n (c ∷ cs) (e ∷ es) round zip =
    ((zip.0 next quiet (All-head (GoesRound next) c cs round)).1, earlier_zip next quiet n cs es (All-tail (GoesRound next) c cs round) zip.1)

-- ---- clusters

module _ (next : List ℕ → ℕ) (quiet : next (replicate 9 0) ≡ 0) (n : ℕ) (cells : ℤ → ℤ → ℕ) (clusters earlier : List Course) (are : AreClusters next (cells_after next cells n) clusters) (zip : AllZip (IsEarlierCourse n) clusters earlier) where
  all_round : All (GoesRound next) earlier
  all_round = All-zip (IsEarlierCourse n) (GoesRound next) (GoesRound next) (λ c e is round. (is next quiet round).0) clusters earlier zip are.round

  -- courses that are apart so long begin apart,
  pub all_begin_apart : AllPairs (AreApartUpTo n) earlier → AllPairs BeginApart earlier
  all_begin_apart pairs = λ i j d low high. begin_apart next n _ _ (all_round i d (omega arith)) (all_round j d high) (pairs i j d low high)

  -- and so do their first planes, going on alone
  all_apart_before : AllPairs (AreApartUpTo n) earlier → AllPairs (AreApartBefore next n) (map first_plane earlier)
  all_apart_before pairs =
      AllPairs-zip (λ (course : Course) (p : Picture). ArePhases next p course) (AreApartUpTo n) (AreApartBefore next n)
      (λ one other p q phases phases_too apart m less. IsMeeting-from_shown next p q one other n NotYet phases phases_too apart m (omega arith))
      earlier (map first_plane earlier) (phases_zip next earlier all_round) pairs

  -- where they are the plane together, they are its clusters
  pub AreClusters-from_apart : AllPairs (AreApartUpTo n) earlier → ((x y : ℤ) → cells x y ≡ together (map first_plane earlier) x y) → AreClusters next cells earlier
  AreClusters-from_apart pairs whole = record {
    round = all_round;
    finest = earlier_finest next quiet n cells (map first_plane clusters) (map first_plane earlier) are.finest (earlier_zip next quiet n clusters earlier are.round zip) (all_apart_before pairs) whole;
  }

  -- those of a settled plane are the plane together,
  pub whole_from_settled : IsSettled next cells → (x y : ℤ) → cells x y ≡ together (map first_plane earlier) x y
  whole_from_settled settled =
      (earlier_settled next quiet n cells (map first_plane clusters) (map first_plane earlier) are.finest (earlier_zip next quiet n clusters earlier are.round zip) settled).division.whole

  -- and always apart
  pub apart_from_settled : IsSettled next cells → AllPairs AreAlwaysApart earlier
  apart_from_settled settled =
      AllPairs-zip (λ (p : Picture) (course : Course). ArePhases next p course) (NeverMeet next) AreAlwaysApart
      (λ p q one other phases phases_too never. always_apart next p q one other phases phases_too never) (map first_plane earlier) earlier
      (AllZip-turned (λ (course : Course) (p : Picture). ArePhases next p course) earlier (map first_plane earlier) (phases_zip next earlier all_round))
      (earlier_settled next quiet n cells (map first_plane clusters) (map first_plane earlier) are.finest (earlier_zip next quiet n clusters earlier are.round zip) settled).division.apart
