-- What the parts of a finest division were some generations earlier, and the first settled plane.
use Rattle.std.proofs.Common.{◌≡◌, ℕ, ◌+◌, ◌-◌, List, map, get_or, inl, inr, sym, ap, ◌∙◌, arith, subst}
use Rattle.std.specs.Prelude.{ℤ, replicate}
use Rattle.std.specs.List.{AllPairs, AllZip, Any, Contains}
use Rattle.std.proofs.lemmas.Bool.{cases_lt}
use Rattle.std.proofs.lemmas.List.Elements.{All-contains}
use Rattle.ca_plane.specs.Prelude.{Picture, cell, after, IsAfter, IsLive, cells_after}
use Rattle.ca_plane.proofs.After.{after_again}
use Rattle.ca_parts.specs.Prelude.{AreApart, AreApartBefore, NeverMeet, together, ComesBack, IsEarlier, LiesIn, FallsInto, IsDivision, IsSettled, IsFinest, IsFirstSettled}
use Rattle.ca_parts.proofs.Lists.{All-zip, AllPairs-zip, AllZip-turned, AllZip-weaker, beside}
use Rattle.ca_parts.proofs.ApartPlanes.{AreApart-same}
use Rattle.ca_parts.proofs.Sums.{apart_before}
use Rattle.ca_parts.proofs.LaterPictures.{picture_after, live_or_not}
use Rattle.ca_parts.proofs.LaterDivisions.{nothing_comes, after_stands, IsDivision-later, pictures_after, settled_since}
use Rattle.ca_parts.proofs.FinestDivisions.{IsFinest-same}
use Rattle.ca_parts.proofs.PartsWithin.{lies_on}
use Rattle.ca_parts.proofs.LongRun.{ComesOf, Joins, Look, look_of, never_meet, whole_of, finer}

-- ---- what is known of earlier pictures

-- a part of a later plane's finest division comes of one part of each division of this plane
comes_of : (next : List ℕ → ℕ) → next (replicate 9 0) ≡ 0 → (cells : ℤ → ℤ → ℕ) (n : ℕ) (parts ds : List Picture) → IsFinest next (cells_after next cells n) parts → IsDivision next cells ds
    → (p : Picture) → Contains parts p → ComesOf next n ds p
comes_of next quiet cells n parts ds finest division p has =
    let later = map (λ d. picture_after next d n) ds in
    let zip = pictures_after next quiet ds n in
    let later_division = IsDivision-later next quiet cells n ds later division zip in
    let (j, q, low, is, lies) = All-contains (λ r. Any (LiesIn r) later) parts p (finest.finest later later_division) has in
    let (d, has_d, stands) = beside (λ r s. IsAfter next r n s) ds later q zip (j, low, is) in
    record {
      d = d;
      has = has_d;
      within = λ m x y live.
          lies_on next quiet (cells_after next cells n) parts later finest.division.whole later_division p q has (j, low, is) lies m (apart_before next parts finest.division.apart m) x y live
          ∙ after_stands next d q n stands m x y;
    }

module _ (next : List ℕ → ℕ) (quiet : next (replicate 9 0) ≡ 0) (n : ℕ) (cells : ℤ → ℤ → ℕ) (parts es : List Picture) (finest : IsFinest next (cells_after next cells n) parts) (zip : AllZip (IsEarlier next n) es parts) where
  look_at : (ds : List Picture) → IsDivision next cells ds → Look next cells n parts es ds
  look_at ds division =
      let none : n + 0 ≡ n = omega arith in
      look_of next cells n parts es ds quiet finest.division.apart finest.division.whole division (comes_of next quiet cells n parts ds finest division)
      (AllZip-weaker (IsEarlier next n) (Joins next n) (λ e p is. (is.back, 0, λ x y. ap (λ k. after next e k x y) none ∙ is.later x y)) es parts zip)

  -- an earlier picture of a live one is live
  live_earlier : (p e : Picture) → IsEarlier next n e p → IsLive p → IsLive e
  live_earlier p e is (x, y, live) =
      elim (live_or_not e) [
        | inl alive ↦ alive
        | inr dead ↦ absurd (live (sym (is.later x y) ∙ nothing_comes next quiet (cell e) dead n x y))
      ]

  -- earlier pictures that never meet, and are this plane together, are its finest division
  finest_of : AllPairs (NeverMeet next) es → ((x y : ℤ) → cells x y ≡ together es x y) → IsFinest next cells es
  finest_of never whole =
      let turned = AllZip-turned (IsEarlier next n) es parts zip in
      record {
        division = record {
          live = All-zip (λ p e. IsEarlier next n e p) IsLive IsLive live_earlier parts es turned finest.division.live;
          back = All-zip (λ p e. IsEarlier next n e p) IsLive (ComesBack next) (λ p e is live. is.back) parts es turned finest.division.live;
          apart = never;
          whole = whole;
        };
        finest = λ ds division. finer next cells n parts es ds (look_at ds division);
      }

  -- those of a settled plane do so
  pub earlier_settled : IsSettled next cells → IsFinest next cells es
  earlier_settled (ds, division) =
      let look = look_at ds division in
      finest_of (never_meet next cells n parts es ds look) (whole_of next cells n parts es ds look)

  -- from n generations on they are apart, as the parts never meet
  apart_later : AllPairs (λ e f. (m : ℕ) → AreApart (after next e (n + m)) (after next f (n + m))) es
  apart_later =
      AllPairs-zip (λ p e. IsEarlier next n e p) (NeverMeet next) (λ e f. (m : ℕ) → AreApart (after next e (n + m)) (after next f (n + m)))
      (λ p q e f one two never m.
      AreApart-same (after next p m) (after next q m) (after next e (n + m)) (after next f (n + m)) (λ x y. sym (after_stands next e p n one.later m x y))
      (λ x y. sym (after_stands next f q n two.later m x y)) (never m))
      parts es (AllZip-turned (IsEarlier next n) es parts zip) finest.division.apart

  always : (e f : Picture) → AreApartBefore next n e f → ((m : ℕ) → AreApart (after next e (n + m)) (after next f (n + m))) → NeverMeet next e f
  always e f before later m =
      elim (cases_lt m n) [
        | inl early ↦ before m early
        | inr late ↦
            let sum : n + (m - n) ≡ m = omega (arith, late) in
            subst (λ k. AreApart (after next e k) (after next f k)) sum (later (m - n))
      ]

  -- and so do those that are this plane together, and are apart until then
  pub earlier_finest : AllPairs (AreApartBefore next n) es → ((x y : ℤ) → cells x y ≡ together es x y) → IsFinest next cells es
  earlier_finest before whole = finest_of (λ i j d low high. always (get_or es i d) (get_or es j d) (before i j d low high) (apart_later i j d low high)) whole

-- ---- one generation

-- a plane falls into the parts of its division
falls_into : (next : List ℕ → ℕ) (cells : ℤ → ℤ → ℕ) (parts : List Picture) → IsDivision next cells parts → FallsInto cells parts
falls_into next cells parts division = record { apart = λ i j d low high. division.apart i j d low high 0; whole = division.whole }

-- one generation earlier it's enough that they are apart now
pub earlier_step : (next : List ℕ → ℕ) → next (replicate 9 0) ≡ 0 → (cells : ℤ → ℤ → ℕ) (parts es : List Picture) → IsFinest next (cells_after next cells 1) parts
    → AllZip (IsEarlier next 1) es parts → FallsInto cells es → IsFinest next cells es
earlier_step next quiet cells parts es finest zip falls =
    earlier_finest next quiet 1 cells parts es finest zip
    (λ i j d low high m below.
    let none : 0 ≡ m = omega (arith, below) in
    subst (λ k. AreApart (after next (get_or es i d) k) (after next (get_or es j d) k)) none (falls.apart i j d low high))
    falls.whole

-- where this plane doesn't fall into what the parts were, it isn't settled, and none before it is
pub first_settled : (next : List ℕ → ℕ) → next (replicate 9 0) ≡ 0 → (cells : ℤ → ℤ → ℕ) (n : ℕ) (parts es : List Picture) → IsFinest next (cells_after next cells (n + 1)) parts
    → AllZip (IsEarlier next 1) es parts → (FallsInto (cells_after next cells n) es → ⊥) → IsFirstSettled next cells (n + 1)
first_settled next quiet cells n parts es finest zip out = record {
  settled = (parts, finest.division);
  first = λ m less settled.
      let step = IsFinest-same next (cells_after next cells (n + 1)) (cells_after next (cells_after next cells n) 1) parts (after_again next cells n 1) finest in
      let earlier = earlier_settled next quiet 1 (cells_after next cells n) parts es step zip (settled_since next quiet cells m n (omega (arith, less)) settled) in
      out (falls_into next (cells_after next cells n) es earlier.division);
}
