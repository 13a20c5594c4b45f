-- The clusters of a plane, found from its components.
use Rattle.std.proofs.Common.{◌≡◌, ℕ, ◌*◌, ◌<◌, ◌≤◌, min, max, List, [], ◌∷◌, length, map, get_or, inl, inr, refl, sym, ap, ◌∙◌, arith, subst}
use Rattle.std.specs.Prelude.{ℤ, replicate, IsTrue}
use Rattle.std.specs.List.{All, AllPairs, Any, Contains}
use Rattle.std.proofs.Math.Nat.{le-mul_of_pos_right}
use Rattle.std.proofs.lemmas.Bool.{cases_eq}
use Rattle.std.proofs.lemmas.List.{length-map, get_or-map}
use Rattle.std.proofs.lemmas.List.Elements.{All-contains, All-map, All-weaker}
use Rattle.std.proofs.lemmas.List.Sums.{get_or-le-sum_by}
use Rattle.ca_plane.specs.declared.point.Point.{Point}
use Rattle.ca_plane.specs.Prelude.{Picture, cell, IsLive, IsSparse}
use Rattle.ca_plane.proofs.Pictures.{Contains-cell, cell-All}
use Rattle.ca_steps.specs.Prelude.{HasStates}
use Rattle.ca_steps.proofs.OutOfReach.{all_below}
use Rattle.ca_parts.specs.Prelude.{Course, AreApart, NeverMeet, together, ComesBack, LiesIn, ArePartsOf, IsFinerThanAll}
use Rattle.ca_parts.proofs.ApartPlanes.{one_live}
use Rattle.ca_parts.proofs.LinkedParts.{linked_parts_are_finer}
use Rattle.ca_parts.proofs.Sums.{sum_alone}
use Rattle.ca_clusters.specs.declared.part.Part.{Part}
use Rattle.ca_clusters.specs.Clusters.{first_plane, GoesRound, AreClusters}
use Rattle.ca_clusters.specs.Objects.{AreDisjoint}
use Rattle.ca_clusters.specs.inner.Runs.{IsRun, IsRunTo, AreRuns, LeavesAlone, origin}
use Rattle.ca_clusters.proofs.MergedRuns.{disjoint_turned, origin_live}

-- ---- the components of a plane

-- one of pictures that are a plane together has its states
pub states_of_part : (count : ℕ) (plane : Picture) (parts : List Picture) (p : Picture) → HasStates count plane → ((x y : ℤ) → cell plane x y ≡ together parts x y)
    → Contains parts p → IsLive p → IsSparse p → HasStates count p
states_of_part count plane parts p states whole (k, low, is) (a, b, live) sparse =
    let within : (x y : ℤ) → cell p x y ≤ cell plane x y = λ x y.
    let part = get_or-le-sum_by (λ (q : Picture). cell q x y) parts k p low in
    let here : cell (get_or parts k p) x y ≡ cell p x y = ap (λ (q : Picture). cell q x y) is in
    let sum = whole x y in
    omega arith in
    let there = within a b in
    let listed : cell plane a b < count =
    All-contains (λ (e : Point × ℕ). e.1 < count) plane _ states (Contains-cell plane a b (λ none. live (omega arith))) in
    all_below p count sparse (λ x y.
    let below = within x y in
    let state = cell-All (λ s. s < count) plane x y (omega arith) states in
    omega arith)

-- each component is live
pub component_live : (cells : ℤ → ℤ → ℕ) (parts : List Picture) (p : Picture) → ArePartsOf AreApart cells parts → Contains parts p → IsLive p
component_live cells parts p are has = All-contains IsLive parts p (λ k d low. (are.undivided k d low).live) has

-- run from now on, they are the plane, and each lies in a part of every division
pub AreRuns-first : (next : List ℕ → ℕ) → next (replicate 9 0) ≡ 0 → (count : ℕ) (cells : ℤ → ℤ → ℕ) (components : List Picture) (parts : List Part)
    → ArePartsOf AreApart cells components → All (IsRun next count) parts → map origin parts ≡ components → AreRuns next count cells parts
AreRuns-first next quiet count cells components parts are runs origins = record {
  runs = runs;
  disjoint = subst (AllPairs (λ (p q : Picture). AreDisjoint (cell p) (cell q))) (sym origins)
      (λ i j d low high x y.
      let p = get_or components i d in
      let q = get_or components j d in
      elim (cases_eq (cell p x y) 0) [
        | inl none ↦ inl none
        | inr live ↦ elim (cases_eq (cell q x y) 0) [ inl none ↦ inr none | inr too ↦ absurd (one_live (cell p) (cell q) x y (are.apart i j d low high) live too) ]
      ]);
  whole = λ x y. are.together x y ∙ sym (ap (λ (l : List Picture). together l x y) origins);
  finer = subst (IsFinerThanAll next cells) (sym origins)
      (λ others division. linked_parts_are_finer next quiet cells components others (record { apart = are.apart; whole = are.together }) are.undivided division);
}

-- ---- parts that are run on

-- parts with the same first planes are the plane too
pub AreRuns-later : (next : List ℕ → ℕ) (count horizon : ℕ) (cells : ℤ → ℤ → ℕ) (parts later : List Part) → AreRuns next count cells parts → All (IsRunTo next count horizon) later
    → map origin later ≡ map origin parts → AreRuns next count cells later
AreRuns-later next count horizon cells parts later runs far origins = record {
  runs = All-weaker (IsRunTo next count horizon) (IsRun next count) (λ part to. to.run) later far;
  disjoint = subst (AllPairs (λ (p q : Picture). AreDisjoint (cell p) (cell q))) (sym origins) runs.disjoint;
  whole = λ x y. runs.whole x y ∙ sym (ap (λ (l : List Picture). together l x y) origins);
  finer = subst (IsFinerThanAll next cells) (sym origins) runs.finer;
}

-- where a part is live, the plane has its state
part_lies : (next : List ℕ → ℕ) (count : ℕ) (plane : Picture) (parts : List Part) (part : Part) → AreRuns next count (cell plane) parts → Contains parts part → LiesIn (origin part) plane
part_lies next count plane parts part runs (k, low, is) x y live =
    let ps = map origin parts in
    let has : Contains ps (origin part) = (k, omega (arith, length-map parts origin, low), get_or-map origin parts k part (origin part) low ∙ ap origin is) in
    sym (runs.whole x y
    ∙ sum_alone (λ (q : Picture). cell q x y) (λ p q. AreDisjoint (cell p) (cell q)) disjoint_turned ps (origin part) runs.disjoint
    (λ q apart. elim (apart x y) [ inl none ↦ absurd (live none) | inr none ↦ none ]) has)

-- so what leaves the reach in a part lies in the plane
pub LeavesAlone-part : (next : List ℕ → ℕ) (count : ℕ) (plane : Picture) (parts : List Part) → AreRuns next count (cell plane) parts
    → Any (λ part. LeavesAlone next (origin part)) parts → LeavesAlone next plane
LeavesAlone-part next count plane parts runs (k, part, low, is, (q, lies, n, leaves)) =
    let within = part_lies next count plane parts part runs (k, low, is) in
    (q, λ x y live. lies x y live ∙ within x y (λ none. live (lies x y live ∙ none)), n, leaves)

-- ---- parts that come back and never meet

first_planes : (parts : List Part) → map first_plane (map (λ (part : Part). part.shows) parts) ≡ map origin parts
first_planes [] = refl
first_planes (part ∷ parts) = ap (λ (l : List Picture). origin part ∷ l) (first_planes parts)

-- what goes round comes back
ComesBack-round : (next : List ℕ → ℕ) (course : Course) → GoesRound next course → ComesBack next (first_plane course)
ComesBack-round next course round = (length course.planes, round.phases.some, course.dx, course.dy, round.phases.back)

pub AreClusters-found : (next : List ℕ → ℕ) (count : ℕ) (cells : ℤ → ℤ → ℕ) (parts : List Part) → AreRuns next count cells parts → All (λ part. IsTrue part.is_back) parts
    → AllPairs (NeverMeet next) (map origin parts) → AreClusters next cells (map (λ (part : Part). part.shows) parts)
AreClusters-found next count cells parts runs back never =
    let courses = map (λ (part : Part). part.shows) parts in
    let round : All (λ (part : Part). GoesRound next part.shows) parts = λ k d low. (runs.runs k d low).round (back k d low) in
    record {
      round = All-map (GoesRound next) (λ (part : Part). part.shows) parts round;
      finest = record {
        division = record {
          live = subst (All IsLive) (sym (first_planes parts))
              (All-map IsLive origin parts (All-weaker (IsRun next count) (λ part. IsLive (origin part)) (origin_live next count) parts runs.runs));
          back = subst (All (ComesBack next)) (sym (first_planes parts))
              (All-map (ComesBack next) origin parts (All-weaker (λ (part : Part). GoesRound next part.shows) (λ part. ComesBack next (origin part))
              (λ part goes. ComesBack-round next part.shows goes) parts round));
          apart = subst (AllPairs (NeverMeet next)) (sym (first_planes parts)) never;
          whole = λ x y. runs.whole x y ∙ sym (ap (λ (l : List Picture). together l x y) (first_planes parts));
        };
        finest = subst (IsFinerThanAll next cells) (sym (first_planes parts)) runs.finer;
      };
    }

-- ---- units of the budget

-- as many units are taken as generations were looked at, at least
pub enough_units : (horizon pairs some units limit : ℕ) → horizon ≤ limit → some ≡ max pairs 1 → units ≡ min (horizon * some) limit → horizon ≤ units
enough_units horizon pairs some units limit low is taken =
    let one : 0 < some = omega arith in
    let times = le-mul_of_pos_right horizon one in
    omega arith
