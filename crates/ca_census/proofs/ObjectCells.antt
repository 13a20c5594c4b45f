-- The cells of objects are cells of the plane that consists of them, so they fit into a file where the plane's do.
use Rattle.std.proofs.Common.{◌≢◌, ℕ, ◌<◌, ◌≤◌, Bool, List, [], ◌∷◌, length, map, get_or, refl, sym, subst, arith}
use Rattle.std.specs.Prelude.{ℤ, flat_map}
use Rattle.std.specs.List.{All, AllZip, sum_by}
use Rattle.std.proofs.lemmas.Cmp.{eq_by_cmp_equiv}
use Rattle.std.proofs.lemmas.List.Concat.{flat_map-cons}
use Rattle.std.proofs.lemmas.List.Elements.{All-nil, All-cons, All-head, All-tail, All-append, All-contains, All-from_recursion}
use Rattle.std.proofs.lemmas.List.Sums.{sum_by-cons}
use Rattle.std.proofs.lemmas.Map.Made.{is_member-Decides, length-le_from_is_member, IsDistinct-from_AllPairs}
use Rattle.ca_plane.specs.declared.point.Point.{Point}
use Rattle.ca_plane.specs.Prelude.{Picture, cell, AreLivePlaces, IsSparse}
use Rattle.ca_plane.proofs.Pictures.{point_cmp_total, cell-listed, cell-All}
use Rattle.ca_plane.proofs.Places.{All-from_map}
use Rattle.ca_plane.proofs.Populations.{is_point, Decides-is_point, sparse_population}
use Rattle.ca_parts.specs.Prelude.{Course, IsDivision}
use Rattle.ca_parts.proofs.Lists.{All-zip, AllZip-with_other}
use Rattle.ca_clusters.specs.Prelude.{first_plane, AreClusters, AreObjects}
use Rattle.ca_census.specs.declared.{census.Census.Census, settling.Settling.Settling}
use Rattle.ca_census.specs.Prelude.{IsEntryOf, IsCensusOf, FitsFile}

-- ---- cells below others

-- no state of the one picture is greater than the other's there
abbrev pub LiesBelow : Picture → Picture → Type 0
LiesBelow p q = (x y : ℤ) → cell p x y ≤ cell q x y

-- where all live cells of the one are live in the other, they are no more
pub places_among : (f g : ℤ → ℤ → ℕ) → ((x y : ℤ) → f x y ≢ 0 → g x y ≢ 0) → (ps qs : List Point) → AreLivePlaces f ps → AreLivePlaces g qs → length ps ≤ length qs
unfolding is_point
places_among f g live ps qs a b =
    length-le_from_is_member (eq_by_cmp_equiv point_cmp_total) ps qs (IsDistinct-from_AllPairs Decides-is_point ps a.once)
    (λ q h.
    let here = All-contains (λ (p : Point). f p.x p.y ≢ 0) ps q (All-from_recursion (λ (p : Point). f p.x p.y ≢ 0) ps a.live) ((is_member-Decides Decides-is_point ps q).0 h) in
    (is_member-Decides Decides-is_point qs q).1 (b.all q.x q.y (live q.x q.y here)))

-- so what lies below cells that fit into a file fits too
pub fits_below : (states : ℕ) (p q : Picture) → IsSparse p → LiesBelow p q → FitsFile states q → FitsFile states p
fits_below states p q sparse below fits =
    let (count, has, low) = fits.few in
    let (qs, are, is) = has in
    let mine = sparse_population p sparse in
    let live : (x y : ℤ) → cell p x y ≢ 0 → cell q x y ≢ 0 = λ x y here none. let no_more = below x y in here (omega (arith, no_more, none)) in
    record {
      small = λ k d within.
          let place = (get_or p k d).0 in
          let some = (sparse.states k d within).0 in
          let shown = cell-listed p sparse k d within in
          let no_more = below place.x place.y in
          let small = cell-All (λ s. s ≢ 0 → s < states) q place.x place.y (λ none. absurd (none refl)) (λ j e inside _. fits.small j e inside) in
          let less = small (λ none. absurd (omega (arith, some, shown, no_more, none))) in
          omega (arith, shown, no_more, less);
      few = (length p, mine, omega (arith, low, is, mine.2, places_among (cell p) (cell q) live mine.0 qs mine.1 are));
    }

-- ---- cells of parts

-- no term is greater than the sum
terms_of_sum : {X : Type 0} (f : X → ℕ) (xs : List X) → All (λ x. f x ≤ sum_by f xs) xs
terms_of_sum f [] = All-nil (λ x. f x ≤ 0)
terms_of_sum f (x ∷ xs) =
    let sum = sum_by-cons f x xs in
    All-cons (λ y. f y ≤ sum_by f (x ∷ xs)) x xs (omega (arith, sum)) (λ k d within. let rest = terms_of_sum f xs k d within in omega (arith, sum, rest))

-- the parts of a division lie in the plane,
parts_below : (next : List ℕ → ℕ) (plane : Picture) (parts : List Picture) → IsDivision next (cell plane) parts → All (λ p. LiesBelow p plane) parts
parts_below next plane parts is = λ k d within x y. subst (λ s. cell (get_or parts k d) x y ≤ s) (sym (is.whole x y)) (terms_of_sum (λ p. cell p x y) parts k d within)

-- and the objects of a cluster lie in it
objects_below : (next : List ℕ → ℕ) (cluster : Picture) (objects : List Course) → AreObjects next cluster objects → All (λ o. LiesBelow (first_plane o) cluster) objects
objects_below next cluster objects is = λ k d within x y.
    subst (λ s. cell (first_plane (get_or objects k d)) x y ≤ s) (sym (is.whole 0 x y)) (terms_of_sum (λ o. cell (first_plane o) x y) objects k d within)

-- what holds of each element of each list
all_flat : {X : Type 0} (P : X → Type 0) (lists : List (List X)) → All (All P) lists → All P (flat_map (λ xs. xs) lists)
all_flat P [] all = All-nil P
all_flat P (xs ∷ lists) all =
    subst (All P) (sym (flat_map-cons (λ ys. ys) xs lists))
    (All-append P xs (flat_map (λ ys. ys) lists) (All-head (All P) xs lists all) (all_flat P lists (All-tail (All P) xs lists all)))

-- so all objects lie in the plane
pub all_below : (next : List ℕ → ℕ) (plane : Picture) (clusters : List Course) (objects : List (List Course)) → AreClusters next (cell plane) clusters
    → AllZip (λ cluster of. AreObjects next (first_plane cluster) of) clusters objects → All (λ o. LiesBelow (first_plane o) plane) (flat_map (λ of. of) objects)
all_below next plane clusters objects are each =
    all_flat (λ o. LiesBelow (first_plane o) plane) objects
    (All-zip (λ cluster of. AreObjects next (first_plane cluster) of) (λ cluster. LiesBelow (first_plane cluster) plane) (All (λ o. LiesBelow (first_plane o) plane))
    (λ cluster of is below k d within x y.
    let inner = objects_below next (first_plane cluster) of is k d within x y in
    let outer = below x y in
    omega (arith, inner, outer))
    clusters objects each
    (All-from_map (λ p. LiesBelow p plane) first_plane clusters (parts_below next plane (map first_plane clusters) are.finest.division)))

-- ---- the objects of a census

-- they fit into a file where the plane does
pub objects_fit : (next : List ℕ → ℕ) (coded : Bool) (states : ℕ) (settling : Settling) (census : Census) → IsCensusOf next coded settling census
    → AreClusters next (cell settling.plane) settling.clusters.items → All (λ o. IsSparse o.plane) census.objects.items → FitsFile states settling.plane
    → All (λ o. FitsFile states o.plane) census.objects.items
objects_fit next coded states settling census is are sparse fits =
    let courses = flat_map (λ (of : List Course). of) is.objects in
    let entries = census.objects.items in
    All-zip (λ course entry. IsEntryOf next coded course entry × IsSparse entry.plane) (λ course. LiesBelow (first_plane course) settling.plane) (λ entry. FitsFile states entry.plane)
    (λ course entry on below. fits_below states entry.plane settling.plane on.1 (subst (λ (p : Picture). LiesBelow p settling.plane) (sym on.0.plane) below) fits)
    courses entries (AllZip-with_other (IsEntryOf next coded) (λ entry. IsSparse entry.plane) courses entries is.entries sparse)
    (all_below next settling.plane settling.clusters.items is.objects are is.each)
