-- Groups that are run side by side, each as if it were alone.
use Rattle.std.proofs.Common.{Global, ◌≡◌, ℕ, zero, suc, ◌+◌, ◌-◌, ◌<◌, List, [], ◌∷◌, ◌++◌, length, map, take, get_or, append_assoc, inl, inr, refl, sym, ap, ap₂, ◌∙◌, subst, arith}
use Rattle.std.specs.Prelude.{ℤ, Option, None}
use Rattle.std.specs.Option.{MatchOption}
use Rattle.std.specs.Iterator.{Yields}
use Rattle.std.specs.declared.vec.IntoIter.{IntoIter}
use Rattle.std.specs.List.{All, AllPairs, AllZip, sum_by, flat_map}
use Rattle.std.proofs.lemmas.Bool.{cases_lt}
use Rattle.std.proofs.lemmas.List.{get_or_default, get_or_push, get_or_append_left, length_push, get_or-map, length-map, map-append, map-id, flat_map_more, take_more}
use Rattle.std.proofs.lemmas.List.Elements.{All-nil, All-cons, All-head, All-tail, All-map, All-more}
use Rattle.std.proofs.lemmas.List.Kept.{AllPairs-cons}
use Rattle.std.proofs.lemmas.List.Sums.{sum_by-cons, get_or-le-sum_by}
use Rattle.std.proofs.lemmas.Iterator.Consumers.{YieldsList-from_shown, YieldsList-end}
use Rattle.ca_plane.specs.Prelude.{Picture, IsSparse, IsSame, cell, after, IsAfter}
use Rattle.ca_plane.proofs.Pictures.{cell-All, cell-listed}
use Rattle.ca_steps.specs.Prelude.{HasStates, IsStepped}
use Rattle.ca_steps.proofs.OutOfReach.{after_one_more}
use Rattle.ca_parts.specs.Prelude.{plane_at}
use Rattle.ca_parts.proofs.Lists.{All-zip, AllPairs-head, AllPairs-tail}
use Rattle.ca_clusters.specs.declared.objects.groups.Run.{Run}
use Rattle.ca_clusters.specs.Objects.{AreDisjoint}
use Rattle.ca_clusters.specs.inner.Groups.{AreGroups, GoAlong, start_of, latest_of, IsReady, ShowsPlanes, IsOneLater, AreRunsOf, IsUnionOf}
use Rattle.ca_clusters.proofs.MergedGroups.{disjoint_from_apart}

-- ---- the planes of one run

-- the last plane that is read of a run is its latest
pub latest_read : (run : Run) (n : ℕ) (p : Picture) → 0 < length run.planes.items → n ≡ length run.planes.items → p ≡ get_or run.planes.items (n - 1) p → p ≡ latest_of run
latest_read run n p some is read =
    read ∙ get_or_default run.planes.items (n - 1) p [] (omega (arith, some, is)) ∙ ap (λ m. get_or run.planes.items (m - 1) []) is

-- a run whose latest plane is put behind the others
module _ (next : List ℕ → ℕ) (count : ℕ) (run later : Run) (p : Picture) (ready : IsReady count run) (put : later.planes.items ≡ run.planes.items ++ p ∷ []) (stepped : IsStepped next count (latest_of run) 1 p) where
  long_later : length later.planes.items ≡ length run.planes.items + 1
  long_later = ap (λ ps. length ps) put ∙ length_push run.planes.items p

  latest_later : latest_of later ≡ p
  latest_later =
      ap (λ ps. get_or ps (length later.planes.items - 1) []) put
      ∙ get_or_push run.planes.items p [] (length later.planes.items - 1) (let long = long_later in omega (arith, long))

  kept_later : (k : ℕ) → k < length run.planes.items → plane_at later.planes.items k ≡ plane_at run.planes.items k
  kept_later k low = ap (λ ps. get_or ps k []) put ∙ get_or_append_left run.planes.items (p ∷ []) [] k low

  shows_later : (n : ℕ) → ShowsPlanes next count n run → ShowsPlanes next count (n + 1) later
  shows_later n shows =
      let long = long_later in
      let start = kept_later 0 ready.some in
      record {
        ready = ready_later;
        long = omega (arith, long, shows.long);
        generations = record {
          some = omega (arith, long);
          each = λ k low. elim (cases_lt k (length run.planes.items)) [
            | inl early ↦
                subst (λ q. IsAfter next q k (plane_at later.planes.items k)) (sym start)
                (subst (IsAfter next (plane_at run.planes.items 0) k) (sym (kept_later k early)) (shows.generations.each k early))
            | inr late ↦
                let same : (length run.planes.items - 1) + 1 ≡ k = omega (arith, long, low, late, ready.some) in
                let before : length run.planes.items - 1 < length run.planes.items = omega (arith, ready.some) in
                let there : k ≡ length later.planes.items - 1 = omega (arith, long, low, late) in
                let one = after_one_more next (start_of run) (latest_of run) p (length run.planes.items - 1) (shows.generations.each (length run.planes.items - 1) before) stepped.after in
                subst (λ q. IsAfter next q k (plane_at later.planes.items k)) (sym start)
                (subst (IsAfter next (start_of run) k) (sym (ap (λ m. plane_at later.planes.items m) there ∙ latest_later))
                (subst (λ m. IsAfter next (start_of run) m p) same one))
          ];
        };
      }
    where
      ready_later : IsReady count later
      ready_later = let long = long_later in record { some = omega (arith, long); states = subst (HasStates count) (sym latest_later) stepped.states }

  pub IsOneLater-put : IsOneLater next count run later
  IsOneLater-put =
      let long = long_later in
      record {
        ready = record { some = omega (arith, long); states = subst (HasStates count) (sym latest_later) stepped.states };
        start = kept_later 0 ready.some;
        more = shows_later;
      }

-- after n generations the group is the latest plane of n + 1
latest_shown : (next : List ℕ → ℕ) (count n : ℕ) (run : Run) → ShowsPlanes next count (n + 1) run → IsAfter next (start_of run) n (latest_of run)
latest_shown next count n run shows =
    let is : length run.planes.items - 1 ≡ n = omega (arith, shows.long) in
    subst (λ m. IsAfter next (start_of run) m (latest_of run)) is (shows.generations.each (length run.planes.items - 1) (omega (arith, shows.long)))

-- ---- all runs

starts_later : (next : List ℕ → ℕ) (count : ℕ) (runs later : List Run) → AllZip (IsOneLater next count) runs later → map start_of later ≡ map start_of runs
starts_later next count [] [] zip = refl
starts_later next count [] (r ∷ rs) zip = absurd zip
starts_later next count (r ∷ rs) [] zip = absurd zip
starts_later next count (r ∷ rs) (s ∷ ss) zip = ap₂ (λ (p : Picture) (ps : List Picture). p ∷ ps) zip.0.start (starts_later next count rs ss zip.1)

-- one generation later
pub AreRunsOf-later : (next : List ℕ → ℕ) (count : ℕ) (groups : List Picture) (n : ℕ) (runs later : List Run) → AreRunsOf next count groups n runs → AllZip (IsOneLater next count) runs later → AreRunsOf next count groups (n + 1) later
AreRunsOf-later next count groups n runs later are zip = record {
  starts = starts_later next count runs later zip ∙ are.starts;
  shown = All-zip (IsOneLater next count) (ShowsPlanes next count n) (ShowsPlanes next count (n + 1)) (λ run longer one shows. one.more n shows) runs later zip are.shown;
}

pub all_ready : (next : List ℕ → ℕ) (count : ℕ) (groups : List Picture) (n : ℕ) (runs : List Run) → AreRunsOf next count groups n runs → All (IsReady count) runs
all_ready next count groups n runs are k d low = (are.shown k d low).ready

-- ---- the states of a group

-- where no state of the cells is as large as the count, none of a group's is
states_of_group : (count : ℕ) (p : Picture) (groups : List Picture) (q : Picture) (k : ℕ) → 0 < count → HasStates count p → AreGroups (cell p) groups → k < length groups → get_or groups k q ≡ q → IsSparse q → HasStates count q
states_of_group count p groups q k some states are low is sparse = λ i d within.
    let e = get_or q i d in
    let shown = cell-listed q sparse i d within in
    let sum = are.whole e.0.x e.0.y in
    let part = get_or-le-sum_by (λ (r : Picture). cell r e.0.x e.0.y) groups k q low in
    let here : cell (get_or groups k q) e.0.x e.0.y ≡ cell q e.0.x e.0.y = ap (λ (r : Picture). cell r e.0.x e.0.y) is in
    let below : cell p e.0.x e.0.y < count = cell-All (λ s. s < count) p e.0.x e.0.y some states in
    omega (arith, shown, sum, part, here, below)

-- groups that have one plane each, of which no state is as large as the count
module _ (next : List ℕ → ℕ) (count : ℕ) (p : Picture) (groups : List Picture) (runs : List Run) (some : 0 < count) (states : HasStates count p) (are : AreGroups (cell p) groups) where
  shows_first : (run : Run) → length run.planes.items ≡ 1 → HasStates count (start_of run) → ShowsPlanes next count 1 run
  shows_first run one low = record {
    ready = record {
      some = omega (arith, one);
      states = let last : length run.planes.items - 1 ≡ 0 = omega (arith, one) in subst (λ m. HasStates count (plane_at run.planes.items m)) (sym last) low;
    };
    long = one;
    generations = record {
      some = omega (arith, one);
      each = λ k within. let none : 0 ≡ k = omega (arith, one, within) in subst (λ m. IsAfter next (start_of run) m (plane_at run.planes.items m)) none (λ x y. refl);
    };
  }

  pub AreRunsOf-first : map start_of runs ≡ groups → All (λ run. length run.planes.items ≡ 1) runs → All IsSparse groups → AreRunsOf next count groups 1 runs
  AreRunsOf-first starts one sparse = record {
    starts = starts;
    shown = λ k d within.
        let run = get_or runs k d in
        let q = start_of run in
        let long : length runs ≡ length groups = sym (length-map runs start_of) ∙ ap (λ gs. length gs) starts in
        let low : k < length groups = omega (arith, within, long) in
        let is : get_or groups k q ≡ q =
        get_or_default groups k q (start_of d) low ∙ ap (λ gs. get_or gs k (start_of d)) (sym starts) ∙ get_or-map start_of runs k d (start_of d) within in
        shows_first run (one k d within) (states_of_group count p groups q k some states are low is (subst IsSparse is (sparse k q low)));
  }

-- ---- groups that go along with their cluster

-- at first
pub GoAlong-first : (next : List ℕ → ℕ) (planes groups : List Picture) → AreGroups (cell (plane_at planes 0)) groups → GoAlong next planes 1 groups
GoAlong-first next planes groups are = record {
  alone = λ i j d low high m below. first_alone i j d low high m below;
  whole = λ m below. first_whole m below;
}
  where
    first_alone : (i j : ℕ) (d : Picture) → i < j → j < length groups → (m : ℕ) → m < 1 → AreDisjoint (after next (get_or groups i d) m) (after next (get_or groups j d) m)
    first_alone i j d low high zero below = disjoint_from_apart (cell (get_or groups i d)) (cell (get_or groups j d)) (are.islands i j d low high)
    first_alone i j d low high (suc m) below = absurd (omega (arith, below))

    first_whole : (m : ℕ) → m < 1 → (x y : ℤ) → cell (plane_at planes m) x y ≡ sum_by (λ p. after next p m x y) groups
    first_whole zero below x y = are.whole x y
    first_whole (suc m) below x y = absurd (omega (arith, below))

-- sums of equal numbers
pub same_sums : {X : Type 0} (f g : X → ℕ) (xs : List X) → All (λ x. f x ≡ g x) xs → sum_by f xs ≡ sum_by g xs
same_sums f g [] same = refl
same_sums f g (x ∷ xs) same =
    let first : f x ≡ g x = All-head (λ y. f y ≡ g y) x xs same in
    let rest = same_sums f g xs (All-tail (λ y. f y ≡ g y) x xs same) in
    let one = sum_by-cons f x xs in
    let two = sum_by-cons g x xs in
    omega (arith, first, rest, one, two)

-- a sum over what a function gives
pub sum_of_map : {X Y : Type 0} (f : Y → ℕ) (g : X → Y) (xs : List X) → sum_by f (map g xs) ≡ sum_by (λ x. f (g x)) xs
sum_of_map f g [] = refl
sum_of_map f g (x ∷ xs) =
    let rest = sum_of_map f g xs in
    let one = sum_by-cons f (g x) (map g xs) in
    let two = sum_by-cons (λ z. f (g z)) x xs in
    omega (arith, rest, one, two)

-- what holds of each two that a function gives
pub pairs_of_map : {X Y : Type 0} (R : Y → Y → Type 0) (g : X → Y) (xs : List X) → AllPairs R (map g xs) → AllPairs (λ x z. R (g x) (g z)) xs
pairs_of_map R g xs pairs = λ i j d low high.
    let long : length (map g xs) ≡ length xs = length-map xs g in
    let within : i < length xs = omega (arith, low, high) in
    subst (λ y. R y (g (get_or xs j d))) (get_or-map g xs i d (g d) within)
    (subst (λ y. R (get_or (map g xs) i (g d)) y) (get_or-map g xs j d (g d) high) (pairs i j (g d) low (omega (arith, high, long))))

pairs_from_map : {X Y : Type 0} (R : Y → Y → Type 0) (g : X → Y) (xs : List X) → AllPairs (λ x z. R (g x) (g z)) xs → AllPairs R (map g xs)
pairs_from_map R g [] pairs = λ i j d low high. absurd (omega (arith, high))
pairs_from_map R g (x ∷ xs) pairs =
    AllPairs-cons R (g x) (map g xs) (All-map (R (g x)) g xs (AllPairs-head (λ y z. R (g y) (g z)) x xs pairs))
    (pairs_from_map R g xs (AllPairs-tail (λ y z. R (g y) (g z)) x xs pairs))

-- one generation more
module _ (next : List ℕ → ℕ) (count n : ℕ) (planes groups : List Picture) (runs : List Run) (whole : Picture) (are : AreRunsOf next count groups (n + 1) runs) (union : IsUnionOf (map latest_of runs) whole) (same : IsSame whole (plane_at planes n)) where
  whole_then : (x y : ℤ) → cell (plane_at planes n) x y ≡ sum_by (λ p. after next p n x y) groups
  whole_then x y =
      sym (same x y) ∙ union.together x y ∙ sum_of_map (λ (p : Picture). cell p x y) latest_of runs
      ∙ same_sums (λ run. cell (latest_of run) x y) (λ run. after next (start_of run) n x y) runs (λ k d low. sym (latest_shown next count n (get_or runs k d) (are.shown k d low) x y))
      ∙ sym (sum_of_map (λ (p : Picture). after next p n x y) start_of runs) ∙ ap (λ gs. sum_by (λ (p : Picture). after next p n x y) gs) are.starts

  alone_then : AllPairs (λ p q. AreDisjoint (after next p n) (after next q n)) groups
  alone_then =
      let latest = pairs_of_map (λ p q. AreDisjoint (cell p) (cell q)) latest_of runs union.alone in
      subst (AllPairs (λ p q. AreDisjoint (after next p n) (after next q n))) are.starts
      (pairs_from_map (λ p q. AreDisjoint (after next p n) (after next q n)) start_of runs (λ i j d low high x y.
      let within : i < length runs = omega (arith, low, high) in
      let one = latest_shown next count n (get_or runs i d) (are.shown i d within) x y in
      let two = latest_shown next count n (get_or runs j d) (are.shown j d high) x y in
      elim (latest i j d low high x y) [ inl none ↦ inl (one ∙ none) | inr none ↦ inr (two ∙ none) ]))

  pub GoAlong-more : GoAlong next planes n groups → GoAlong next planes (n + 1) groups
  GoAlong-more along = record {
    alone = λ i j d low high m below. elim (cases_lt m n) [
      | inl early ↦ along.alone i j d low high m early
      | inr late ↦
          let now : n ≡ m = omega (arith, below, late) in
          subst (λ k. AreDisjoint (after next (get_or groups i d) k) (after next (get_or groups j d) k)) now (alone_then i j d low high)
    ];
    whole = λ m below. elim (cases_lt m n) [
      | inl early ↦ along.whole m early
      | inr late ↦
          let now : n ≡ m = omega (arith, below, late) in
          subst (λ k. (x y : ℤ) → cell (plane_at planes k) x y ≡ sum_by (λ p. after next p k x y) groups) now whole_then
    ];
  }

-- ---- loops over runs

-- a run of one plane more
pub starts_put : (runs : List Run) (run : Run) (groups : List Picture) (p : Picture) → map start_of runs ≡ groups → run.planes.items ≡ p ∷ [] → map start_of (runs ++ run ∷ []) ≡ groups ++ p ∷ []
starts_put runs run groups p starts is = map-append start_of runs (run ∷ []) ∙ ap₂ (λ (gs : List Picture) (ps : List Picture). gs ++ get_or ps 0 [] ∷ []) starts is

-- what a run begins with, before the others that come
pub starts_regrouped : (runs : List Run) (run : Run) (rest : List Picture) → map start_of (runs ++ run ∷ []) ++ rest ≡ map start_of runs ++ start_of run ∷ rest
starts_regrouped runs run rest = ap (λ gs. gs ++ rest) (map-append start_of runs (run ∷ [])) ∙ append_assoc (map start_of runs) (start_of run ∷ []) rest

-- the cells of one run more
pub cells_more : (runs : List Run) (i : ℕ) (run : Run) (cells new p : Picture) → i < length runs → run ≡ get_or runs i run → cells ≡ flat_map latest_of (take i runs) → new ≡ cells ++ p → p ≡ latest_of run → new ≡ flat_map latest_of (take (i + 1) runs)
cells_more runs i run cells new p low read so_far put latest =
    put ∙ ap₂ (λ (q : Picture) (r : Picture). q ++ r) so_far latest ∙ flat_map_more latest_of [] (take i runs) run
    ∙ ap (λ rs. flat_map latest_of rs) (ap (λ r. take i runs ++ r ∷ []) read ∙ sym (take_more runs i run low))

pub sparse_more : (runs : List Run) (i : ℕ) (run : Run) (p : Picture) → i < length runs → run ≡ get_or runs i run → IsSparse p → p ≡ latest_of run → All (λ r. IsSparse (latest_of r)) (take i runs) → All (λ r. IsSparse (latest_of r)) (take (i + 1) runs)
sparse_more runs i run p low read sparse latest so_far =
    All-more (λ r. IsSparse (latest_of r)) runs i run low so_far (subst (λ r. IsSparse (latest_of r)) read (subst IsSparse latest sparse))

-- all runs have come where a `for` over them ends
abbrev Turns : IntoIter Run Global → Option Run → IntoIter Run Global → Type 0
Turns s r t = MatchOption r ((s.rest.len ≡ 0) × (t.rest.len ≡ 0)) (λ x. (s.rest.items ≡ x ∷ t.rest.items) × (t.rest.len + 1 ≡ s.rest.len))

pub all_yielded : (s t u : IntoIter Run Global) (xs runs : List Run) (r : Option Run) → Yields Turns s xs t → r ≡ None → Turns t r u → s.rest.items ≡ runs → xs ≡ runs
all_yielded s t u xs runs r yields none turn start =
    let list = YieldsList-from_shown Turns (λ x. x) (λ (i : IntoIter Run Global). i.rest.items) (λ i j h. omega (arith, h.0, i.rest.ok.0)) (λ i x j h. h.0) s in
    sym (map-id xs) ∙ (YieldsList-end list xs t yields r u none turn).0 ∙ start

-- what holds of all so far and one more
pub all_split : {X : Type 0} (P : X → Type 0) (xs : List X) (x : X) → All P (xs ++ x ∷ []) → All P xs × P x
all_split P [] x all = (All-nil P, All-head P x [] all)
all_split P (y ∷ ys) x all =
    let (rest, last) = all_split P ys x (All-tail P y (ys ++ x ∷ []) all) in
    (All-cons P y ys (All-head P y (ys ++ x ∷ []) all) rest, last)
