-- Parts that come back within a number of generations, and what has more live cells than they can have.
use Rattle.std.proofs.Common.{◌≡◌, ◌≢◌, ℕ, zero, suc, ◌+◌, ◌*◌, ◌-◌, ◌<◌, ◌≤◌, List, [], ◌∷◌, length, map, get_or, refl, sym, ap, ap₂, ◌∙◌, arith, subst}
use Rattle.std.specs.Prelude.{ℤ, pos, ◌+ℤ◌, ◌-ℤ◌, ◌*ℤ◌, replicate}
use Rattle.std.specs.List.{All, AllPairs, Any, Contains, sum_by}
use Rattle.std.proofs.Math.Nat.{zero-mul, suc-mul}
use Rattle.std.proofs.lemmas.Cmp.{eq_by_cmp_equiv}
use Rattle.std.proofs.lemmas.Int.{ints}
use Rattle.std.proofs.lemmas.List.{get_or-map, length-map}
use Rattle.std.proofs.lemmas.List.Elements.{All-map, All-contains, All-weaker, All-from_recursion}
use Rattle.std.proofs.lemmas.List.Sums.{sum_by-cons}
use Rattle.std.proofs.lemmas.Map.Made.{is_member-Decides, length-le_from_is_member, IsDistinct-from_AllPairs}
use Rattle.ca_plane.specs.declared.point.Point.{Point}
use Rattle.ca_plane.specs.Prelude.{Picture, cell, after, IsAfter, cells_after, AreLivePlaces}
use Rattle.ca_plane.proofs.After.{after_again}
use Rattle.ca_plane.proofs.Pictures.{point_cmp_total}
use Rattle.ca_plane.proofs.Populations.{is_point, Decides-is_point}
use Rattle.ca_parts.specs.Prelude.{AreApartBefore, together, LiesIn, IsDivision, IsSettled, IsFinerThanAll, ComesBackWithin, IsSettledWithin, HasMoreCells, Outgrows}
use Rattle.ca_parts.proofs.Lists.{All-zip}
use Rattle.ca_parts.proofs.Returning.{IsBackBy, IsBackAt, IsBackBy-from_shifted, shifted-from_IsBackBy, back_times, common_time}
use Rattle.ca_parts.proofs.LaterPictures.{picture_after}
use Rattle.ca_parts.proofs.LaterDivisions.{IsBackBy-later, IsDivision-later, IsDivision-same, pictures_after}
use Rattle.ca_parts.proofs.FinestDivisions.{part_here}
use Rattle.ca_parts.proofs.PartsWithin.{lies_on}

-- ---- live cells

-- where each live cell of f, moved back, is one of g, f has no more live cells than g
module _ (f g : ℤ → ℤ → ℕ) (u v : ℤ) (seen : (x y : ℤ) → f x y ≢ 0 → g (x -ℤ u) (y -ℤ v) ≢ 0) where
  -- a place, moved back, and moved there again
  abbrev moved_back : Point → Point
  moved_back p = record { y = p.y -ℤ v; x = p.x -ℤ u }

  abbrev moved_there : Point → Point
  moved_there p = record { y = p.y +ℤ v; x = p.x +ℤ u }

  abbrev point : ℤ → ℤ → Point
  point y x = record { y = y; x = x }

  gone_and_back : (a d : ℤ) → (a -ℤ d) +ℤ d ≡ a
  gone_and_back a d = omega (arith, ints)

  restored : (p : Point) → moved_there (moved_back p) ≡ p
  restored p = ap₂ point (gone_and_back p.y v) (gone_and_back p.x u)

  once_moved : (ps : List Point) → AllPairs (λ p q. p ≢ q) ps → AllPairs (λ p q. p ≢ q) (map moved_back ps)
  once_moved ps once = λ i j d less low e.
      let count = length-map ps moved_back in
      let low_j : j < length ps = omega (arith, low, count) in
      let low_i : i < length ps = omega (arith, less, low_j) in
      let one = get_or-map moved_back ps i (moved_there d) d low_i in
      let two = get_or-map moved_back ps j (moved_there d) d low_j in
      once i j (moved_there d) less low_j (sym (restored (get_or ps i (moved_there d))) ∙ (ap moved_there (sym one ∙ (e ∙ two)) ∙ restored (get_or ps j (moved_there d))))

  no_more_places : (ps qs : List Point) → AreLivePlaces f ps → AreLivePlaces g qs → length ps ≤ length qs
  unfolding is_point
  no_more_places ps qs a b =
      let live : All (λ (q : Point). g q.x q.y ≢ 0) (map moved_back ps) =
      All-map (λ (q : Point). g q.x q.y ≢ 0) moved_back ps (λ k d low.
      let p = get_or ps k d in
      seen p.x p.y (All-from_recursion (λ (q : Point). f q.x q.y ≢ 0) ps a.live k d low)) in
      let fewer =
      length-le_from_is_member (eq_by_cmp_equiv point_cmp_total) (map moved_back ps) qs (IsDistinct-from_AllPairs Decides-is_point (map moved_back ps) (once_moved ps a.once))
      (λ q h.
      let alive = All-contains (λ (r : Point). g r.x r.y ≢ 0) (map moved_back ps) q live ((is_member-Decides Decides-is_point (map moved_back ps) q).0 h) in
      (is_member-Decides Decides-is_point qs q).1 (b.all q.x q.y alive)) in
      omega (arith, length-map ps moved_back, fewer)

  no_more_cells : HasMoreCells f g → ⊥
  no_more_cells (m, n, (ps, a, is), (qs, b, are), less) =
      let fewer = no_more_places ps qs a b in
      omega (arith, is, are, less, fewer)

-- ---- generations

-- among n generations from `start` on, one is a multiple of n
abbrev IsMultipleFrom : ℕ → ℕ → Type 0
IsMultipleFrom n start = (k : ℕ) × (j : ℕ) × (k < n) × (start + k ≡ j * n)

next_multiple : (n start k j : ℕ) → k < n → start + k ≡ j * n → IsMultipleFrom n (suc start)
next_multiple n start zero j low is =
    let sum : suc start + (n - 1) ≡ suc j * n = rw (suc-mul j n) (omega (arith, is, low)) in
    (n - 1, suc j, omega (arith, low), sum)
next_multiple n start (suc k) j low is = (k, j, omega (arith, low), omega (arith, is))

some_multiple : (n : ℕ) → 1 ≤ n → (start : ℕ) → IsMultipleFrom n start
some_multiple n some zero = (0, 0, omega (arith, some), sym (zero-mul n))
some_multiple n some (suc start) =
    let (k, j, low, is) = some_multiple n some start in
    next_multiple n start k j low is

-- ---- planes that are outgrown

module _ (next : List ℕ → ℕ) (quiet : next (replicate 9 0) ≡ 0) (cells : ℤ → ℤ → ℕ) (parts : List Picture) (start most : ℕ) (whole : (x y : ℤ) → cells x y ≡ together parts x y)
    (apart : AllPairs (AreApartBefore next (start + most)) parts) (p : Picture) (has : Contains parts p) (more : Outgrows next start most p cells) where
  -- what lies in a part that is back after start + k generations has no more live cells then than the plane had
  not_outgrown : (ds : List Picture) → IsDivision next cells ds → (d : Picture) → Contains ds d → LiesIn p d → (k : ℕ) → k < most → (u v : ℤ) → IsBackBy next (cell d) (start + k) u v → ⊥
  not_outgrown ds division d has_d lies k low u v back_by =
      no_more_cells (after next p (start + k)) cells u v
      (λ x y live.
      let on =
      lies_on next quiet cells parts ds whole division p d has has_d lies (start + k)
      (λ i j e less high m below. apart i j e less high m (omega (arith, below, low))) x y live in
      let there : after next d (start + k) x y ≢ 0 = λ z. live (on ∙ z) in
      let ax : (x -ℤ u) +ℤ u ≡ x = omega (arith, ints) in
      let ay : (y -ℤ v) +ℤ v ≡ y = omega (arith, ints) in
      let here : cell d (x -ℤ u) (y -ℤ v) ≢ 0 = λ z. there (sym (ap₂ (after next d (start + k)) ax ay) ∙ (back_by (x -ℤ u) (y -ℤ v) ∙ z)) in
      λ z. here (sym (part_here next quiet cells ds division d has_d 0 (x -ℤ u) (y -ℤ v) here) ∙ z))
      (more k low)

  pub outgrown : IsFinerThanAll next cells parts → IsSettledWithin next most cells → ⊥
  outgrown finer (ds, division, within) =
      let (i, d, low, is, lies) = All-contains (λ r. Any (LiesIn r) ds) parts p (finer ds division) has in
      let (n, some, few, dx, dy, there) = All-contains (ComesBackWithin next most) ds d within (i, low, is) in
      let (k, j, below, times) = some_multiple n some start in
      not_outgrown ds division d (i, low, is) lies k (omega (arith, below, few)) (pos j *ℤ dx) (pos j *ℤ dy)
      (subst (λ m. IsBackBy next (cell d) m (pos j *ℤ dx) (pos j *ℤ dy)) (sym times) (back_times next (cell d) n j dx dy (IsBackBy-from_shifted next d n dx dy there)))

-- so it is of a plane that is one picture
pub outgrown_alone : (next : List ℕ → ℕ) → next (replicate 9 0) ≡ 0 → (p : Picture) (start most : ℕ) → IsFinerThanAll next (cell p) (p ∷ []) → Outgrows next start most p (cell p)
    → IsSettledWithin next most (cell p) → ⊥
outgrown_alone next quiet p start most finer more =
    outgrown next quiet (cell p) (p ∷ []) start most
    (λ x y. let sum = sum_by-cons (λ q. cell q x y) p [] in omega (arith, sum))
    (λ i j d less low. absurd (omega (arith, less, low))) p (0, omega arith, refl) more finer

-- ---- planes that are settled within a number of generations

-- what comes back within a number of generations does so at all times
ComesBackWithin-later : (next : List ℕ → ℕ) (most n : ℕ) (p q : Picture) → IsAfter next p n q → ComesBackWithin next most p → ComesBackWithin next most q
ComesBackWithin-later next most n p q stands (m, some, few, dx, dy, there) =
    (m, some, few, dx, dy, shifted-from_IsBackBy next q m dx dy (IsBackBy-later next p q n m dx dy stands (IsBackBy-from_shifted next p m dx dy there)))

pub IsSettledWithin-later : (next : List ℕ → ℕ) → next (replicate 9 0) ≡ 0 → (cells : ℤ → ℤ → ℕ) (most n : ℕ) → IsSettledWithin next most cells → IsSettledWithin next most (cells_after next cells n)
IsSettledWithin-later next quiet cells most n (parts, division, within) =
    let later = map (λ p. picture_after next p n) parts in
    let zip = pictures_after next quiet parts n in (
      later,
      IsDivision-later next quiet cells n parts later division zip,
      All-zip (λ p q. IsAfter next p n q) (ComesBackWithin next most) (ComesBackWithin next most) (λ p q stands comes. ComesBackWithin-later next most n p q stands comes) parts later zip within,
    )

-- a plane that isn't settled so wasn't before
pub not_settled_before : (next : List ℕ → ℕ) → next (replicate 9 0) ≡ 0 → (cells : ℤ → ℤ → ℕ) (most m n : ℕ) → (IsSettledWithin next most (cells_after next cells n) → ⊥) → m ≤ n
    → IsSettledWithin next most (cells_after next cells m) → ⊥
not_settled_before next quiet cells most m n not early settled =
    let (parts, division, within) = IsSettledWithin-later next quiet (cells_after next cells m) most (n - m) settled in
    let sum : n ≡ m + (n - m) = omega (arith, early) in
    not (
      parts,
      IsDivision-same next (cells_after next (cells_after next cells m) (n - m)) (cells_after next cells n) parts
          (λ x y. ap (λ k. cells_after next cells k x y) sum ∙ sym (after_again next cells m (n - m) x y)) division,
      within,
    )

-- what is back at some time comes back within as many generations
ComesBackWithin-from_IsBackAt : (next : List ℕ → ℕ) (l : ℕ) (p : Picture) → IsBackAt next (suc l) p → ComesBackWithin next (suc l) p
ComesBackWithin-from_IsBackAt next l p (u, v, back) = (suc l, omega arith, omega arith, u, v, shifted-from_IsBackBy next p (suc l) u v back)

-- and the parts of a division are all back at a common time
pub settled_within_some : (next : List ℕ → ℕ) (cells : ℤ → ℤ → ℕ) → IsSettled next cells → (most : ℕ) × IsSettledWithin next most cells
settled_within_some next cells (parts, division) =
    let (l, all) = common_time next parts division.back in
    (suc l, (parts, division, All-weaker (IsBackAt next (suc l)) (ComesBackWithin next (suc l)) (ComesBackWithin-from_IsBackAt next l) parts all))
