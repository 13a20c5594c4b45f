-- A picture has no more live cells than it lists.
use Rattle.std.proofs.Common.{◌≡◌, ◌≢◌, ℕ, ◌≤◌, length, map, ap, ◌∙◌, arith}
use Rattle.std.specs.Prelude.{ℤ}
use Rattle.std.specs.List.{Contains}
use Rattle.std.proofs.lemmas.Cmp.{eq_by_cmp_equiv}
use Rattle.std.proofs.lemmas.List.{get_or-map, length-map}
use Rattle.std.proofs.lemmas.List.Elements.{All-contains, All-from_recursion}
use Rattle.std.proofs.lemmas.Map.Made.{is_member-Decides, length-le_from_is_member, IsDistinct-from_AllPairs}
use Rattle.ca_plane.specs.declared.point.Point.{Point}
use Rattle.ca_plane.specs.Prelude.{Picture, cell, HasPopulation}
use Rattle.ca_plane.proofs.Pictures.{point_cmp_total, Contains-cell}
use Rattle.ca_plane.proofs.Populations.{is_point, Decides-is_point}

-- the place of a live cell is listed
listed : (p : Picture) (x y : ℤ) → cell p x y ≢ 0 → Contains (map (λ e. e.0) p) (record { y = y; x = x })
listed p x y live =
    let (k, low, is) = Contains-cell p x y live in
    let at : Point = record { y = y; x = x } in
    (k, omega (arith, low, length-map p (λ e. e.0)), get_or-map (λ e. e.0) p k (at, cell p x y) at low ∙ ap (λ (e : Point × ℕ). e.0) is)

-- the live cells are no more than the list is long
pub population-le : (p : Picture) (count : ℕ) (f : ℤ → ℤ → ℕ) → ((x y : ℤ) → f x y ≡ cell p x y) → HasPopulation f count → count ≤ length p
unfolding is_point
population-le p count f same (places, are, is) =
    let all = length-le_from_is_member (eq_by_cmp_equiv point_cmp_total) places (map (λ e. e.0) p) (IsDistinct-from_AllPairs Decides-is_point places are.once)
    (λ q h.
    let live = All-contains (λ (r : Point). f r.x r.y ≢ 0) places q (All-from_recursion (λ (r : Point). f r.x r.y ≢ 0) places are.live) ((is_member-Decides Decides-is_point places q).0 h) in
    (is_member-Decides Decides-is_point (map (λ e. e.0) p) q).1 (listed p q.x q.y (λ z. live (same q.x q.y ∙ z)))) in
    omega (arith, is, all, length-map p (λ e. e.0))
