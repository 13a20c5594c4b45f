-- How many cells are live is one number, and for a sparse plane the length of its list.
use Rattle.std.proofs.Common.{◌≡◌, ◌≢◌, ℕ, ◌≤◌, List, length, Bool, true, map, get_or, sym, ap, subst, ◌∙◌, arith}
use Rattle.std.specs.Prelude.{ℤ}
use Rattle.std.specs.Bool.{Decides}
use Rattle.std.specs.Ordering.{eq_by_cmp}
use Rattle.std.proofs.lemmas.Cmp.{eq_by_cmp_equiv}
use Rattle.std.proofs.lemmas.List.{get_or-map, length-map}
use Rattle.std.proofs.lemmas.List.Elements.{All-map, All-contains, All-from_recursion, recursion_from_All}
use Rattle.std.proofs.lemmas.Map.Keys.{IsDistinct-from_sorted}
use Rattle.std.proofs.lemmas.Map.Made.{is_member-Decides, length-le_from_is_member, AllPairs-from_IsDistinct, IsDistinct-from_AllPairs}
use Rattle.std.proofs.lemmas.Map.Views.{tells_apart}
use Rattle.ca_plane.specs.declared.point.Point.{Point}
use Rattle.ca_plane.specs.Prelude.{Picture, cell, AreLivePlaces, HasPopulation, HasFewCells, HasTooManyCells, point_cmp, IsSparse}
use Rattle.ca_plane.proofs.Pictures.{point_cmp_total, point_cmp_exact, cell-listed, Contains-cell}

-- whether two points are the same
unfoldable pub is_point : Point → Point → Bool
is_point = eq_by_cmp point_cmp

pub Decides-is_point : (p q : Point) → Decides (is_point p q) (p ≡ q)
unfolding is_point
Decides-is_point p q = (tells_apart point_cmp_exact p q, λ e. subst (λ (r : Point). eq_by_cmp point_cmp p r ≡ true) e ((eq_by_cmp_equiv point_cmp_total).refl p))

-- places that are all among others are no more than these
module _ (f g : ℤ → ℤ → ℕ) (same : (x y : ℤ) → f x y ≡ g x y) where
  pub places_no_more : (ps qs : List Point) → AreLivePlaces f ps → AreLivePlaces g qs → length ps ≤ length qs
  unfolding is_point
  places_no_more ps qs a b =
      length-le_from_is_member (eq_by_cmp_equiv point_cmp_total) ps qs (IsDistinct-from_AllPairs Decides-is_point ps a.once)
      (λ q h.
      let live = All-contains (λ (p : Point). f p.x p.y ≢ 0) ps q (All-from_recursion (λ (p : Point). f p.x p.y ≢ 0) ps a.live) ((is_member-Decides Decides-is_point ps q).0 h) in
      (is_member-Decides Decides-is_point qs q).1 (b.all q.x q.y (λ z. live (same q.x q.y ∙ z))))

-- two populations of the same cells are equal
pub same_population : (f g : ℤ → ℤ → ℕ) → ((x y : ℤ) → f x y ≡ g x y) → (m n : ℕ) → HasPopulation f m → HasPopulation g n → m ≡ n
same_population f g same m n a b =
    let (ps, are, is) = a in
    let (qs, are_too, is_too) = b in
    omega (arith, is, is_too, places_no_more f g same ps qs are are_too, places_no_more g f (λ x y. sym (same x y)) qs ps are_too are)

-- no cells are both few and too many
pub not_both : (f g : ℤ → ℤ → ℕ) → ((x y : ℤ) → f x y ≡ g x y) → HasFewCells f → HasTooManyCells g → ⊥
not_both f g same few many =
    let (m, a, low) = few in
    let (n, b, high) = many in
    omega (arith, low, high, same_population f g same m n a b)

-- a sparse plane's list has just its live cells
pub sparse_population : (p : Picture) → IsSparse p → HasPopulation (cell p) (length p)
unfolding is_point
sparse_population p sparse = (
  map (λ e. e.0) p,
  record {
    once = AllPairs-from_IsDistinct Decides-is_point (map (λ e. e.0) p) (IsDistinct-from_sorted point_cmp (map (λ e. e.0) p) sparse.rising);
    live = recursion_from_All (λ (q : Point). cell p q.x q.y ≢ 0) (map (λ e. e.0) p) (All-map (λ (q : Point). cell p q.x q.y ≢ 0) (λ e. e.0) p (λ k d l.
        let low : 1 ≤ (get_or p k d).1 = (sparse.states k d l).0 in
        let shown = cell-listed p sparse k d l in
        λ z. omega (arith, low, shown, z)));
    all = λ x y h.
        let (k, low, is) = Contains-cell p x y h in
        let at : Point = record { y = y; x = x } in
        (k, omega (arith, low, length-map p (λ e. e.0)), get_or-map (λ e. e.0) p k (at, cell p x y) at low ∙ ap (λ (e : Point × ℕ). e.0) is);
  },
  sym (length-map p (λ e. e.0)),
)
