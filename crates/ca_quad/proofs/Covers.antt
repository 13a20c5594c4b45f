-- Rows that hold the cells of a square, and of its quarters.
use Rattle.std.proofs.Common.{◌≡◌, ◌≢◌, ℕ, ◌+◌, ◌-◌, ◌<◌, ◌≤◌, ◌^◌, inl, inr, ℤ, pos, ◌+ℤ◌, List, [], ◌∷◌, get_or, length, refl, sym, ap, subst, ◌∙◌, arith}
use Rattle.std.proofs.lemmas.Bool.{cases_eq}
use Rattle.std.proofs.lemmas.Int.{ints}
use Rattle.std.proofs.lemmas.List.{get_or_default}
use Rattle.ca_plane.specs.declared.point.Point.{Point}
use Rattle.ca_plane.specs.Prelude.{Picture, cell}
use Rattle.ca_plane.proofs.Pictures.{Contains-cell}
use Rattle.ca_quad.specs.declared.{node.Node.Node, store.quarters.Quarters.Quarters, store.rows.Row.Row, store.to_plane.Corners.Corners, tree.Spot.Spot}
use Rattle.ca_quad.specs.Prelude.{ShowsSquare}
use Rattle.ca_quad.specs.inner.Drawn.{ArePartCorners}
use Rattle.ca_quad.specs.inner.Filled.{cells_from, LiesNear, AreRowsOf}
use Rattle.ca_quad.specs.inner.Ring.{no_cells}
use Rattle.ca_quad.specs.inner.Rows.{point_at, HaveRowAt, HoldCells, IsPartOfRows, AreParts}
use Rattle.ca_quad.specs.inner.Window.{ShowsFrom}
use Rattle.ca_quad.proofs.Cells.{twice}
use Rattle.ca_quad.proofs.FilledSquares.{near_nw, near_ne, near_sw, near_se}

-- a part of a part
pub part_part : (p : Picture) (rows half part : List Row) (P Q : Point → Type 0) → IsPartOfRows p rows P half → IsPartOfRows p half Q part → IsPartOfRows p rows (λ q. P q × Q q) part
part_part p rows half part P Q a b = record { are = b.are; held = λ i h t. b.held i (a.held i h t.0) t.1 }

-- where a cell is live, there is a place for it
pub place_of : (p : Picture) (x y : ℤ) → cell p x y ≢ 0 → (k : ℕ) × (k < length p) × ((point_at p k).x ≡ x) × ((point_at p k).y ≡ y)
place_of p x y live =
    let (k, low, e) = Contains-cell p x y live in
    let point : Point = record { y = y; x = x } in
    let origin : Point = record { y = pos 0; x = pos 0 } in
    let same : get_or p k (origin, 0) ≡ get_or p k (point, cell p x y) = get_or_default p k (origin, 0) (point, cell p x y) low in
    let at : point_at p k ≡ point = ap (λ (f : Point × ℕ). f.0) (same ∙ e) in
    (k, low, ap (λ (q : Point). q.x) at, ap (λ (q : Point). q.y) at)

-- where no row holds anything, nothing is live
pub covered_none : (p : Picture) (rows : List Row) (side : ℕ) (at : Spot) → rows ≡ [] → HoldCells p rows side at → (x y : ℕ) → x < side → y < side → cells_from (cell p) at x y ≡ 0
covered_none p rows side at e cover x y i j =
    elim (cases_eq (cells_from (cell p) at x y) 0) [
      | inl z ↦ z
      | inr live ↦
          let (k, low, ex, ey) = place_of p (at.x +ℤ pos x) (at.y +ℤ pos y) live in
          absurd (subst (λ rs. HaveRowAt rs k) e (cover.held k x y low i j ex ey))
    ]

no_rows : (rows : List Row) → length rows ≡ 0 → rows ≡ []
no_rows [] e = refl
no_rows (r ∷ rs) e = absurd (omega arith)

pub shows_none : (nodes : List Node) (id level : ℕ) (p : Picture) (rows : List Row) (at : Spot) → length rows ≡ 0 → HoldCells p rows (2 ^ level) at → ShowsSquare nodes id level no_cells → ShowsFrom nodes id level (cells_from (cell p) at) 0 0
shows_none nodes id level p rows at e cover h = record {
  is_square = h.is_square;
  has_cells = λ x y i j. h.has_cells x y ∙ sym (covered_none p rows (2 ^ level) at (no_rows rows e) cover (0 + x) (0 + y) (omega arith) (omega arith));
}

-- the quarters of a square
module _ (level half : ℕ) (large : 2 ≤ level) (side : half ≡ 2 ^ (level - 1)) (at : Spot) (cs : Corners) (are : ArePartCorners at half cs) (p : Picture) (rows : List Row) (of : AreRowsOf level p rows at)
    (parts : Quarters Row) (round : AreParts p rows cs.se parts) where
  two : 2 ^ level ≡ 2 ^ (level - 1) + 2 ^ (level - 1)
  two = twice level (omega arith)

  rows_of : (corner : Spot) → LiesNear (2 ^ (level - 1)) corner → (P : Point → Type 0) (part : List Row) → IsPartOfRows p rows P part → (dx dy : ℕ)
      → dx ≤ 2 ^ (level - 1) → dy ≤ 2 ^ (level - 1) → corner.x ≡ at.x +ℤ pos dx → corner.y ≡ at.y +ℤ pos dy
      → ((q : Point) (x y : ℕ) → x < 2 ^ (level - 1) → y < 2 ^ (level - 1) → q.x ≡ corner.x +ℤ pos x → q.y ≡ corner.y +ℤ pos y → P q)
      → AreRowsOf (level - 1) p part corner
  rows_of corner near P part is dx dy low_x low_y is_x is_y within = record {
    near = near;
    sparse = of.sparse;
    are_rows = is.are;
    cover = record {
      held = λ i x y low a b ex ey.
          is.held i (of.cover.held i (dx + x) (dy + y) low (omega (arith, two)) (omega (arith, two)) (omega (arith, ints)) (omega (arith, ints))) (within (point_at p i) x y a b ex ey);
    };
  }

  -- the parts of the rows are the rows of the quarters
  pub rows_four : AreRowsOf (level - 1) p parts.nw.items at × AreRowsOf (level - 1) p parts.ne.items cs.ne × AreRowsOf (level - 1) p parts.sw.items cs.sw × AreRowsOf (level - 1) p parts.se.items cs.se
  rows_four = (
    rows_of at (near_nw level half large side at cs are of.near) _ parts.nw.items round.nw 0 0 (omega arith) (omega arith) (omega (arith, ints)) (omega (arith, ints))
        (λ q x y a b ex ey. (omega (arith, ints, side, are.se_x), omega (arith, ints, side, are.se_y))),
    rows_of cs.ne (near_ne level half large side at cs are of.near) _ parts.ne.items round.ne half 0 (omega arith) (omega arith) are.ne_x (omega (arith, ints, are.ne_y))
        (λ q x y a b ex ey. (omega (arith, ints, are.se_x, are.ne_x), omega (arith, ints, side, are.se_y, are.ne_y))),
    rows_of cs.sw (near_sw level half large side at cs are of.near) _ parts.sw.items round.sw 0 half (omega arith) (omega arith) (omega (arith, ints, are.sw_x)) are.sw_y
        (λ q x y a b ex ey. (omega (arith, ints, side, are.se_x, are.sw_x), omega (arith, ints, are.se_y, are.sw_y))),
    rows_of cs.se (near_se level half large side at cs are of.near) _ parts.se.items round.se half half (omega arith) (omega arith) are.se_x are.se_y
        (λ q x y a b ex ey. (omega (arith, ints), omega (arith, ints))),
  )
