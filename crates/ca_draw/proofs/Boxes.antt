-- Windows that show a box.
use Rattle.std.proofs.Common.{◌≡◌, ◌≢◌, ℕ, ◌+◌, ◌-◌, ◌/◌, ◌<◌, ◌≤◌, ◌^◌, inl, inr, ℤ, pos, negsuc, neg_ℤ, ◌+ℤ◌, ◌-ℤ◌, ◌<ℤ◌, ◌≤ℤ◌, List, refl, subst, arith}
use Rattle.std.proofs.lemmas.Int.{ints}
use Rattle.std.proofs.Math.Nat.{div-eq_of_lt, pow-le-pow_right}
use Rattle.ca_quad.specs.declared.{node.Node.Node, tree.Tree.Tree, tree.WideBounds.WideBounds}
use Rattle.ca_quad.specs.Prelude.{IsLeastWideBox, cell}
use Rattle.ca_quad.proofs.Edges.{outside_x, outside_y}
use Rattle.ca_draw.specs.declared.window.Window.{Window}
use Rattle.ca_draw.specs.Prelude.{strip_of, IsInSquare, IsInWindow, IsBox, IsTreeBox, ShowsBox}
use Rattle.ca_draw.specs.inner.Strips.{AreStrips, AreStripsBetween}
use Rattle.ca_draw.proofs.Edges.{off_or_not}
use Rattle.ca_draw.proofs.Strips.{strip_mono}

-- a window that shows a box has its corners
module _ (box : WideBounds) (order : IsBox box) (columns rows : ℕ) (w : Window) (s : ShowsBox box columns rows w) where
  pub first_corner : IsInWindow w box.x0 box.y0
  first_corner = s.all box.x0 box.y0 (omega (arith, ints), order.x, omega (arith, ints), order.y)

  pub last_corner : IsInWindow w box.x1 box.y1
  last_corner = s.all box.x1 box.y1 (order.x, omega (arith, ints), order.y, omega (arith, ints))

  pub span_x : AreStrips w.column w.width
  span_x = record { some = s.is_window.some_columns; most = s.is_window.most_columns; begins = s.is_window.west; ends = s.is_window.east }

  pub span_y : AreStrips w.row w.height
  span_y = record { some = s.is_window.some_rows; most = s.is_window.most_rows; begins = s.is_window.north; ends = s.is_window.south }

-- two spans make a window
module _ (box : WideBounds) (order : IsBox box) (columns rows scale : ℕ) (low : scale ≤ 124) (column row : ℤ) (width height : ℕ)
    (across : AreStripsBetween scale box.x0 box.x1 column width) (down : AreStripsBetween scale box.y0 box.y1 row height) where
  pub shows_box : width ≤ columns → height ≤ rows → ShowsBox box columns rows (record { scale = scale; column = column; row = row; width = width; height = height })
  shows_box i j = record {
    is_window = record {
      scale = low;
      some_columns = across.are_strips.some;
      most_columns = across.are_strips.most;
      west = across.are_strips.begins;
      east = across.are_strips.ends;
      some_rows = down.are_strips.some;
      most_rows = down.are_strips.most;
      north = down.are_strips.begins;
      south = down.are_strips.ends;
    };
    width = i;
    height = j;
    all = λ x y h.
        let a = strip_mono scale box.x0 x h.0 in
        let b = strip_mono scale x box.x1 h.1 in
        let c = strip_mono scale box.y0 y h.2 in
        let d = strip_mono scale y box.y1 h.3 in
        record {
          west = subst (λ n. n ≤ℤ strip_of scale x) across.begins a;
          east = omega (arith, ints, across.ends);
          north = subst (λ n. n ≤ℤ strip_of scale y) down.begins c;
          south = omega (arith, ints, down.ends);
        };
  }

  pub last_square : IsInSquare scale ((column +ℤ pos width) -ℤ pos 1) ((row +ℤ pos height) -ℤ pos 1) box.x1 box.y1
  last_square = record { is_column = omega (arith, ints, across.ends); is_row = omega (arith, ints, down.ends) }

-- four squares show all that lies in reach
module _ (box : WideBounds) (reach : IsTreeBox box) (columns rows : ℕ) where
  low_strip : (n : ℤ) → neg_ℤ (pos (2 ^ 124)) ≤ℤ n → neg_ℤ (pos 1) ≤ℤ strip_of 124 n
  low_strip (pos m) h =
      let goal : neg_ℤ (pos 1) ≤ℤ pos (m / 2 ^ 124) = omega (arith, ints) in
      goal
  low_strip (negsuc m) h =
      let i : m < 2 ^ 124 = omega (arith, ints) in
      let e : m / 2 ^ 124 ≡ 0 = div-eq_of_lt i in
      let goal : neg_ℤ (pos 1) ≤ℤ negsuc (m / 2 ^ 124) = omega (arith, ints) in
      goal

  high_strip : (n : ℤ) → n <ℤ pos (2 ^ 124) → strip_of 124 n <ℤ pos 1
  high_strip (pos m) h =
      let i : m < 2 ^ 124 = omega (arith, ints) in
      let e : m / 2 ^ 124 ≡ 0 = div-eq_of_lt i in
      let goal : pos (m / 2 ^ 124) <ℤ pos 1 = omega (arith, ints) in
      goal
  high_strip (negsuc m) h =
      let goal : negsuc (m / 2 ^ 124) <ℤ pos 1 = omega (arith, ints) in
      goal

  abbrev pub whole : Window
  whole = record { scale = 124; column = negsuc 0; row = negsuc 0; width = 2; height = 2 }

  pub four_show : 2 ≤ columns → 2 ≤ rows → ShowsBox box columns rows whole
  four_show i j = record {
    is_window = record {
      scale = omega arith;
      some_columns = omega arith;
      most_columns = omega arith;
      west = omega (arith, ints);
      east = omega (arith, ints);
      some_rows = omega arith;
      most_rows = omega arith;
      north = omega (arith, ints);
      south = omega (arith, ints);
    };
    width = i;
    height = j;
    all = λ x y h.
        let a = low_strip x (omega (arith, ints, reach.west, h.0)) in
        let b = high_strip x (omega (arith, ints, reach.east, h.1)) in
        let c = low_strip y (omega (arith, ints, reach.north, h.2)) in
        let d = high_strip y (omega (arith, ints, reach.south, h.3)) in
        record { west = omega (arith, ints); east = omega (arith, ints); north = omega (arith, ints); south = omega (arith, ints) };
  }

-- live cells of a tree lie in reach
module _ (nodes : List Node) (tree : Tree) (some : 1 ≤ tree.level) (most : tree.level ≤ 125) where
  half_most : 2 ^ (tree.level - 1) ≤ 2 ^ 124
  half_most = pow-le-pow_right {n = 2} (omega arith) {i = tree.level - 1} {j = 124} (omega arith)

  abbrev IsNear : ℤ → Type 0
  IsNear n = (neg_ℤ (pos (2 ^ 124)) ≤ℤ n) × (n <ℤ pos (2 ^ 124))

  near_x : (x y : ℤ) → cell nodes tree x y ≢ 0 → IsNear x
  near_x x y live =
      elim (off_or_not (2 ^ (tree.level - 1) + 2 ^ (tree.level - 1)) (x +ℤ pos (2 ^ (tree.level - 1)))) [
        | inl off ↦ absurd (live (outside_x nodes tree (2 ^ (tree.level - 1)) some refl x y off))
        | inr i ↦ (omega (arith, ints, half_most), omega (arith, ints, half_most))
      ]

  near_y : (x y : ℤ) → cell nodes tree x y ≢ 0 → IsNear y
  near_y x y live =
      elim (off_or_not (2 ^ (tree.level - 1) + 2 ^ (tree.level - 1)) (y +ℤ pos (2 ^ (tree.level - 1)))) [
        | inl off ↦ absurd (live (outside_y nodes tree (2 ^ (tree.level - 1)) some refl x y off))
        | inr i ↦ (omega (arith, ints, half_most), omega (arith, ints, half_most))
      ]

  pub least_in_reach : (box : WideBounds) → IsLeastWideBox (cell nodes tree) box → IsBox box × IsTreeBox box
  least_in_reach box least =
      let left = least.left in
      let right = least.right in
      let top = least.top in
      let bottom = least.bottom in (
        record {
          x = (least.all box.x0 left.0 left.1).1;
          y = (least.all top.0 box.y0 top.1).3;
        },
        record {
          west = (near_x box.x0 left.0 left.1).0;
          east = (near_x box.x1 right.0 right.1).1;
          north = (near_y top.0 box.y0 top.1).0;
          south = (near_y bottom.0 box.y1 bottom.1).1;
        },
      )
