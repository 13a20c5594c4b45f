-- The quarters of a square show its cells.
use Rattle.std.proofs.Common.{◌≡◌, ◌≢◌, ℕ, suc, zero-add, ◌+◌, ◌-◌, ◌≤◌, ◌^◌, List, length, refl, sym, ap, subst, ◌∙◌, arith}
use Rattle.ca_quad.specs.declared.node.Node.{Node}
use Rattle.ca_quad.specs.declared.square.Square.TheVariants.{Parts}
use Rattle.ca_quad.specs.Prelude.{square_of, level, level_of, IsOf, cell_of, joined_cells, HasParts, IsIn}
use Rattle.ca_quad.specs.inner.Difference.{AreUnequal}
use Rattle.ca_quad.specs.inner.Window.{ShowsFrom}
use Rattle.ca_quad.proofs.Cells.{at_nw, at_ne, at_sw, at_se}
use Rattle.ca_quad.proofs.Walks.{parts_show}

-- squares of one level
pub of_same : (nodes : List Node) (a b k : ℕ) → level_of nodes a ≡ level_of nodes b → IsIn nodes b → IsOf nodes a k → IsOf nodes b k
of_same nodes a b k e known h = record { before = known; is_level = sym e ∙ h.is_level }

module _ (nodes : List Node) (id k : ℕ) (h : IsOf nodes id (suc k)) (m nw ne sw se : ℕ) (e : Parts m nw ne sw se ≡ square_of nodes id) (w : HasParts nodes (length nodes) m nw ne sw se) where
  pub one_lower : m - 1 ≡ k
  one_lower =
      let f : suc k ≡ m = sym h.is_level ∙ ap level (sym e) in
      omega arith

  pub side_of : (half : ℕ) → half ≡ 2 ^ (m - 1) → half ≡ 2 ^ k
  side_of half side = side ∙ ap (λ n. 2 ^ n) one_lower

  pub parts_whole : cell_of nodes (suc k) id ≡ joined_cells (2 ^ k) (cell_of nodes k nw) (cell_of nodes k ne) (cell_of nodes k sw) (cell_of nodes k se)
  parts_whole =
      subst (λ j. cell_of nodes (suc k) id ≡ joined_cells (2 ^ j) (cell_of nodes j nw) (cell_of nodes j ne) (cell_of nodes j sw) (cell_of nodes j se)) one_lower
      (parts_show nodes id (suc k) h m nw ne sw se (omega (arith, w.least)) e)

  pub parts_cells : (x y : ℕ) → cell_of nodes (suc k) id x y ≡ joined_cells (2 ^ k) (cell_of nodes k nw) (cell_of nodes k ne) (cell_of nodes k sw) (cell_of nodes k se) x y
  parts_cells x y = ap (λ f. f x y) parts_whole

  pub quarter_nw : ShowsFrom nodes nw k (cell_of nodes (suc k) id) 0 0
  quarter_nw = record {
    is_square = subst (IsOf nodes nw) one_lower w.is_nw;
    has_cells = λ x y i j. rw (zero-add x, zero-add y) (sym (parts_cells x y ∙ at_nw (2 ^ k) (cell_of nodes k nw) (cell_of nodes k ne) (cell_of nodes k sw) (cell_of nodes k se) x y i j));
  }

  pub quarter_ne : ShowsFrom nodes ne k (cell_of nodes (suc k) id) (2 ^ k) 0
  quarter_ne = record {
    is_square = subst (IsOf nodes ne) one_lower w.is_ne;
    has_cells = λ x y i j. rw zero-add (sym (parts_cells (2 ^ k + x) y ∙ at_ne (2 ^ k) (cell_of nodes k nw) (cell_of nodes k ne) (cell_of nodes k sw) (cell_of nodes k se) x y j));
  }

  pub quarter_sw : ShowsFrom nodes sw k (cell_of nodes (suc k) id) 0 (2 ^ k)
  quarter_sw = record {
    is_square = subst (IsOf nodes sw) one_lower w.is_sw;
    has_cells = λ x y i j. rw zero-add (sym (parts_cells x (2 ^ k + y) ∙ at_sw (2 ^ k) (cell_of nodes k nw) (cell_of nodes k ne) (cell_of nodes k sw) (cell_of nodes k se) x y i));
  }

  pub quarter_se : ShowsFrom nodes se k (cell_of nodes (suc k) id) (2 ^ k) (2 ^ k)
  quarter_se = record {
    is_square = subst (IsOf nodes se) one_lower w.is_se;
    has_cells = λ x y i j. sym (parts_cells (2 ^ k + x) (2 ^ k + y) ∙ at_se (2 ^ k) (cell_of nodes k nw) (cell_of nodes k ne) (cell_of nodes k sw) (cell_of nodes k se) x y);
  }

-- the quarters of two squares of one level that lie at one place and aren't one
module _ (nodes : List Node) (a b k : ℕ) (h : IsOf nodes a (suc k)) (same : level_of nodes a ≡ level_of nodes b) (known : IsIn nodes b)
    (m nw ne sw se : ℕ) (e : Parts m nw ne sw se ≡ square_of nodes a) (w : HasParts nodes (length nodes) m nw ne sw se)
    (l p q r s : ℕ) (f : Parts l p q r s ≡ square_of nodes b) (v : HasParts nodes (length nodes) l p q r s) (half : ℕ) (side : half ≡ 2 ^ (m - 1)) where
  i : IsOf nodes b (suc k)
  i = of_same nodes a b (suc k) same known h

  is_half : half ≡ 2 ^ k
  is_half = side_of nodes a k h m nw ne sw se e w half side

  unequal : (c d left top x y : ℕ) → ShowsFrom nodes c k (cell_of nodes (suc k) a) left top → ShowsFrom nodes d k (cell_of nodes (suc k) b) left top
      → x ≡ left → y ≡ top → left ≤ 2 ^ k → top ≤ 2 ^ k → c ≢ d → AreUnequal nodes k a b c d x y
  unequal c d left top x y first second is_x is_y low_x low_y apart = rw (is_x, is_y) (record { unequal = apart; x_low = low_x; y_low = low_y; first = first; second = second })

  pub unequal_four : (nw ≢ p → AreUnequal nodes k a b nw p 0 0) × (ne ≢ q → AreUnequal nodes k a b ne q half 0) × (sw ≢ r → AreUnequal nodes k a b sw r 0 half) × (se ≢ s → AreUnequal nodes k a b se s half half)
  unequal_four = (
    unequal nw p 0 0 0 0 (quarter_nw nodes a k h m nw ne sw se e w) (quarter_nw nodes b k i l p q r s f v) refl refl (omega arith) (omega arith),
    unequal ne q (2 ^ k) 0 half 0 (quarter_ne nodes a k h m nw ne sw se e w) (quarter_ne nodes b k i l p q r s f v) is_half refl (omega arith) (omega arith),
    unequal sw r 0 (2 ^ k) 0 half (quarter_sw nodes a k h m nw ne sw se e w) (quarter_sw nodes b k i l p q r s f v) refl is_half (omega arith) (omega arith),
    unequal se s (2 ^ k) (2 ^ k) half half (quarter_se nodes a k h m nw ne sw se e w) (quarter_se nodes b k i l p q r s f v) is_half is_half (omega arith) (omega arith),
  )
