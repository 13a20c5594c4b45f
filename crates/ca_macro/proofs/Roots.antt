-- The root of a tidy text: its level is the smallest that may be, and its picture that of the plane.
use Rattle.std.proofs.Common.{◌≡◌, ◌≢◌, ℕ, zero, suc, ◌+◌, ◌-◌, ◌<◌, ◌≤◌, ◌^◌, ◌==◌, inl, inr, true, false, ℤ, pos, negsuc, neg_ℤ, ◌+ℤ◌, ◌-ℤ◌, ◌<ℤ◌, ◌≤ℤ◌, List, [], ◌∷◌, length, Result, Ok, Err, Option, Some, None, IfOk, option_map, refl, sym, ap, ap₂, subst, ◌∙◌, arith, lit≤}
use Rattle.std.specs.List.{last_or, slice_get}
use Rattle.std.proofs.Math.Nat.{two-pow-succ}
use Rattle.std.proofs.lemmas.Bool.{cases_Bool, eqb-true}
use Rattle.std.proofs.lemmas.Int.{ints}
use Rattle.std.proofs.lemmas.Option.{same_Some}
use Rattle.ca_plane.specs.Prelude.{Picture, from_corner}
use Rattle.ca_plane.specs.Plane as plane
use Rattle.ca_plane.proofs.Shifts.{cell-shifted}
use Rattle.ca_quad.specs.declared.{node.Node.Node as Kept, tree.Tree.Tree}
use Rattle.ca_quad.specs.Squares as squares
use Rattle.ca_quad.specs.Prelude.{IsEmpty, IsTree, cell, IsTrimmed}
use Rattle.ca_quad.specs.inner.Measure.{EndsWithin}
use Rattle.ca_quad.proofs.Cells.{cell_ends}
use Rattle.ca_quad.proofs.Differ.{cell_at}
use Rattle.ca_plane.proofs.Numbers.{below_or_not}
use Rattle.ca_macro.specs.Prelude.{Node, Cells, Parts, node_level, numbered_square, squares_of, centred_picture, root_picture, picture_of_nodes, AreInRange, lowest_level, Fits, IsLeastLevel}
use Rattle.ca_macro.specs.Prelude.{walks_after, numbers_once, AreTidyNodes}
use Rattle.ca_macro.specs.inner.Written.{kept_cells, IsPictureOfSquare, IsWrittenNumber, IsGathered, KeepsFirstOrder, empty_root}
use Rattle.ca_macro.proofs.Gathering.{corner_zero}

-- ---- where the live cells of a tree are

live_inside : (side : ℕ) (f : ℕ → ℕ → ℕ) → EndsWithin side f → (u v : ℤ) → from_corner f u v ≢ 0 → (pos 0 ≤ℤ u) × (u <ℤ pos side) × (pos 0 ≤ℤ v) × (v <ℤ pos side)
live_inside side f ends (pos i) (pos j) live =
    elim (below_or_not i side) [
      | inl h ↦ elim (below_or_not j side) [
        | inl k ↦ (omega (arith, ints), omega (arith, ints), omega (arith, ints), omega (arith, ints))
        | inr k ↦ absurd (live (ends i j (inr k)))
      ]
      | inr h ↦ absurd (live (ends i j (inl h)))
    ]
live_inside side f ends (pos i) (negsuc j) live = absurd (live refl)
live_inside side f ends (negsuc i) (pos j) live = absurd (live refl)
live_inside side f ends (negsuc i) (negsuc j) live = absurd (live refl)

tree_fits : (kept : List Kept) (t : Tree) → 1 ≤ t.level → Fits t.level (cell kept t)
tree_fits kept t some = λ x y live.
    let half = 2 ^ (t.level - 1) in
    let e : suc (t.level - 1) ≡ t.level = omega arith in
    let side : 2 ^ t.level ≡ half + half = ap (λ n. 2 ^ n) (sym e) ∙ two-pow-succ (t.level - 1) in
    let h = live_inside (2 ^ t.level) (squares.cell_of kept t.level t.root) (cell_ends kept t.level t.root) (x +ℤ pos half) (y +ℤ pos half) live in
    let a = h.0 in
    let b = h.1 in
    let c = h.2 in
    let d = h.3 in
    ((omega (arith, ints), omega (arith, ints)), (omega (arith, ints), omega (arith, ints)))

fits_as : (level : ℕ) (p q : ℤ → ℤ → ℕ) → ((x y : ℤ) → p x y ≡ q x y) → Fits level p → Fits level q
fits_as level p q same fits = λ x y live. fits x y (λ z. live (sym (same x y) ∙ z))

pub least_as : (states level : ℕ) (p q : ℤ → ℤ → ℕ) → ((x y : ℤ) → p x y ≡ q x y) → IsLeastLevel states p level → IsLeastLevel states q level
least_as states level p q same h = record {
  allowed = h.allowed;
  fits = fits_as level p q same h.fits;
  least = λ other a f. h.least other a (fits_as other q p (λ x y. sym (same x y)) f);
}

pub least_as_ok : (states : ℕ) (p q : ℤ → ℤ → ℕ) → ((x y : ℤ) → p x y ≡ q x y) → {E : Type 0} (r : Result Tree E) → IfOk r (λ t. IsLeastLevel states p t.level) → IfOk r (λ t. IsLeastLevel states q t.level)
least_as_ok states p q same (Ok t) h = least_as states t.level p q same h
least_as_ok states p q same (Err f) h = tt

lowest_some : (states : ℕ) → 1 ≤ lowest_level states
lowest_some states = elim (cases_Bool (states == 2)) [ inl e ↦ rw e (omega arith) | inr e ↦ rw e (omega arith) ]

-- a trimmed tree, which was padded to the lowest level
module _ (states : ℕ) (cells : ℤ → ℤ → ℕ) (mid new : List Kept) (t : Tree) (is_tree : IsTree mid t) (trimmed : IsTrimmed mid t) (same : (x y : ℤ) → cell mid t x y ≡ cells x y) where
  trimmed_least : (other : ℕ) → 1 ≤ other → Fits other cells → t.level ≤ other
  trimmed_least other some fits =
      elim (below_or_not other t.level) [
        | inl h ↦ absurd (trimmed other some h (λ x y live. fits x y (λ z. live (same x y ∙ z))))
        | inr h ↦ h
      ]

  padded_level : (u : Tree) → ((x y : ℤ) → cell new u x y ≡ cell mid t x y) → (t.level < lowest_level states → u.level ≡ lowest_level states) → (lowest_level states ≤ t.level → u.level ≡ t.level) → IsLeastLevel states cells u.level
  padded_level u shown low high =
      let some = lowest_some states in
      elim (below_or_not t.level (lowest_level states)) [
        | inl h ↦
            let e = low h in record {
              allowed = omega arith;
              fits = fits_as u.level (cell new u) cells (λ x y. shown x y ∙ same x y) (tree_fits new u (omega arith));
              least = λ other a f. omega arith;
            }
        | inr h ↦
            let e = high h in record {
              allowed = omega arith;
              fits = fits_as u.level (cell new u) cells (λ x y. shown x y ∙ same x y) (tree_fits new u (omega arith));
              least = λ other a f. let l = trimmed_least other (omega arith) f in omega arith;
            }
      ]

  pub padded_ok : {E : Type 0} (r : Result Tree E) (least : ℕ) → least ≡ lowest_level states → IfOk r (λ u. (x y : ℤ) → cell new u x y ≡ cell mid t x y) → (t.level < least → IfOk r (λ u. u.level ≡ least))
      → (least ≤ t.level → IfOk r (λ u. u.level ≡ t.level)) → IfOk r (λ u. IsLeastLevel states cells u.level)
  padded_ok (Ok u) least e shown low high =
      padded_level u shown (subst (λ l. t.level < l → u.level ≡ l) e low) (subst (λ l. l ≤ t.level → u.level ≡ t.level) e high)
  padded_ok (Err f) least e shown low high = tt

-- in range a level of 61 is enough
pub level_in_range : (states level : ℕ) (cells : ℤ → ℤ → ℕ) → AreInRange cells → IsLeastLevel states cells level → level ≤ 61
level_in_range states level cells range h =
    let low : lowest_level states ≤ 61 = elim (cases_Bool (states == 2)) [ inl e ↦ rw e (lit≤ tt) | inr e ↦ rw e (lit≤ tt) ] in
    h.least 61 low (λ x y live. let in_range = range x y live in ((in_range.0, in_range.1), (in_range.2, in_range.3)))

-- ---- the empty plane

module _ (cells : ℤ → ℤ → ℕ) (none : (x y : ℤ) → cells x y ≡ 0) where
  lowest_of_none : (states : ℕ) → IsLeastLevel states cells (lowest_level states)
  lowest_of_none states = record {
    allowed = omega arith;
    fits = λ x y live. absurd (live (none x y));
    least = λ other a f. a;
  }

  two_states : (states : ℕ) → states ≡ 2 → AreTidyNodes states cells (Parts 4 0 0 0 0 ∷ [])
  two_states states two = record {
    root = Parts 4 0 0 0 0;
    shown = none;
    root_is_last = refl;
    level = subst (IsLeastLevel states cells) (rw two refl) (lowest_of_none states);
    in_place = (((lit≤ tt, lit≤ tt), (tt, (tt, (tt, (tt, tt))))), tt);
    forms = ((λ e. omega arith), tt);
    distinct = λ i j d h k e. omega arith;
    empties = inr refl;
    order = refl;
  }

  more_states : (states : ℕ) → (states == 2) ≡ false → AreTidyNodes states cells (Cells 0 0 0 0 ∷ [])
  more_states states more = record {
    root = Cells 0 0 0 0;
    shown = none;
    root_is_last = refl;
    level = subst (IsLeastLevel states cells) (rw more refl) (lowest_of_none states);
    in_place = ((omega arith, (omega arith, (omega arith, (omega arith, tt)))), tt);
    forms = ((λ e. let t : (states == 2) ≡ true = rw e refl in absurd cc), tt);
    distinct = λ i j d h k e. omega arith;
    empties = inr refl;
    order = refl;
  }

  empty_nodes : (states : ℕ) → AreTidyNodes states cells (empty_root states ∷ [])
  empty_nodes states =
      elim (cases_Bool (states == 2)) [
        | inl e ↦ rw e (two_states states (eqb-true states 2 e))
        | inr e ↦ rw e (more_states states e)
      ]

pub empty_tree_nodes : (kept : List Kept) (t : Tree) (states : ℕ) → IsEmpty (squares.cell_of kept t.level t.root) → AreTidyNodes states (cell kept t) (empty_root states ∷ [])
empty_tree_nodes kept t states h = empty_nodes (cell kept t) (λ x y. sym (corner_zero (squares.cell_of kept t.level t.root) h _ _)) states

-- ---- the picture of the last node

pub last_node : (ns : List Node) (i : ℕ) (d : Option Node) → length ns ≡ suc i → (root : Node) × (last_or d ns ≡ Some root) × (slice_get ns i ≡ Some root)
last_node [] i d h = absurd (omega arith)
last_node (n ∷ []) zero d h = (n, refl, refl)
last_node (n ∷ []) (suc i) d h = absurd (omega arith)
last_node (n ∷ m ∷ ns) zero d h = absurd (omega arith)
last_node (n ∷ m ∷ ns) (suc i) d h = last_node (m ∷ ns) i (Some n) (omega arith)

back : (x : ℤ) (half : ℕ) → x -ℤ neg_ℤ (pos half) ≡ x +ℤ pos half
back x half = omega (arith, ints)

root_shown : (kept : List Kept) (t : Tree) (square : Picture) → IsPictureOfSquare square (squares.cell_of kept t.level t.root) → (x y : ℤ) → cell kept t x y ≡ plane.cell (centred_picture t.level square) x y
root_shown kept t square shows x y =
    let half = 2 ^ (t.level - 1) in
    let shift = neg_ℤ (pos half) in
    sym (cell-shifted square shift shift x y ∙ shows (x -ℤ shift) (y -ℤ shift) ∙ ap₂ (from_corner (squares.cell_of kept t.level t.root)) (back x half) (back y half))

module _ (kept : List Kept) (t : Tree) (is_tree : IsTree kept t) (states : ℕ) (ns : List Node) (numbers : List (ℕ × ℕ)) (level : IsLeastLevel states (cell kept t) t.level)
    (gathered : IsGathered kept states ns numbers) (live : IsEmpty (kept_cells kept t.root) → ⊥) where
  pub tree_nodes : (n : ℕ) → IsWrittenNumber kept ns t.root n → n ≡ length ns → KeepsFirstOrder [] ns n → AreTidyNodes states (cell kept t) ns
  tree_nodes zero number last goes = absurd (live (λ x y. sym (number.shows (pos x) (pos y))))
  tree_nodes (suc i) number last goes =
      let root = last_node ns i None (sym last) in
      let named : Some (node_level root.0) ≡ Some (squares.level_of kept t.root) = sym (ap (option_map node_level) root.2) ∙ number.names in
      let is_level : node_level root.0 ≡ t.level = same_Some (node_level root.0) (squares.level_of kept t.root) named ∙ is_tree.is_level in
      let shows : IsPictureOfSquare (numbered_square (squares_of ns) (length ns)) (squares.cell_of kept t.level t.root) =
      subst (λ l. IsPictureOfSquare (numbered_square (squares_of ns) (length ns)) (squares.cell_of kept l t.root)) is_tree.is_level (subst (λ k. IsPictureOfSquare (numbered_square (squares_of ns) k) (kept_cells kept t.root)) last number.shows) in
      let picture : picture_of_nodes ns ≡ centred_picture t.level (numbered_square (squares_of ns) (length ns)) = ap (λ o. root_picture o (numbered_square (squares_of ns) (length ns))) root.1 ∙ ap (λ l. centred_picture l (numbered_square (squares_of ns) (length ns))) is_level in
      record {
        root = root.0;
        shown = λ x y. root_shown kept t (numbered_square (squares_of ns) (length ns)) shows x y ∙ ap (λ p. plane.cell p x y) (sym picture);
        root_is_last = root.1;
        level = subst (IsLeastLevel states (cell kept t)) (sym is_level) level;
        in_place = gathered.in_place;
        forms = gathered.forms;
        distinct = gathered.distinct;
        empties = inl gathered.live;
        order = ap (λ k. numbers_once (numbered_square (walks_after [] ns) k)) (sym last) ∙ goes [] refl;
      }

-- the states of a tree's root are those of its cells
pub root_states : (kept : List Kept) (t : Tree) → IsTree kept t → (states : ℕ) → ((x y : ℤ) → cell kept t x y < states) → (x y : ℕ) → kept_cells kept t.root x y < states
root_states kept t is_tree states low x y =
    let half = 2 ^ (t.level - 1) in
    let u = pos x -ℤ pos half in
    let v = pos y -ℤ pos half in
    let at : cell kept t u v ≡ squares.cell_of kept t.level t.root x y = cell_at kept t half refl u v x y (omega (arith, ints)) (omega (arith, ints)) in
    subst (λ l. squares.cell_of kept l t.root x y < states) (sym is_tree.is_level) (subst (λ n. n < states) at (low u v))
