-- The live cells of a tree as a list of places, which is as long as their sum over the square.
use Rattle.std.proofs.Common.{◌≡◌, ◌≢◌, ℕ, zero, suc, ◌+◌, ◌-◌, ◌*◌, ◌/◌, ◌%◌, ◌<◌, ◌≤◌, ◌^◌, inl, inr, false, ◌==◌, cond, List, [], ◌∷◌, length, ℤ, pos, negsuc, ◌+ℤ◌, ◌-ℤ◌, Result, Ok, Err, IfOk, refl, sym, ap, subst, ◌∙◌, arith}
use Rattle.std.specs.List.{All, AllPairs, Contains}
use Rattle.std.proofs.lemmas.Bool.{cases_Bool, cases_eq, eqb-true}
use Rattle.std.proofs.lemmas.Bool.Decides.{nat_tests}
use Rattle.std.proofs.lemmas.Int.{ints}
use Rattle.std.proofs.lemmas.List.Elements.{All-nil, All-cons, All-weaker, Contains-append_right, recursion_from_All}
use Rattle.std.proofs.lemmas.List.Kept.{AllPairs-cons}
use Rattle.std.proofs.lemmas.Nat.{div-mul-add, mod-mul-add, div-add-mod'}
use Rattle.std.proofs.Math.Nat.{suc-mul, mul-le-mul_right}
use Rattle.ca_plane.specs.declared.point.Point.{Point}
use Rattle.ca_plane.specs.Prelude.{most_cells, HasPopulation, HasFewCells, HasTooManyCells, from_corner}
use Rattle.ca_plane.proofs.Pictures.{point-same}
use Rattle.ca_quad.specs.declared.{node.Node.Node, tree.Tree.Tree}
use Rattle.ca_quad.specs.Prelude.{cell_of, IsTree, cell}
use Rattle.ca_quad.specs.inner.Population.{sum_below, cell_population, live_cells_of_tree, IsCountOf}
use Rattle.ca_quad.proofs.Cells.{cell_ends}
use Rattle.ca_plane.proofs.Numbers.{below_or_not}
use Rattle.ca_quad.proofs.Population.{sum_split, sum_same, count_exact}

-- numbered cells, each with a place of its own
module _ (cells : ℕ → ℕ) (at : ℕ → Point) (apart : (i j : ℕ) → at i ≡ at j → i ≡ j) where
  -- the places of the live ones among the first n
  pub listed : ℕ → List Point
  listed zero = []
  listed (suc n) = cond (cells n == 0) (listed n) (at n ∷ listed n)

  -- the place of a live cell below n
  abbrev pub IsPlace : ℕ → Point → Type 0
  IsPlace n p = (i : ℕ) × (i < n) × (p ≡ at i) × (cells i ≢ 0)

  IsPlace-next : (n : ℕ) (p : Point) → IsPlace n p → IsPlace (suc n) p
  IsPlace-next n p h = let (i, low, is, cell_population) = h in (i, omega arith, is, cell_population)

  is_live : (n : ℕ) → (n == 0) ≡ false → n ≢ 0
  is_live n e = grind (arith, nat_tests)

  pub each : (n : ℕ) → All (IsPlace n) (listed n)
  unfolding listed
  each zero = All-nil _
  each (suc n) =
      let before = All-weaker (IsPlace n) (IsPlace (suc n)) (IsPlace-next n) (listed n) (each n) in
      elim (cases_Bool (cells n == 0)) [
        | inl e ↦ rw e before
        | inr e ↦ rw e (All-cons (IsPlace (suc n)) (at n) (listed n) (n, omega arith, refl, is_live (cells n) e) before)
      ]

  pub once : (n : ℕ) → AllPairs (λ p q. p ≢ q) (listed n)
  unfolding listed
  once zero = λ i j d l k. absurd (omega arith)
  once (suc n) =
      elim (cases_Bool (cells n == 0)) [
        | inl e ↦ rw e (once n)
        | inr e ↦ rw e (AllPairs-cons (λ p q. p ≢ q) (at n) (listed n) (λ k d l z. let (i, low, is, cell_population) = each n k d l in let same : n ≡ i = apart n i (z ∙ is) in omega arith) (once n))
      ]

  pub has : (n i : ℕ) → i < n → cells i ≢ 0 → Contains (listed n) (at i)
  unfolding listed
  has zero i low cell_population = absurd (omega arith)
  has (suc n) i low cell_population =
      elim (cases_Bool (cells n == 0)) [
        | inl e ↦
            let other : i ≢ n = λ z. cell_population (ap cells z ∙ eqb-true (cells n) 0 e) in
            rw e (has n i (omega arith) cell_population)
        | inr e ↦ elim (cases_eq i n) [
          | inl same ↦ rw e (0, omega arith, ap at (sym same))
          | inr other ↦ rw e (Contains-append_right (at n ∷ []) (listed n) (at i) (has n i (omega arith) cell_population))
        ]
      ]

  pub count : (n : ℕ) → length (listed n) ≡ sum_below n (λ i. cell_population (cells i))
  unfolding listed
  count zero = refl
  count (suc n) =
      elim (cases_Bool (cells n == 0)) [
        | inl e ↦ rw e (omega (arith, count n))
        | inr e ↦ rw e (omega (arith, count n))
      ]

-- the cells of a square, numbered row by row
module _ (cells : ℕ → ℕ → ℕ) (side : ℕ) where
  pub by_rows : ℕ → ℕ
  by_rows i = cells (i % side) (i / side)

  rows : (n : ℕ) → sum_below (n * side) (λ i. cell_population (by_rows i)) ≡ sum_below n (λ y. sum_below side (λ x. cell_population (cells x y)))
  unfolding by_rows
  rows zero = let e : 0 * side ≡ 0 = omega arith in rw e refl
  rows (suc n) =
      let e : suc n * side ≡ n * side + side = suc-mul n side in
      let row = sum_same side (λ x. cell_population (by_rows (n * side + x))) (λ x. cell_population (cells x n)) (λ x h. rw (mod-mul-add n side x h, div-mul-add n side x h) refl) in
      rw e (sum_split (n * side) side (λ i. cell_population (by_rows i)) ∙ omega (arith, rows n, row))

-- the live cells of a tree
module _ (nodes : List Node) (tree : Tree) where
  side : ℕ
  side = 2 ^ tree.level

  half : ℕ
  half = 2 ^ (tree.level - 1)

  cells : ℕ → ℕ → ℕ
  cells = cell_of nodes tree.level tree.root

  -- the place of a numbered cell
  place : ℕ → Point
  place i = record { y = pos (i / side) -ℤ pos half; x = pos (i % side) -ℤ pos half }

  place_apart : (i j : ℕ) → place i ≡ place j → i ≡ j
  unfolding place
  place_apart i j e =
      let f : pos (i / side) -ℤ pos half ≡ pos (j / side) -ℤ pos half = ap (λ (p : Point). p.y) e in
      let g : pos (i % side) -ℤ pos half ≡ pos (j % side) -ℤ pos half = ap (λ (p : Point). p.x) e in
      let row : i / side ≡ j / side = omega (arith, ints, f) in
      let column : i % side ≡ j % side = omega (arith, ints, g) in
      sym (div-add-mod' i side) ∙ (rw (row, column) refl ∙ div-add-mod' j side)

  shown : (i : ℕ) → cell nodes tree (place i).x (place i).y ≡ by_rows cells side i
  unfolding place by_rows cells half side
  shown i =
      let e : pos (i % side) -ℤ pos half +ℤ pos half ≡ pos (i % side) = omega (arith, ints) in
      let f : pos (i / side) -ℤ pos half +ℤ pos half ≡ pos (i / side) = omega (arith, ints) in
      rw (e, f) refl

  -- a live place is counted from the corner
  cells_from : (u v : ℤ) → from_corner cells u v ≢ 0 → (a : ℕ) × (b : ℕ) × (u ≡ pos a) × (v ≡ pos b) × (cells a b ≢ 0)
  cells_from (pos a) (pos b) cell_population = (a, b, refl, refl, cell_population)
  cells_from (pos a) (negsuc b) cell_population = absurd (cell_population refl)
  cells_from (negsuc a) (pos b) cell_population = absurd (cell_population refl)
  cells_from (negsuc a) (negsuc b) cell_population = absurd (cell_population refl)

  within : (a b : ℕ) → cells a b ≢ 0 → (a < side) × (b < side)
  unfolding cells side
  within a b cell_population = (
    elim (below_or_not a side) [ inl h ↦ h | inr h ↦ absurd (cell_population (cell_ends nodes tree.level tree.root a b (inl h))) ],
    elim (below_or_not b side) [ inl h ↦ h | inr h ↦ absurd (cell_population (cell_ends nodes tree.level tree.root a b (inr h))) ],
  )

  all_listed : (x y : ℤ) → cell nodes tree x y ≢ 0 → Contains (listed (by_rows cells side) place place_apart (side * side)) (record { y = y; x = x })
  unfolding by_rows place cells half side
  all_listed x y cell_population =
      let (a, b, is_x, is_y, is_live) = cells_from (x +ℤ pos half) (y +ℤ pos half) cell_population in
      let (low_a, low_b) = within a b is_live in
      let column : (b * side + a) % side ≡ a = mod-mul-add b side a low_a in
      let row : (b * side + a) / side ≡ b = div-mul-add b side a low_a in
      let next : suc b * side ≤ side * side = mul-le-mul_right side low_b in
      let e : suc b * side ≡ b * side + side = suc-mul b side in
      let here : by_rows cells side (b * side + a) ≢ 0 = rw (column, row) is_live in
      let same : place (b * side + a) ≡ record { y = y; x = x } =
      point-same (place (b * side + a)) (record { y = y; x = x }) (rw row (omega (arith, ints, is_y))) (rw column (omega (arith, ints, is_x))) in
      subst (λ (p : Point). Contains (listed (by_rows cells side) place place_apart (side * side)) p) same
      (has (by_rows cells side) place place_apart (side * side) (b * side + a) (omega (arith, next, e, low_a)) here)

  -- they are as many as the sum tells
  pub tree_population : HasPopulation (cell nodes tree) (live_cells_of_tree nodes tree)
  unfolding side cells
  tree_population =
      let places = listed (by_rows cells side) place place_apart (side * side) in (
        places,
        record {
          once = once (by_rows cells side) place place_apart (side * side);
          live = recursion_from_All (λ (p : Point). cell nodes tree p.x p.y ≢ 0) places
              (All-weaker (IsPlace (by_rows cells side) place place_apart (side * side)) (λ (p : Point). cell nodes tree p.x p.y ≢ 0)
              (λ p h z. let (i, low, is, cell_population) = h in cell_population (sym (shown i) ∙ (ap (λ (q : Point). cell nodes tree q.x q.y) (sym is) ∙ z))) places (each (by_rows cells side) place place_apart (side * side)));
          all = all_listed;
        },
        sym (count (by_rows cells side) place place_apart (side * side) ∙ rows cells side side),
      )

  module _ (is : IsTree nodes tree) where
    -- at a level of at most 63 a count is the population
    pub counts_all : {E : Type 0} (r : Result ℕ E) → tree.level ≤ 63 → IfOk r (IsCountOf nodes tree.root) → IfOk r (HasPopulation (cell nodes tree))
    counts_all r low count = exact r (count_exact nodes r tree.root tree.level is low count)
      where
        exact : {E : Type 0} (r : Result ℕ E) → IfOk r (λ n. n ≡ live_cells_of_tree nodes tree) → IfOk r (HasPopulation (cell nodes tree))
        exact (Ok n) e = subst (HasPopulation (cell nodes tree)) (sym e) tree_population
        exact (Err e) h = tt

    -- a low count tells that the cells are few
    pub few_counted : (n : ℕ) → IsCountOf nodes tree.root n → n ≤ most_cells → HasFewCells (cell nodes tree)
    few_counted n count low = (live_cells_of_tree nodes tree, tree_population, omega (arith, count tree.level is, low))

    -- and a high one that they aren't
    pub many_counted : (n : ℕ) → IsCountOf nodes tree.root n → most_cells < n → HasTooManyCells (cell nodes tree)
    many_counted n count high = (live_cells_of_tree nodes tree, tree_population, omega (arith, count tree.level is, high))
