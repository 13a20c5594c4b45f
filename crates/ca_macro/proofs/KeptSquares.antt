-- The squares that are kept for nodes: they stay, one more is put after them, and each is found by its number.
use Rattle.std.proofs.Common.{◌≡◌, ℕ, zero, suc, ◌-◌, ◌<◌, ◌≤◌, ◌^◌, ℤ, pos, neg_ℤ, ◌+ℤ◌, ◌-ℤ◌, List, [], ◌∷◌, ◌++◌, map, length, get_or, slice_index, Bool, Option, Some, None, unwrap_or, refl, sym, ap, subst, ◌∙◌, arith}
use Rattle.std.specs.List.{slice_get, AllByRecursion, last_or}
use Rattle.std.proofs.lemmas.Int.{ints}
use Rattle.std.proofs.lemmas.List.Elements.{All-nil}
use Rattle.std.proofs.lemmas.Option.{slice_get_within, same_Some}
use Rattle.ca_plane.specs.Prelude.{Picture, IsPicture, cell, row_cells, from_corner, nearest_u64}
use Rattle.ca_plane.proofs.Shifts.{cell-shifted}
use Rattle.ca_quad.specs.declared.{node.Node.Node as Kept, tree.Tree.Tree}
use Rattle.ca_quad.specs.Prelude.{one_cell, joined_cells, cell_of, IsSoundStore, Grows, ShowsSquare, AreFour, IsTree, cell as tree_cell}
use Rattle.ca_quad.proofs.Cells.{cell_ends, cells_stay, of_stays}
use Rattle.ca_quad.proofs.ShownSquares.{shows_stays}
use Rattle.ca_macro.specs.declared.read.squares.Squares.{Squares}
use Rattle.ca_macro.specs.Prelude.{Node, Leaf, Cells, Parts, node_level, NamesPart, IsLevel, MayFollow, leaf_state, rows_from, joined_picture, numbered_square, node_picture, squares_after}
use Rattle.ca_macro.specs.Prelude.{squares_of, centred_picture, root_picture, picture_of_nodes, HasBadPart}
use Rattle.ca_macro.specs.inner.Leaves.{leaf_bits}
use Rattle.ca_macro.specs.inner.Reading.{Draws, AreDrawn, AreEmpties, AreSquares, IsNodePart}
use Rattle.ca_macro.proofs.Drawings.{AreStates, rows_states, rows_cell, from_corner_same, in_rows, four_cells, leaf_cell, leaf_states, shifted_states, joined_states, joined_cell}

-- ---- squares go on to show their pictures

pub draws_stay : (old new : List Kept) → IsSoundStore old → Grows old new → (t : Tree) (p : Picture) → Draws old t p → Draws new t p
draws_stay old new sound grows t p h = record {
  is_tree = of_stays old new sound grows t.root t.level h.is_tree;
  states = h.states;
  has_cells = λ x y. h.has_cells x y ∙ ap (λ f. from_corner f x y) (sym (cells_stay old new sound grows t.level t.root h.is_tree));
}

pub drawn_stay : (old new : List Kept) → IsSoundStore old → Grows old new → (ns : List Node) (ps : List Picture) (ts : List Tree) → AreDrawn old ns ps ts → AreDrawn new ns ps ts
drawn_stay old new sound grows [] [] [] h = tt
drawn_stay old new sound grows [] [] (t ∷ ts) h = absurd h
drawn_stay old new sound grows [] (p ∷ ps) ts h = absurd h
drawn_stay old new sound grows (n ∷ ns) [] ts h = absurd h
drawn_stay old new sound grows (n ∷ ns) (p ∷ ps) [] h = absurd h
drawn_stay old new sound grows (n ∷ ns) (p ∷ ps) (t ∷ ts) h =
    (h.0, draws_stay old new sound grows t p h.1, drawn_stay old new sound grows ns ps ts h.2)

pub empties_stay : (old new : List Kept) → IsSoundStore old → Grows old new → (ids : List ℕ) → AreEmpties old ids → AreEmpties new ids
empties_stay old new sound grows ids h i low = shows_stays old new sound grows (slice_index ids i) (suc i) (λ x y. 0) (h i low)

-- ---- one more

squares_push : (earlier : List Picture) (ns : List Node) (n : Node)
    → squares_after earlier (ns ++ n ∷ []) ≡ squares_after earlier ns ++ node_picture (squares_after earlier ns) n ∷ []
squares_push earlier [] n = refl
squares_push earlier (m ∷ ns) n = squares_push (earlier ++ node_picture earlier m ∷ []) ns n

drawn_push : (store : List Kept) (ns : List Node) (ps : List Picture) (ts : List Tree) (n : Node) (p : Picture) (t : Tree) → AreDrawn store ns ps ts
    → t.level ≡ node_level n → Draws store t p → AreDrawn store (ns ++ n ∷ []) (ps ++ p ∷ []) (ts ++ t ∷ [])
drawn_push store [] [] [] n p t h e d = (e, d, tt)
drawn_push store [] [] (u ∷ ts) n p t h e d = absurd h
drawn_push store [] (q ∷ ps) ts n p t h e d = absurd h
drawn_push store (m ∷ ns) [] ts n p t h e d = absurd h
drawn_push store (m ∷ ns) (q ∷ ps) [] n p t h e d = absurd h
drawn_push store (m ∷ ns) (q ∷ ps) (u ∷ ts) n p t h e d = (h.0, h.1, drawn_push store ns ps ts n p t h.2 e d)

pub one_more : (store : List Kept) (nodes : List Node) (ts : List Tree) (n : Node) (t : Tree) → AreDrawn store nodes (squares_of nodes) ts
    → t.level ≡ node_level n → Draws store t (node_picture (squares_of nodes) n) → AreDrawn store (nodes ++ n ∷ []) (squares_of (nodes ++ n ∷ [])) (ts ++ t ∷ [])
one_more store nodes ts n t h e d =
    subst (λ ps. AreDrawn store (nodes ++ n ∷ []) ps (ts ++ t ∷ [])) (sym (squares_push [] nodes n))
    (drawn_push store nodes (squares_of nodes) ts n (node_picture (squares_of nodes) n) t h e d)

-- what is kept once a square is put after the others
pub with_square : (old new : List Kept) → Grows old new → (nodes : List Node) (squares after : Squares) (n : Node) (t : Tree) → AreSquares old nodes squares
    → after.squares.items ≡ squares.squares.items ++ t ∷ [] → AreEmpties new after.empties.ids.items
    → t.level ≡ node_level n → Draws new t (node_picture (squares_of nodes) n) → AreSquares new (nodes ++ n ∷ []) after
with_square old new grows nodes squares after n t h items empties e d = record {
  sound = grows.sound;
  drawn = subst (AreDrawn new (nodes ++ n ∷ []) (squares_of (nodes ++ n ∷ []))) (sym items)
      (one_more new nodes squares.squares.items n t (drawn_stay old new h.sound grows nodes (squares_of nodes) squares.squares.items h.drawn) e d);
  empties = empties;
}

-- ---- by number

drawn_length : (store : List Kept) (ns : List Node) (ps : List Picture) (ts : List Tree) → AreDrawn store ns ps ts → length ns ≡ length ts
drawn_length store [] [] [] h = refl
drawn_length store [] [] (t ∷ ts) h = absurd h
drawn_length store [] (p ∷ ps) ts h = absurd h
drawn_length store (n ∷ ns) [] ts h = absurd h
drawn_length store (n ∷ ns) (p ∷ ps) [] h = absurd h
drawn_length store (n ∷ ns) (p ∷ ps) (t ∷ ts) h = ap suc (drawn_length store ns ps ts h.2)

-- the node with a place, its square and its picture
record IsDrawnAt (store : List Kept) (ns : List Node) (ps : List Picture) (i : ℕ) (t : Tree) : Type 0 where
  node : Node
  stands : slice_get ns i ≡ Some node
  level : t.level ≡ node_level node
  draws : Draws store t (get_or ps i [])

drawn_at : (store : List Kept) (ns : List Node) (ps : List Picture) (ts : List Tree) (i : ℕ) (t : Tree) → AreDrawn store ns ps ts → slice_get ts i ≡ Some t → IsDrawnAt store ns ps i t
drawn_at store [] [] [] i t h e = absurd (let low = slice_get_within [] i t e in omega arith)
drawn_at store [] [] (u ∷ ts) i t h e = absurd h
drawn_at store [] (p ∷ ps) ts i t h e = absurd h
drawn_at store (n ∷ ns) [] ts i t h e = absurd h
drawn_at store (n ∷ ns) (p ∷ ps) [] i t h e = absurd h
drawn_at store (n ∷ ns) (p ∷ ps) (u ∷ ts) zero t h e =
    let same : u ≡ t = same_Some u t e in
    record {
      node = n;
      stands = refl;
      level = subst (λ v. v.level ≡ node_level n) same h.0;
      draws = subst (λ v. Draws store v p) same h.1;
    }
drawn_at store (n ∷ ns) (p ∷ ps) (u ∷ ts) (suc i) t h e =
    let later = drawn_at store ns ps ts i t h.2 e in
    record { node = later.node; stands = later.stands; level = later.level; draws = later.draws }

module _ (store : List Kept) (nodes : List Node) (squares : Squares) (h : AreSquares store nodes squares) (few : length squares.squares.items < 2 ^ 64 - 1) (level n kept : ℕ) (e : kept ≡ nearest_u64 n) where
  same_length : length nodes ≡ length squares.squares.items
  same_length = drawn_length store nodes (squares_of nodes) squares.squares.items h.drawn

  -- no square has the number
  pub number_forward : length squares.squares.items ≤ kept - 1 → 1 ≤ kept → length nodes < n
  number_forward past some =
      let count = same_length in
      omega arith

  -- the square with the number
  module _ (t : Tree) (at : slice_get squares.squares.items (kept - 1) ≡ Some t) (some : 1 ≤ kept) where
    exact : n ≡ suc (kept - 1)
    exact = let low = slice_get_within squares.squares.items (kept - 1) t at in omega arith

    there : IsDrawnAt store nodes (squares_of nodes) (kept - 1) t
    there = drawn_at store nodes (squares_of nodes) squares.squares.items (kept - 1) t h.drawn at

    pub number_named : t.level ≡ level → NamesPart nodes level n × Draws store (record { root = t.root; level = level }) (numbered_square (squares_of nodes) n)
    number_named same =
        let f = there in
        subst (λ m. NamesPart nodes level m × Draws store (record { root = t.root; level = level }) (numbered_square (squares_of nodes) m)) (sym exact)
        (named f.node f.stands (sym f.level ∙ same), subst (λ l. Draws store (record { root = t.root; level = l }) (get_or (squares_of nodes) (kept - 1) [])) same f.draws)
      where
        named : (node : Node) → slice_get nodes (kept - 1) ≡ Some node → node_level node ≡ level → NamesPart nodes level (suc (kept - 1))
        named node stands l = rw (stands, l) refl

    pub number_of_other_level : (t.level ≡ level → ⊥) → (n ≤ length nodes) × (NamesPart nodes level n → ⊥)
    number_of_other_level other =
        let f = there in
        let low = slice_get_within squares.squares.items (kept - 1) t at in
        let count = same_length in
        let m = exact in
        (omega arith, λ names. other (f.level ∙ named f.node f.stands (subst (NamesPart nodes level) exact names)))
      where
        named : (node : Node) → slice_get nodes (kept - 1) ≡ Some node → NamesPart nodes level (suc (kept - 1)) → node_level node ≡ level
        named node stands names = same_Some (node_level node) level (rw stands at names)

-- ---- the squares of nodes

empty_corner : (u v : ℤ) → 0 ≡ from_corner (λ x y. 0) u v
empty_corner u v = sym (from_corner-none u v)
  where
    from_corner-none : (u v : ℤ) → from_corner (λ x y. 0) u v ≡ 0
    from_corner-none (pos x) (pos y) = refl
    from_corner-none (pos x) v = refl
    from_corner-none u v = refl

-- a square that shows what rows do
pub rows_drawn : (store : List Kept) (id level : ℕ) (cells : ℕ → ℕ → ℕ) (rows : List (List ℕ)) → ShowsSquare store id level cells → AllByRecursion AreStates rows
    → ((x y : ℕ) → cells x y ≡ in_rows rows x y) → Draws store (record { root = id; level = level }) (rows_from (pos 0) rows)
rows_drawn store id level cells rows h states same = record {
  is_tree = h.is_square;
  states = rows_states rows (pos 0) states;
  has_cells = λ x y. rows_cell rows states x y
      ∙ from_corner_same (in_rows rows) (cell_of store level id) (λ i j. sym (h.has_cells i j ∙ same i j)) x y;
}

pub leaf_drawn : (store : List Kept) (id : ℕ) (bits : List ℕ) (leaf : List (List Bool)) → ShowsSquare store id 3 (row_cells bits) → bits ≡ leaf_bits 8 leaf → length leaf ≤ 8
    → (earlier : List Picture) → Draws store (record { root = id; level = 3 }) (node_picture earlier (Leaf leaf))
leaf_drawn store id bits leaf h e low earlier =
    rows_drawn store id 3 (row_cells bits) (map (map leaf_state) leaf) h (leaf_states leaf)
    (λ x y. ap (λ b. row_cells b x y) e ∙ leaf_cell 8 leaf x y low)

pub cells_drawn : (store : List Kept) (id nw ne sw se : ℕ) → ShowsSquare store id 1 (joined_cells 1 (one_cell nw) (one_cell ne) (one_cell sw) (one_cell se))
    → AllByRecursion (λ s. s ≤ 255) (nw ∷ ne ∷ sw ∷ se ∷ []) → (earlier : List Picture) → Draws store (record { root = id; level = 1 }) (node_picture earlier (Cells nw ne sw se))
cells_drawn store id nw ne sw se h low earlier =
    rows_drawn store id 1 (joined_cells 1 (one_cell nw) (one_cell ne) (one_cell sw) (one_cell se)) ((nw ∷ ne ∷ []) ∷ (sw ∷ se ∷ []) ∷ []) h
    ((low.0, (low.1.0, tt)), ((low.1.1.0, (low.1.1.1.0, tt)), tt)) (λ x y. sym (four_cells nw ne sw se x y))

-- an empty square shows nothing
pub empty_drawn : (store : List Kept) (id level : ℕ) → ShowsSquare store id level (λ x y. 0) → Draws store (record { root = id; level = level }) []
empty_drawn store id level h = record {
  is_tree = h.is_square;
  states = All-nil (λ e. (1 ≤ e.1) × (e.1 ≤ 255));
  has_cells = λ x y. empty_corner x y ∙ from_corner_same (λ i j. 0) (cell_of store level id) (λ i j. sym (h.has_cells i j)) x y;
}

-- the square of a part
pub part_drawn : (old new : List Kept) → IsSoundStore old → Grows old new → (nodes : List Node) (level n empty : ℕ) (part : Option ℕ) → ShowsSquare new empty level (λ x y. 0)
    → IsNodePart old nodes level n part → Draws new (record { root = unwrap_or part empty; level = level }) (numbered_square (squares_of nodes) n)
part_drawn old new sound grows nodes level n empty None none h = rw h (empty_drawn new empty level none)
part_drawn old new sound grows nodes level n empty (Some id) none h = draws_stay old new sound grows (record { root = id; level = level }) (numbered_square (squares_of nodes) n) h.1

pub part_named : (store : List Kept) (nodes : List Node) (level n : ℕ) (part : Option ℕ) → IsNodePart store nodes level n part → NamesPart nodes level n
part_named store nodes level n None h = subst (NamesPart nodes level) (sym h) tt
part_named store nodes level n (Some id) h = h.0

-- a square may follow the nodes that its four parts are
pub parts_follow : (store : List Kept) (nodes : List Node) (level nw ne sw se : ℕ) (a b c d : Option ℕ) → IsLevel level
    → IsNodePart store nodes (level - 1) nw a × IsNodePart store nodes (level - 1) ne b × IsNodePart store nodes (level - 1) sw c × IsNodePart store nodes (level - 1) se d → MayFollow nodes (Parts level nw ne sw se)
parts_follow store nodes level nw ne sw se a b c d l are =
    let low = level - 1 in
    (l, (part_named store nodes low nw a are.0, (part_named store nodes low ne b are.1, (part_named store nodes low sw c are.2, (part_named store nodes low se d are.3, tt)))))

-- the first number that names no part comes after those that do
pub first_bad : (nodes : List Node) (level : ℕ) (good : List ℕ) (number : ℕ) (more : List ℕ) (P : ℕ → Type 0) → AllByRecursion (NamesPart nodes level) good → P number → HasBadPart nodes level (good ++ number ∷ more) P
first_bad nodes level good number more P named holds = record { good = good; number = number; more = more; spelled = refl; named = named; holds = holds }

module _ (store : List Kept) (half_level a b c d : ℕ) (p q r s : Picture)
    (da : Draws store (record { root = a; level = half_level }) p) (db : Draws store (record { root = b; level = half_level }) q)
    (dc : Draws store (record { root = c; level = half_level }) r) (dd : Draws store (record { root = d; level = half_level }) s)
  where
    pub drawn_four : half_level ≤ 124 → AreFour store half_level a b c d
    drawn_four low = record { is_low = low; is_nw = da.is_tree; is_ne = db.is_tree; is_sw = dc.is_tree; is_se = dd.is_tree }

    -- four squares joined
    pub joined_drawn : (new : List Kept) (id : ℕ)
        → ShowsSquare new id (suc half_level) (joined_cells (2 ^ half_level) (cell_of store half_level a) (cell_of store half_level b) (cell_of store half_level c) (cell_of store half_level d))
        → Draws new (record { root = id; level = suc half_level }) (joined_picture (2 ^ half_level) p q r s)
    joined_drawn new id h =
        let side = 2 ^ half_level in
        let ends = cell_ends store half_level in
        record {
          is_tree = h.is_square;
          states = joined_states side p q r s da.states db.states dc.states dd.states;
          has_cells = λ x y.
              joined_cell side p q r s da.states db.states dc.states dd.states
              (cell_of store half_level a) (cell_of store half_level b) (cell_of store half_level c) (cell_of store half_level d)
              (ends a) (ends b) (ends c) (ends d) da.has_cells db.has_cells dc.has_cells dd.has_cells x y
              ∙ from_corner_same (joined_cells side (cell_of store half_level a) (cell_of store half_level b) (cell_of store half_level c) (cell_of store half_level d))
              (cell_of new (suc half_level) id) (λ i j. sym (h.has_cells i j)) x y;
        }

-- ---- the root

record IsRoot (store : List Kept) (ns : List Node) (ps : List Picture) (t : Tree) : Type 0 where
  node : Node
  last : last_or None ns ≡ Some node
  level : t.level ≡ node_level node
  draws : Draws store t (numbered_square ps (length ns))

root_at : (store : List Kept) (ns : List Node) (ps : List Picture) (ts : List Tree) (t : Tree) → AreDrawn store ns ps ts → slice_get ts (length ts - 1) ≡ Some t → IsRoot store ns ps t
root_at store [] [] [] t h e = absurd (let low = slice_get_within [] 0 t e in omega arith)
root_at store [] [] (u ∷ ts) t h e = absurd h
root_at store [] (p ∷ ps) ts t h e = absurd h
root_at store (n ∷ ns) [] ts t h e = absurd h
root_at store (n ∷ ns) (p ∷ ps) [] t h e = absurd h
root_at store (n ∷ []) (p ∷ []) (u ∷ []) t h e =
    let same : u ≡ t = same_Some u t e in
    record { node = n; last = refl; level = subst (λ v. v.level ≡ node_level n) same h.0; draws = subst (λ v. Draws store v p) same h.1 }
root_at store (n ∷ []) (p ∷ []) (u ∷ v ∷ ts) t h e = absurd h.2
root_at store (n ∷ []) (p ∷ q ∷ ps) (u ∷ ts) t h e = absurd h.2
root_at store (n ∷ m ∷ ns) (p ∷ []) (u ∷ ts) t h e = absurd h.2
root_at store (n ∷ m ∷ ns) (p ∷ q ∷ ps) (u ∷ []) t h e = absurd h.2
root_at store (n ∷ m ∷ ns) (p ∷ q ∷ ps) (u ∷ v ∷ ts) t h e =
    let step : length (u ∷ v ∷ ts) - 1 ≡ suc (length (v ∷ ts) - 1) = omega arith in
    let later = root_at store (m ∷ ns) (q ∷ ps) (v ∷ ts) t h.2 (ap (slice_get (u ∷ v ∷ ts)) (sym step) ∙ e) in
    record { node = later.node; last = later.last; level = later.level; draws = later.draws }

-- a tree whose square shows a picture from its corner onwards shows it from its middle onwards
pub centred_shows : (store : List Kept) (t : Tree) (p : Picture) → Draws store t p → (x y : ℤ) → tree_cell store t x y ≡ cell (centred_picture t.level p) x y
centred_shows store t p h x y =
    let half = 2 ^ (t.level - 1) in
    let at : (u : ℤ) → u -ℤ neg_ℤ (pos half) ≡ u +ℤ pos half = λ u. omega (arith, ints) in
    sym (cell-shifted p (neg_ℤ (pos half)) (neg_ℤ (pos half)) x y ∙ rw (at x, at y) (h.has_cells (x +ℤ pos half) (y +ℤ pos half)))

pub root_shows : (store : List Kept) (nodes : List Node) (squares : Squares) (t : Tree) → AreSquares store nodes squares → slice_get squares.squares.items (length squares.squares.items - 1) ≡ Some t
    → IsTree store t × ((x y : ℤ) → tree_cell store t x y ≡ cell (picture_of_nodes nodes) x y)
root_shows store nodes squares t h e =
    let root = root_at store nodes (squares_of nodes) squares.squares.items t h.drawn e in
    let picture = numbered_square (squares_of nodes) (length nodes) in
    (root.draws.is_tree, λ x y. centred_shows store t picture root.draws x y ∙ ap (λ l. cell (centred_picture l picture) x y) root.level ∙ sym (ap (λ r. cell (root_picture r picture) x y) root.last))

-- without a node nothing is shown
pub no_root_shows : (old new : List Kept) (nodes : List Node) (squares : Squares) (id : ℕ) → AreSquares old nodes squares → length squares.squares.items ≡ 0
    → ShowsSquare new id 1 (λ x y. 0) → (x y : ℤ) → tree_cell new (record { root = id; level = 1 }) x y ≡ cell (picture_of_nodes nodes) x y
no_root_shows old new [] squares id h none shows x y = centred_shows new (record { root = id; level = 1 }) [] (empty_drawn new id 1 shows) x y
no_root_shows old new (n ∷ ns) squares id h none shows x y = absurd (let count = drawn_length old (n ∷ ns) (squares_of (n ∷ ns)) squares.squares.items h.drawn in omega arith)

last_picture : (store : List Kept) (ns : List Node) (ps : List Picture) (ts : List Tree) → AreDrawn store ns ps ts → IsPicture (numbered_square ps (length ns))
last_picture store [] [] [] h = All-nil (λ e. (1 ≤ e.1) × (e.1 ≤ 255))
last_picture store [] [] (t ∷ ts) h = absurd h
last_picture store [] (p ∷ ps) ts h = absurd h
last_picture store (n ∷ ns) [] ts h = absurd h
last_picture store (n ∷ ns) (p ∷ ps) [] h = absurd h
last_picture store (n ∷ []) (p ∷ ps) (t ∷ ts) h = h.1.states
last_picture store (n ∷ m ∷ ns) (p ∷ ps) (t ∷ ts) h = last_picture store (m ∷ ns) ps ts h.2

rooted_states : (root : Option Node) (square : Picture) → IsPicture square → IsPicture (root_picture root square)
rooted_states None square h = All-nil (λ e. (1 ≤ e.1) × (e.1 ≤ 255))
rooted_states (Some root) square h = shifted_states square (neg_ℤ (pos (2 ^ (node_level root - 1)))) (neg_ℤ (pos (2 ^ (node_level root - 1)))) h

-- the picture of nodes has states from 1 to 255
pub picture_states : (store : List Kept) (nodes : List Node) (squares : Squares) → AreSquares store nodes squares → IsPicture (picture_of_nodes nodes)
picture_states store nodes squares h =
    rooted_states (last_or None nodes) (numbered_square (squares_of nodes) (length nodes)) (last_picture store nodes (squares_of nodes) squares.squares.items h.drawn)

-- ---- four parts

module _ (old new : List Kept) (sound : IsSoundStore old) (grows : Grows old new) (nodes : List Node) (low empty : ℕ) (none : ShowsSquare new empty low (λ x y. 0))
    (nw ne sw se : ℕ) (p q r s : Option ℕ) (a b c d : ℕ) (ea : a ≡ unwrap_or p empty) (eb : b ≡ unwrap_or q empty) (ec : c ≡ unwrap_or r empty) (ed : d ≡ unwrap_or s empty)
    (hp : IsNodePart old nodes low nw p) (hq : IsNodePart old nodes low ne q) (hr : IsNodePart old nodes low sw r) (hs : IsNodePart old nodes low se s)
  where
    part_at : (n id : ℕ) (o : Option ℕ) → id ≡ unwrap_or o empty → IsNodePart old nodes low n o → Draws new (record { root = id; level = low }) (numbered_square (squares_of nodes) n)
    part_at n id o e h = subst (λ i. Draws new (record { root = i; level = low }) (numbered_square (squares_of nodes) n)) (sym e) (part_drawn old new sound grows nodes low n empty o none h)

    pub parts_four : low ≤ 124 → AreFour new low a b c d
    parts_four small =
        drawn_four new low a b c d (numbered_square (squares_of nodes) nw) (numbered_square (squares_of nodes) ne) (numbered_square (squares_of nodes) sw) (numbered_square (squares_of nodes) se)
        (part_at nw a p ea hp) (part_at ne b q eb hq) (part_at sw c r ec hr) (part_at se d s ed hs) small

    pub parts_joined : (after : List Kept) (id : ℕ) → ShowsSquare after id (suc low) (joined_cells (2 ^ low) (cell_of new low a) (cell_of new low b) (cell_of new low c) (cell_of new low d))
        → Draws after (record { root = id; level = suc low }) (joined_picture (2 ^ low) (numbered_square (squares_of nodes) nw) (numbered_square (squares_of nodes) ne) (numbered_square (squares_of nodes) sw) (numbered_square (squares_of nodes) se))
    parts_joined after id h =
        joined_drawn new low a b c d (numbered_square (squares_of nodes) nw) (numbered_square (squares_of nodes) ne) (numbered_square (squares_of nodes) sw) (numbered_square (squares_of nodes) se)
        (part_at nw a p ea hp) (part_at ne b q eb hq) (part_at sw c r ec hr) (part_at se d s ed hs) after id h
