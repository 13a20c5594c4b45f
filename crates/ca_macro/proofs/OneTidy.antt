-- A plane, with its rule text, generation and number of states, has one tidy text.
use Rattle.std.proofs.Common.{◌≡◌, ◌≢◌, ℕ, zero, suc, ◌+◌, ◌-◌, ◌<◌, ◌≤◌, ◌⊎◌, ◌^◌, ◌==◌, inl, inr, Bool, true, false, not, ℤ, pos, neg_ℤ, ◌+ℤ◌, ◌-ℤ◌, List, [], ◌∷◌, ◌++◌, map, length, Some, None, option_map, slice_index, filter, refl, sym, ap, ap₂, subst, ◌∙◌, arith, append_assoc, length-append}
use Rattle.std.specs.List.{AllByRecursion, AllPairs, AllZip, last_or, flat_map, range_with_len}
use Rattle.std.proofs.lemmas.Bool.{cases_Bool, eqb-true}
use Rattle.std.proofs.lemmas.Bool.Decides.{nat_tests}
use Rattle.std.proofs.lemmas.Int.{ints}
use Rattle.std.proofs.lemmas.Option.{same_Some}
use Rattle.ca_plane.specs.Prelude.{cell}
use Rattle.ca_plane.proofs.Shifts.{cell-shifted}
use Rattle.ca_quad.specs.Prelude.{joined_cells}
use Rattle.ca_quad.proofs.Cells.{same_nw, same_ne, same_sw, same_se}
use Rattle.ca_plane.proofs.Numbers.{below_or_not}
use Rattle.ca_macro.specs.Prelude.{Node, Leaf, Cells, Parts, node_level, NamesPart, MayFollow, numbered_square, squares_of, centred_picture, root_picture, picture_of_nodes, leaf_state, lowest_level}
use Rattle.ca_macro.specs.Prelude.{IsLeastLevel, AreInPlace, HasForm, is_empty, node_parts, walks_after, walk_of, numbers_once, tidy_lines, IsTidyMacrocell}
use Rattle.ca_macro.proofs.Following.{walk_to, walk_stays, walk_last, walks_length}
use Rattle.ca_macro.proofs.Gathering.{dead_square, four_dead, in_place_at, each_part, split_at}
use Rattle.ca_macro.proofs.Roots.{last_node}
use Rattle.ca_macro.proofs.NodeCells.{AreWell, node_at, Follows, is_node, cells_at, in_leaf, node_cells, is_named, shown, cells_are, dead_number}

-- ---- one leaf has cells

-- without dead cells at its end
abbrev IsCut : List Bool → Type 0
IsCut row = last_or (Some true) row ≡ Some true

cut_tail : (b : Bool) (row : List Bool) → IsCut (b ∷ row) → IsCut row
cut_tail b [] h = refl
cut_tail b (c ∷ row) h = h

one_zero : ◌≡◌ {A = ℕ} 1 0 → ⊥
one_zero e = omega arith

-- a row of dead cells isn't cut
not_dead : (b : Bool) (row : List Bool) → IsCut (b ∷ row) → ((x : ℕ) → slice_index (map leaf_state (b ∷ row)) x ≡ 0) → ⊥
not_dead true row h dead = one_zero (dead 0)
not_dead false [] h dead = absurd cc
not_dead false (c ∷ row) h dead = not_dead c row h (λ x. dead (suc x))

one_state : (b c : Bool) → leaf_state b ≡ leaf_state c → b ≡ c
one_state true true e = refl
one_state true false e = absurd (omega arith)
one_state false true e = absurd (omega arith)
one_state false false e = refl

one_row : (r s : List Bool) → IsCut r → IsCut s → ((x : ℕ) → slice_index (map leaf_state r) x ≡ slice_index (map leaf_state s) x) → r ≡ s
one_row [] [] p q same = refl
one_row [] (c ∷ s) p q same = absurd (not_dead c s q (λ x. sym (same x)))
one_row (b ∷ r) [] p q same = absurd (not_dead b r p same)
one_row (b ∷ r) (c ∷ s) p q same =
    ap₂ (λ (t : Bool) (ts : List Bool). t ∷ ts) (one_state b c (same 0)) (one_row r s (cut_tail b r p) (cut_tail c s q) (λ x. same (suc x)))

one_leaf : (rs ss : List (List Bool)) → length rs ≡ length ss → AllByRecursion IsCut rs → AllByRecursion IsCut ss → ((x y : ℕ) → in_leaf rs x y ≡ in_leaf ss x y) → rs ≡ ss
one_leaf [] [] e p q same = refl
one_leaf [] (s ∷ ss) e p q same = absurd (omega arith)
one_leaf (r ∷ rs) [] e p q same = absurd (omega arith)
one_leaf (r ∷ rs) (s ∷ ss) e p q same =
    ap₂ (λ (t : List Bool) (ts : List (List Bool)). t ∷ ts) (one_row r s p.0 q.0 (λ x. same x 0)) (one_leaf rs ss (omega arith) p.1 q.1 (λ x y. same x (suc y)))

-- ---- two lists of nodes

-- numbers of squares of one level that have the same cells, in two lists of nodes
abbrev Same : List Node → List Node → ℕ → ℕ → ℕ → Type 0
Same ns ms level m n = NamesPart ns level m × NamesPart ms level n × ((x y : ℕ) → cells_at ns m x y ≡ cells_at ms n x y)

-- two nodes have the same cells, or parts that do
abbrev Alike : List Node → List Node → Node → Node → Type 0
Alike ns ms (Leaf rows) (Leaf others) = rows ≡ others
Alike ns ms (Leaf rows) (Cells a b c d) = ⊥
Alike ns ms (Leaf rows) (Parts level a b c d) = ⊥
Alike ns ms (Cells nw ne sw se) (Leaf others) = ⊥
Alike ns ms (Cells nw ne sw se) (Cells a b c d) = (nw ≡ a) × (ne ≡ b) × (sw ≡ c) × (se ≡ d)
Alike ns ms (Cells nw ne sw se) (Parts level a b c d) = ⊥
Alike ns ms (Parts k nw ne sw se) (Leaf others) = ⊥
Alike ns ms (Parts k nw ne sw se) (Cells a b c d) = ⊥
Alike ns ms (Parts k nw ne sw se) (Parts level a b c d) =
    (k ≡ level) × Same ns ms (k - 1) nw a × Same ns ms (k - 1) ne b × Same ns ms (k - 1) sw c × Same ns ms (k - 1) se d

module _ (states : ℕ) (ns ms : List Node) (v : AreWell states ns) (w : AreWell states ms) where
  alike : (i j : ℕ) (p q : Node) → Follows ns i p → Follows ms j q → HasForm states p → HasForm states q → node_level p ≡ node_level q
      → ((x y : ℕ) → node_cells ns p x y ≡ node_cells ms q x y) → Alike ns ms p q
  alike i j (Leaf rows) (Leaf others) f g h k e same = one_leaf rows others (h.1 ∙ sym k.1) h.3 k.3 same
  alike i j (Leaf rows) (Cells a b c d) f g h k e same = absurd (omega arith)
  alike i j (Leaf rows) (Parts level a b c d) f g h k e same = let l = k h.0 in absurd (omega arith)
  alike i j (Cells nw ne sw se) (Leaf others) f g h k e same = absurd (omega arith)
  alike i j (Cells nw ne sw se) (Cells a b c d) f g h k e same = (same 0 0, same 1 0, same 0 1, same 1 1)
  alike i j (Cells nw ne sw se) (Parts level a b c d) f g h k e same = let l = g.0 in absurd (omega arith)
  alike i j (Parts l nw ne sw se) (Leaf others) f g h k e same = let m = h k.0 in absurd (omega arith)
  alike i j (Parts l nw ne sw se) (Cells a b c d) f g h k e same = let m = f.0 in absurd (omega arith)
  alike i j (Parts l nw ne sw se) (Parts level a b c d) f g h k e same =
      let side = 2 ^ (l - 1) in
      let below : level - 1 ≡ l - 1 = omega arith in
      let name : (n : ℕ) → NamesPart ms (level - 1) n → NamesPart ms (l - 1) n = λ n named. subst (λ m. NamesPart ms m n) below named in
      let these : (x y : ℕ) → joined_cells side (cells_at ns nw) (cells_at ns ne) (cells_at ns sw) (cells_at ns se) x y ≡ joined_cells side (cells_at ms a) (cells_at ms b) (cells_at ms c) (cells_at ms d) x y =
      λ x y. same x y ∙ ap (λ m. joined_cells (2 ^ m) (cells_at ms a) (cells_at ms b) (cells_at ms c) (cells_at ms d) x y) below in
      let ends = λ (n : ℕ) (named : NamesPart ns (l - 1) n). (shown states ns v (l - 1) n named).ends in
      let stops = λ (n : ℕ) (named : NamesPart ms (l - 1) n). (shown states ms w (l - 1) n named).ends in (
        e,
        (f.1.0, name a g.1.0, same_nw side (cells_at ns nw) (cells_at ns ne) (cells_at ns sw) (cells_at ns se) (cells_at ms a) (cells_at ms b) (cells_at ms c) (cells_at ms d) these (ends nw f.1.0) (stops a (name a g.1.0))),
        (f.2.0, name b g.2.0, same_ne side (cells_at ns nw) (cells_at ns ne) (cells_at ns sw) (cells_at ns se) (cells_at ms a) (cells_at ms b) (cells_at ms c) (cells_at ms d) these (ends ne f.2.0) (stops b (name b g.2.0))),
        (f.3.0, name c g.3.0, same_sw side (cells_at ns nw) (cells_at ns ne) (cells_at ns sw) (cells_at ns se) (cells_at ms a) (cells_at ms b) (cells_at ms c) (cells_at ms d) these (ends sw f.3.0) (stops c (name c g.3.0))),
        (f.4.0, name d g.4.0, same_se side (cells_at ns nw) (cells_at ns ne) (cells_at ns sw) (cells_at ns se) (cells_at ms a) (cells_at ms b) (cells_at ms c) (cells_at ms d) these),
      )

  -- two numbers are both 0, or those of nodes that are alike
  abbrev Match : ℕ → ℕ → Type 0
  Match zero zero = Unit {0}
  Match zero (suc j) = ⊥
  Match (suc i) zero = ⊥
  Match (suc i) (suc j) = (i < length ns) × (j < length ms) × Alike ns ms (node_at ns i) (node_at ms j)

  matched : (level m n : ℕ) → Same ns ms level m n → Match m n
  matched level zero zero s = tt
  matched level zero (suc j) s = let e : suc j ≡ 0 = dead_number states ms w level (suc j) s.1 (λ x y. sym (s.2 x y)) in absurd (omega arith)
  matched level (suc i) zero s = let e : suc i ≡ 0 = dead_number states ns v level (suc i) s.0 (λ x y. s.2 x y) in absurd (omega arith)
  matched level (suc i) (suc j) s =
      let a = is_named states ns v level i s.0 in
      let b = is_named states ms w level j s.1 in
      let p = is_node states ns v i a.0 in
      let q = is_node states ms w j b.0 in (
        a.0,
        b.0,
        alike i j (node_at ns i) (node_at ms j) p.follows q.follows p.form q.form (a.1 ∙ sym b.1)
            (λ x y. sym (cells_are states ns v i a.0 x y) ∙ s.2 x y ∙ cells_are states ms w j b.0 x y),
      )

  -- what holds of 0 and 0, and of two nodes where it holds of their parts, holds of all numbers of squares with the same cells
  same_below : (R : ℕ → ℕ → Type 0) → R 0 0
      → ((i j : ℕ) → i < length ns → j < length ms → ((level m n : ℕ) → m ≤ i → Same ns ms level m n → R m n) → (level : ℕ) × Same ns ms level (suc i) (suc j) → Alike ns ms (node_at ns i) (node_at ms j) → R (suc i) (suc j))
      → (most level m n : ℕ) → m ≤ most → Same ns ms level m n → R m n
  same_below R none step most level zero zero h s = none
  same_below R none step most level zero (suc j) h s = absurd (matched level zero (suc j) s)
  same_below R none step most level (suc i) zero h s = absurd (matched level (suc i) zero s)
  same_below R none step zero level (suc i) (suc j) h s = absurd (omega arith)
  same_below R none step (suc most) level (suc i) (suc j) h s =
      let m = matched level (suc i) (suc j) s in
      step i j m.0 m.1 (λ l a b k. same_below R none step most l a b (omega arith)) (level, s) m.2

-- ---- in one list of nodes, a square has one number

same_parts : (k level nw ne sw se a b c d : ℕ) → k ≡ level → nw ≡ a → ne ≡ b → sw ≡ c → se ≡ d → Parts k nw ne sw se ≡ Parts level a b c d
same_parts k level nw ne sw se a b c d e f g h i = cc

same_cells : (nw ne sw se a b c d : ℕ) → nw ≡ a → ne ≡ b → sw ≡ c → se ≡ d → Cells nw ne sw se ≡ Cells a b c d
same_cells nw ne sw se a b c d f g h i = cc

-- alike nodes are one, where numbers of parts with the same cells are
one_node : (ns ms : List Node) (i : ℕ) (p q : Node) → ((level m n : ℕ) → m ≤ i → Same ns ms level m n → m ≡ n) → Follows ns i p → Alike ns ms p q → p ≡ q
one_node ns ms i (Leaf rows) (Leaf others) part f h = ap Leaf h
one_node ns ms i (Leaf rows) (Cells a b c d) part f h = absurd h
one_node ns ms i (Leaf rows) (Parts level a b c d) part f h = absurd h
one_node ns ms i (Cells nw ne sw se) (Leaf others) part f h = absurd h
one_node ns ms i (Cells nw ne sw se) (Cells a b c d) part f h = same_cells nw ne sw se a b c d h.0 h.1 h.2 h.3
one_node ns ms i (Cells nw ne sw se) (Parts level a b c d) part f h = absurd h
one_node ns ms i (Parts k nw ne sw se) (Leaf others) part f h = absurd h
one_node ns ms i (Parts k nw ne sw se) (Cells a b c d) part f h = absurd h
one_node ns ms i (Parts k nw ne sw se) (Parts level a b c d) part f h =
    same_parts k level nw ne sw se a b c d h.0 (part (k - 1) nw a f.1.1 h.1) (part (k - 1) ne b f.2.1 h.2) (part (k - 1) sw c f.3.1 h.3) (part (k - 1) se d f.4.1 h.4)

module _ (states : ℕ) (ns : List Node) (v : AreWell states ns) where
  one_place : (i j : ℕ) → i < length ns → j < length ns → node_at ns i ≡ node_at ns j → i ≡ j
  one_place i j h k e =
      elim (below_or_not i j) [
        | inl l ↦ absurd (v.distinct i j (Leaf []) l k e)
        | inr l ↦ elim (below_or_not j i) [
          | inl m ↦ absurd (v.distinct j i (Leaf []) m h (sym e))
          | inr m ↦ omega arith
        ]
      ]

  pub one_number : (level m n : ℕ) → Same ns ns level m n → m ≡ n
  one_number level m n s =
      same_below states ns ns v v (λ m n. m ≡ n) refl
      (λ i j h k part same alike. ap suc (one_place i j h k (one_node ns ns i (node_at ns i) (node_at ns j) part (is_node states ns v i h).follows alike))) m level m n (omega arith) s

  one_level : (k level i : ℕ) → NamesPart ns k (suc i) → NamesPart ns level (suc i) → k ≡ level
  one_level k level i a b = same_Some k level (sym a ∙ b)

-- ---- walks

-- walks to earlier nodes stay
parts_stay : (front rest : List Node) (node : Node) → MayFollow front node
    → flat_map (numbered_square (walks_after [] (front ++ rest))) (node_parts node) ≡ flat_map (numbered_square (walks_after [] front)) (node_parts node)
parts_stay front rest (Leaf rows) h = refl
parts_stay front rest (Cells nw ne sw se) h = refl
parts_stay front rest (Parts level nw ne sw se) h =
    let e = each_part front level nw ne sw se h (λ n. numbered_square (walks_after [] (front ++ rest)) n ≡ numbered_square (walks_after [] front) n) (walk_stays front rest) in
    rw (e.0, e.1, e.2, e.3) refl

-- the node with a number is walked to after its parts
walk_at : (ns : List Node) (i : ℕ) → AreInPlace [] ns → i < length ns → numbered_square (walks_after [] ns) (suc i) ≡ flat_map (numbered_square (walks_after [] ns)) (node_parts (node_at ns i)) ++ suc i ∷ []
walk_at ns i h low =
    let s = split_at ns i (Leaf []) low in
    let node = node_at ns i in
    let stands : MayFollow s.0 node = in_place_at [] s.0 node s.1 (subst (AreInPlace []) s.2 h) in
    let again : (s.0 ++ node ∷ []) ++ s.1 ≡ ns = append_assoc s.0 (node ∷ []) s.1 ∙ sym s.2 in
    let count = length-append s.0 (node ∷ []) in
    let last : length (walks_after [] s.0) + 1 ≡ suc i = let e = walks_length s.0 in let f = s.3 in omega arith in
    let first : numbered_square (walks_after [] ns) (suc (length s.0)) ≡ walk_to (walks_after [] s.0) node =
    ap (λ l. numbered_square (walks_after [] l) (suc (length s.0))) (sym again) ∙ walk_stays (s.0 ++ node ∷ []) s.1 (suc (length s.0)) (omega arith) ∙ walk_last s.0 node in
    let second : flat_map (numbered_square (walks_after [] ns)) (node_parts node) ≡ flat_map (numbered_square (walks_after [] s.0)) (node_parts node) =
    ap (λ l. flat_map (numbered_square (walks_after [] l)) (node_parts node)) s.2 ∙ parts_stay s.0 (node ∷ s.1) node stands in
    ap (λ k. numbered_square (walks_after [] ns) (suc k)) (sym s.3) ∙ first ∙ ap₂ (λ l k. l ++ k ∷ []) (sym second) last

abbrev Meet : List Node → List Node → ℕ → ℕ → Type 0
Meet ns ms m n = (level : ℕ) × Same ns ms level m n

zip_append : (R : ℕ → ℕ → Type 0) (xs ys us vs : List ℕ) → AllZip R xs ys → AllZip R us vs → AllZip R (xs ++ us) (ys ++ vs)
zip_append R [] [] us vs h k = k
zip_append R [] (b ∷ ys) us vs h k = absurd h
zip_append R (a ∷ xs) [] us vs h k = absurd h
zip_append R (a ∷ xs) (b ∷ ys) us vs h k = (h.0, zip_append R xs ys us vs h.1 k)

module _ (states : ℕ) (ns ms : List Node) (v : AreWell states ns) (w : AreWell states ms) where
  abbrev Meets : ℕ → ℕ → Type 0
  Meets = Meet ns ms

  abbrev first_walk : ℕ → List ℕ
  first_walk = numbered_square (walks_after [] ns)

  abbrev second_walk : ℕ → List ℕ
  second_walk = numbered_square (walks_after [] ms)

  parts_walked : (i : ℕ) (p q : Node) → ((level m n : ℕ) → m ≤ i → Same ns ms level m n → AllZip Meets (first_walk m) (second_walk n)) → Follows ns i p → Alike ns ms p q
      → AllZip Meets (flat_map first_walk (node_parts p)) (flat_map second_walk (node_parts q))
  parts_walked i (Leaf rows) (Leaf others) part f h = tt
  parts_walked i (Leaf rows) (Cells a b c d) part f h = absurd h
  parts_walked i (Leaf rows) (Parts level a b c d) part f h = absurd h
  parts_walked i (Cells nw ne sw se) (Leaf others) part f h = absurd h
  parts_walked i (Cells nw ne sw se) (Cells a b c d) part f h = tt
  parts_walked i (Cells nw ne sw se) (Parts level a b c d) part f h = absurd h
  parts_walked i (Parts k nw ne sw se) (Leaf others) part f h = absurd h
  parts_walked i (Parts k nw ne sw se) (Cells a b c d) part f h = absurd h
  parts_walked i (Parts k nw ne sw se) (Parts level a b c d) part f h =
      zip_append Meets (first_walk nw) (second_walk a) _ _ (part (k - 1) nw a f.1.1 h.1)
      (zip_append Meets (first_walk ne) (second_walk b) _ _ (part (k - 1) ne b f.2.1 h.2)
      (zip_append Meets (first_walk sw) (second_walk c) _ _ (part (k - 1) sw c f.3.1 h.3)
      (zip_append Meets (first_walk se) (second_walk d) [] [] (part (k - 1) se d f.4.1 h.4) tt)))

  walked : (level m n : ℕ) → Same ns ms level m n → AllZip Meets (first_walk m) (second_walk n)
  walked level m n s =
      same_below states ns ms v w (λ m n. AllZip Meets (first_walk m) (second_walk n)) tt
      (λ i j h k part same alike.
      let parts = parts_walked i (node_at ns i) (node_at ms j) part (is_node states ns v i h).follows alike in
      subst (λ l. AllZip Meets l (second_walk (suc j))) (sym (walk_at ns i v.in_place h))
      (subst (λ l. AllZip Meets (flat_map first_walk (node_parts (node_at ns i)) ++ suc i ∷ []) l) (sym (walk_at ms j w.in_place k))
      (zip_append Meets (flat_map first_walk (node_parts (node_at ns i))) (flat_map second_walk (node_parts (node_at ms j))) (suc i ∷ []) (suc j ∷ []) parts (same, tt)))) m level m n (omega arith) s

  -- ---- each number meets one

  turned : (level m n k : ℕ) → Same ns ms level m n → Same ns ms level m k → Same ms ms level n k
  turned level m n k s t = (s.1, t.1, λ x y. sym (s.2 x y) ∙ t.2 x y)

  back : (level m n k : ℕ) → Same ns ms level m n → Same ns ms level k n → Same ns ns level m k
  back level m n k s t = (s.0, t.0, λ x y. s.2 x y ∙ sym (t.2 x y))

  meets_one : (m n k : ℕ) → Meets m n → Meets m k → n ≡ k
  meets_one zero zero zero (l, s) (o, t) = refl
  meets_one zero (suc n) k (l, s) (o, t) = absurd (matched states ns ms v w l zero (suc n) s)
  meets_one zero zero (suc k) (l, s) (o, t) = absurd (matched states ns ms v w o zero (suc k) t)
  meets_one (suc m) n k (l, s) (o, t) =
      one_number states ms w l n k (turned l (suc m) n k s (subst (λ o. Same ns ms o (suc m) k) (one_level states ns v o l m t.0 s.0) t))

  met_by_one : (m n k : ℕ) → Meets m n → Meets k n → m ≡ k
  met_by_one zero zero zero (l, s) (o, t) = refl
  met_by_one (suc m) zero k (l, s) (o, t) = absurd (matched states ns ms v w l (suc m) zero s)
  met_by_one zero zero (suc k) (l, s) (o, t) = absurd (matched states ns ms v w o (suc k) zero t)
  met_by_one m (suc n) k (l, s) (o, t) =
      one_number states ns v l m k (back l m (suc n) k s (subst (λ o. Same ns ms o k (suc n)) (one_level states ms w o l n t.1 s.1) t))

  same_test : (m n a b : ℕ) → Meets m n → Meets a b → (m == a) ≡ (n == b)
  same_test m n a b p q =
      elim (cases_Bool (m == a)) [
        | inl e ↦
            let f : n ≡ b = meets_one a n b (subst (λ k. Meets k n) (eqb-true m a e) p) q in
            let t : (n == b) ≡ true = grind (arith, nat_tests) in
            e ∙ sym t
        | inr e ↦ elim (cases_Bool (n == b)) [
          | inl f ↦
              let g : m ≡ a = met_by_one m b a (subst (Meets m) (eqb-true n b f) p) q in
              let t : (m == a) ≡ true = grind (arith, nat_tests) in
              t ∙ sym f
          | inr f ↦ e ∙ sym f
        ]
      ]

  others_meet : (a b : ℕ) → Meets a b → (xs ys : List ℕ) → AllZip Meets xs ys → AllZip Meets (filter (λ m. not (m == a)) xs) (filter (λ m. not (m == b)) ys)
  others_meet a b q [] [] h = tt
  others_meet a b q [] (n ∷ ys) h = absurd h
  others_meet a b q (m ∷ xs) [] h = absurd h
  others_meet a b q (m ∷ xs) (n ∷ ys) h =
      let e = same_test m n a b h.0 q in
      let later = others_meet a b q xs ys h.1 in
      elim (cases_Bool (m == a)) [
        | inl t ↦ let u : (n == b) ≡ true = sym e ∙ t in rw (t, u) later
        | inr t ↦ let u : (n == b) ≡ false = sym e ∙ t in rw (t, u) (h.0, later)
      ]

  once_meet : (xs ys : List ℕ) → AllZip Meets xs ys → AllZip Meets (numbers_once xs) (numbers_once ys)
  once_meet [] [] h = tt
  once_meet [] (n ∷ ys) h = absurd h
  once_meet (m ∷ xs) [] h = absurd h
  once_meet (m ∷ xs) (n ∷ ys) h = (h.0, others_meet m n h.0 (numbers_once xs) (numbers_once ys) (once_meet xs ys h.1))

  range_meet : (a m n : ℕ) → AllZip Meets (range_with_len a m) (range_with_len a n) → (m ≡ n) × ((i : ℕ) → a ≤ i → i < a + m → Meets i i)
  range_meet a zero zero h = (refl, λ i low high. absurd (omega arith))
  range_meet a zero (suc n) h = absurd h
  range_meet a (suc m) zero h = absurd h
  range_meet a (suc m) (suc n) h =
      let later = range_meet (a + 1) m n h.1 in
      let all : (i : ℕ) → a ≤ i → i < a + suc m → Meets i i = λ i low high. elim (below_or_not a i) [
        | inl k ↦ later.1 i (omega arith) (omega arith)
        | inr k ↦ let e : a ≡ i = omega arith in subst (λ j. Meets j j) e h.0
      ] in
      (ap suc later.0, all)

-- ---- one list of nodes

same_nodes : (ns ms : List Node) → length ns ≡ length ms → ((i : ℕ) → i < length ns → node_at ns i ≡ node_at ms i) → ns ≡ ms
same_nodes [] [] e each = refl
same_nodes [] (m ∷ ms) e each = absurd (omega arith)
same_nodes (n ∷ ns) [] e each = absurd (omega arith)
same_nodes (n ∷ ns) (m ∷ ms) e each = ap₂ (λ (k : Node) (ks : List Node). k ∷ ks) (each 0 (omega arith)) (same_nodes ns ms (omega arith) (λ i low. each (suc i) (omega arith)))

module _ (states : ℕ) (ns ms : List Node) (v : AreWell states ns) (w : AreWell states ms) (each : (i : ℕ) → 1 ≤ i → i < 1 + length ns → Meet ns ms i i) where
  part_met : (i : ℕ) → i < length ns → (level m n : ℕ) → m ≤ i → Same ns ms level m n → m ≡ n
  part_met i low level zero zero h s = refl
  part_met i low level zero (suc n) h s = absurd (matched states ns ms v w level zero (suc n) s)
  part_met i low level (suc m) n h s = meets_one states ns ms v w (suc m) (suc m) n (each (suc m) (omega arith) (omega arith)) (level, s)

  node_met : (i : ℕ) → i < length ns → node_at ns i ≡ node_at ms i
  node_met i low =
      let met = each (suc i) (omega arith) (omega arith) in
      let m = matched states ns ms v w met.0 (suc i) (suc i) met.1 in
      one_node ns ms i (node_at ns i) (node_at ms i) (part_met i low) (is_node states ns v i low).follows m.2

one_list : (states : ℕ) (ns ms : List Node) → AreWell states ns → AreWell states ms → (level : ℕ) → Same ns ms level (length ns) (length ms)
    → numbers_once (walk_of ns) ≡ range_with_len 1 (length ns) → numbers_once (walk_of ms) ≡ range_with_len 1 (length ms) → ns ≡ ms
one_list states ns ms v w level same first second =
    let met = once_meet states ns ms v w (walk_of ns) (walk_of ms) (walked states ns ms v w level (length ns) (length ms) same) in
    let ranges : AllZip (Meet ns ms) (range_with_len 1 (length ns)) (range_with_len 1 (length ms)) =
    subst (λ l. AllZip (Meet ns ms) l (range_with_len 1 (length ms))) first (subst (λ l. AllZip (Meet ns ms) (numbers_once (walk_of ns)) l) second met) in
    let all = range_meet states ns ms v w 1 (length ns) (length ms) ranges in
    same_nodes ns ms all.0 (node_met states ns ms v w all.1)

-- ---- the root

root_named : (ns : List Node) (root : Node) → last_or None ns ≡ Some root → (length ns ≢ 0) × NamesPart ns (node_level root) (length ns)
root_named [] root last = absurd cc
root_named (n ∷ ns) root last =
    let r = last_node (n ∷ ns) (length ns) None refl in
    let one : r.0 ≡ root = same_Some r.0 root (sym r.1 ∙ last) in
    ((λ e. omega arith), ap (option_map node_level) r.2 ∙ ap (λ m. Some (node_level m)) one)

there_and_back : (u d : ℤ) → (u +ℤ d) -ℤ d ≡ u
there_and_back u d = omega (arith, ints)

root_cells : (ns : List Node) (root : Node) (cells : ℤ → ℤ → ℕ) → last_or None ns ≡ Some root → ((x y : ℤ) → cells x y ≡ cell (picture_of_nodes ns) x y) → (x y : ℕ)
    → cells_at ns (length ns) x y ≡ cells (pos x +ℤ neg_ℤ (pos (2 ^ (node_level root - 1)))) (pos y +ℤ neg_ℤ (pos (2 ^ (node_level root - 1))))
root_cells ns root cells last same x y =
    let far = neg_ℤ (pos (2 ^ (node_level root - 1))) in
    let square = numbered_square (squares_of ns) (length ns) in
    let picture : picture_of_nodes ns ≡ centred_picture (node_level root) square = ap (λ o. root_picture o square) last in
    let whole = same (pos x +ℤ far) (pos y +ℤ far) ∙ ap (λ p. cell p (pos x +ℤ far) (pos y +ℤ far)) picture ∙ cell-shifted square far far (pos x +ℤ far) (pos y +ℤ far) in
    sym (whole ∙ ap₂ (cell square) (there_and_back (pos x) far) (there_and_back (pos y) far))

one_least : (states : ℕ) (cells : ℤ → ℤ → ℕ) (k level : ℕ) → IsLeastLevel states cells k → IsLeastLevel states cells level → k ≡ level
one_least states cells k level a b =
    let p = a.least level b.allowed b.fits in
    let q = b.least k a.allowed a.fits in
    omega arith

-- ---- the empty plane

nothing_shown : (ns : List Node) (root : Node) → ns ≡ root ∷ [] → is_empty root ≡ true → (x y : ℤ) → cell (picture_of_nodes ns) x y ≡ 0
nothing_shown ns root single e x y =
    ap (λ l. cell (picture_of_nodes l) x y) single ∙ ap (λ p. cell (centred_picture (node_level root) p) x y) (dead_square [] root e)

one_empty : (states : ℕ) (p q : Node) → MayFollow [] p → MayFollow [] q → HasForm states p → HasForm states q → lowest_level states ≤ node_level p → node_level p ≡ node_level q
    → is_empty p ≡ true → is_empty q ≡ true → p ≡ q
one_empty states (Leaf rows) q f g h k low e s t = let four : lowest_level states ≡ 4 = rw h.0 refl in absurd (omega arith)
one_empty states (Cells nw ne sw se) (Leaf others) f g h k low e s t = absurd (omega arith)
one_empty states (Cells nw ne sw se) (Cells a b c d) f g h k low e s t =
    let x = four_dead nw ne sw se s in
    let y = four_dead a b c d t in
    same_cells nw ne sw se a b c d (x.0 ∙ sym y.0) (x.1 ∙ sym y.1) (x.2 ∙ sym y.2) (x.3 ∙ sym y.3)
one_empty states (Cells nw ne sw se) (Parts level a b c d) f g h k low e s t = let l = g.0.0 in absurd (omega arith)
one_empty states (Parts l nw ne sw se) (Leaf others) f g h k low e s t = let m = h k.0 in absurd (omega arith)
one_empty states (Parts l nw ne sw se) (Cells a b c d) f g h k low e s t = let m = f.0.0 in absurd (omega arith)
one_empty states (Parts l nw ne sw se) (Parts level a b c d) f g h k low e s t =
    let x = four_dead nw ne sw se s in
    let y = four_dead a b c d t in
    same_parts l level nw ne sw se a b c d e (x.0 ∙ sym y.0) (x.1 ∙ sym y.1) (x.2 ∙ sym y.2) (x.3 ∙ sym y.3)

-- ---- one text

-- the nodes are those of live cells, or the root of the empty plane
abbrev IsKind : ℕ → List Node → Node → Type 0
IsKind states ns root = AreWell states ns ⊎ ((ns ≡ root ∷ []) × (is_empty root ≡ true))

kind : (states : ℕ) (ns : List Node) (root : Node) → AreInPlace [] ns → AllByRecursion (HasForm states) ns → AllPairs (λ m n. m ≢ n) ns
    → AllByRecursion (λ n. is_empty n ≡ false) ns ⊎ (ns ≡ root ∷ []) → IsKind states ns root
kind states ns root place forms distinct (inl live) = inl (record { in_place = place; forms = forms; distinct = distinct; live = live })
kind states ns root place forms distinct (inr single) =
    elim (cases_Bool (is_empty root)) [
      | inl e ↦ inr (single, e)
      | inr e ↦ inl (record { in_place = place; forms = forms; distinct = distinct; live = subst (AllByRecursion (λ n. is_empty n ≡ false)) (sym single) (e, tt) })
    ]

-- a plane with a live cell isn't that of an empty root
not_nothing : (states : ℕ) (cells : ℤ → ℤ → ℕ) (ns : List Node) (root : Node) → AreWell states ns → last_or None ns ≡ Some root → ((x y : ℤ) → cells x y ≡ cell (picture_of_nodes ns) x y)
    → ((x y : ℤ) → cells x y ≡ 0) → ⊥
not_nothing states cells ns root v last same none =
    let r = root_named ns root last in
    r.0 (dead_number states ns v (node_level root) (length ns) r.1 (λ x y. root_cells ns root cells last same x y ∙ none _ _))

root_in_place : (ns : List Node) (root : Node) → ns ≡ root ∷ [] → AreInPlace [] ns → MayFollow [] root
root_in_place ns root single h = let whole : AreInPlace [] (root ∷ []) = subst (AreInPlace []) single h in whole.0

root_form : (states : ℕ) (ns : List Node) (root : Node) → ns ≡ root ∷ [] → AllByRecursion (HasForm states) ns → HasForm states root
root_form states ns root single h = let whole : AllByRecursion (HasForm states) (root ∷ []) = subst (AllByRecursion (HasForm states)) single h in whole.0

module _ (t u : List ℕ) (cells : ℤ → ℤ → ℕ) (rule_text : List ℕ) (generation states : ℕ) (p : IsTidyMacrocell t cells rule_text generation states) (q : IsTidyMacrocell u cells rule_text generation states) where
  level_same : node_level p.tidy.root ≡ node_level q.tidy.root
  level_same = one_least states cells (node_level p.tidy.root) (node_level q.tidy.root) p.tidy.level q.tidy.level

  root_same : AreWell states p.nodes → AreWell states q.nodes → Same p.nodes q.nodes (node_level p.tidy.root) (length p.nodes) (length q.nodes)
  root_same v w =
      let a = root_named p.nodes p.tidy.root p.tidy.root_is_last in
      let b = root_named q.nodes q.tidy.root q.tidy.root_is_last in
      let second = λ (x y : ℕ). root_cells q.nodes q.tidy.root cells q.tidy.root_is_last q.tidy.shown x y in
      let here : (l : ℕ) → ℕ → ℤ = λ l x. pos x +ℤ neg_ℤ (pos (2 ^ (l - 1))) in (
        a.1,
        subst (λ l. NamesPart q.nodes l (length q.nodes)) (sym level_same) b.1,
        λ x y. root_cells p.nodes p.tidy.root cells p.tidy.root_is_last p.tidy.shown x y ∙ ap (λ l. cells (here l x) (here l y)) level_same ∙ sym (second x y),
      )

  nodes_same : IsKind states p.nodes p.tidy.root → IsKind states q.nodes q.tidy.root → p.nodes ≡ q.nodes
  nodes_same (inl v) (inl w) = one_list states p.nodes q.nodes v w (node_level p.tidy.root) (root_same v w) p.tidy.order q.tidy.order
  nodes_same (inl v) (inr (single, e)) =
      absurd (not_nothing states cells p.nodes p.tidy.root v p.tidy.root_is_last p.tidy.shown (λ x y. q.tidy.shown x y ∙ nothing_shown q.nodes q.tidy.root single e x y))
  nodes_same (inr (single, e)) (inl w) =
      absurd (not_nothing states cells q.nodes q.tidy.root w q.tidy.root_is_last q.tidy.shown (λ x y. p.tidy.shown x y ∙ nothing_shown p.nodes p.tidy.root single e x y))
  nodes_same (inr (first, e)) (inr (second, f)) =
      let roots = one_empty states p.tidy.root q.tidy.root (root_in_place p.nodes p.tidy.root first p.tidy.in_place) (root_in_place q.nodes q.tidy.root second q.tidy.in_place)
      (root_form states p.nodes p.tidy.root first p.tidy.forms) (root_form states q.nodes q.tidy.root second q.tidy.forms) p.tidy.level.allowed level_same e f in
      first ∙ ap (λ n. n ∷ []) roots ∙ sym second

  pub one_tidy : t ≡ u
  one_tidy =
      let nodes = nodes_same (kind states p.nodes p.tidy.root p.tidy.in_place p.tidy.forms p.tidy.distinct p.tidy.empties) (kind states q.nodes q.tidy.root q.tidy.in_place q.tidy.forms q.tidy.distinct q.tidy.empties) in
      p.spelled ∙ ap (λ ns. flat_map (λ line. line ++ 10 ∷ []) (tidy_lines rule_text generation ns)) nodes ∙ sym q.spelled
