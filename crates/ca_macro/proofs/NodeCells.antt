-- The cells of the squares that a list of tidy nodes numbers.
use Rattle.std.proofs.Common.{◌≡◌, ◌≢◌, ℕ, zero, suc, ◌+◌, ◌-◌, ◌<◌, ◌≤◌, ◌^◌, ◌==◌, inl, inr, Bool, true, false, not, pos, List, [], ◌∷◌, ◌++◌, map, length, slice_index, refl, sym, ap, subst, ◌∙◌, arith, nat_lt}
use Rattle.std.specs.List.{AllByRecursion, AllPairs, slice_index_or, list_all}
use Rattle.std.proofs.Math.Nat.{two-pow-succ}
use Rattle.std.proofs.lemmas.Bool.{cases_Bool, and_from}
use Rattle.ca_plane.specs.Prelude.{cell}
use Rattle.ca_quad.specs.Prelude.{one_cell, joined_cells, IsEmpty}
use Rattle.ca_quad.specs.inner.Measure.{EndsWithin}
use Rattle.ca_quad.proofs.Cells.{together_ends, same_nw, same_ne, same_sw, same_se}
use Rattle.ca_macro.specs.Prelude.{Node, Leaf, Cells, Parts, node_level, NamesPart, MayFollow, numbered_square, node_picture, squares_of, leaf_state, AreInPlace, HasForm, is_empty}
use Rattle.ca_macro.specs.inner.Written.{IsPictureOfSquare}
use Rattle.ca_macro.proofs.Pictures.{rows_show, four_show, four_end, joined_show, picture_as}
use Rattle.ca_macro.proofs.Gathering.{corner_zero, in_place_at, names_level, names_low, names_stay, split_at, square_at}
use Rattle.ca_macro.proofs.WrittenNodes.{live_at}

-- nodes as a tidy text has them, none of which is empty
pub record AreWell (states : ℕ) (ns : List Node) : Type 0 where
  pub in_place : AreInPlace [] ns
  pub forms : AllByRecursion (HasForm states) ns
  pub distinct : AllPairs (λ m n. m ≢ n) ns
  pub live : AllByRecursion (λ n. is_empty n ≡ false) ns

-- the node at a place
abbrev pub node_at : List Node → ℕ → Node
node_at ns i = slice_index_or ns i (Leaf [])

all_at : (P : Node → Type 0) (ns : List Node) (i : ℕ) → AllByRecursion P ns → i < length ns → P (node_at ns i)
all_at P [] i a h = absurd (omega arith)
all_at P (n ∷ ns) zero a h = a.0
all_at P (n ∷ ns) (suc i) a h = all_at P ns i a.1 (omega arith)

-- a number of a part: of this level, and not above this place
abbrev pub IsPart : List Node → ℕ → ℕ → ℕ → Type 0
IsPart ns level most n = NamesPart ns level n × (n ≤ most)

-- a node whose parts are among the first nodes
abbrev pub Follows : List Node → ℕ → Node → Type 0
Follows ns i (Leaf rows) = Unit {0}
Follows ns i (Cells nw ne sw se) = Unit {0}
Follows ns i (Parts level nw ne sw se) = (2 ≤ level) × IsPart ns (level - 1) i nw × IsPart ns (level - 1) i ne × IsPart ns (level - 1) i sw × IsPart ns (level - 1) i se

follows_in : (ns front rest : List Node) (i : ℕ) (node : Node) → ns ≡ front ++ rest → length front ≡ i → MayFollow front node → Follows ns i node
follows_in ns front rest i (Leaf rows) whole count h = tt
follows_in ns front rest i (Cells nw ne sw se) whole count h = tt
follows_in ns front rest i (Parts level nw ne sw se) whole count h =
    (h.0.0, part nw h.1.0, part ne h.1.1.0, part sw h.1.1.1.0, part se h.1.1.1.1.0)
  where
    part : (n : ℕ) → NamesPart front (level - 1) n → IsPart ns (level - 1) i n
    part n named =
        let low = names_low front (level - 1) n named in
        (subst (λ l. NamesPart l (level - 1) n) (sym whole) (names_stay front rest (level - 1) n named), omega arith)

-- what is known of the node at a place
pub record IsNode (states : ℕ) (ns : List Node) (i : ℕ) : Type 0 where
  pub follows : Follows ns i (node_at ns i)
  pub form : HasForm states (node_at ns i)
  pub live : is_empty (node_at ns i) ≡ false
  pub square : numbered_square (squares_of ns) (suc i) ≡ node_picture (squares_of ns) (node_at ns i)

pub is_node : (states : ℕ) (ns : List Node) → AreWell states ns → (i : ℕ) → i < length ns → IsNode states ns i
is_node states ns well i low =
    let s = split_at ns i (Leaf []) low in
    record {
      follows = follows_in ns s.0 (node_at ns i ∷ s.1) i (node_at ns i) s.2 s.3 (in_place_at [] s.0 (node_at ns i) s.1 (subst (AreInPlace []) s.2 well.in_place));
      form = all_at (HasForm states) ns i well.forms low;
      live = all_at (λ n. is_empty n ≡ false) ns i well.live low;
      square = square_at ns i (Leaf []) well.in_place low;
    }

-- ---- cells

-- the cells of the square with a number, from its corner
abbrev pub cells_at : List Node → ℕ → ℕ → ℕ → ℕ
cells_at ns n x y = cell (numbered_square (squares_of ns) n) (pos x) (pos y)

-- the state at a place of a leaf's rows
abbrev pub in_leaf : List (List Bool) → ℕ → ℕ → ℕ
in_leaf rows x y = slice_index (slice_index_or (map (map leaf_state) rows) y []) x

-- the cells of a node
abbrev pub node_cells : List Node → Node → ℕ → ℕ → ℕ
node_cells ns (Leaf rows) = in_leaf rows
node_cells ns (Cells nw ne sw se) = joined_cells 1 (one_cell nw) (one_cell ne) (one_cell sw) (one_cell se)
node_cells ns (Parts level nw ne sw se) = joined_cells (2 ^ (level - 1)) (cells_at ns nw) (cells_at ns ne) (cells_at ns sw) (cells_at ns se)

-- the picture with a number shows its cells alone, which end with the side of its level
pub record IsShown (ns : List Node) (level n : ℕ) : Type 0 where
  pub shows : IsPictureOfSquare (numbered_square (squares_of ns) n) (cells_at ns n)
  pub ends : EndsWithin (2 ^ level) (cells_at ns n)

none_right : (row : List Bool) (x : ℕ) → length row ≤ x → slice_index (map leaf_state row) x ≡ 0
none_right [] x h = refl
none_right (b ∷ row) zero h = absurd (omega arith)
none_right (b ∷ row) (suc x) h = none_right row x (omega arith)

leaf_right : (rows : List (List Bool)) (side x y : ℕ) → AllByRecursion (λ row. length row ≤ side) rows → side ≤ x → in_leaf rows x y ≡ 0
leaf_right [] side x y a h = refl
leaf_right (row ∷ rows) side x zero a h = none_right row x (omega (arith, a.0))
leaf_right (row ∷ rows) side x (suc y) a h = leaf_right rows side x y a.1 h

leaf_below : (rows : List (List Bool)) (x y : ℕ) → length rows ≤ y → in_leaf rows x y ≡ 0
leaf_below [] x y h = refl
leaf_below (row ∷ rows) x zero h = absurd (omega arith)
leaf_below (row ∷ rows) x (suc y) h = leaf_below rows x y (omega arith)

leaf_ends : (rows : List (List Bool)) → length rows ≡ 8 → AllByRecursion (λ row. length row ≤ 8) rows → EndsWithin 8 (in_leaf rows)
leaf_ends rows eight short x y (inl h) = leaf_right rows 8 x y short h
leaf_ends rows eight short x y (inr h) = leaf_below rows x y (omega arith)

none_ends : (side : ℕ) → EndsWithin side (λ x y. 0)
none_ends side x y h = refl

-- a picture of some cells is one of its own
own_shows : (ns : List Node) (level n : ℕ) (f : ℕ → ℕ → ℕ) → IsPictureOfSquare (numbered_square (squares_of ns) n) f → EndsWithin (2 ^ level) f → IsShown ns level n
own_shows ns level n f shows ends = record {
  shows = picture_as (numbered_square (squares_of ns) n) f (cells_at ns n) (λ x y. sym (shows (pos x) (pos y))) shows;
  ends = λ x y h. shows (pos x) (pos y) ∙ ends x y h;
}

pub parts_show : (ns : List Node) (level nw ne sw se : ℕ) → IsShown ns (level - 1) nw → IsShown ns (level - 1) ne → IsShown ns (level - 1) sw → IsShown ns (level - 1) se
    → IsPictureOfSquare (node_picture (squares_of ns) (Parts level nw ne sw se)) (node_cells ns (Parts level nw ne sw se))
parts_show ns level nw ne sw se a b c d =
    joined_show (2 ^ (level - 1)) (cells_at ns nw) (cells_at ns ne) (cells_at ns sw) (cells_at ns se) a.ends b.ends c.ends
    (numbered_square (squares_of ns) nw) (numbered_square (squares_of ns) ne) (numbered_square (squares_of ns) sw) (numbered_square (squares_of ns) se)
    (live_at ns nw) (live_at ns ne) (live_at ns sw) a.shows b.shows c.shows d.shows

parts_end : (ns : List Node) (level nw ne sw se : ℕ) → 2 ≤ level → IsShown ns (level - 1) nw → IsShown ns (level - 1) ne → IsShown ns (level - 1) sw → IsShown ns (level - 1) se
    → EndsWithin (2 ^ level) (node_cells ns (Parts level nw ne sw se))
parts_end ns level nw ne sw se large a b c d =
    let next : suc (level - 1) ≡ level = omega arith in
    let side : 2 ^ (level - 1) + 2 ^ (level - 1) ≡ 2 ^ level = sym (two-pow-succ (level - 1)) ∙ ap (λ l. 2 ^ l) next in
    subst (λ s. EndsWithin s (node_cells ns (Parts level nw ne sw se))) side
    (together_ends (2 ^ (level - 1)) (cells_at ns nw) (cells_at ns ne) (cells_at ns sw) (cells_at ns se) a.ends b.ends c.ends d.ends)

-- a node shows its cells, where its parts show theirs
node_shown : (states : ℕ) (ns : List Node) (i : ℕ) (node : Node) → ((level n : ℕ) → n ≤ i → NamesPart ns level n → IsShown ns level n) → Follows ns i node → HasForm states node
    → IsPictureOfSquare (node_picture (squares_of ns) node) (node_cells ns node) × EndsWithin (2 ^ node_level node) (node_cells ns node)
node_shown states ns i (Leaf rows) part follows form = (rows_show (map (map leaf_state) rows) (in_leaf rows) (λ x y. refl), leaf_ends rows form.1 form.2)
node_shown states ns i (Cells nw ne sw se) part follows form = (four_show nw ne sw se (node_cells ns (Cells nw ne sw se)) (λ x y. refl), four_end nw ne sw se)
node_shown states ns i (Parts level nw ne sw se) part follows form =
    let a = part (level - 1) nw follows.1.1 follows.1.0 in
    let b = part (level - 1) ne follows.2.1 follows.2.0 in
    let c = part (level - 1) sw follows.3.1 follows.3.0 in
    let d = part (level - 1) se follows.4.1 follows.4.0 in
    (parts_show ns level nw ne sw se a b c d, parts_end ns level nw ne sw se follows.0 a b c d)

module _ (states : ℕ) (ns : List Node) (well : AreWell states ns) where
  -- a number of a level names a node of that level
  pub is_named : (level i : ℕ) → NamesPart ns level (suc i) → (i < length ns) × (node_level (node_at ns i) ≡ level)
  is_named level i named = (let low = names_low ns level (suc i) named in omega arith, names_level ns level i (Leaf []) named)

  none_shown : (level : ℕ) → IsShown ns level 0
  none_shown level = own_shows ns level 0 (λ x y. 0) (corner_zero (λ x y. 0) (λ x y. refl)) (none_ends (2 ^ level))

  -- by the numbers below
  shown_below : (most level n : ℕ) → n ≤ most → NamesPart ns level n → IsShown ns level n
  shown_below most level zero h named = none_shown level
  shown_below zero level (suc i) h named = absurd (omega arith)
  shown_below (suc most) level (suc i) h named =
      let at = is_named level i named in
      let node = is_node states ns well i at.0 in
      let both = node_shown states ns i (node_at ns i) (λ l n k. shown_below most l n (omega arith)) node.follows node.form in
      own_shows ns level (suc i) (node_cells ns (node_at ns i)) (subst (λ p. IsPictureOfSquare p (node_cells ns (node_at ns i))) (sym node.square) both.0)
      (subst (λ l. EndsWithin (2 ^ l) (node_cells ns (node_at ns i))) at.1 both.1)

  pub shown : (level n : ℕ) → NamesPart ns level n → IsShown ns level n
  shown level n = shown_below n level n (omega arith)

  -- the cells of a number are those of its node
  pub cells_are : (i : ℕ) → i < length ns → (x y : ℕ) → cells_at ns (suc i) x y ≡ node_cells ns (node_at ns i) x y
  cells_are i low x y =
      let node = is_node states ns well i low in
      let both = node_shown states ns i (node_at ns i) (λ l n k. shown l n) node.follows node.form in
      ap (λ p. cell p (pos x) (pos y)) node.square ∙ both.0 (pos x) (pos y)

  -- ---- no number but 0 is that of an empty square

  no_state : (b : Bool) → leaf_state b ≡ 0 → not b ≡ true
  no_state true h = absurd (omega arith)
  no_state false h = refl

  row_none : (row : List Bool) → ((x : ℕ) → slice_index (map leaf_state row) x ≡ 0) → list_all not row ≡ true
  row_none [] h = refl
  row_none (b ∷ row) h = and_from (not b) (list_all not row) (no_state b (h 0)) (row_none row (λ x. h (suc x)))

  rows_none : (rows : List (List Bool)) → IsEmpty (in_leaf rows) → list_all (list_all not) rows ≡ true
  rows_none [] h = refl
  rows_none (row ∷ rows) h = and_from (list_all not row) (list_all (list_all not) rows) (row_none row (λ x. h x 0)) (rows_none rows (λ x y. h x (suc y)))

  four_none : (a b c d : ℕ) → a ≡ 0 → b ≡ 0 → c ≡ 0 → d ≡ 0 → list_all (λ n. n == 0) (a ∷ b ∷ c ∷ d ∷ []) ≡ true
  four_none a b c d p q r s = rw (p, q, r, s) refl

  nothing_together : (side x y : ℕ) → 0 ≡ joined_cells side (λ x y. 0) (λ x y. 0) (λ x y. 0) (λ x y. 0) x y
  nothing_together side x y =
      elim (cases_Bool (nat_lt y side)) [
        | inl e ↦ elim (cases_Bool (nat_lt x side)) [ inl f ↦ rw (e, f) refl | inr f ↦ rw (e, f) refl ]
        | inr e ↦ elim (cases_Bool (nat_lt x side)) [ inl f ↦ rw (e, f) refl | inr f ↦ rw (e, f) refl ]
      ]

  node_dead : (i : ℕ) (node : Node) → ((level n : ℕ) → n ≤ i → NamesPart ns level n → IsEmpty (cells_at ns n) → n ≡ 0) → Follows ns i node → IsEmpty (node_cells ns node) → is_empty node ≡ true
  node_dead i (Leaf rows) part follows h = rows_none rows h
  node_dead i (Cells nw ne sw se) part follows h = four_none nw ne sw se (h 0 0) (h 1 0) (h 0 1) (h 1 1)
  node_dead i (Parts level nw ne sw se) part follows h =
      let side = 2 ^ (level - 1) in
      let none : ℕ → ℕ → ℕ = λ x y. 0 in
      let p = cells_at ns nw in
      let q = cells_at ns ne in
      let r = cells_at ns sw in
      let s = cells_at ns se in
      let same : (x y : ℕ) → joined_cells side p q r s x y ≡ joined_cells side none none none none x y = λ x y. h x y ∙ nothing_together side x y in
      four_none nw ne sw se
      (part (level - 1) nw follows.1.1 follows.1.0 (same_nw side p q r s none none none none same (shown (level - 1) nw follows.1.0).ends (none_ends side)))
      (part (level - 1) ne follows.2.1 follows.2.0 (same_ne side p q r s none none none none same (shown (level - 1) ne follows.2.0).ends (none_ends side)))
      (part (level - 1) sw follows.3.1 follows.3.0 (same_sw side p q r s none none none none same (shown (level - 1) sw follows.3.0).ends (none_ends side)))
      (part (level - 1) se follows.4.1 follows.4.0 (same_se side p q r s none none none none same))

  dead_below : (most level n : ℕ) → n ≤ most → NamesPart ns level n → IsEmpty (cells_at ns n) → n ≡ 0
  dead_below most level zero h named none = refl
  dead_below zero level (suc i) h named none = absurd (omega arith)
  dead_below (suc most) level (suc i) h named none =
      let at = is_named level i named in
      let node = is_node states ns well i at.0 in
      let dead : is_empty (node_at ns i) ≡ true =
      node_dead i (node_at ns i) (λ l n k. dead_below most l n (omega arith)) node.follows (λ x y. sym (cells_are i at.0 x y) ∙ none x y) in
      absurd (let z = sym node.live ∙ dead in cc)

  pub dead_number : (level n : ℕ) → NamesPart ns level n → IsEmpty (cells_at ns n) → n ≡ 0
  dead_number level n = dead_below n level n (omega arith)
