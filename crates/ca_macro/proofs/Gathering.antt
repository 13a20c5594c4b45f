-- One node more after those that were gathered.
use Rattle.std.proofs.Common.{◌≡◌, ◌≢◌, ℕ, zero, suc, ◌-◌, ◌<◌, ◌≤◌, ◌==◌, inl, inr, Bool, true, false, not, ℤ, pos, negsuc, List, [], ◌∷◌, ◌++◌, map, length, Some, None, cond, option_map, refl, sym, ap, subst, ◌∙◌, arith, append_assoc, append-nil, length-append}
use Rattle.std.specs.List.{AllPairs, slice_index_or, slice_get, list_all}
use Rattle.std.proofs.Math.ListN.{get_or-append}
use Rattle.std.proofs.Math.Seq.{get_or-append_seam}
use Rattle.std.proofs.lemmas.Bool.{cases_Bool, and_parts, eqb-true}
use Rattle.std.proofs.lemmas.Bool.Decides.{nat_tests}
use Rattle.std.proofs.lemmas.List.{length-map, map-append}
use Rattle.std.proofs.lemmas.Option.{same_Some}
use Rattle.ca_plane.specs.Prelude.{Picture, cell, from_corner}
use Rattle.ca_quad.specs.declared.node.Node.{Node as Kept}
use Rattle.ca_quad.specs.Squares as squares
use Rattle.ca_quad.specs.Prelude.{IsSoundStore, square_value, IsIn, IsEmpty}
use Rattle.ca_quad.proofs.Cells.{same_cells}
use Rattle.ca_plane.proofs.Numbers.{below_or_not}
use Rattle.ca_quad.proofs.Measures.{one_more}
use Rattle.ca_macro.specs.declared.write.written.WrittenNode.{WrittenNode}
use Rattle.ca_macro.specs.Prelude.{Node, Leaf, Cells, Parts, node_level, NamesPart, MayFollow, numbered_square, row_from, rows_from, leaf_state, node_picture, squares_of, AreInPlace, HasForm}
use Rattle.ca_macro.specs.Prelude.{is_empty}
use Rattle.ca_macro.specs.inner.Written.{node_of, kept_cells, IsPictureOfSquare, IsWrittenNumber, IsNodeOf, IsGathered}
use Rattle.ca_macro.proofs.Following.{square_stays, square_last}
use Rattle.ca_plane.proofs.Elements.{all_append}

-- ---- places in lists of nodes

in_place_more : (earlier ns : List Node) (node : Node) → AreInPlace earlier ns → MayFollow (earlier ++ ns) node → AreInPlace earlier (ns ++ node ∷ [])
in_place_more earlier [] node h s = (subst (λ l. MayFollow l node) (append-nil earlier) s, tt)
in_place_more earlier (n ∷ ns) node h s = (h.0, in_place_more (earlier ++ n ∷ []) ns node h.1 (subst (λ l. MayFollow l node) (sym (append_assoc earlier (n ∷ []) ns)) s))

pub in_place_at : (earlier front : List Node) (n : Node) (rest : List Node) → AreInPlace earlier (front ++ n ∷ rest) → MayFollow (earlier ++ front) n
in_place_at earlier [] n rest h = subst (λ l. MayFollow l n) (sym (append-nil earlier)) h.0
in_place_at earlier (m ∷ front) n rest h = subst (λ l. MayFollow l n) (append_assoc earlier (m ∷ []) front) (in_place_at (earlier ++ m ∷ []) front n rest h.1)

pub split_at : (ns : List Node) (i : ℕ) (d : Node) → i < length ns → (front : List Node) × (rest : List Node) × (ns ≡ front ++ slice_index_or ns i d ∷ rest) × (length front ≡ i)
split_at [] i d h = absurd (omega arith)
split_at (n ∷ ns) zero d h = ([], ns, refl, refl)
split_at (n ∷ ns) (suc i) d h =
    let s = split_at ns i d (omega arith) in
    (n ∷ s.0, s.1, ap (λ l. n ∷ l) s.2, let e = s.3 in omega arith)

names_get : (ns ms : List Node) (level i : ℕ) → option_map node_level (slice_get ns i) ≡ Some level → option_map node_level (slice_get (ns ++ ms) i) ≡ Some level
names_get [] ms level i h = absurd cc
names_get (n ∷ ns) ms level zero h = h
names_get (n ∷ ns) ms level (suc i) h = names_get ns ms level i h

pub names_stay : (ns ms : List Node) (level n : ℕ) → NamesPart ns level n → NamesPart (ns ++ ms) level n
names_stay ns ms level zero h = tt
names_stay ns ms level (suc i) h = names_get ns ms level i h

pub names_low : (ns : List Node) (level n : ℕ) → NamesPart ns level n → n ≤ length ns
names_low ns level zero h = omega arith
names_low [] level (suc i) h = absurd cc
names_low (n ∷ ns) level (suc zero) h = omega arith
names_low (n ∷ ns) level (suc (suc i)) h = let r = names_low ns level (suc i) h in omega arith

-- what holds of each number of these nodes holds of those of a node's parts
pub each_part : (ns : List Node) (level nw ne sw se : ℕ) → MayFollow ns (Parts level nw ne sw se) → (P : ℕ → Type 0) → ((n : ℕ) → n ≤ length ns → P n) → P nw × P ne × P sw × P se
each_part ns level nw ne sw se h P each =
    let low = names_low ns (level - 1) in
    (each nw (low nw h.1.0), each ne (low ne h.1.1.0), each sw (low sw h.1.1.1.0), each se (low se h.1.1.1.1.0))

get_last : (ns : List Node) (n : Node) → slice_get (ns ++ n ∷ []) (length ns) ≡ Some n
get_last [] n = refl
get_last (m ∷ ns) n = get_last ns n

pub names_level : (ns : List Node) (level i : ℕ) (d : Node) → option_map node_level (slice_get ns i) ≡ Some level → node_level (slice_index_or ns i d) ≡ level
names_level [] level i d h = absurd cc
names_level (n ∷ ns) level zero d h = same_Some (node_level n) level h
names_level (n ∷ ns) level (suc i) d h = names_level ns level i d h

-- ---- pictures of nodes

square_of_stays : (ns ms : List Node) (node : Node) → MayFollow ns node → node_picture (squares_of (ns ++ ms)) node ≡ node_picture (squares_of ns) node
square_of_stays ns ms (Leaf rows) h = refl
square_of_stays ns ms (Cells nw ne sw se) h = refl
square_of_stays ns ms (Parts level nw ne sw se) h =
    let e = each_part ns level nw ne sw se h (λ n. numbered_square (squares_of (ns ++ ms)) n ≡ numbered_square (squares_of ns) n) (square_stays ns ms) in
    rw (e.0, e.1, e.2, e.3) refl

-- what has a number shows what its node shows
pub square_at : (ns : List Node) (i : ℕ) (d : Node) → AreInPlace [] ns → i < length ns → numbered_square (squares_of ns) (suc i) ≡ node_picture (squares_of ns) (slice_index_or ns i d)
square_at ns i d h low =
    let s = split_at ns i d low in
    let node = slice_index_or ns i d in
    let stands : MayFollow s.0 node = in_place_at [] s.0 node s.1 (subst (AreInPlace []) s.2 h) in
    let again : (s.0 ++ node ∷ []) ++ s.1 ≡ ns = append_assoc s.0 (node ∷ []) s.1 ∙ sym s.2 in
    let count = length-append s.0 (node ∷ []) in
    let first : numbered_square (squares_of ns) (suc (length s.0)) ≡ node_picture (squares_of s.0) node =
    ap (λ l. numbered_square (squares_of l) (suc (length s.0))) (sym again) ∙ square_stays (s.0 ++ node ∷ []) s.1 (suc (length s.0)) (omega arith) ∙ square_last s.0 node in
    let second : node_picture (squares_of ns) node ≡ node_picture (squares_of s.0) node =
    ap (λ l. node_picture (squares_of l) node) s.2 ∙ square_of_stays s.0 (node ∷ s.1) node stands in
    ap (λ k. numbered_square (squares_of ns) (suc k)) (sym s.3) ∙ first ∙ sym second

-- ---- squares with one picture are one

same_shown : (p : Picture) (f g : ℕ → ℕ → ℕ) → IsPictureOfSquare p f → IsPictureOfSquare p g → (x y : ℕ) → f x y ≡ g x y
same_shown p f g a b x y = sym (a (pos x) (pos y)) ∙ b (pos x) (pos y)

one_square : (kept : List Kept) → IsSoundStore kept → (a b : ℕ) → IsIn kept a → IsIn kept b → squares.level_of kept a ≡ squares.level_of kept b → (p : Picture) → IsPictureOfSquare p (kept_cells kept a) → IsPictureOfSquare p (kept_cells kept b) → a ≡ b
one_square kept sound a b h i same p f g =
    let level = squares.level_of kept a in
    let at : IsPictureOfSquare p (squares.cell_of kept level b) = subst (λ l. IsPictureOfSquare p (squares.cell_of kept l b)) (sym same) g in
    same_cells kept sound level a b (record { before = h; is_level = refl }) (record { before = i; is_level = sym same })
    (same_shown p (kept_cells kept a) (squares.cell_of kept level b) f at)

-- ---- nodes without live cells

dead_row : (row : List Bool) (x y : ℤ) → list_all not row ≡ true → row_from x y (map leaf_state row) ≡ []
dead_row [] x y h = refl
dead_row (true ∷ row) x y h = absurd cc
dead_row (false ∷ row) x y h = dead_row row _ y h

dead_rows : (rows : List (List Bool)) (y : ℤ) → list_all (list_all not) rows ≡ true → rows_from y (map (map leaf_state) rows) ≡ []
dead_rows [] y h = refl
dead_rows (row ∷ rows) y h =
    let p = and_parts (list_all not row) (list_all (list_all not) rows) h in
    rw (dead_row row (pos 0) y p.0) (dead_rows rows _ p.1)

pub four_dead : (a b c d : ℕ) → list_all (λ n. n == 0) (a ∷ b ∷ c ∷ d ∷ []) ≡ true → (a ≡ 0) × (b ≡ 0) × (c ≡ 0) × (d ≡ 0)
four_dead a b c d h =
    let p = and_parts (a == 0) _ h in
    let q = and_parts (b == 0) _ p.1 in
    let r = and_parts (c == 0) _ q.1 in
    let s = and_parts (d == 0) true r.1 in
    (eqb-true a 0 p.0, eqb-true b 0 q.0, eqb-true c 0 r.0, eqb-true d 0 s.0)

pub dead_square : (earlier : List Picture) (node : Node) → is_empty node ≡ true → node_picture earlier node ≡ []
dead_square earlier (Leaf rows) h = dead_rows rows (pos 0) h
dead_square earlier (Cells nw ne sw se) h = let z = four_dead nw ne sw se h in rw (z.0, z.1, z.2, z.3) refl
dead_square earlier (Parts level nw ne sw se) h = let z = four_dead nw ne sw se h in rw (z.0, z.1, z.2, z.3) refl

pub corner_zero : (f : ℕ → ℕ → ℕ) → IsEmpty f → (x y : ℤ) → 0 ≡ from_corner f x y
corner_zero f h (pos x) (pos y) = sym (h x y)
corner_zero f h (pos x) (negsuc y) = refl
corner_zero f h (negsuc x) (pos y) = refl
corner_zero f h (negsuc x) (negsuc y) = refl

live_node : (earlier : List Picture) (node : Node) (f : ℕ → ℕ → ℕ) → IsPictureOfSquare (node_picture earlier node) f → (IsEmpty f → ⊥) → is_empty node ≡ false
live_node earlier node f shows live =
    elim (cases_Bool (is_empty node)) [
      | inl e ↦ absurd (live (λ x y. sym (shows (pos x) (pos y)) ∙ ap (λ p. cell p (pos x) (pos y)) (dead_square earlier node e)))
      | inr e ↦ e
    ]

-- ---- numbers go on to name their squares

pub number_goes_on : (kept : List Kept) (ns ms : List Node) (id n : ℕ) → IsWrittenNumber kept ns id n → IsWrittenNumber kept (ns ++ ms) id n
number_goes_on kept ns ms id n h = record {
  at_most = let e = length-append ns ms in let f = h.at_most in omega arith;
  names = names_stay ns ms (squares.level_of kept id) n h.names;
  shows = subst (λ p. IsPictureOfSquare p (kept_cells kept id)) (sym (square_stays ns ms n h.at_most)) h.shows;
}

pub last_number : (kept : List Kept) (states : ℕ) (ns : List Node) (id : ℕ) (node : Node) → IsNodeOf kept states ns id node → IsWrittenNumber kept (ns ++ node ∷ []) id (suc (length ns))
last_number kept states ns id node h = record {
  at_most = let e = length-append ns (node ∷ []) in omega arith;
  names = ap (option_map node_level) (get_last ns node) ∙ ap Some h.level;
  shows = subst (λ p. IsPictureOfSquare p (kept_cells kept id)) (sym (square_last ns node)) h.shows;
}

-- ---- a node is put after the others

-- the nodes that are written with one more, and its number
pub written_more : (old new : List WrittenNode) (node : WrittenNode) (number : ℕ) → new ≡ old ++ node ∷ [] → number ≡ length new → (map node_of new ≡ map node_of old ++ node_of node ∷ []) × (suc (length (map node_of old)) ≡ number)
written_more old new node number more last =
    let nodes = ap (map node_of) more ∙ map-append node_of old (node ∷ []) in
    let count = ap length more ∙ length-append old (node ∷ []) in
    let same = length-map old node_of in
    (nodes, omega arith)

module _ (kept : List Kept) (sound : IsSoundStore kept) (states : ℕ) (ns : List Node) (old new : List (ℕ × ℕ)) (id : ℕ) (node : Node) (known : IsIn kept id)
    (gathered : IsGathered kept states ns old) (is : IsNodeOf kept states ns id node)
    (live : IsEmpty (kept_cells kept id) → ⊥) (none : square_value old id ≡ None)
    (put : (other : ℕ) → square_value new other
    ≡ cond (id == other) (Some (suc (length ns))) (square_value old other)) where
  other_node : (i : ℕ) (d : Node) → i < length ns → slice_index_or ns i d ≡ node → ⊥
  other_node i d low same =
      let e = gathered.each i low in
      let other = e.0 in
      let f = gathered.numbered other (suc i) e.1 in
      let level : squares.level_of kept other ≡ squares.level_of kept id =
      sym (names_level ns (squares.level_of kept other) i d f.1.names) ∙ ap node_level same ∙ is.level in
      let picture : numbered_square (squares_of ns) (suc i) ≡ node_picture (squares_of ns) node = square_at ns i d gathered.in_place low ∙ ap (node_picture (squares_of ns)) same in
      let one : other ≡ id = one_square kept sound other id f.0 known level (node_picture (squares_of ns) node) (subst (λ p. IsPictureOfSquare p (kept_cells kept other)) picture f.1.shows) is.shows in
      let some : square_value old id ≡ Some (suc i) = ap (square_value old) (sym one) ∙ e.1 in
      absurd (let z = sym none ∙ some in cc)

  distinct_more : AllPairs (λ m n. m ≢ n) (ns ++ node ∷ [])
  distinct_more = λ i j d h k.
      let count = length-append ns (node ∷ []) in
      let front : (i : ℕ) → i < length ns → slice_index_or (ns ++ node ∷ []) i d ≡ slice_index_or ns i d = λ i l. get_or-append ns (node ∷ []) d i l in
      elim (below_or_not j (length ns)) [
        | inl l ↦ λ e. gathered.distinct i j d h l (sym (front i (omega arith)) ∙ e ∙ front j l)
        | inr l ↦
            let at : j ≡ length ns = omega arith in
            λ e. other_node i d (omega arith) (sym (front i (omega arith)) ∙ e ∙ ap (λ k. slice_index_or (ns ++ node ∷ []) k d) at ∙ get_or-append_seam ns node [] d)
      ]

  abbrev IsNumbered : ℕ → ℕ → Type 0
  IsNumbered other n = IsIn kept other × IsWrittenNumber kept (ns ++ node ∷ []) other n

  numbered_more : (other n : ℕ) → square_value new other ≡ Some n → IsNumbered other n
  numbered_more =
      let before : (other n : ℕ) → square_value old other ≡ Some n → IsNumbered other n = λ other n e.
      let f = gathered.numbered other n e in (f.0, number_goes_on kept ns (node ∷ []) other n f.1) in
      one_more IsNumbered old new id (suc (length ns)) before (known, last_number kept states ns id node is) put

  each_more : (i : ℕ) → i < length (ns ++ node ∷ []) → (other : ℕ) × (square_value new other ≡ Some (suc i))
  each_more i h =
      let count = length-append ns (node ∷ []) in
      elim (below_or_not i (length ns)) [
        | inl l ↦
            let e = gathered.each i l in
            elim (cases_Bool (id == e.0)) [
              | inl t ↦
                  let same : id ≡ e.0 = eqb-true id e.0 t in
                  let some : square_value old id ≡ Some (suc i) = ap (square_value old) same ∙ e.1 in
                  absurd (let z = sym none ∙ some in cc)
              | inr t ↦ (e.0, put e.0 ∙ rw t e.1)
            ]
        | inr l ↦
            let at : i ≡ length ns = omega arith in
            let t : (id == id) ≡ true = grind (arith, nat_tests) in
            (id, put id ∙ rw t (ap (λ k. Some (suc k)) (sym at)))
      ]

  pub gathered_more : IsGathered kept states (ns ++ node ∷ []) new
  gathered_more = record {
    in_place = in_place_more [] ns node gathered.in_place is.in_place;
    forms = all_append (HasForm states) ns (node ∷ []) gathered.forms (is.form, tt);
    distinct = distinct_more;
    live = all_append (λ n. is_empty n ≡ false) ns (node ∷ []) gathered.live (live_node (squares_of ns) node (kept_cells kept id) is.shows live, tt);
    numbered = numbered_more;
    each = each_more;
  }
