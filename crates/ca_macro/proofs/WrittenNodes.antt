-- The nodes that are written for squares: leaves, and squares of numbered parts.
use Rattle.std.proofs.Common.{◌≡◌, ◌≢◌, ℕ, zero, suc, ◌+◌, ◌-◌, ◌/◌, ◌%◌, ◌<◌, ◌≤◌, ◌^◌, ◌==◌, inl, inr, Bool, true, false, pos, List, [], ◌∷◌, ◌++◌, map, length, Result, Ok, Err, Option, Some, IfOk, OnOk, slice_index, refl, sym, ap, subst, ◌∙◌, arith, length-append}
use Rattle.std.specs.List.{AllByRecursion, last_or}
use Rattle.std.proofs.Math.Nat.{two-pow-succ}
use Rattle.std.proofs.lemmas.Bool.{cases_Bool, eqb-true}
use Rattle.std.proofs.lemmas.Bool.Decides.{nat_tests}
use Rattle.std.proofs.lemmas.List.{length-map}
use Rattle.ca_plane.specs.Prelude.{Picture, row_cells}
use Rattle.ca_quad.specs.declared.node.Node.{Node as Kept}
use Rattle.ca_quad.specs.Squares as squares
use Rattle.ca_quad.specs.Prelude.{one_cell, joined_cells, IsOf, square_value, IsIn, IsEmpty, AreQuarters}
use Rattle.ca_quad.specs.inner.Measure.{EndsWithin}
use Rattle.ca_quad.proofs.Cells.{cell_ends, at_nw, at_ne, at_sw, at_se}
use Rattle.ca_plane.proofs.Numbers.{below_or_not}
use Rattle.ca_macro.specs.Prelude.{Node, Leaf, Cells, Parts, NamesPart, numbered_square, joined_picture, node_picture, squares_after, squares_of, leaf_state}
use Rattle.ca_macro.specs.inner.Written.{row_marks, kept_cells, IsPictureOfSquare, IsWrittenNumber, IsNodeOf, Extends, KeepsFirstOrder, leaf_level, HasFitParts}
use Rattle.ca_macro.proofs.Lines.{unequal}
use Rattle.ca_macro.proofs.Pictures.{NoneDead, rows_live, shifted_live, leaf_shows, four_show, joined_show, picture_as}
use Rattle.ca_macro.proofs.Gathering.{corner_zero, number_goes_on}
use Rattle.ca_plane.proofs.Elements.{all_append}

-- ---- no picture of a node lists a dead cell

numbered_live : (lists : List Picture) → AllByRecursion NoneDead lists → (n : ℕ) → NoneDead (numbered_square lists n)
numbered_live lists a zero = tt
numbered_live [] a (suc i) = tt
numbered_live (l ∷ ls) a (suc zero) = a.0
numbered_live (l ∷ ls) a (suc (suc i)) = numbered_live ls a.1 (suc i)

square_live : (earlier : List Picture) → AllByRecursion NoneDead earlier → (node : Node) → NoneDead (node_picture earlier node)
square_live earlier a (Leaf rows) = rows_live (map (map leaf_state) rows) (pos 0)
square_live earlier a (Cells nw ne sw se) = rows_live ((nw ∷ ne ∷ []) ∷ (sw ∷ se ∷ []) ∷ []) (pos 0)
square_live earlier a (Parts level nw ne sw se) =
    let live = numbered_live earlier a in
    let half = pos (2 ^ (level - 1)) in
    all_append _ _ _ (live nw)
    (all_append _ _ _ (shifted_live (numbered_square earlier ne) half (pos 0) (live ne))
    (all_append _ _ _ (shifted_live (numbered_square earlier sw) (pos 0) half (live sw)) (shifted_live (numbered_square earlier se) half half (live se))))

squares_live : (earlier : List Picture) (ns : List Node) → AllByRecursion NoneDead earlier → AllByRecursion NoneDead (squares_after earlier ns)
squares_live earlier [] a = a
squares_live earlier (n ∷ ns) a = squares_live (earlier ++ node_picture earlier n ∷ []) ns (all_append NoneDead earlier (node_picture earlier n ∷ []) a (square_live earlier a n, tt))

pub live_at : (ns : List Node) (n : ℕ) → NoneDead (numbered_square (squares_of ns) n)
live_at ns n = numbered_live (squares_of ns) (squares_live [] ns tt) n

-- ---- an empty square has the number 0

pub empty_number : (kept : List Kept) (ns : List Node) (id : ℕ) → IsEmpty (kept_cells kept id) → IsWrittenNumber kept ns id 0
empty_number kept ns id h = record {
  at_most = omega arith;
  names = tt;
  shows = λ x y. corner_zero (kept_cells kept id) h x y;
}

-- ---- leaves

last_live : (width bits : ℕ) (d : Option Bool) → bits < 2 ^ width → (bits == 0) ≡ false → last_or d (row_marks width bits) ≡ Some true
last_live zero bits d h some = let z : bits ≢ 0 = λ e. grind (arith, nat_tests) in absurd (z (omega arith))
last_live (suc width) bits d h some =
    let half : bits / 2 < 2 ^ width = omega (arith, two-pow-succ width) in
    elim (cases_Bool (bits / 2 == 0)) [
      | inl e ↦
          let z : bits / 2 ≡ 0 = eqb-true (bits / 2) 0 e in
          let n : bits ≢ 0 = λ k. grind (arith, nat_tests) in
          let one : bits % 2 ≡ 1 = omega arith in
          let t : (bits % 2 == 1) ≡ true = rw one refl in
          rw (some, z, t) (none_after width)
      | inr e ↦ rw some (last_live width (bits / 2) (Some (bits % 2 == 1)) half e)
    ]
  where
    none_after : (width : ℕ) → last_or (Some true) (row_marks width 0) ≡ Some true
    none_after zero = refl
    none_after (suc width) = refl

ends_live : (bits : ℕ) → bits < 256 → last_or (Some true) (row_marks 8 bits) ≡ Some true
ends_live bits h =
    elim (cases_Bool (bits == 0)) [
      | inl e ↦ let z : bits ≡ 0 = eqb-true bits 0 e in rw z refl
      | inr e ↦ last_live 8 bits (Some true) h e
    ]

all_end_live : (bytes : List ℕ) → ((y : ℕ) → slice_index bytes y < 256) → AllByRecursion (λ row. last_or (Some true) row ≡ Some true) (map (row_marks 8) bytes)
all_end_live [] low = tt
all_end_live (b ∷ bs) low = (ends_live b (low 0), all_end_live bs (λ y. low (suc y)))

row_length : (width bits : ℕ) → length (row_marks width bits) ≤ width
row_length zero bits = omega arith
row_length (suc width) bits =
    elim (cases_Bool (bits == 0)) [
      | inl e ↦ rw e (omega arith)
      | inr e ↦ rw e (let l = row_length width (bits / 2) in omega arith)
    ]

all_short : (bytes : List ℕ) → AllByRecursion (λ row. length row ≤ 8) (map (row_marks 8) bytes)
all_short [] = tt
all_short (b ∷ bs) = (row_length 8 b, all_short bs)

-- the level that the test of the states tells
pub two_level : (states level : ℕ) → states ≡ 2 → level ≡ leaf_level states → level ≡ 3
two_level states level e h = h ∙ rw e refl

pub one_level : (states level : ℕ) → (states ≡ 2 → ⊥) → level ≡ leaf_level states → level ≡ 1
one_level states level e h = let f = unequal states 2 e in h ∙ rw f refl

some_level : (states : ℕ) → 1 ≤ leaf_level states
some_level states = elim (cases_Bool (states == 2)) [ inl e ↦ rw e (omega arith) | inr e ↦ rw e (omega arith) ]

-- the level of a square that is no leaf
pub large_level : (states k level : ℕ) → suc k ≡ level → leaf_level states ≤ k → 2 ≤ level
large_level states k level next h = let s = some_level states in omega arith

pub level_form : (states k level : ℕ) → suc k ≡ level → leaf_level states ≤ k → states ≡ 2 → 4 ≤ level
level_form states k level next h e = let three : leaf_level states ≡ 3 = rw e refl in omega arith

pub leaf_node : (kept : List Kept) (states : ℕ) (ns : List Node) (id : ℕ) (bytes : List ℕ) → states ≡ 2 → squares.level_of kept id ≡ 3 → length bytes ≡ 8 → ((y : ℕ) → slice_index bytes y < 256)
    → ((x y : ℕ) → squares.cell_of kept 3 id x y ≡ row_cells bytes x y) → IsNodeOf kept states ns id (Leaf (map (row_marks 8) bytes))
leaf_node kept states ns id bytes two level eight low shows = record {
  in_place = tt;
  form = (two, length-map bytes (row_marks 8) ∙ eight, all_short bytes, all_end_live bytes low);
  level = sym level;
  shows = leaf_shows bytes (kept_cells kept id) low (subst (λ l. (x y : ℕ) → squares.cell_of kept l id x y ≡ row_cells bytes x y) (sym level) shows);
}

pub cells_node : (kept : List Kept) (states : ℕ) (ns : List Node) (id nw ne sw se : ℕ) → (states ≡ 2 → ⊥) → squares.level_of kept id ≡ 1 → nw < 256 → ne < 256 → sw < 256 → se < 256
    → ((x y : ℕ) → squares.cell_of kept 1 id x y ≡ joined_cells 1 (one_cell nw) (one_cell ne) (one_cell sw) (one_cell se) x y) → IsNodeOf kept states ns id (Cells nw ne sw se)
cells_node kept states ns id nw ne sw se two level a b c d shows = record {
  in_place = (omega arith, (omega arith, (omega arith, (omega arith, tt))));
  form = two;
  level = sym level;
  shows = four_show nw ne sw se (kept_cells kept id) (subst (λ l. (x y : ℕ) → squares.cell_of kept l id x y ≡ joined_cells 1 (one_cell nw) (one_cell ne) (one_cell sw) (one_cell se) x y) (sym level) shows);
}

-- ---- parts

-- a square of this level, whose states are below this number
pub record IsFit (kept : List Kept) (states k id : ℕ) : Type 0 where
  pub before : IsIn kept id
  pub level : squares.level_of kept id ≡ k
  pub low : (x y : ℕ) → kept_cells kept id x y < states

low_ends : (side states : ℕ) (f : ℕ → ℕ → ℕ) → EndsWithin side f → 0 < states → ((x y : ℕ) → x < side → y < side → f x y < states) → (x y : ℕ) → f x y < states
low_ends side states f ends some low x y =
    elim (below_or_not x side) [
      | inl h ↦ elim (below_or_not y side) [
        | inl i ↦ low x y h i
        | inr i ↦ subst (λ n. n < states) (sym (ends x y (inr i))) some
      ]
      | inr h ↦ subst (λ n. n < states) (sym (ends x y (inl h))) some
    ]

module _ (kept : List Kept) (id k level : ℕ) (qs : List ℕ) (next : suc k ≡ level) (is_level : squares.level_of kept id ≡ level) (q : AreQuarters kept id k qs) where
  part : ℕ → ℕ → ℕ → ℕ
  part i = squares.cell_of kept k (slice_index qs i)

  whole : (x y : ℕ) → kept_cells kept id x y ≡ joined_cells (2 ^ k) (part 0) (part 1) (part 2) (part 3) x y
  unfolding part
  whole x y = ap (λ l. squares.cell_of kept l id x y) (is_level ∙ sym next) ∙ q.has_cells x y

  module _ (states : ℕ) (low : (x y : ℕ) → kept_cells kept id x y < states) where
    some : 0 < states
    some = let h = low 0 0 in omega arith

    fit : (p : ℕ) → IsOf kept p k → ((x y : ℕ) → x < 2 ^ k → y < 2 ^ k → squares.cell_of kept k p x y < states) → IsFit kept states k p
    fit p is h = record {
      before = is.before;
      level = is.is_level;
      low = subst (λ l. (x y : ℕ) → squares.cell_of kept l p x y < states) (sym is.is_level) (low_ends (2 ^ k) states (squares.cell_of kept k p) (cell_ends kept k p) some h);
    }

    pub fit_nw : IsFit kept states k (slice_index qs 0)
    unfolding part
    fit_nw = fit (slice_index qs 0) q.is_nw (λ x y h i. subst (λ n. n < states) (whole x y ∙ at_nw (2 ^ k) (part 0) (part 1) (part 2) (part 3) x y h i) (low x y))

    pub fit_ne : IsFit kept states k (slice_index qs 1)
    unfolding part
    fit_ne = fit (slice_index qs 1) q.is_ne (λ x y h i. subst (λ n. n < states) (whole (2 ^ k + x) y ∙ at_ne (2 ^ k) (part 0) (part 1) (part 2) (part 3) x y i) (low (2 ^ k + x) y))

    pub fit_sw : IsFit kept states k (slice_index qs 2)
    unfolding part
    fit_sw = fit (slice_index qs 2) q.is_sw (λ x y h i. subst (λ n. n < states) (whole x (2 ^ k + y) ∙ at_sw (2 ^ k) (part 0) (part 1) (part 2) (part 3) x y h) (low x (2 ^ k + y)))

    pub fit_se : IsFit kept states k (slice_index qs 3)
    unfolding part
    fit_se = fit (slice_index qs 3) q.is_se (λ x y h i. subst (λ n. n < states) (whole (2 ^ k + x) (2 ^ k + y) ∙ at_se (2 ^ k) (part 0) (part 1) (part 2) (part 3) x y) (low (2 ^ k + x) (2 ^ k + y)))

  module _ (states : ℕ) (ns : List Node) (a b c d : ℕ) (na : IsWrittenNumber kept ns (slice_index qs 0) a) (nb : IsWrittenNumber kept ns (slice_index qs 1) b) (nc : IsWrittenNumber kept ns (slice_index qs 2) c) (nd : IsWrittenNumber kept ns (slice_index qs 3) d)
      (large : 2 ≤ level) (most : level ≤ 120) (form : states ≡ 2 → 4 ≤ level) where
    name : (p n : ℕ) → IsOf kept p k → IsWrittenNumber kept ns p n → NamesPart ns (level - 1) n
    name p n is h = let e : k ≡ level - 1 = omega arith in subst (λ l. NamesPart ns l n) (is.is_level ∙ e) h.names

    shown : (p n : ℕ) → IsOf kept p k → IsWrittenNumber kept ns p n → IsPictureOfSquare (numbered_square (squares_of ns) n) (squares.cell_of kept k p)
    shown p n is h = subst (λ l. IsPictureOfSquare (numbered_square (squares_of ns) n) (squares.cell_of kept l p)) is.is_level h.shows

    pub parts_node : IsNodeOf kept states ns id (Parts level a b c d)
    unfolding part
    parts_node =
        let e : k ≡ level - 1 = omega arith in
        let all = joined_show (2 ^ k) (part 0) (part 1) (part 2) (part 3) (cell_ends kept k (slice_index qs 0)) (cell_ends kept k (slice_index qs 1)) (cell_ends kept k (slice_index qs 2))
        (numbered_square (squares_of ns) a) (numbered_square (squares_of ns) b) (numbered_square (squares_of ns) c) (numbered_square (squares_of ns) d)
        (live_at ns a) (live_at ns b) (live_at ns c) (shown _ a q.is_nw na) (shown _ b q.is_ne nb) (shown _ c q.is_sw nc) (shown _ d q.is_se nd) in
        record {
          in_place = ((large, most), (name _ a q.is_nw na, (name _ b q.is_ne nb, (name _ c q.is_sw nc, (name _ d q.is_se nd, tt)))));
          form = form;
          level = sym is_level;
          shows = subst (λ l. IsPictureOfSquare (node_picture (squares_of ns) (Parts level a b c d)) (kept_cells kept id)) e
              (picture_as (node_picture (squares_of ns) (Parts level a b c d)) (joined_cells (2 ^ k) (part 0) (part 1) (part 2) (part 3)) (kept_cells kept id) (λ x y. sym (whole x y))
              (subst (λ l. IsPictureOfSquare (joined_picture (2 ^ l) (numbered_square (squares_of ns) a) (numbered_square (squares_of ns) b) (numbered_square (squares_of ns) c) (numbered_square (squares_of ns) d)) (joined_cells (2 ^ k) (part 0) (part 1) (part 2) (part 3))) e all));
        }

-- a square that is no leaf is written by its four parts
pub has_fit_parts : (kept : List Kept) (states id level leaf : ℕ) (qs : List ℕ) → IsIn kept id
    → leaf_level states ≤ squares.level_of kept id → squares.level_of kept id ≤ 120
    → ((x y : ℕ) → kept_cells kept id x y < states) → level ≡ squares.level_of kept id
    → leaf ≡ leaf_level states → level ≢ leaf
    → ((k : ℕ) → IsOf kept id (suc k) → AreQuarters kept id k qs) → HasFitParts kept states id qs
has_fit_parts kept states id level leaf qs known least most low is_level is_leaf other quarters =
    let some = some_level states in
    let next : squares.level_of kept id ≡ suc (squares.level_of kept id - 1) = omega arith in record {
      least = elim (below_or_not (leaf_level states) (squares.level_of kept id)) [
        | inl h ↦ h
        | inr h ↦ absurd (other (omega arith))
      ];
      most = most;
      low = low;
      quarters = quarters (squares.level_of kept id - 1) (record { before = known; is_level = next });
    }

-- one of its parts
pub record IsFitPart (kept : List Kept) (states id part : ℕ) : Type 0 where
  pub before : IsIn kept part
  pub lower : suc (squares.level_of kept part) ≡ squares.level_of kept id
  pub least : leaf_level states ≤ squares.level_of kept part
  pub most : squares.level_of kept part ≤ 120
  pub low : (x y : ℕ) → kept_cells kept part x y < states

-- the values of larger squares stay
abbrev pub KeepsLarger : List Kept → ℕ → (old new : List (ℕ × ℕ)) → Type 0
KeepsLarger kept id old new = (one : ℕ) → squares.level_of kept id < squares.level_of kept one
    → square_value new one ≡ square_value old one

module _ (kept : List Kept) (states id : ℕ) (qs : List ℕ) (has : HasFitParts kept states id qs) where
  -- the level of its parts
  below : ℕ
  below = squares.level_of kept id - 1

  next : suc below ≡ squares.level_of kept id
  unfolding below
  next = omega (arith, has.least)

  from : leaf_level states ≤ below
  unfolding below
  from = omega (arith, has.least)

  quarters : AreQuarters kept id below qs
  unfolding below
  quarters = has.quarters

  fit_part : (i p : ℕ) → IsFit kept states below (slice_index qs i) → p ≡ slice_index qs i
      → IsFitPart kept states id p
  fit_part i p fit e =
      let is_level = fit.level in
      let low = from in
      let most = has.most in
      let one = next in
      subst (IsFitPart kept states id) (sym e) (record {
        before = fit.before;
        lower = omega arith;
        least = omega arith;
        most = omega arith;
        low = fit.low;
      })

  pub part_nw : (p : ℕ) → p ≡ slice_index qs 0 → IsFitPart kept states id p
  part_nw p = fit_part 0 p (fit_nw kept id below _ qs next refl quarters states has.low)

  pub part_ne : (p : ℕ) → p ≡ slice_index qs 1 → IsFitPart kept states id p
  part_ne p = fit_part 1 p (fit_ne kept id below _ qs next refl quarters states has.low)

  pub part_sw : (p : ℕ) → p ≡ slice_index qs 2 → IsFitPart kept states id p
  part_sw p = fit_part 2 p (fit_sw kept id below _ qs next refl quarters states has.low)

  pub part_se : (p : ℕ) → p ≡ slice_index qs 3 → IsFitPart kept states id p
  part_se p = fit_part 3 p (fit_se kept id below _ qs next refl quarters states has.low)

  -- where each part leaves what larger squares have, all four leave what this square and larger ones have
  pub parts_keep : (p0 p1 p2 p3 : ℕ) → p0 ≡ slice_index qs 0 → p1 ≡ slice_index qs 1 → p2 ≡ slice_index qs 2
      → p3 ≡ slice_index qs 3 → (v0 v1 v2 v3 v4 : List (ℕ × ℕ))
      → KeepsLarger kept p0 v0 v1 → KeepsLarger kept p1 v1 v2
      → KeepsLarger kept p2 v2 v3 → KeepsLarger kept p3 v3 v4
      → (one : ℕ) → squares.level_of kept id ≤ squares.level_of kept one
      → square_value v4 one ≡ square_value v0 one
  parts_keep p0 p1 p2 p3 e0 e1 e2 e3 v0 v1 v2 v3 v4 k0 k1 k2 k3 one high =
      let lower : (p : ℕ) → IsFitPart kept states id p → squares.level_of kept p < squares.level_of kept one =
      λ p fit. omega (arith, fit.lower) in
      k3 one (lower p3 (part_se p3 e3)) ∙ k2 one (lower p2 (part_sw p2 e2))
      ∙ k1 one (lower p1 (part_ne p1 e1)) ∙ k0 one (lower p0 (part_nw p0 e0))

  -- the node of its parts' numbers
  pub numbered_node : (ns : List Node) (level p0 p1 p2 p3 a b c d : ℕ) → level ≡ squares.level_of kept id
      → p0 ≡ slice_index qs 0 → p1 ≡ slice_index qs 1 → p2 ≡ slice_index qs 2 → p3 ≡ slice_index qs 3
      → IsWrittenNumber kept ns p0 a → IsWrittenNumber kept ns p1 b → IsWrittenNumber kept ns p2 c → IsWrittenNumber kept ns p3 d
      → IsNodeOf kept states ns id (Parts level a b c d)
  numbered_node ns level p0 p1 p2 p3 a b c d is e0 e1 e2 e3 na nb nc nd =
      subst (λ l. IsNodeOf kept states ns id (Parts l a b c d)) (sym is)
      (parts_node kept id below _ qs next refl quarters states ns a b c d
      (subst (λ p. IsWrittenNumber kept ns p a) e0 na) (subst (λ p. IsWrittenNumber kept ns p b) e1 nb)
      (subst (λ p. IsWrittenNumber kept ns p c) e2 nc) (subst (λ p. IsWrittenNumber kept ns p d) e3 nd)
      (large_level states below _ next from) has.most (level_form states below _ next from))

pub number_extends : (kept : List Kept) (old new : List Node) (id n : ℕ) → Extends old new → IsWrittenNumber kept old id n → IsWrittenNumber kept new id n
number_extends kept old new id n x h = subst (λ l. IsWrittenNumber kept l id n) (sym x.1) (number_goes_on kept old x.0 id n h)

-- a new node is the last
pub goes_on_ok : {E : Type 0} (r : Result ℕ E) (old mid new : List Node) (node : Node) → OnOk r (new ≡ mid ++ node ∷ []) → IfOk r (λ n. n ≡ length new) → KeepsFirstOrder old (mid ++ node ∷ []) (suc (length mid)) → IfOk r (KeepsFirstOrder old new)
goes_on_ok (Ok n) old mid new node more last goes =
    let e : suc (length mid) ≡ n = let f = ap length more ∙ length-append mid (node ∷ []) in omega arith in
    subst (λ l. KeepsFirstOrder old l n) (sym more) (subst (KeepsFirstOrder old (mid ++ node ∷ [])) e goes)
goes_on_ok (Err e) old mid new node more last goes = tt
