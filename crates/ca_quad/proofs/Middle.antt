-- The middle of a square of sixteen parts, of which all but the inner four may be empty.
use Rattle.std.proofs.Common.{◌≡◌, ℕ, ◌+◌, ◌-◌, ◌^◌, suc, List, [], ◌∷◌, length, slice_index, refl, sym, ap, subst, ◌∙◌, arith}
use Rattle.std.specs.List.{All}
use Rattle.std.proofs.lemmas.List.Elements.{All-from_recursion, recursion_from_All}
use Rattle.ca_quad.specs.declared.node.Node.{Node}
use Rattle.ca_quad.specs.declared.square.Square.TheVariants.{Four, Parts}
use Rattle.ca_quad.specs.Prelude.{square_of, level, IsOf, one_cell, joined_cells, cell_of, HasParts, IsIn, IsEmpty, ShowsSquare, AreFour}
use Rattle.ca_quad.specs.inner.Ring.{IsEmptySquare, no_cells, with_ring, IsRinged, IsMiddleSquare}
use Rattle.ca_quad.specs.inner.Measure.{EndsWithin}
use Rattle.ca_quad.proofs.Cells.{twice, dot_ends, cell_ends, together_ends, same_nw, same_ne, same_sw, same_se}
use Rattle.ca_quad.proofs.Walks.{four_show, parts_show}
use Rattle.ca_quad.proofs.Rings.{sixteen, inside_sixteen, is_ringed, ringed_once}
use Rattle.ca_quad.proofs.ShownSquares.{together_same, ringed_as}

-- the twelve parts round the middle are empty
pub record IsHollow (f : ℕ → ℕ → ℕ → ℕ) : Type 0 where
  pub nw : IsEmpty (f 0) × IsEmpty (f 1) × IsEmpty (f 2)
  pub ne : IsEmpty (f 4) × IsEmpty (f 5) × IsEmpty (f 7)
  pub sw : IsEmpty (f 8) × IsEmpty (f 10) × IsEmpty (f 11)
  pub se : IsEmpty (f 13) × IsEmpty (f 14) × IsEmpty (f 15)

module _ (s : ℕ) (f : ℕ → ℕ → ℕ → ℕ) where
  nw : ℕ → ℕ → ℕ
  nw = joined_cells s (f 0) (f 1) (f 2) (f 3)

  ne : ℕ → ℕ → ℕ
  ne = joined_cells s (f 4) (f 5) (f 6) (f 7)

  sw : ℕ → ℕ → ℕ
  sw = joined_cells s (f 8) (f 9) (f 10) (f 11)

  se : ℕ → ℕ → ℕ
  se = joined_cells s (f 12) (f 13) (f 14) (f 15)

  ring_nw : ℕ → ℕ → ℕ
  ring_nw = joined_cells s no_cells no_cells no_cells (f 3)

  ring_ne : ℕ → ℕ → ℕ
  ring_ne = joined_cells s no_cells no_cells (f 6) no_cells

  ring_sw : ℕ → ℕ → ℕ
  ring_sw = joined_cells s no_cells (f 9) no_cells no_cells

  ring_se : ℕ → ℕ → ℕ
  ring_se = joined_cells s (f 12) no_cells no_cells no_cells

  -- then the middle has a ring round it
  pub hollow_ringed : IsHollow f → IsRinged s (joined_cells s (f 3) (f 6) (f 9) (f 12)) (sixteen s f)
  unfolding nw ne sw se ring_nw ring_ne ring_sw ring_se
  hollow_ringed h =
      ringed_as s (joined_cells s (f 3) (f 6) (f 9) (f 12)) (with_ring s (f 3) (f 6) (f 9) (f 12)) (joined_cells s (f 3) (f 6) (f 9) (f 12)) (sixteen s f) (is_ringed s (f 3) (f 6) (f 9) (f 12))
      (λ x y. refl)
      (together_same (s + s) nw ne sw se ring_nw ring_ne ring_sw ring_se
      (together_same s (f 0) (f 1) (f 2) (f 3) no_cells no_cells no_cells (f 3) h.nw.0 h.nw.1 h.nw.2 (λ x y. refl))
      (together_same s (f 4) (f 5) (f 6) (f 7) no_cells no_cells (f 6) no_cells h.ne.0 h.ne.1 (λ x y. refl) h.ne.2)
      (together_same s (f 8) (f 9) (f 10) (f 11) no_cells (f 9) no_cells no_cells h.sw.0 (λ x y. refl) h.sw.1 h.sw.2)
      (together_same s (f 12) (f 13) (f 14) (f 15) (f 12) no_cells no_cells no_cells (λ x y. refl) h.se.0 h.se.1 h.se.2))

  module _ (ends : (n : ℕ) → EndsWithin s (f n)) (small : ℕ → ℕ → ℕ) (h : IsRinged s small (sixteen s f)) where
    none_ends : EndsWithin s no_cells
    none_ends x y o = refl

    -- a ring round any cells is a ring round the middle
    middle_ringed : IsRinged s (joined_cells s (f 3) (f 6) (f 9) (f 12)) (sixteen s f)
    middle_ringed = record { inside = inside_sixteen s f; ring = h.ring }

    alike : (x y : ℕ) → sixteen s f x y ≡ with_ring s (f 3) (f 6) (f 9) (f 12) x y
    alike = ringed_once s (joined_cells s (f 3) (f 6) (f 9) (f 12)) (sixteen s f) (with_ring s (f 3) (f 6) (f 9) (f 12)) middle_ringed (is_ringed s (f 3) (f 6) (f 9) (f 12))

    alike_nw : (x y : ℕ) → joined_cells s (f 0) (f 1) (f 2) (f 3) x y ≡ joined_cells s no_cells no_cells no_cells (f 3) x y
    unfolding nw ne sw se ring_nw ring_ne ring_sw ring_se
    alike_nw = same_nw (s + s) nw ne sw se ring_nw ring_ne ring_sw ring_se alike
        (together_ends s (f 0) (f 1) (f 2) (f 3) (ends 0) (ends 1) (ends 2) (ends 3)) (together_ends s no_cells no_cells no_cells (f 3) none_ends none_ends none_ends (ends 3))

    alike_ne : (x y : ℕ) → joined_cells s (f 4) (f 5) (f 6) (f 7) x y ≡ joined_cells s no_cells no_cells (f 6) no_cells x y
    unfolding nw ne sw se ring_nw ring_ne ring_sw ring_se
    alike_ne = same_ne (s + s) nw ne sw se ring_nw ring_ne ring_sw ring_se alike
        (together_ends s (f 4) (f 5) (f 6) (f 7) (ends 4) (ends 5) (ends 6) (ends 7)) (together_ends s no_cells no_cells (f 6) no_cells none_ends none_ends (ends 6) none_ends)

    alike_sw : (x y : ℕ) → joined_cells s (f 8) (f 9) (f 10) (f 11) x y ≡ joined_cells s no_cells (f 9) no_cells no_cells x y
    unfolding nw ne sw se ring_nw ring_ne ring_sw ring_se
    alike_sw = same_sw (s + s) nw ne sw se ring_nw ring_ne ring_sw ring_se alike
        (together_ends s (f 8) (f 9) (f 10) (f 11) (ends 8) (ends 9) (ends 10) (ends 11)) (together_ends s no_cells (f 9) no_cells no_cells none_ends (ends 9) none_ends none_ends)

    alike_se : (x y : ℕ) → joined_cells s (f 12) (f 13) (f 14) (f 15) x y ≡ joined_cells s (f 12) no_cells no_cells no_cells x y
    unfolding nw ne sw se ring_nw ring_ne ring_sw ring_se
    alike_se = same_se (s + s) nw ne sw se ring_nw ring_ne ring_sw ring_se alike

    -- so the parts round it are empty
    pub ringed_hollow : IsHollow f
    ringed_hollow = record {
      nw = (same_nw s (f 0) (f 1) (f 2) (f 3) no_cells no_cells no_cells (f 3) alike_nw (ends 0) none_ends, same_ne s (f 0) (f 1) (f 2) (f 3) no_cells no_cells no_cells (f 3) alike_nw (ends 1) none_ends, same_sw s (f 0) (f 1) (f 2) (f 3) no_cells no_cells no_cells (f 3) alike_nw (ends 2) none_ends);
      ne = (same_nw s (f 4) (f 5) (f 6) (f 7) no_cells no_cells (f 6) no_cells alike_ne (ends 4) none_ends, same_ne s (f 4) (f 5) (f 6) (f 7) no_cells no_cells (f 6) no_cells alike_ne (ends 5) none_ends, same_se s (f 4) (f 5) (f 6) (f 7) no_cells no_cells (f 6) no_cells alike_ne);
      sw = (same_nw s (f 8) (f 9) (f 10) (f 11) no_cells (f 9) no_cells no_cells alike_sw (ends 8) none_ends, same_sw s (f 8) (f 9) (f 10) (f 11) no_cells (f 9) no_cells no_cells alike_sw (ends 10) none_ends, same_se s (f 8) (f 9) (f 10) (f 11) no_cells (f 9) no_cells no_cells alike_sw);
      se = (same_ne s (f 12) (f 13) (f 14) (f 15) (f 12) no_cells no_cells no_cells alike_se (ends 13) none_ends, same_sw s (f 12) (f 13) (f 14) (f 15) (f 12) no_cells no_cells no_cells alike_se (ends 14) none_ends, same_se s (f 12) (f 13) (f 14) (f 15) (f 12) no_cells no_cells no_cells alike_se);
    }

pub as_sixteen : (s : ℕ) (f : ℕ → ℕ → ℕ → ℕ) (p q r t : ℕ → ℕ → ℕ) → p ≡ joined_cells s (f 0) (f 1) (f 2) (f 3) → q ≡ joined_cells s (f 4) (f 5) (f 6) (f 7)
    → r ≡ joined_cells s (f 8) (f 9) (f 10) (f 11) → t ≡ joined_cells s (f 12) (f 13) (f 14) (f 15) → sixteen s f ≡ joined_cells (s + s) p q r t
as_sixteen s f p q r t e g h i = rw (e, g, h, i) refl

-- the sixteen cells of a square of level 2
abbrev pub dots : List ℕ → ℕ → ℕ → ℕ → ℕ
dots cells n = one_cell (slice_index cells n)

pub dots_end : (cells : List ℕ) (n : ℕ) → EndsWithin 1 (dots cells n)
dots_end cells n = dot_ends (slice_index cells n) 1 (omega arith)

-- the sixteen parts of a larger one
abbrev pub squares : List Node → ℕ → List ℕ → ℕ → ℕ → ℕ → ℕ
squares nodes k ids n = cell_of nodes k (slice_index ids n)

pub squares_end : (nodes : List Node) (k : ℕ) (ids : List ℕ) (n : ℕ) → EndsWithin (2 ^ k) (squares nodes k ids n)
squares_end nodes k ids n = cell_ends nodes k (slice_index ids n)

-- the middle of a hollow square, made of its four inner parts
pub middle_is : (new : List Node) (k : ℕ) (f : ℕ → ℕ → ℕ → ℕ) (big : ℕ → ℕ → ℕ) (id : ℕ) → sixteen (2 ^ (k - 1)) f ≡ big → IsHollow f
    → ShowsSquare new id k (joined_cells (2 ^ (k - 1)) (f 3) (f 6) (f 9) (f 12)) → IsMiddleSquare new k big id
middle_is new k f big id e hollow shows = record {
  is_square = shows.is_square;
  is_ringed = subst (IsRinged (2 ^ (k - 1)) (cell_of new k id)) e
      (ringed_as (2 ^ (k - 1)) (joined_cells (2 ^ (k - 1)) (f 3) (f 6) (f 9) (f 12)) (sixteen (2 ^ (k - 1)) f) (cell_of new k id) (sixteen (2 ^ (k - 1)) f) (hollow_ringed (2 ^ (k - 1)) f hollow)
      shows.has_cells (λ x y. refl));
}

-- four squares of level 1 that have these sixteen cells
module _ (nodes : List Node) (nw ne sw se : ℕ) (four : AreFour nodes 1 nw ne sw se) (a b c d e f g h i j l m n o p q : ℕ)
    (in_nw : Four a b c d ≡ square_of nodes nw) (in_ne : Four e f g h ≡ square_of nodes ne) (in_sw : Four i j l m ≡ square_of nodes sw) (in_se : Four n o p q ≡ square_of nodes se) where
  abbrev cells : List ℕ
  cells = a ∷ b ∷ c ∷ d ∷ e ∷ f ∷ g ∷ h ∷ i ∷ j ∷ l ∷ m ∷ n ∷ o ∷ p ∷ q ∷ []

  abbrev large : ℕ → ℕ → ℕ
  large = joined_cells 2 (cell_of nodes 1 nw) (cell_of nodes 1 ne) (cell_of nodes 1 sw) (cell_of nodes 1 se)

  as_cells : sixteen 1 (dots cells) ≡ large
  as_cells =
      as_sixteen 1 (dots cells) (cell_of nodes 1 nw) (cell_of nodes 1 ne) (cell_of nodes 1 sw) (cell_of nodes 1 se) (four_show nodes nw 1 four.is_nw a b c d in_nw)
      (four_show nodes ne 1 four.is_ne e f g h in_ne) (four_show nodes sw 1 four.is_sw i j l m in_sw) (four_show nodes se 1 four.is_se n o p q in_se)

  -- where they are a ring round any cells, the outer ones are 0
  pub cells_hollow : (small : ℕ → ℕ → ℕ) → IsRinged 1 small large → IsHollow (dots cells)
  cells_hollow small r = ringed_hollow 1 (dots cells) (dots_end cells) small (subst (IsRinged 1 small) (sym as_cells) r)

  -- and where those are 0, the four inner ones are the middle
  pub inner_cells : (new : List Node) (id : ℕ) → IsHollow (dots cells) → ShowsSquare new id 1 (joined_cells 1 (one_cell d) (one_cell g) (one_cell j) (one_cell n)) → IsMiddleSquare new 1 large id
  inner_cells new id hollow shows = middle_is new 1 (dots cells) large id as_cells hollow shows

-- a square of these four parts
pub record IsSplit (nodes : List Node) (id a b c d : ℕ) : Type 0 where
  pub level : ℕ
  pub is : Parts level a b c d ≡ square_of nodes id
  pub whole : HasParts nodes (length nodes) level a b c d

-- the parts of a square of level k: their level, and its cells
module _ (nodes : List Node) (id k : ℕ) (of : IsOf nodes id k) (a b c d : ℕ) (split : IsSplit nodes id a b c d) where
  level_is : split.level ≡ k
  level_is = ap level split.is ∙ of.is_level

  are_parts : HasParts nodes (length nodes) k a b c d
  are_parts = subst (λ l. HasParts nodes (length nodes) l a b c d) level_is split.whole

  cells_are : cell_of nodes k id ≡ joined_cells (2 ^ (k - 1)) (cell_of nodes (k - 1) a) (cell_of nodes (k - 1) b) (cell_of nodes (k - 1) c) (cell_of nodes (k - 1) d)
  cells_are = parts_show nodes id k of k a b c d (omega (arith, are_parts.least)) (subst (λ l. Parts l a b c d ≡ square_of nodes id) level_is split.is)

-- four squares of level k that have these sixteen parts
module _ (nodes : List Node) (nw ne sw se k : ℕ) (four : AreFour nodes k nw ne sw se) (a b c d e f g h i j l m n o p q : ℕ)
    (in_nw : IsSplit nodes nw a b c d) (in_ne : IsSplit nodes ne e f g h) (in_sw : IsSplit nodes sw i j l m) (in_se : IsSplit nodes se n o p q) where
  abbrev ids : List ℕ
  ids = a ∷ b ∷ c ∷ d ∷ e ∷ f ∷ g ∷ h ∷ i ∷ j ∷ l ∷ m ∷ n ∷ o ∷ p ∷ q ∷ []

  -- the twelve that lie round the middle
  abbrev outer : List ℕ
  outer = a ∷ b ∷ c ∷ e ∷ f ∷ h ∷ i ∷ l ∷ m ∷ o ∷ p ∷ q ∷ []

  abbrev big : ℕ → ℕ → ℕ
  big = joined_cells (2 ^ k) (cell_of nodes k nw) (cell_of nodes k ne) (cell_of nodes k sw) (cell_of nodes k se)

  of_nw : HasParts nodes (length nodes) k a b c d
  of_nw = are_parts nodes nw k four.is_nw a b c d in_nw

  of_ne : HasParts nodes (length nodes) k e f g h
  of_ne = are_parts nodes ne k four.is_ne e f g h in_ne

  of_sw : HasParts nodes (length nodes) k i j l m
  of_sw = are_parts nodes sw k four.is_sw i j l m in_sw

  of_se : HasParts nodes (length nodes) k n o p q
  of_se = are_parts nodes se k four.is_se n o p q in_se

  as_parts : sixteen (2 ^ (k - 1)) (squares nodes (k - 1) ids) ≡ big
  as_parts =
      rw (twice k (omega (arith, of_nw.least)))
      (as_sixteen (2 ^ (k - 1)) (squares nodes (k - 1) ids) (cell_of nodes k nw) (cell_of nodes k ne) (cell_of nodes k sw) (cell_of nodes k se)
      (cells_are nodes nw k four.is_nw a b c d in_nw) (cells_are nodes ne k four.is_ne e f g h in_ne) (cells_are nodes sw k four.is_sw i j l m in_sw) (cells_are nodes se k four.is_se n o p q in_se))

  pub outer_known : All (IsIn nodes) outer
  outer_known =
      All-from_recursion (IsIn nodes) outer (
        of_nw.is_nw.before,
        (
          of_nw.is_ne.before,
          (
            of_nw.is_sw.before,
            (
              of_ne.is_nw.before,
              (
                of_ne.is_ne.before,
                (
                  of_ne.is_se.before,
                  (of_sw.is_nw.before, (of_sw.is_sw.before, (of_sw.is_se.before, (of_se.is_ne.before, (of_se.is_sw.before, (of_se.is_se.before, tt)))))),
                ),
              ),
            ),
          ),
        ),
      )

  at_level : (id : ℕ) → IsEmpty (cell_of nodes (k - 1) id) → IsOf nodes id (k - 1) → IsEmptySquare nodes id
  at_level id empty is level of = subst (λ l. IsEmpty (cell_of nodes l id)) (sym is.is_level ∙ of.is_level) empty

  -- where they are a ring round any cells, the outer ones are empty
  pub outer_empty : (small : ℕ → ℕ → ℕ) → IsRinged (2 ^ (k - 1)) small big → All (IsEmptySquare nodes) outer
  outer_empty small r =
      let z = ringed_hollow (2 ^ (k - 1)) (squares nodes (k - 1) ids) (squares_end nodes (k - 1) ids) small (subst (IsRinged (2 ^ (k - 1)) small) (sym as_parts) r) in
      All-from_recursion (IsEmptySquare nodes) outer (
        at_level a z.nw.0 of_nw.is_nw,
        (
          at_level b z.nw.1 of_nw.is_ne,
          (
            at_level c z.nw.2 of_nw.is_sw,
            (
              at_level e z.ne.0 of_ne.is_nw,
              (
                at_level f z.ne.1 of_ne.is_ne,
                (
                  at_level h z.ne.2 of_ne.is_se,
                  (at_level i z.sw.0 of_sw.is_nw, (at_level l z.sw.1 of_sw.is_sw, (at_level m z.sw.2 of_sw.is_se, (at_level o z.se.0 of_se.is_ne, (at_level p z.se.1 of_se.is_sw, (at_level q z.se.2 of_se.is_se, tt)))))),
                ),
              ),
            ),
          ),
        ),
      )

  hollow : All (IsEmptySquare nodes) outer → IsHollow (squares nodes (k - 1) ids)
  hollow all =
      let (e0, (e1, (e2, (e4, (e5, (e7, (e8, (e10, (e11, (e13, (e14, (e15, done)))))))))))) = recursion_from_All (IsEmptySquare nodes) outer all in
      let k = k - 1 in
      record {
        nw = (e0 k of_nw.is_nw, e1 k of_nw.is_ne, e2 k of_nw.is_sw);
        ne = (e4 k of_ne.is_nw, e5 k of_ne.is_ne, e7 k of_ne.is_se);
        sw = (e8 k of_sw.is_nw, e10 k of_sw.is_sw, e11 k of_sw.is_se);
        se = (e13 k of_se.is_ne, e14 k of_se.is_sw, e15 k of_se.is_se);
      }

  -- and where those are empty, the four inner ones are the middle
  pub inner_middle : (new : List Node) (id : ℕ)
      → ((level : ℕ) → IsOf nodes d level → ShowsSquare new id (suc level) (joined_cells (2 ^ level) (cell_of nodes level d) (cell_of nodes level g) (cell_of nodes level j) (cell_of nodes level n)))
      → All (IsEmptySquare nodes) outer → IsMiddleSquare new k big id
  inner_middle new id join all =
      let next : suc (k - 1) ≡ k = omega (arith, of_nw.least) in
      let cells = joined_cells (2 ^ (k - 1)) (cell_of nodes (k - 1) d) (cell_of nodes (k - 1) g) (cell_of nodes (k - 1) j) (cell_of nodes (k - 1) n) in
      middle_is new k (squares nodes (k - 1) ids) big id as_parts (hollow all) (subst (λ l. ShowsSquare new id l cells) next (join (k - 1) of_nw.is_se))
