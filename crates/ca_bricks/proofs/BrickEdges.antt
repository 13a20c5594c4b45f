-- Bricks that show a plane: what comes next of them shows its next generation, where their ring at the edge is blank.
use Rattle.std.proofs.Common.{◌≡◌, ℕ, zero, suc, ◌+◌, ◌-◌, ◌*◌, ◌/◌, ◌%◌, ◌<◌, ◌≤◌, inl, inr, List, [], get_or, length, refl, sym, ap, ap₂, subst, ◌∙◌, arith}
use Rattle.std.specs.Prelude.{ℤ, pos, ◌+ℤ◌, ◌-ℤ◌}
use Rattle.std.specs.List.{All}
use Rattle.std.proofs.lemmas.Int.{ints}
use Rattle.std.proofs.lemmas.List.Elements.{All-from_recursion}
use Rattle.std.proofs.lemmas.Nat.{div-add-mod', mod_below}
use Rattle.ca_plane.specs.Prelude.{around, cells_after}
use Rattle.ca_plane.proofs.Numbers.{below_or_not}
use Rattle.ca_bricks.specs.Prelude.{GoesByCells, cell_next, round_at, next_cell_at, IsNextBrick, BrickShows, BricksShow, brick_x, brick_y, column_at, HasMargin, HasNeighbours, HasBlankEdge}
use Rattle.ca_bricks.specs.Prelude.{next_by_count, nine_at}
use Rattle.ca_bricks.specs.declared.cell_rule.CellRule.{CellRule}
use Rattle.ca_bricks.specs.declared.cell_rule.CellRule.TheVariants.{ByCounting, ByDiagram}
use Rattle.ca_bricks.proofs.NeighbourSums.{sum_counted}
use Rattle.ca_bricks.proofs.BrickRows.{wide_bit-lt}
use Rattle.ca_bricks.proofs.BrickRounds.{round_at-middle, round_at-east}
use Rattle.ca_bricks.proofs.BrickPlaces.{column_shows, quotient, remainder, east_of, west_of}

-- the next state of a cell is that of the nine cells round it
by_nine : (rule : CellRule) (at : ℕ → ℕ → ℕ) (x y : ℕ) → next_cell_at rule at x y ≡ cell_next rule (nine_at at x y)
by_nine (ByCounting counting) at x y = ap (next_by_count counting.birth counting.survival (at (suc x) (suc y))) (sum_counted counting.neighbourhood at x y)
by_nine (ByDiagram diagram) at x y = refl

module _ (next : List ℕ → ℕ) (rule : CellRule) (goes_by : GoesByCells next rule) (p : ℤ → ℤ → ℕ) (at : ℕ → ℕ → ℕ) (a b : ℤ)
    (bits : (x y : ℕ) → at x y < 2) (shown : (x y : ℕ) → x < 66 → y < 18 → at x y ≡ p ((a -ℤ pos 1) +ℤ pos x) ((b -ℤ pos 1) +ℤ pos y)) where
  -- what comes next by the cells of a brick and those round it is the plane's next state
  pub next_shows : (x y : ℕ) → x < 64 → y < 16 → next_cell_at rule at x y ≡ cells_after next p 1 (a +ℤ pos x) (b +ℤ pos y)
  next_shows x y h k =
      let u = a +ℤ pos x in
      let v = b +ℤ pos y in
      let x0 : (a -ℤ pos 1) +ℤ pos x ≡ u -ℤ pos 1 = omega (arith, ints) in
      let x1 : (a -ℤ pos 1) +ℤ pos (suc x) ≡ u = omega (arith, ints) in
      let x2 : (a -ℤ pos 1) +ℤ pos (suc (suc x)) ≡ u +ℤ pos 1 = omega (arith, ints) in
      let y0 : (b -ℤ pos 1) +ℤ pos y ≡ v -ℤ pos 1 = omega (arith, ints) in
      let y1 : (b -ℤ pos 1) +ℤ pos (suc y) ≡ v = omega (arith, ints) in
      let y2 : (b -ℤ pos 1) +ℤ pos (suc (suc y)) ≡ v +ℤ pos 1 = omega (arith, ints) in
      let nw = shown x y (omega arith) (omega arith) ∙ ap₂ p x0 y0 in
      let n = shown (suc x) y (omega arith) (omega arith) ∙ ap₂ p x1 y0 in
      let ne = shown (suc (suc x)) y (omega arith) (omega arith) ∙ ap₂ p x2 y0 in
      let w = shown x (suc y) (omega arith) (omega arith) ∙ ap₂ p x0 y1 in
      let here = shown (suc x) (suc y) (omega arith) (omega arith) ∙ ap₂ p x1 y1 in
      let e = shown (suc (suc x)) (suc y) (omega arith) (omega arith) ∙ ap₂ p x2 y1 in
      let sw = shown x (suc (suc y)) (omega arith) (omega arith) ∙ ap₂ p x0 y2 in
      let s = shown (suc x) (suc (suc y)) (omega arith) (omega arith) ∙ ap₂ p x1 y2 in
      let se = shown (suc (suc x)) (suc (suc y)) (omega arith) (omega arith) ∙ ap₂ p x2 y2 in
      let nine = around p u v in
      let low = λ (i j : ℕ) (c : ℕ) (q : at i j ≡ c). subst (λ m. m < 2) q (bits i j) in
      let all : All (λ m. m < 2) nine = All-from_recursion (λ m. m < 2) nine (
        low x y _ nw,
        (
          low (suc x) y _ n,
          (
            low (suc (suc x)) y _ ne,
            (
              low x (suc y) _ w,
              (
                low (suc x) (suc y) _ here,
                (
                  low (suc (suc x)) (suc y) _ e,
                  (low x (suc (suc y)) _ sw, (low (suc x) (suc (suc y)) _ s, (low (suc (suc x)) (suc (suc y)) _ se, tt))),
                ),
              ),
            ),
          ),
        ),
      ) in
      let same : nine_at at x y ≡ nine = cc in
      by_nine rule at x y ∙ ap (cell_next rule) same ∙ sym (goes_by.goes_by nine refl all)

-- one row of bricks less
one_less : (q d : ℕ) → 1 ≤ q → (q - 1) * d + d ≡ q * d
one_less zero d h = absurd (omega arith)
one_less (suc q) d h = let e : suc q - 1 ≡ q = omega arith in ap (λ m. m * d + d) e ∙ omega arith

-- a brick with others before it in a row of its own is not in the first row
some_rows : (q d t : ℕ) → d < t → q * d ≡ t → 1 ≤ q
some_rows zero d t h e = absurd (omega (arith, h, e))
some_rows (suc q) d t h e = omega arith

module _ (across down : ℕ) (bricks : List (List ℕ)) (p : ℤ → ℤ → ℕ) (a b : ℤ) (margin : HasMargin 0 across down p a b) (shows : BricksShow across bricks p a b) where
  -- the cells of a brick and those round it show the plane, also in the first and the last column: the brick beside it is then one at the other end, and blank as the plane is there
  pub round_shows : (t : ℕ) → 2 ≤ across → across < t → t + across + 1 < length bricks → (x y : ℕ) → x < 66 → y < 18
      → round_at across bricks t x y ≡ p ((brick_x across a t -ℤ pos 1) +ℤ pos x) ((brick_y across b t -ℤ pos 1) +ℤ pos y)
  round_shows t wide before behind zero y h k = elim (below_or_not 0 (t % across)) [
    | inl near ↦
        let w = west_of across t (omega arith) near in
        let xs : brick_x across a (t - 1) +ℤ pos 63 ≡ (brick_x across a t -ℤ pos 1) +ℤ pos 0 = omega (arith, ints, w.1, near) in
        let ys : (brick_y across b (t - 1) -ℤ pos 1) +ℤ pos y ≡ (brick_y across b t -ℤ pos 1) +ℤ pos y = ap (λ m. ((b +ℤ pos (16 * m)) -ℤ pos 1) +ℤ pos y) w.0 in
        column_shows across bricks p a b (t - 1) (omega arith) (omega arith) (omega arith) shows 63 y (omega arith) k ∙ ap₂ p xs ys
    | inr far ↦
        let r : t % across ≡ 0 = omega arith in
        let up : (t / across - 1) * across + across ≡ t / across * across = one_less (t / across) across (some_rows (t / across) across t before (omega (arith, div-add-mod' t across, r))) in
        let last : (t - 1) % across ≡ across - 1 = remainder across (t / across - 1) (across - 1) (t - 1) (omega arith) (omega (arith, div-add-mod' t across, r, up)) in
        column_shows across bricks p a b (t - 1) (omega arith) (omega arith) (omega arith) shows 63 y (omega arith) k
        ∙ margin (brick_x across a (t - 1) +ℤ pos 63) ((brick_y across b (t - 1) -ℤ pos 1) +ℤ pos y) (inl (inr (omega (arith, ints, last))))
        ∙ sym (margin ((brick_x across a t -ℤ pos 1) +ℤ pos 0) ((brick_y across b t -ℤ pos 1) +ℤ pos y) (inl (inl (omega (arith, ints, r)))))
  ]
  round_shows t wide before behind (suc x) y h k = elim (below_or_not x 64) [
    | inl near ↦
        let xs : brick_x across a t +ℤ pos x ≡ (brick_x across a t -ℤ pos 1) +ℤ pos (suc x) = omega (arith, ints) in
        round_at-middle across bricks t x y near
        ∙ column_shows across bricks p a b t (omega arith) (omega arith) (omega arith) shows x y near k ∙ ap (λ u. p u ((brick_y across b t -ℤ pos 1) +ℤ pos y)) xs
    | inr far ↦
        let column = column_shows across bricks p a b (t + 1) (omega arith) (omega arith) (omega arith) shows 0 y (omega arith) k in
        round_at-east across bricks t x y far ∙ column
        ∙ elim (below_or_not (suc (t % across)) across) [
          | inl near ↦
              let e = east_of across t near in
              let xs : brick_x across a (t + 1) +ℤ pos 0 ≡ (brick_x across a t -ℤ pos 1) +ℤ pos (suc x) = omega (arith, ints, e.1, far, h) in
              let ys : (brick_y across b (t + 1) -ℤ pos 1) +ℤ pos y ≡ (brick_y across b t -ℤ pos 1) +ℤ pos y = ap (λ m. ((b +ℤ pos (16 * m)) -ℤ pos 1) +ℤ pos y) e.0 in
              ap₂ p xs ys
          | inr end ↦
              let low = mod_below t across (omega arith) in
              let one : suc (t / across) * across ≡ t / across * across + across = omega arith in
              let first : (t + 1) % across ≡ 0 = remainder across (suc (t / across)) 0 (t + 1) (omega arith) (omega (arith, div-add-mod' t across, one, low, end)) in
              margin (brick_x across a (t + 1) +ℤ pos 0) ((brick_y across b (t + 1) -ℤ pos 1) +ℤ pos y) (inl (inl (omega (arith, ints, first))))
              ∙ sym (margin ((brick_x across a t -ℤ pos 1) +ℤ pos (suc x)) ((brick_y across b t -ℤ pos 1) +ℤ pos y) (inl (inr (omega (arith, ints, end, far, h)))))
        ]
  ]

-- a plane that is dead at the edge is dead in each brick that has no others on some side
pub edge_dead : (across down count : ℕ) (p : ℤ → ℤ → ℕ) (a b : ℤ) → 2 ≤ across → 2 ≤ down → count ≡ down * across → HasMargin 0 across down p a b
    → (t : ℕ) → t < count → (HasNeighbours across count t → ⊥) → (x y : ℕ) → x < 64 → y < 16 → p (brick_x across a t +ℤ pos x) (brick_y across b t +ℤ pos y) ≡ 0
edge_dead across down count p a b wide high size margin t h not x y i j = elim (below_or_not across t) [
  | inr low ↦ top low
  | inl before ↦ elim (below_or_not (t + across + 1) count) [
    | inl behind ↦ absurd (not (record { before = before; behind = behind }))
    | inr end ↦ bottom end
  ]
]
  where
    top : t ≤ across → p (brick_x across a t +ℤ pos x) (brick_y across b t +ℤ pos y) ≡ 0
    top low = elim (below_or_not t across) [
      | inl first ↦
          let q : t / across ≡ 0 = quotient across 0 t t first (omega arith) in
          margin (brick_x across a t +ℤ pos x) (brick_y across b t +ℤ pos y) (inr (inl (omega (arith, ints, q, j))))
      | inr here ↦
          let one : 1 * across ≡ across = omega arith in
          let r : t % across ≡ 0 = remainder across 1 0 t (omega arith) (omega (arith, one)) in
          margin (brick_x across a t +ℤ pos x) (brick_y across b t +ℤ pos y) (inl (inl (omega (arith, ints, r, i))))
    ]

    bottom : count ≤ t + across + 1 → p (brick_x across a t +ℤ pos x) (brick_y across b t +ℤ pos y) ≡ 0
    bottom end =
        let up = one_less down across (omega arith) in
        let up2 : (down - 1 - 1) * across + across ≡ (down - 1) * across = one_less (down - 1) across (omega arith) in
        elim (below_or_not t ((down - 1) * across)) [
          | inl before ↦
              let r : t % across ≡ across - 1 = remainder across (down - 1 - 1) (across - 1) t (omega arith) (omega (arith, size, up, up2, end, before)) in
              margin (brick_x across a t +ℤ pos x) (brick_y across b t +ℤ pos y) (inl (inr (omega (arith, ints, r, wide))))
          | inr last ↦
              let q : t / across ≡ down - 1 = quotient across (down - 1) (t - (down - 1) * across) t (omega (arith, h, size, up, last)) (omega (arith, last)) in
              margin (brick_x across a t +ℤ pos x) (brick_y across b t +ℤ pos y) (inr (inr (omega (arith, ints, q, high))))
        ]

-- what comes next of bricks that show a plane shows its next generation, where that is dead at the edge too
pub bricks_go_on : (next : List ℕ → ℕ) (rule : CellRule) → GoesByCells next rule → (across down : ℕ) (old new : List (List ℕ)) (p : ℤ → ℤ → ℕ) (a b : ℤ)
    → 2 ≤ across → 2 ≤ down → length old ≡ down * across → length new ≡ length old → HasMargin 0 across down p a b → HasMargin 0 across down (cells_after next p 1) a b → BricksShow across old p a b
    → ((t : ℕ) → HasNeighbours across (length old) t → IsNextBrick rule across old new t) → HasBlankEdge across new → BricksShow across new (cells_after next p 1) a b
bricks_go_on next rule goes_by across down old new p a b wide high size same margin later shows is_next blank t h =
    elim (below_or_not across t) [
      | inr low ↦ edge (λ has. omega (arith, has.before, low))
      | inl before ↦ elim (below_or_not (t + across + 1) (length old)) [
        | inl behind ↦ record {
          looks = λ x y i j.
              (is_next t (record { before = before; behind = behind })).cells x y i j
              ∙ next_shows next rule goes_by p (round_at across old t) (brick_x across a t) (brick_y across b t)
              (λ u v. wide_bit-lt (column_at across old (t - 1) v) (column_at across old t v) (column_at across old (t + 1) v) u)
              (round_shows across down old p a b margin shows t wide before behind) x y i j;
        }
        | inr end ↦ edge (λ has. omega (arith, has.behind, same, end))
      ]
    ]
  where
    edge : (HasNeighbours across (length new) t → ⊥) → BrickShows (get_or new t []) (cells_after next p 1) (brick_x across a t) (brick_y across b t)
    edge not = record {
      looks = λ x y i j. blank t not x y i j ∙ sym (edge_dead across down (length new) (cells_after next p 1) a b wide high (same ∙ size) later t h not x y i j);
    }
