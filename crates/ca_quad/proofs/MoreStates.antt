-- Small squares that are kept and are no blocks have a state above 1.
use Rattle.std.proofs.Common.{◌≡◌, ◌≢◌, ℕ, zero, suc, ◌+◌, ◌-◌, ◌<◌, ◌≤◌, ◌^◌, ◌⊎◌, inl, inr, false, nat_lt, max, List, length, refl, sym, ap, subst, ◌∙◌, arith}
use Rattle.std.proofs.lemmas.Bool.Decides.{nat_tests}
use Rattle.ca_quad.specs.declared.named.IdForm.TheVariants.{Kept}
use Rattle.ca_quad.specs.declared.node.Node.{Node}
use Rattle.ca_quad.specs.declared.node.Node.TheVariants.{Leaf, Block, Join}
use Rattle.ca_quad.specs.Prelude.{place_id, meaning_of_id, node_square, square_named, square_of, level, IsOf, IsAmong, one_cell, joined_cells, cells_in, cell_of, IsStorable, node_at, IsSoundStore}
use Rattle.ca_quad.specs.Prelude.{HasMoreStates}
use Rattle.ca_quad.specs.inner.Numbered.{IsKeptOtherwise}
use Rattle.ca_quad.specs.inner.Measure.{EndsWithin}
use Rattle.ca_quad.proofs.Cells.{at_nw, at_ne, at_sw, at_se, cell_ends, dot_ends, no_level}
use Rattle.ca_quad.proofs.Greatest.{live_within}
use Rattle.ca_plane.proofs.Numbers.{below_or_not}
use Rattle.ca_quad.proofs.Views.{square_whole}

-- one of four that lie together has one
module _ (side : ℕ) (nw ne sw se : ℕ → ℕ → ℕ) (end_nw : EndsWithin side nw) (end_ne : EndsWithin side ne) (end_sw : EndsWithin side sw) where
  more_in_four : HasMoreStates nw ⊎ (HasMoreStates ne ⊎ (HasMoreStates sw ⊎ HasMoreStates se)) → HasMoreStates (joined_cells side nw ne sw se)
  more_in_four (inl (x, y, two)) =
      let (i, j) = live_within side nw end_nw x y (λ z. omega arith) in
      (x, y, omega (arith, at_nw side nw ne sw se x y i j))
  more_in_four (inr (inl (x, y, two))) =
      let (i, j) = live_within side ne end_ne x y (λ z. omega arith) in
      (side + x, y, omega (arith, at_ne side nw ne sw se x y j))
  more_in_four (inr (inr (inl (x, y, two)))) =
      let (i, j) = live_within side sw end_sw x y (λ z. omega arith) in
      (x, side + y, omega (arith, at_sw side nw ne sw se x y i))
  more_in_four (inr (inr (inr (x, y, two)))) = (side + x, side + y, omega (arith, at_se side nw ne sw se x y))

-- one of four is at least as great as their maximum
one_reaches : (a b c d m : ℕ) → m ≤ max (max a b) (max c d) → (m ≤ a) ⊎ ((m ≤ b) ⊎ ((m ≤ c) ⊎ (m ≤ d)))
one_reaches a b c d m h =
    elim (below_or_not a m) [
      | inr i ↦ inl i
      | inl i ↦ elim (below_or_not b m) [
        | inr j ↦ inr (inl j)
        | inl j ↦ elim (below_or_not c m) [ inr l ↦ inr (inr (inl l)) | inl l ↦ inr (inr (inr (omega arith))) ]
      ]
    ]

-- what holds of one of four
one_of : {P Q R S T U V W : Type 0} → (P → T) → (Q → U) → (R → V) → (S → W) → P ⊎ (Q ⊎ (R ⊎ S)) → T ⊎ (U ⊎ (V ⊎ W))
one_of p q r s (inl h) = inl (p h)
one_of p q r s (inr (inl h)) = inr (inl (q h))
one_of p q r s (inr (inr (inl h))) = inr (inr (inl (r h)))
one_of p q r s (inr (inr (inr h))) = inr (inr (inr (s h)))

more_dot : (state : ℕ) → 2 ≤ state → HasMoreStates (one_cell state)
more_dot state h = (0, 0, h)

-- a good node that is no block
more_in_node : (nodes : List Node) (places k : ℕ) → places ≤ length nodes → ((id : ℕ) → IsOf nodes id k → place_id 0 ≤ id → HasMoreStates (cell_of nodes k id))
    → (node : Node) → IsStorable nodes places node → level (node_square node) ≡ suc k → ((n : ℕ) → node ≢ Block n) → HasMoreStates (cells_in (cell_of nodes k) (node_square node) (2 ^ k))
more_in_node nodes places k fits more (Leaf a b c d) good e other =
    let ends : (state : ℕ) → EndsWithin 1 (one_cell state) = λ state. dot_ends state 1 (omega arith) in
    let no_cells : k ≡ 0 = omega arith in
    subst (λ (j : ℕ). HasMoreStates (joined_cells (2 ^ j) (one_cell a) (one_cell b) (one_cell c) (one_cell d))) (sym no_cells)
    (more_in_four 1 (one_cell a) (one_cell b) (one_cell c) (one_cell d) (ends a) (ends b) (ends c) (one_of (more_dot a) (more_dot b) (more_dot c) (more_dot d) (one_reaches a b c d 2 good)))
more_in_node nodes places k fits more (Block n) good e other = absurd (other n refl)
more_in_node nodes places k fits more (Join m a b c d) good e other =
    let part = cell_of nodes k in
    let ends = cell_ends nodes k in
    let lower : m - 1 ≡ k = omega arith in
    let is_part : (id : ℕ) → IsAmong nodes places id (m - 1) → IsOf nodes id k = λ id h. record { before = omega (arith, h.before, fits); is_level = h.is_level ∙ lower } in
    more_in_four (2 ^ k) (part a) (part b) (part c) (part d) (ends a) (ends b) (ends c)
    (one_of (more a (is_part a good.0.is_nw)) (more b (is_part b good.0.is_ne)) (more c (is_part c good.0.is_sw)) (more d (is_part d good.0.is_se)) (one_reaches a b c d (place_id 0) good.1))

named_kept : (id : ℕ) → place_id 0 ≤ id → meaning_of_id id ≡ Kept (id - 65552)
named_kept id far =
    let e : nat_lt id 16 ≡ false = grind (arith, nat_tests) in
    let f : nat_lt id 65552 ≡ false = grind (arith, nat_tests) in
    rw (e, f) refl

-- a square that is kept at a place, and is no block
module _ (nodes : List Node) (sound : IsSoundStore nodes) where
  more_at : (k id place : ℕ) → ((p : ℕ) → IsOf nodes p k → place_id 0 ≤ p → HasMoreStates (cell_of nodes k p)) → IsOf nodes id (suc k) → place < length nodes → meaning_of_id id ≡ Kept place
      → ((n : ℕ) → node_at nodes place ≢ Block n) → HasMoreStates (cell_of nodes (suc k) id)
  more_at k id place more is low name other =
      rw name (more_in_node nodes place k (omega arith) more (node_at nodes place) (sound.good place low) (ap (λ n. level (square_named nodes n)) (sym name) ∙ is.is_level) other)

  more_kept : (k : ℕ) → k ≤ 2 → (id : ℕ) → IsOf nodes id k → place_id 0 ≤ id → HasMoreStates (cell_of nodes k id)
  more_kept zero h id is far = absurd (no_level nodes (length nodes) (square_of nodes id) is.is_level (square_whole nodes sound id is.before))
  more_kept (suc k) h id is far =
      let name = named_kept id far in
      more_at k id (id - 65552) (more_kept k (omega arith)) is (omega (arith, is.before)) name
      (λ n e.
      let three : 3 ≡ suc k = sym (ap (λ m. level (node_square m)) e) ∙ (ap (λ m. level (square_named nodes m)) (sym name) ∙ is.is_level) in
      omega arith)

  pub more_states : (id : ℕ) → IsOf nodes id 3 → IsKeptOtherwise nodes id → HasMoreStates (cell_of nodes 3 id)
  more_states id is (place, low, name, other) = more_at 2 id place (more_kept 2 (omega arith)) is low name other
