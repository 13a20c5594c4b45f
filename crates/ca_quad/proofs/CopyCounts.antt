-- How many squares the copy of a tree adds.
use Rattle.std.proofs.Common.{◌≡◌, ℕ, ◌+◌, ◌-◌, ◌<◌, ◌≤◌, ◌⊎◌, inl, inr, List, [], length, refl, sym, ap, subst, ◌∙◌, arith}
use Rattle.indexmap.proofs.IndexTableLemmas.Probe.{pigeonhole}
use Rattle.ca_quad.specs.declared.{node.Node.Node, square.Square.Square}
use Rattle.ca_quad.specs.declared.square.Square.TheVariants.{Four, Parts}
use Rattle.ca_quad.specs.Prelude.{place_id, square_of, level_of, IsOf, cell_of, IsSoundStore, Grows, IsIn, ShowsSquare, IsPartOf, LiesIn, itself, in_part, IsCopy, AddsCopies}
use Rattle.ca_quad.specs.inner.Whole.{IsWhole}
use Rattle.ca_plane.proofs.Numbers.{below_or_not}
use Rattle.ca_quad.proofs.Views.{square_whole}
use Rattle.ca_quad.proofs.Cells.{cells_stay, of_stays, same_cells}
use Rattle.ca_quad.proofs.ShownSquares.{shows_self, shows_as, shows_stays}

-- every store grows from the one that keeps nothing
none_sound : IsSoundStore []
none_sound = record { good = λ place h. absurd (omega arith); once = λ i j h. absurd (omega arith) }

from_none : (nodes : List Node) → IsSoundStore nodes → Grows [] nodes
from_none nodes sound = record { sound = sound; longer = omega arith; kept = λ place h. absurd (omega arith) }

-- the copies of one square
module _ (from new : List Node) (from_sound : IsSoundStore from) (sound : IsSoundStore new) (id : ℕ) where
  -- they have one id
  one_copy : (a b : ℕ) → IsCopy from new id a → IsCopy from new id b → a ≡ b
  one_copy a b p q = same_cells new sound (level_of from id) a b p.is_square q.is_square (λ x y. p.has_cells x y ∙ sym (q.has_cells x y))

  -- a square that is named by its cells is its own copy
  own_copy : id < place_id 0 → IsCopy from new id id
  own_copy h =
      let k = level_of [] id in
      let is : IsOf [] id k = record { before = h; is_level = refl } in
      let grows = from_none from from_sound in
      let shows = shows_stays [] new none_sound (from_none new sound) id k (cell_of [] k id) (shows_self [] id k is) in
      let same = cells_stay [] from none_sound grows k id is in
      subst (λ l. ShowsSquare new id l (cell_of from l id)) (sym (of_stays [] from none_sound grows id k is).is_level)
      (shows_as new id k (cell_of [] k id) (cell_of from k id) (λ x y. ap (λ f. f x y) (sym same)) shows)

  -- so what has a copy that is kept is kept itself
  is_kept : (place : ℕ) → IsCopy from new id (place_id place) → place_id 0 ≤ id
  is_kept place copy =
      elim (below_or_not id (place_id 0)) [
        | inl h ↦ let e = one_copy (place_id place) id copy (own_copy h) in absurd (omega arith)
        | inr h ↦ h
      ]

-- what lies in a square is in its store
part_within : (nodes : List Node) (s : Square) (part : ℕ) → IsWhole nodes (length nodes) s → IsPartOf s part → IsIn nodes part
part_within nodes (Four nw ne sw se) part whole is = absurd is
part_within nodes (Parts k nw ne sw se) part whole is =
    elim is [
      | inl e ↦ subst (IsIn nodes) (sym e) whole.is_nw.before
      | inr r ↦ elim r [
        | inl e ↦ subst (IsIn nodes) (sym e) whole.is_ne.before
        | inr s ↦ elim s [
          | inl e ↦ subst (IsIn nodes) (sym e) whole.is_sw.before
          | inr e ↦ subst (IsIn nodes) (sym e) whole.is_se.before
        ]
      ]
    ]

lies_within : (nodes : List Node) → IsSoundStore nodes → (root id : ℕ) → LiesIn nodes root id → IsIn nodes root → IsIn nodes id
lies_within nodes sound _ _ (itself root) known = known
lies_within nodes sound _ _ (in_part root part id is lies) known =
    lies_within nodes sound part id lies (part_within nodes (square_of nodes root) part (square_whole nodes sound root known) is)

-- there are no more numbers below n than below m where each has one of those, and no two the same
module _ (n : ℕ) (Has : ℕ → ℕ → Type 0) (all : (i : ℕ) → i < n → (j : ℕ) × Has i j) where
  abbrev choice : (i : ℕ) → (i < n) ⊎ (n ≤ i) → (j : ℕ) × (i < n → Has i j)
  choice i (inl h) = ((all i h).0, λ l. (all i h).1)
  choice i (inr h) = (0, λ l. absurd (omega arith))

  abbrev chosen : ℕ → ℕ
  chosen i = (choice i (below_or_not i n)).0

  has_chosen : (i : ℕ) → i < n → Has i (chosen i)
  has_chosen i = (choice i (below_or_not i n)).1

  at_most : (m : ℕ) → ((i j : ℕ) → Has i j → j < m) → ((h i j : ℕ) → h < n → i < n → Has h j → Has i j → h ≡ i) → n ≤ m
  at_most m below one =
      pigeonhole n m chosen (λ i p. below i (chosen i) (has_chosen i p))
      (λ h i p q e. one h i (chosen i) p q (subst (Has h) e (has_chosen h p)) (has_chosen i q))

-- a copy of a tree adds no more squares than the other store keeps
module _ (from : List Node) (root : ℕ) (old new : List Node) (from_sound : IsSoundStore from) (sound : IsSoundStore new) (known : IsIn from root) (added : AddsCopies from root old new) where
  -- the added square is the copy of the one at this place
  abbrev Copies : ℕ → ℕ → Type 0
  Copies i place = (place < length from) × IsCopy from new (place_id place) (place_id (length old + i))

  each_copies : (i : ℕ) → i < length new - length old → (place : ℕ) × Copies i place
  each_copies i h =
      let f = added (length old + i) (omega arith) (omega arith) in
      let low = is_kept from new from_sound sound f.0 (length old + i) f.1.1 in
      let high = lies_within from from_sound root f.0 f.1.0 known in
      let place = f.0 - place_id 0 in
      let e : place_id place ≡ f.0 = omega arith in
      (place, (omega arith, subst (λ id. IsCopy from new id (place_id (length old + i))) (sym e) f.1.1))

  one_each : (h i place : ℕ) → h < length new - length old → i < length new - length old → Copies h place → Copies i place → h ≡ i
  one_each h i place p q c d =
      let e = one_copy from new from_sound sound (place_id place) (place_id (length old + h)) (place_id (length old + i)) c.1 d.1 in
      omega arith

  pub few_added : length new ≤ length old + length from
  few_added = omega (arith, at_most (length new - length old) Copies each_copies (length from) (λ i place c. c.0) one_each)
