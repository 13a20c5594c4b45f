-- Squares whose cells are all 0, level by level.
use Rattle.std.proofs.Common.{◌≡◌, ℕ, suc, ◌-◌, ◌^◌, inl, inr, List, [], ◌∷◌, ◌++◌, length, get_or, slice_index, Some, refl, sym, subst, arith}
use Rattle.std.specs.List.{slice_get}
use Rattle.std.proofs.lemmas.List.{get_or_append_left, length_push}
use Rattle.std.proofs.lemmas.Option.{slice_get_within, get_or_from_slice_get}
use Rattle.std.proofs.Math.Seq.{get_or-append_seam}
use Rattle.ca_quad.specs.declared.node.Node.{Node as Kept}
use Rattle.ca_quad.specs.Prelude.{one_cell, joined_cells, cell_of, IsSoundStore, Grows, ShowsSquare}
use Rattle.ca_plane.proofs.Numbers.{below_or_not}
use Rattle.ca_quad.proofs.ShownSquares.{shows_as, shows_stays}
use Rattle.ca_quad.proofs.Walks.{dot_empty, together_empty}
use Rattle.ca_macro.specs.inner.Reading.{AreEmpties}

-- four empty cells
pub leaf_empty : (store : List Kept) (id : ℕ) → ShowsSquare store id 1 (joined_cells 1 (one_cell 0) (one_cell 0) (one_cell 0) (one_cell 0)) → ShowsSquare store id 1 (λ x y. 0)
leaf_empty store id h =
    shows_as store id 1 (joined_cells 1 (one_cell 0) (one_cell 0) (one_cell 0) (one_cell 0)) (λ x y. 0)
    (together_empty 1 (one_cell 0) (one_cell 0) (one_cell 0) (one_cell 0) (dot_empty 0 refl) (dot_empty 0 refl) (dot_empty 0 refl) (dot_empty 0 refl)) h

-- one that is four times an empty one
pub join_empty : (old new : List Kept) (part id k : ℕ) → ShowsSquare old part k (λ x y. 0)
    → ShowsSquare new id (suc k) (joined_cells (2 ^ k) (cell_of old k part) (cell_of old k part) (cell_of old k part) (cell_of old k part)) → ShowsSquare new id (suc k) (λ x y. 0)
join_empty old new part id k none h =
    let cells = cell_of old k part in
    shows_as new id (suc k) (joined_cells (2 ^ k) cells cells cells cells) (λ x y. 0)
    (together_empty (2 ^ k) cells cells cells cells none.has_cells none.has_cells none.has_cells none.has_cells) h

-- the last one so far
pub last_empty : (store : List Kept) (ids : List ℕ) (part : ℕ) → AreEmpties store ids → slice_get ids (length ids - 1) ≡ Some part → ShowsSquare store part (length ids) (λ x y. 0)
last_empty store ids part h at =
    let low = slice_get_within ids (length ids - 1) part at in
    let level : suc (length ids - 1) ≡ length ids = omega arith in
    subst (λ l. ShowsSquare store part l (λ x y. 0)) level
    (subst (λ id. ShowsSquare store id (suc (length ids - 1)) (λ x y. 0)) (get_or_from_slice_get ids (length ids - 1) part 0 at) (h (length ids - 1) low))

-- one more
pub empties_push : (old new : List Kept) → IsSoundStore old → Grows old new → (ids after : List ℕ) (id : ℕ) → AreEmpties old ids → after ≡ ids ++ id ∷ []
    → ShowsSquare new id (suc (length ids)) (λ x y. 0) → AreEmpties new after
empties_push old new sound grows ids after id h e shows = subst (AreEmpties new) (sym e) at
  where
    at : AreEmpties new (ids ++ id ∷ [])
    at i low =
        elim (below_or_not i (length ids)) [
          | inl below ↦
              subst (λ k. ShowsSquare new k (suc i) (λ x y. 0)) (sym (get_or_append_left ids (id ∷ []) 0 i below))
              (shows_stays old new sound grows (slice_index ids i) (suc i) (λ x y. 0) (h i below))
          | inr above ↦
              let count = length_push ids id in
              let here : length ids ≡ i = omega arith in
              subst (λ k. ShowsSquare new (get_or (ids ++ id ∷ []) k 0) (suc k) (λ x y. 0)) here
              (subst (λ k. ShowsSquare new k (suc (length ids)) (λ x y. 0)) (sym (get_or-append_seam ids id [] 0)) shows)
        ]
