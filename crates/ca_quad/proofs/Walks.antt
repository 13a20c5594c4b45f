-- What a walk over squares knows where it has matched on one: its cells are its corners, or its parts together.
use Rattle.std.proofs.Common.{◌≡◌, ℕ, suc, ◌-◌, ◌<◌, ◌≤◌, ◌^◌, inl, inr, ◌==◌, ◌&&◌, List, nat_lt, refl, sym, ap, subst, ◌∙◌, arith}
use Rattle.std.proofs.lemmas.Bool.{cases_Bool}
use Rattle.ca_quad.specs.declared.node.Node.{Node}
use Rattle.ca_quad.specs.declared.square.Square.TheVariants.{Four, Parts}
use Rattle.ca_quad.specs.Prelude.{square_of, level, IsOf, one_cell, joined_cells, cells_in, cell_of, IsSoundStore, IsEmpty}
use Rattle.ca_quad.proofs.Cells.{in_nw, in_ne, in_sw, in_se, cell_ends, same_nw, same_ne, same_sw, same_se, same_cells}

module _ (nodes : List Node) (id k : ℕ) (h : IsOf nodes id k) where
  -- four cells lie together
  pub four_show : (nw ne sw se : ℕ) → Four nw ne sw se ≡ square_of nodes id → cell_of nodes k id ≡ joined_cells 1 (one_cell nw) (one_cell ne) (one_cell sw) (one_cell se)
  four_show nw ne sw se e =
      let one : k ≡ 1 = sym h.is_level ∙ ap level (sym e) in
      subst (λ k. cell_of nodes k id ≡ joined_cells 1 (one_cell nw) (one_cell ne) (one_cell sw) (one_cell se)) (sym one) (ap (λ s. cells_in (cell_of nodes 0) s 1) (sym e))

  -- four parts lie together
  pub parts_show : (m nw ne sw se : ℕ) → 1 ≤ m → Parts m nw ne sw se ≡ square_of nodes id
      → cell_of nodes k id ≡ joined_cells (2 ^ (m - 1)) (cell_of nodes (m - 1) nw) (cell_of nodes (m - 1) ne) (cell_of nodes (m - 1) sw) (cell_of nodes (m - 1) se)
  parts_show m nw ne sw se some e =
      let f : k ≡ m = sym h.is_level ∙ ap level (sym e) in
      let next : k ≡ suc (m - 1) = omega arith in
      subst (λ k. cell_of nodes k id ≡ joined_cells (2 ^ (m - 1)) (cell_of nodes (m - 1) nw) (cell_of nodes (m - 1) ne) (cell_of nodes (m - 1) sw) (cell_of nodes (m - 1) se)) (sym next)
      (ap (λ s. cells_in (cell_of nodes (m - 1)) s (2 ^ (m - 1))) (sym e))

-- the cell of a square is that of one of its parts
module _ (nodes : List Node) (id k : ℕ) (h : IsOf nodes id k) (m nw ne sw se : ℕ) (some : 1 ≤ m) (e : Parts m nw ne sw se ≡ square_of nodes id)
    (half x y : ℕ) (side : half ≡ 2 ^ (m - 1)) where
  whole : cell_of nodes k id x y ≡ joined_cells half (cell_of nodes (m - 1) nw) (cell_of nodes (m - 1) ne) (cell_of nodes (m - 1) sw) (cell_of nodes (m - 1) se) x y
  whole = ap (λ f. f x y) (parts_show nodes id k h m nw ne sw se some e) ∙ rw side refl

  pub cell_nw : x < half → y < half → cell_of nodes k id x y ≡ cell_of nodes (m - 1) nw x y
  cell_nw i j = whole ∙ in_nw half (cell_of nodes (m - 1) nw) (cell_of nodes (m - 1) ne) (cell_of nodes (m - 1) sw) (cell_of nodes (m - 1) se) x y i j

  pub cell_ne : half ≤ x → y < half → cell_of nodes k id x y ≡ cell_of nodes (m - 1) ne (x - half) y
  cell_ne i j = whole ∙ in_ne half (cell_of nodes (m - 1) nw) (cell_of nodes (m - 1) ne) (cell_of nodes (m - 1) sw) (cell_of nodes (m - 1) se) x y i j

  pub cell_sw : x < half → half ≤ y → cell_of nodes k id x y ≡ cell_of nodes (m - 1) sw x (y - half)
  cell_sw i j = whole ∙ in_sw half (cell_of nodes (m - 1) nw) (cell_of nodes (m - 1) ne) (cell_of nodes (m - 1) sw) (cell_of nodes (m - 1) se) x y i j

  pub cell_se : half ≤ x → half ≤ y → cell_of nodes k id x y ≡ cell_of nodes (m - 1) se (x - half) (y - half)
  cell_se i j = whole ∙ in_se half (cell_of nodes (m - 1) nw) (cell_of nodes (m - 1) ne) (cell_of nodes (m - 1) sw) (cell_of nodes (m - 1) se) x y i j

-- empty squares together are empty
pub together_empty : (side : ℕ) (nw ne sw se : ℕ → ℕ → ℕ) → IsEmpty nw → IsEmpty ne → IsEmpty sw → IsEmpty se → IsEmpty (joined_cells side nw ne sw se)
together_empty side nw ne sw se a b c d x y =
    elim (cases_Bool (nat_lt y side)) [
      | inl e ↦ elim (cases_Bool (nat_lt x side)) [ inl f ↦ rw (e, f) (a x y) | inr f ↦ rw (e, f) (b (x - side) y) ]
      | inr e ↦ elim (cases_Bool (nat_lt x side)) [ inl f ↦ rw (e, f) (c x (y - side)) | inr f ↦ rw (e, f) (d (x - side) (y - side)) ]
    ]

-- the corners of an empty square are 0
pub corners_empty : (nw ne sw se : ℕ) → IsEmpty (joined_cells 1 (one_cell nw) (one_cell ne) (one_cell sw) (one_cell se)) → (nw ≡ 0) × (ne ≡ 0) × (sw ≡ 0) × (se ≡ 0)
corners_empty nw ne sw se h = (h 0 0, h 1 0, h 0 1, h 1 1)

-- a cell of state 0 is empty
pub dot_empty : (state : ℕ) → state ≡ 0 → IsEmpty (one_cell state)
dot_empty state e x y = elim (cases_Bool ((x == 0) && (y == 0))) [ inl f ↦ rw f e | inr f ↦ rw f refl ]

abbrev nothing : ℕ → ℕ → ℕ
nothing x y = 0

-- the parts of an empty square are empty, and so they are one
module _ (nodes : List Node) (sound : IsSoundStore nodes) (k nw ne sw se : ℕ) (a : IsOf nodes nw k) (b : IsOf nodes ne k) (c : IsOf nodes sw k) (d : IsOf nodes se k)
    (empty : IsEmpty (joined_cells (2 ^ k) (cell_of nodes k nw) (cell_of nodes k ne) (cell_of nodes k sw) (cell_of nodes k se))) where
  alike : (x y : ℕ) → joined_cells (2 ^ k) (cell_of nodes k nw) (cell_of nodes k ne) (cell_of nodes k sw) (cell_of nodes k se) x y ≡ joined_cells (2 ^ k) nothing nothing nothing nothing x y
  alike x y = empty x y ∙ sym (together_empty (2 ^ k) nothing nothing nothing nothing (λ x y. refl) (λ x y. refl) (λ x y. refl) (λ x y. refl) x y)

  pub nw_empty : IsEmpty (cell_of nodes k nw)
  nw_empty = same_nw (2 ^ k) (cell_of nodes k nw) (cell_of nodes k ne) (cell_of nodes k sw) (cell_of nodes k se) nothing nothing nothing nothing alike (cell_ends nodes k nw) (λ x y h. refl)

  ne_empty : IsEmpty (cell_of nodes k ne)
  ne_empty = same_ne (2 ^ k) (cell_of nodes k nw) (cell_of nodes k ne) (cell_of nodes k sw) (cell_of nodes k se) nothing nothing nothing nothing alike (cell_ends nodes k ne) (λ x y h. refl)

  sw_empty : IsEmpty (cell_of nodes k sw)
  sw_empty = same_sw (2 ^ k) (cell_of nodes k nw) (cell_of nodes k ne) (cell_of nodes k sw) (cell_of nodes k se) nothing nothing nothing nothing alike (cell_ends nodes k sw) (λ x y h. refl)

  se_empty : IsEmpty (cell_of nodes k se)
  se_empty = same_se (2 ^ k) (cell_of nodes k nw) (cell_of nodes k ne) (cell_of nodes k sw) (cell_of nodes k se) nothing nothing nothing nothing alike

  pub parts_one : (nw ≡ ne) × (nw ≡ sw) × (nw ≡ se)
  parts_one = (
    same_cells nodes sound k nw ne a b (λ x y. nw_empty x y ∙ sym (ne_empty x y)),
    same_cells nodes sound k nw sw a c (λ x y. nw_empty x y ∙ sym (sw_empty x y)),
    same_cells nodes sound k nw se a d (λ x y. nw_empty x y ∙ sym (se_empty x y)),
  )
