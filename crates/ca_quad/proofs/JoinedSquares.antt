-- A square of four parts shows them together.
use Rattle.std.proofs.Common.{◌≡◌, ℕ, suc, Result, Ok, Err, IfOk, ◌+◌, ◌^◌, List, refl, sym, ap, subst, ◌∙◌, arith}
use Rattle.ca_quad.specs.declared.node.Node.{Node}
use Rattle.ca_quad.specs.declared.node.Node.TheVariants.{Block}
use Rattle.ca_quad.specs.declared.square.Square.TheVariants.{Parts}
use Rattle.ca_quad.specs.Prelude.{digit, cells4, node_square, square_named, square_of, level, level_of, IsOf, joined_cells, cells_in, cell_of, IsSoundStore, Grows, IsIn, ShowsSquare, AreFour}
use Rattle.ca_quad.specs.inner.IdForm.{AreCells2, AreCells4}
use Rattle.ca_quad.proofs.Views.{named_cells4, among_cells2, among_cells4}
use Rattle.ca_quad.proofs.Cells.{cells_stay}

-- the same level for the four
pub four_at : (nodes : List Node) (j k nw ne sw se : ℕ) → AreFour nodes j nw ne sw se → IsOf nodes nw k → AreFour nodes k nw ne sw se
four_at nodes j k nw ne sw se four h = subst (λ l. AreFour nodes l nw ne sw se) (sym four.is_nw.is_level ∙ h.is_level) four

pub joined : (old new : List Node) → IsSoundStore old → Grows old new → (id k nw ne sw se : ℕ) → AreFour old k nw ne sw se
    → IsIn new id → square_of new id ≡ Parts (k + 1) nw ne sw se
    → ShowsSquare new id (suc k) (joined_cells (2 ^ k) (cell_of old k nw) (cell_of old k ne) (cell_of old k sw) (cell_of old k se))
joined old new sound grows id k nw ne sw se four known e =
    let a = cells_stay old new sound grows k nw four.is_nw in
    let b = cells_stay old new sound grows k ne four.is_ne in
    let c = cells_stay old new sound grows k sw four.is_sw in
    let d = cells_stay old new sound grows k se four.is_se in
    let same : cells_in (cell_of new k) (square_of new id) (2 ^ k) ≡ joined_cells (2 ^ k) (cell_of old k nw) (cell_of old k ne) (cell_of old k sw) (cell_of old k se) =
    rw (e, a, b, c, d) refl
    in
    record {
      is_square = record { before = known; is_level = ap level e ∙ omega arith };
      has_cells = λ x y. ap (λ f. f x y) same;
    }

pub joined_ok : {E : Type 0} (old new : List Node) → IsSoundStore old → Grows old new → (r : Result ℕ E) (k nw ne sw se : ℕ) → AreFour old k nw ne sw se
    → IfOk r (IsIn new) → IfOk r (λ id. square_of new id ≡ Parts (k + 1) nw ne sw se)
    → IfOk r (λ id. ShowsSquare new id (suc k) (joined_cells (2 ^ k) (cell_of old k nw) (cell_of old k ne) (cell_of old k sw) (cell_of old k se)))
joined_ok old new sound grows (Ok id) k nw ne sw se four known e = joined old new sound grows id k nw ne sw se four known e
joined_ok old new sound grows (Err e) k nw ne sw se four known f = tt

-- four 2 by 2 squares of two states are the parts of a 4 by 4 square
pub sixteen : (nodes : List Node) (k nw ne sw se n : ℕ) → IsOf nodes nw k → AreCells2 nw ne sw se n → square_of nodes (cells4 n) ≡ Parts (k + 1) nw ne sw se
sixteen nodes k nw ne sw se n h are =
    let e : k ≡ 1 = sym h.is_level ∙ (ap (level_of nodes) (sym are.is_nw) ∙ (among_cells2 nodes 0 (digit 16 n 0) (omega arith)).is_level) in
    ap (square_named nodes) (named_cells4 n are.low) ∙ rw (e, are.is_nw, are.is_ne, are.is_sw, are.is_se) refl

-- four 4 by 4 squares of two states are the parts of a block
pub sixty_four : (nodes : List Node) (k nw ne sw se n : ℕ) → IsOf nodes nw k → AreCells4 nw ne sw se n → node_square (Block n) ≡ Parts (k + 1) nw ne sw se
sixty_four nodes k nw ne sw se n h are =
    let e : k ≡ 2 = sym h.is_level ∙ (ap (level_of nodes) (sym are.is_nw) ∙ (among_cells4 nodes 0 (digit 65536 n 0) (omega arith)).is_level) in
    rw (e, are.is_nw, are.is_ne, are.is_sw, are.is_se) refl
