-- Several states for each cell of a brick, and those of the nodes of a diagram.
use Rattle.std.proofs.Common.{◌≡◌, ℕ, zero, suc, ◌+◌, List, [], ◌∷◌, ◌++◌, get_or, Bool, true, false, ◌==◌, if◌then◌else◌, sym, ap, refl, ◌∙◌, arith, slice_index}
use Rattle.std.proofs.lemmas.Nat.Bits.{bit_at-zero}
use Rattle.std.proofs.lemmas.List.{map-append}
use Rattle.ca_plane.specs.Prelude.{row_cells}
use Rattle.ca_bricks.specs.Prelude.{states_of, node_state}
use Rattle.ca_bricks.specs.declared.{diagram.Node.Node, kernel.bits.Bits.Bits}
use Rattle.ca_bricks.specs.declared.diagram.Node.TheVariants.{State}
use Rattle.ca_bricks.specs.inner.Planes.{cells_at, tile_planes}

-- one of them is that of its rows
pub read : (planes : List (List ℕ)) (i x y : ℕ) → slice_index (cells_at planes x y) i ≡ row_cells (get_or planes i []) x y
read [] i x y = sym (bit_at-zero x)
read (rows ∷ planes) zero x y = refl
read (rows ∷ planes) (suc i) x y = read planes i x y

-- a choice between two of a list is the one that is chosen
choice : (b : Bool) (states : List ℕ) (dead live : ℕ) → (if b then slice_index states dead else slice_index states live) ≡ slice_index states (if b then dead else live)
choice true states dead live = refl
choice false states dead live = refl

pub chosen : (cells states : List ℕ) (place dead live a b c : ℕ) → a ≡ slice_index cells place → b ≡ slice_index states dead → c ≡ slice_index states live
    → (if a == 0 then b else c) ≡ slice_index states (if slice_index cells place == 0 then dead else live)
chosen cells states place dead live a b c is_a is_b is_c =
    ap (λ a. if a == 0 then b else c) is_a ∙ ap (λ b. if slice_index cells place == 0 then b else c) is_b
    ∙ ap (λ c. if slice_index cells place == 0 then slice_index states dead else c) is_c ∙ choice (slice_index cells place == 0) states dead live

-- one node more
pub states_more : (nodes : List Node) (nine states : List ℕ) (n state : ℕ) → states ≡ states_of nodes nine n → state ≡ node_state nine states (get_or nodes n (State false))
    → states ++ (state ∷ []) ≡ states_of nodes nine (n + 1)
states_more nodes nine states n state is next =
    let one : suc n ≡ n + 1 = omega arith in
    ap (λ l. l ++ (state ∷ [])) is
    ∙ ap (λ s. states_of nodes nine n ++ (s ∷ [])) (next ∙ ap (λ l. node_state nine l (get_or nodes n (State false))) is)
    ∙ ap (states_of nodes nine) one

-- and the states of each cell with the rows of one node more
pub cells_more : (planes : List (List ℕ)) (rows : List ℕ) (x y : ℕ) → cells_at (planes ++ (rows ∷ [])) x y ≡ cells_at planes x y ++ (row_cells rows x y ∷ [])
cells_more planes rows x y = map-append (λ rows. row_cells rows x y) planes (rows ∷ [])

-- the same for a tile
pub tile_more : (planes : List Bits) (bits : Bits) (x y : ℕ) → cells_at (tile_planes (planes ++ (bits ∷ []))) x y ≡ cells_at (tile_planes planes) x y ++ (row_cells bits.rows x y ∷ [])
tile_more planes bits x y = ap (λ l. cells_at l x y) (map-append (λ bits. bits.rows) planes (bits ∷ [])) ∙ cells_more (tile_planes planes) bits.rows x y
