-- What is in the middle of squares after some generations (Gosper, "Exploiting regularities in large cellular spaces").
use Rattle.std.specs.Prelude.{◌≡◌, ℕ, suc, ◌+◌, ◌≤◌, ◌<◌, ◌^◌, ℤ, pos, ◌+ℤ◌, List}
use Rattle.ca_plane.specs.Prelude.{cells_after, from_corner}
use Rattle.ca_quad.specs.declared.node.Node.{Node}
use Rattle.ca_quad.specs.Prelude.{IsOf, cell_of, AreFour}
use Rattle.ca_run.specs.inner.Shown.{ShowsAt, FourShow}
use Rattle.ca_bricks.specs.Prelude.{side}

-- the centre of a square after n generations, counted from the centre's own corner: the square lies with its upper left
-- cell at (0, 0), all else is empty, and the centre begins a quarter of the side further in
abbrev pub centre : (List ℕ → ℕ) → (ℕ → ℕ → ℕ) → ℕ → ℕ → ℕ → ℕ → ℕ
centre next cells quarter n u v = cells_after next (from_corner cells) n (pos (quarter + u)) (pos (quarter + v))

-- result_id names the result, the centre of level k + 1, of a square of level k + 2 after 2 ^ j generations; j is at most k
pub record IsCentre (next : List ℕ → ℕ) (nodes : List Node) (id k j result_id : ℕ) : Type 0 where
  pub in_time : j ≤ k
  pub is_square : IsOf nodes id (suc (suc k))
  pub is_result : IsOf nodes result_id (suc k)
  pub has_cells : (u v : ℕ) → u < 2 ^ suc k → v < 2 ^ suc k
      → cell_of nodes (suc k) result_id u v ≡ centre next (cell_of nodes (suc (suc k)) id) (2 ^ k) (2 ^ j) u v

-- four squares of level k + 1, and the one in their middle as far ahead as it can be known: whatever plane they show,
-- it shows what that is 2 ^ k generations later
pub record IsLeap (next : List ℕ → ℕ) (nodes : List Node) (k nw ne sw se result_id : ℕ) : Type 0 where
  pub are_four : AreFour nodes (suc k) nw ne sw se
  pub is_result : IsOf nodes result_id (suc k)
  pub shows : (p : ℤ → ℤ → ℕ) (a b : ℤ) → FourShow nodes (suc k) nw ne sw se p a b
      → ShowsAt nodes result_id (suc k) (cells_after next p (2 ^ k)) (a +ℤ side k) (b +ℤ side k)
