use Rattle.std.proofs.Common.{◌≡◌, ℕ, ◌+◌, ◌*◌, ◌/◌, ◌%◌, ◌<◌, [], get_or, length}
use Rattle.ca_quad.specs.Prelude.{cell}
use Rattle.ca_bricks.specs.Prelude.{BrickShows}
use Rattle.ca_run.specs.inner.Frames.{IsFramed, piece_start, row_start}
use Rattle.ca_run.proofs.leaper.Leaper.grid_of.Given as goal

-- the bricks so far
abbrev pub invariant-bricks : goal.invariant-bricks
invariant-bricks g l = record {
  size : length l.bricks.items ≡ l.t;
  shown : (m : ℕ) → IsFramed m l.frame (cell l.self.nodes l.tree) → (t : ℕ) → t < l.t
      → BrickShows (get_or l.bricks.items t []) (λ x y. g.P.StatePlane.bit_of l.plane (cell l.self.nodes l.tree x y)) (piece_start (l.frame.columns.first + t % l.across)) (row_start (4 * l.frame.rows.first + t / l.across));
}
