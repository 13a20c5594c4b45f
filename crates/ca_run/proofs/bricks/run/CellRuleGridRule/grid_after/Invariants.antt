use Rattle.std.proofs.Common.{◌≡◌, ℕ, ◌+◌, ◌-◌, ◌*◌, ◌≤◌, length, get_or, []}
use Rattle.ca_plane.specs.Prelude.{cells_after}
use Rattle.ca_quad.specs.Prelude.{cell}
use Rattle.ca_run.specs.inner.AtCost.{SpendsAtMost}
use Rattle.ca_bricks.specs.Prelude.{GridShows, IsInPlace, AllHaveNeighbours, HasNeighbours, IsNotIn, IsNextBrick, BricksRest, HasBlankEdge, IsBlank, IsBlankRound}
use Rattle.ca_run.proofs.bricks.run.CellRuleGridRule.grid_after.Given as goal

-- the grid after k generations, and which of its bricks are awake: at first those that see a live cell, as if the
-- generation before were blank
abbrev pub invariant-generations : goal.invariant-generations
invariant-generations g l = record {
  shows : GridShows l.grid (l.fn.n - l.k) (cells_after (g.A.Automaton.next_of l.fn.leaper.rule) (cell l.fn.leaper.nodes l.fn.first) (l.fn.reached + l.k));
  place : IsInPlace l.fn.grid l.grid;
  count : length l.grid.bricks.items ≡ length l.fn.grid.bricks.items;
  size : length l.before.items ≡ length l.grid.bricks.items;
  inside : AllHaveNeighbours l.grid.across (length l.grid.bricks.items) l.awake.items;
  empty : l.queue ≡ [];
  rest : BricksRest l.fn.self l.grid.across l.grid.bricks.items l.before.items l.awake.items;
  next : 1 ≤ l.k → (t : ℕ) → HasNeighbours l.grid.across (length l.grid.bricks.items) t → IsNextBrick l.fn.self l.grid.across l.before.items l.grid.bricks.items t;
  edge : HasBlankEdge l.grid.across l.grid.bricks.items;
  edge_before : HasBlankEdge l.grid.across l.before.items;
  first : l.k ≡ 0 → (t : ℕ) → HasNeighbours l.grid.across (length l.grid.bricks.items) t → IsNotIn l.awake.items t → IsBlankRound l.grid.across l.grid.bricks.items t;
  blank : l.k ≡ 0 → (t : ℕ) → IsBlank (get_or l.before.items t []);
  counted : l.work.used ≡ l.fn.work.used + l.grid.work;
  charged : SpendsAtMost l.fn.work l.work (l.k * length l.fn.grid.bricks.items);
}
