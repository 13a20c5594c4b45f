use Rattle.std.proofs.Common.{◌≡◌, ℕ, ◌+◌, ◌-◌, ◌*◌, ◌≤◌, length, []}
use Rattle.ca_plane.specs.Prelude.{cells_after}
use Rattle.ca_quad.specs.Prelude.{cell}
use Rattle.ca_run.specs.inner.AtCost.{SpendsAtMost}
use Rattle.ca_bricks.specs.Prelude.{AgedGridShows, AreAlike, IsBeside, IsNextAged, AgedBricksRest, HasBlankEdges, IsBlankAged, IsBlankRoundAged, AllHaveNeighbours, HasNeighbours, IsNotIn}
use Rattle.ca_run.proofs.bricks.aged.AgeingGridRule.grid_after.Given as goal

-- the grid after k generations, and which of its bricks are awake: at first those that see a live cell or have a dying
-- one, as if the generation before were blank
abbrev pub invariant-generations : goal.invariant-generations
invariant-generations g l = record {
  shows : AgedGridShows l.grid (l.fn.n - l.k) (cells_after (g.A.Automaton.next_of l.fn.leaper.rule) (cell l.fn.leaper.nodes l.fn.first) (l.fn.reached + l.k));
  states : l.grid.states ≡ l.fn.grid.states;
  place : IsBeside l.fn.grid.live l.grid.live;
  alike : AreAlike l.grid l.before;
  inside : AllHaveNeighbours l.grid.live.across (length l.grid.live.bricks.items) l.awake.items;
  empty : l.queue ≡ [];
  rest : AgedBricksRest l.fn.self l.grid l.before l.awake.items;
  next : 1 ≤ l.k → (t : ℕ) → HasNeighbours l.grid.live.across (length l.grid.live.bricks.items) t → IsNextAged l.fn.self l.before l.grid t;
  edge : HasBlankEdges l.grid;
  edge_before : HasBlankEdges l.before;
  first : l.k ≡ 0 → (t : ℕ) → HasNeighbours l.grid.live.across (length l.grid.live.bricks.items) t → IsNotIn l.awake.items t → IsBlankRoundAged l.grid t;
  blank : l.k ≡ 0 → (t : ℕ) → IsBlankAged l.before t;
  counted : l.work.used ≡ l.fn.work.used + l.stepped;
  charged : SpendsAtMost l.fn.work l.work (l.k * length l.fn.grid.live.bricks.items);
}
