-- Grids a generation later.
use Rattle.std.proofs.Common.{◌≡◌, ℕ, suc, ◌+◌, ◌-◌, ◌<◌, inl, inr, List, [], length, sym, ap, subst, ◌∙◌, arith}
use Rattle.std.specs.Prelude.{ℤ, replicate}
use Rattle.std.proofs.lemmas.List.{get_or_past}
use Rattle.ca_plane.specs.Prelude.{cells_after, row_cells}
use Rattle.ca_plane.proofs.Numbers.{below_or_not}
use Rattle.ca_bricks.specs.declared.{grid.BrickGrid.BrickGrid, cell_rule.CellRule.CellRule}
use Rattle.ca_bricks.specs.Prelude.{GoesByCells, GridShows, IsInPlace, HasNeighbours, AllHaveNeighbours, IsNextBrick, HasBlankEdge, QueueGrows}
use Rattle.ca_plane.proofs.After.{after_again}
use Rattle.ca_bricks.proofs.BrickEdges.{bricks_go_on, edge_dead}
use Rattle.ca_bricks.proofs.BrickLists.{none_blank}
use Rattle.ca_bricks.proofs.BrickMargins.{margin_less, margin_shrinks, grid_as, grid_less}

-- the bricks at the edge of a grid with a dead margin are blank
pub edge_blank : (grid : BrickGrid) (m : ℕ) (p : ℤ → ℤ → ℕ) → GridShows grid m p → HasBlankEdge grid.across grid.bricks.items
edge_blank grid m p shows t not x y h k = elim (below_or_not t (length grid.bricks.items)) [
  | inl low ↦
      (shows.bricks t low).looks x y h k
      ∙ edge_dead grid.across grid.down (length grid.bricks.items) p grid.x grid.y shows.is_grid.wide shows.is_grid.high shows.is_grid.size
      (margin_less m 0 grid.across grid.down p grid.x grid.y (omega arith) shows.margin) t low not x y h k
  | inr past ↦ ap (λ rows. row_cells rows x y) (get_or_past grid.bricks.items t [] past) ∙ none_blank x y h k
]

-- the grid a generation later, of a run that has reached `reached + k` generations
pub grid_later : (next : List ℕ → ℕ) (rule : CellRule) → GoesByCells next rule → next (replicate 9 0) ≡ 0 → (grid later : BrickGrid) (n k reached : ℕ) (first : ℤ → ℤ → ℕ) → k < n
    → GridShows grid (n - k) (cells_after next first (reached + k)) → IsInPlace grid later → length later.bricks.items ≡ length grid.bricks.items
    → ((t : ℕ) → HasNeighbours grid.across (length grid.bricks.items) t → IsNextBrick rule grid.across grid.bricks.items later.bricks.items t) → HasBlankEdge grid.across later.bricks.items
    → GridShows later (n - (k + 1)) (cells_after next first (reached + (k + 1)))
grid_later next rule goes_by quiet grid later n k reached first low shows place same came blank =
    let p = cells_after next first (reached + k) in
    let m = n - (k + 1) in
    let more : n - k ≡ suc m = omega (arith, low) in
    let time : (reached + k) + 1 ≡ reached + (k + 1) = omega arith in
    let wide = shows.is_grid in
    let before = subst (λ r. GridShows grid r p) more shows in
    let after = margin_shrinks next quiet m grid.across grid.down p grid.x grid.y before.margin in
    let made = bricks_go_on next rule goes_by grid.across grid.down grid.bricks.items later.bricks.items p grid.x grid.y wide.wide wide.high wide.size same
    (margin_less (suc m) 0 grid.across grid.down p grid.x grid.y (omega arith) before.margin) (margin_less m 0 grid.across grid.down (cells_after next p 1) grid.x grid.y (omega arith) after)
    shows.bricks came blank in
    grid_as later m (cells_after next p 1) (cells_after next first (reached + (k + 1)))
    (λ x y. after_again next first (reached + k) 1 x y ∙ ap (λ r. cells_after next first r x y) time)
    (rw (place.x, place.y, place.across, place.down) (record {
      is_grid = record { wide = wide.wide; high = wide.high; size = same ∙ wide.size };
      bricks = made;
      margin = after;
    }))

-- the same, as it is reported
pub grid_seen : (next : List ℕ → ℕ) (rule : CellRule) → GoesByCells next rule → next (replicate 9 0) ≡ 0 → (grid later : BrickGrid) (n k reached : ℕ) (first : ℤ → ℤ → ℕ) → k < n
    → GridShows grid (n - k) (cells_after next first (reached + k)) → IsInPlace grid later → length later.bricks.items ≡ length grid.bricks.items
    → ((t : ℕ) → HasNeighbours grid.across (length grid.bricks.items) t → IsNextBrick rule grid.across grid.bricks.items later.bricks.items t) → HasBlankEdge grid.across later.bricks.items
    → GridShows later 0 (cells_after next first ((reached + k) + 1))
grid_seen next rule goes_by quiet grid later n k reached first low shows place same came blank =
    let time : reached + (k + 1) ≡ (reached + k) + 1 = omega arith in
    subst (λ r. GridShows later 0 (cells_after next first r)) time
    (grid_less later (n - (k + 1)) 0 (cells_after next first (reached + (k + 1))) (omega arith) (grid_later next rule goes_by quiet grid later n k reached first low shows place same came blank))

-- all that a queue has that began empty have others on all sides
pub queue_inside : (across count : ℕ) (old new : List ℕ) → old ≡ [] → QueueGrows across count old new → AllHaveNeighbours across count new
queue_inside across count old new none grows = grows.all (subst (AllHaveNeighbours across count) (sym none) (λ k h. absurd (omega (arith, h))))
