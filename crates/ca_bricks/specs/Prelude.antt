-- The names of this crate's definitions that other crates and proofs cite, passed on from one place. It declares nothing.
pub use Rattle.ca_bricks.specs.Counting.{GoesBy}
pub use Rattle.ca_bricks.specs.Diagrams.{diagram_next, states_of, node_state}
pub use Rattle.ca_bricks.specs.CellRules.{GoesByCells, cell_next, IsTileNext}
pub use Rattle.ca_bricks.specs.Lanes.{tile_cell, IsWithinEdge, IsNextTile}
pub use Rattle.ca_bricks.specs.Tiles.{next_by_count, nine_at, sum_round, lives_next, number, sum_above, sum_beside, sum_below}
pub use Rattle.ca_bricks.specs.Words.{WordShows, eight, byte_of}
pub use Rattle.ca_bricks.specs.Overlaps.{PairShows, TrioShows, RowsShow, QuartersShow, side}
pub use Rattle.ca_bricks.specs.WordSquares.{WordSquareShows, TileShows, word_bytes_at, inner_byte, WideSquareShows}
pub use Rattle.ca_bricks.specs.Bricks.{IsGrid, GridShows, BrickShows, BricksShow, HasMargin, HasNeighbours, HasBlankEdge, brick_x, brick_y, round_at, column_at, IsInPlace, IsNotAhead, wide_bit, AreWords, next_cell_at, IsNextBrick, IsSameRound, IsUnseen, IsBlank, IsBlankRound, QueueGrows, round_cells, IsNotIn, IsNearGrid, counted_cell_at, AllHaveNeighbours, count_at, pair_at, IsNearEnd, LiesNearOrigin, IsAligned, LiesWithin, BricksRest}
pub use Rattle.ca_bricks.specs.Aged.{AgedGridShows, AreAlike, IsBeside, IsNextAged, HasBlankEdges, remaining, dying_digit, aged_digit, number_at, lives_at, begins_at, IsSameAged, IsBlankAged, IsBlankRoundAged, HaveAged, AreBeside, CanAge, AgedBricksRest, IsAgedGrid}
pub use Rattle.ca_bricks.specs.States.{StatesShow, told_state}
