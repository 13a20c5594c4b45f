use Rattle.std.proofs.Common.{[], ◌∷◌}
use Rattle.ca_plane.specs.Prelude.{row_cells}
use Rattle.ca_quad.proofs.BitWords.{eight_rows, eight_shown}
use Rattle.ca_quad.proofs.store.bit_block.ArrayU6464Block.least_square.Goals as goal

pub returns-clause-shows : goal.returns-clause-shows
returns-clause-shows c =
    eight_shown c.from_leaf8.new.self c.from_leaf8.result (row_cells c.args.self.now) (c.eight_cells.result ∷ c.eight_cells-2.result ∷ c.eight_cells-3.result ∷ c.eight_cells-4.result ∷ c.eight_cells-5.result ∷ c.eight_cells-6.result ∷ c.eight_cells-7.result ∷ c.eight_cells-8.result ∷ []) c.args.x c.args.y
    (eight_rows (row_cells c.args.self.now) c.args.x c.args.y c.eight_cells.result c.eight_cells-2.result c.eight_cells-3.result c.eight_cells-4.result c.eight_cells-5.result c.eight_cells-6.result c.eight_cells-7.result c.eight_cells-8.result
    c.eight_cells.ensures c.eight_cells-2.ensures c.eight_cells-3.ensures c.eight_cells-4.ensures c.eight_cells-5.ensures c.eight_cells-6.ensures c.eight_cells-7.ensures c.eight_cells-8.ensures)
    c.from_leaf8.ensures.shows
