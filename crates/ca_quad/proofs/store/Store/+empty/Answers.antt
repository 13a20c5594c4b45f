use Rattle.std.proofs.Common.{◌-◌, ◌^◌, arith}
use Rattle.ca_quad.specs.Prelude.{cell_of, joined_cells, IsEmpty}
use Rattle.ca_quad.proofs.Edges.{shows_empty}
use Rattle.ca_quad.proofs.Walks.{together_empty}
use Rattle.ca_quad.proofs.store.Store.+empty.Goals as goal

pub returns-clause-shows : goal.returns-clause-shows
returns-clause-shows t c =
    let k = c.args.level - 1 in
    let part = cell_of c.empty.new.self k c.in_ok-part.part in
    let no_cells : IsEmpty part = c.in_ok-part.ensures.shows.has_cells in
    shows_empty c.join.new.self c.join.result k c.args.level (joined_cells (2 ^ k) part part part part) (omega arith)
    (together_empty (2 ^ k) part part part part no_cells no_cells no_cells no_cells) (c.join.ensures.shows k c.in_ok-part.ensures.shows.is_square)
