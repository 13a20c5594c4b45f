use Rattle.ca_quad.proofs.Measures.{measure_four}
use Rattle.ca_quad.proofs.store.measure.measure_of_cells.Goals as goal

pub returns : goal.returns
returns g c = λ nodes id is.
    measure_four g.M.Measure.is nodes id c.args.nw c.args.ne c.args.sw c.args.se is _ _ _ _ _ c.of_cell.ensures c.of_cell-2.ensures c.of_cell-3.ensures c.of_cell-4.ensures
    c.of_four.ensures
