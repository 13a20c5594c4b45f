use Rattle.std.proofs.Common.{arith}
use Rattle.ca_import.proofs.Taken.{cell_taken}
use Rattle.ca_import.proofs.reading.Reading.add_cell.Goals as goal

pub returns-clause-takes : goal.returns-clause-takes
returns-clause-takes c =
    let few = c.if-self-ge-MOST_CELLS.false in
    cell_taken c.args.at c.args.self.now c.add_run.new.self c.requires.ready c.requires.range (omega (arith, few)) c.in_ok-add_run.ensures.ok
