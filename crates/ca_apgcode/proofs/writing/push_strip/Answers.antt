use Rattle.std.proofs.Common.{arith}
use Rattle.std.proofs.lemmas.List.{get_or_past}
use Rattle.ca_apgcode.specs.Prelude.{cell}
use Rattle.ca_apgcode.proofs.Columns.{five_dead}
use Rattle.ca_apgcode.proofs.Steps.{BeginsStrip-none, BeginsStrip-more, BeginsStrip-all}
use Rattle.ca_apgcode.proofs.writing.push_strip.Goals as goal

pub columns-init : goal.columns-init
columns-init c = BeginsStrip-none (cell c.args.grid.now) c.args.y c.args.text.now.items

pub push_column-requires-clause-gap : goal.push_column-requires-clause-gap
push_column-requires-clause-gap c = omega (arith, c.columns.invariant.width, c.width-x-end.ensures.most)

pub columns-preserved : goal.columns-preserved
columns-preserved c =
    BeginsStrip-more (cell c.args.grid.now) c.args.y c.columns.x c.columns.gap c.five_cells-column.result c.in_ok-gap.gap c.args.text.now.items c.columns.text.items c.push_column.new.text.items
    c.five_cells-column.ensures.cells c.five_cells-column.ensures.most (omega (arith, c.columns.invariant.width, c.width-x-end.ensures.most)) c.in_ok-gap.ensures.gap c.in_ok-gap.ensures.puts c.columns.invariant

pub returns : goal.returns
returns c =
    BeginsStrip-all (cell c.args.grid.now) c.args.y c.columns.x c.columns.gap c.args.text.now.items c.columns.text.items
    (λ k east. five_dead c.args.grid.now k c.args.y (get_or_past c.args.grid.now.columns k 0 (omega (arith, c.width-x-end.ensures.width, c.columns-test.false, east))))
    c.columns.invariant
