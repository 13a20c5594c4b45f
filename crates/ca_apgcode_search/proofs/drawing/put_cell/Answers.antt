use Rattle.std.proofs.Common.{arith}
use Rattle.std.proofs.lemmas.Int.{ints}
use Rattle.ca_apgcode_search.proofs.drawing.put_cell.Goals as goal

pub returns-clause-puts : goal.returns-clause-puts
returns-clause-puts c = record { u = c.offset-u.result; v = c.offset-v.result; place = record { x = omega (arith, ints, c.offset-u.ensures); y = omega (arith, ints, c.offset-v.ensures) }; makes = c.make_live.ensures }
