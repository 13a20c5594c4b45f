use Rattle.std.proofs.Common.{arith}
use Rattle.ca_quad.proofs.Blocks.{put_at}
use Rattle.ca_quad.proofs.store.block.put_cell.Goals as goal

pub returns-in-Some : goal.returns-in-Some
returns-in-Some c = put_at c.args.at c.args.point c.args.state c.in-Some.place c.args.states.now (omega (arith, c.told-states)) c.in-Some.ensures
