use Rattle.std.proofs.Common.{arith}
use Rattle.ca_bricks.proofs.Tiles.{bytes_of_two}
use Rattle.ca_bricks.proofs.tile.bytes_of.Goals as goal

pub returns-clause-bytes : goal.returns-clause-bytes
returns-clause-bytes c = bytes_of_two c.args.north c.args.south (omega arith) (omega arith)
