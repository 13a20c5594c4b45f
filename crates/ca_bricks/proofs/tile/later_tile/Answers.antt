use Rattle.std.proofs.Common.{subst}
use Rattle.ca_bricks.specs.Prelude.{GoesByCells}
use Rattle.ca_bricks.proofs.tile.later_tile.Goals as goal

pub returns-in-ByDiagram : goal.returns-in-ByDiagram
returns-in-ByDiagram c = λ next p a b goes_by shows. c.later_by_diagram.ensures next p a b (subst (GoesByCells next) c.in-ByDiagram.is goes_by) shows
