use Rattle.ca_apgcode.specs.Prelude.{turned}
use Rattle.ca_apgcode.specs.declared.orientation.Orientation.TheVariants.{EastWest}
use Rattle.ca_apgcode.proofs.TurnedBoxes.{IsBoxRound-mirrored}
use Rattle.ca_apgcode.proofs.rounds.Turn.mirrored.Goals as goal

pub returns : goal.returns
returns c = λ cells box. c.to.ensures (turned EastWest cells) (IsBoxRound-mirrored cells c.args.self.grid c.in_ok-grid.grid c.in_ok-grid.ensures box)
