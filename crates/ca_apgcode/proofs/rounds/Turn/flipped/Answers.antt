use Rattle.ca_apgcode.specs.Prelude.{turned}
use Rattle.ca_apgcode.specs.declared.orientation.Orientation.TheVariants.{NorthSouth}
use Rattle.ca_apgcode.proofs.TurnedBoxes.{IsBoxRound-flipped}
use Rattle.ca_apgcode.proofs.rounds.Turn.flipped.Goals as goal

pub returns : goal.returns
returns c = λ cells box. c.to.ensures (turned NorthSouth cells) (IsBoxRound-flipped cells c.args.self.grid c.in_ok-grid.grid c.in_ok-grid.ensures box)
