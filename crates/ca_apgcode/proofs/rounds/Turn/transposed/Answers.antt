use Rattle.ca_apgcode.specs.Prelude.{turned}
use Rattle.ca_apgcode.specs.declared.orientation.Orientation.TheVariants.{Diagonal}
use Rattle.ca_apgcode.proofs.TurnedBoxes.{IsBoxRound-transposed}
use Rattle.ca_apgcode.proofs.rounds.Turn.transposed.Goals as goal

pub returns : goal.returns
returns c = λ cells box. c.to.ensures (turned Diagonal cells) (IsBoxRound-transposed cells c.args.self.grid c.in_ok-grid.grid c.in_ok-grid.ensures box)
