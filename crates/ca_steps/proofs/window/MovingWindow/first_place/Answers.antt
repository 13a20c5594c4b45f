use Rattle.ca_steps.proofs.Windows.{IsFirstOrNone-SeesAhead}
use Rattle.ca_steps.proofs.window.MovingWindow.first_place.Goals as goal

pub returns : goal.returns
returns c = IsFirstOrNone-SeesAhead c.args.self.now _ _ _ _ _ c.first_place.ensures c.first_place-2.ensures c.first_place-3.ensures c.earlier_point-upper.ensures c.earlier_point.ensures
