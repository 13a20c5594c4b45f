use Rattle.std.proofs.Common.{refl}
use Rattle.ca_steps.proofs.WrittenGenerations.{ShowsWindow-corner}
use Rattle.ca_steps.proofs.window.MovingWindow.new.Goals as goal

pub returns-clause-shows : goal.returns-clause-shows
returns-clause-shows c = ShowsWindow-corner c.args.cells.now _ c.requires.reach (refl, refl) (c.new.ensures.west, c.new.ensures.centre, c.new.ensures.east, c.new.ensures.ahead) (c.new-2.ensures.west, c.new-2.ensures.centre, c.new-2.ensures.east, c.new-2.ensures.ahead) (c.new-3.ensures.west, c.new-3.ensures.centre, c.new-3.ensures.east, c.new-3.ensures.ahead)
