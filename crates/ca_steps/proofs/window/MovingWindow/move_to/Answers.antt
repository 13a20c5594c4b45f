use Rattle.std.proofs.Common.{rules, SFits, w64, refl}
use Rattle.std.proofs.lemmas.Int.{to_z-of_z}
use Rattle.ca_steps.proofs.window.MovingWindow.move_to.Goals as goal

pub move_on-requires-3 : goal.move_on-requires-3
move_on-requires-3 c =
    let x : SFits w64 c.args.place.x = search rules in
    let y : SFits w64 c.args.place.y = search rules in
    let east : SFits w64 c.one_more-x.result = search rules in
    let south : SFits w64 c.one_more-south.result = search rules in
    let across = simp (to_z-of_z w64 c.args.place.x x) at c.one_more-x.ensures in
    let down = simp (to_z-of_z w64 c.args.place.y y) at c.one_more-south.ensures in
    rw (to_z-of_z w64 c.one_more-x.result east, to_z-of_z w64 c.one_more-south.result south, across, down) c.requires.south

pub returns : goal.returns
returns c = record { place = refl; north = search rules; middle = search rules; south = search rules }
