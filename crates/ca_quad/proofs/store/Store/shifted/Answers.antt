use Rattle.std.proofs.Common.{◌≡◌, ◌-ℤ◌, w64, ap, ◌∙◌}
use Rattle.std.proofs.lemmas.Int.{to_z-of_z}
use Rattle.ca_quad.specs.Prelude.{shifted_cells, cell}
use Rattle.ca_quad.proofs.FilledSquares.{grows_three}
use Rattle.ca_quad.proofs.Shifts.{small_level, can_move, fits_as, fits_level}
use Rattle.ca_quad.proofs.store.Store.shifted.Goals as goal

pub with_room-requires-clause-low : goal.with_room-requires-clause-low
with_room-requires-clause-low c = small_level c.trim.new.self c.in_ok-small.small c.spot-to.result c.spot-to.ensures.short c.in_ok-small.ensures.trimmed c.in_ok-check_shift.ensures.fits

pub moved-requires : goal.moved-requires
moved-requires c =
    can_move c.trim.new.self c.with_room.new.self c.trim.ensures.grows.sound c.in_ok-small.small c.in_ok-wide.wide c.in_ok-small.ensures.tree c.farthest.result c.spot-to.result c.spot-to.ensures.short c.farthest.ensures.x c.farthest.ensures.y
    c.in_ok-wide.ensures.room

pub returns-clause-cells : goal.returns-clause-cells
returns-clause-cells c = λ x y.
    let old = cell c.args.self.now c.args.tree in
    let dx : c.spot-to.result.x ≡ c.args.dx = c.spot-to.ensures.x ∙ to_z-of_z w64 c.args.dx c.ranges.dx in
    let dy : c.spot-to.result.y ≡ c.args.dy = c.spot-to.ensures.y ∙ to_z-of_z w64 c.args.dy c.ranges.dy in
    let u = x -ℤ c.spot-to.result.x in
    let v = y -ℤ c.spot-to.result.y in
    c.in_ok-moved.ensures.cells x y ∙ (c.in_ok-wide.ensures.room.has_cells u v ∙ (c.in_ok-small.ensures.cells u v ∙ (ap (λ d. old (x -ℤ d) v) dx ∙ ap (λ d. old (x -ℤ c.args.dx) (y -ℤ d)) dy)))

pub returns-clause-fits : goal.returns-clause-fits
returns-clause-fits c =
    let to = c.spot-to.result in
    let small = cell c.trim.new.self c.in_ok-small.small in
    fits_as (shifted_cells small to.x to.y) (cell c.moved.new.self c.in_ok-moved.field-0) (λ x y. c.in_ok-moved.ensures.cells x y ∙ c.in_ok-wide.ensures.room.has_cells (x -ℤ to.x) (y -ℤ to.y)) c.in_ok-check_shift.ensures.fits

pub returns-clause-level : goal.returns-clause-level
returns-clause-level c = fits_level c.moved.new.self c.in_ok-moved.field-0 c.in_ok-moved.ensures.trimmed (returns-clause-fits c)

pub returns-clause-grows : goal.returns-clause-grows
returns-clause-grows c = grows_three c.args.self.now c.trim.new.self c.with_room.new.self c.moved.new.self c.trim.ensures.grows c.with_room.ensures.grows c.moved.ensures.grows
