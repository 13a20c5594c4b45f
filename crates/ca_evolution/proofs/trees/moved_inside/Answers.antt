use Rattle.std.proofs.Common.{◌≡◌, sym, ap, subst, ◌∙◌, arith, w64, to_z}
use Rattle.std.specs.Prelude.{pos}
use Rattle.std.proofs.lemmas.Int.{to_z-of_z}
use Rattle.ca_quad.specs.Prelude.{shifted_cells, IsShiftRefused, cell}
use Rattle.ca_pattern.proofs.Corners.{fits_near}
use Rattle.ca_pattern.proofs.Times.{moved_nowhere}
use Rattle.ca_evolution.proofs.trees.moved_inside.Goals as goal

pub returns-then-dy-eq0-clause-moved : goal.returns-then-dy-eq0-clause-moved
returns-then-dy-eq0-clause-moved g c =
    let right : c.args.dx ≡ pos 0 = sym (to_z-of_z w64 c.args.dx c.ranges.dx) ∙ ap (to_z w64) c.if-dx-eq0.true in
    let down : c.args.dy ≡ pos 0 = sym (to_z-of_z w64 c.args.dy c.ranges.dy) ∙ ap (to_z w64) c.if-dy-eq0.true in
    record { near = c.requires; shows = λ x y. moved_nowhere (cell c.args.leaper.now.nodes c.args.tree) c.args.dx c.args.dy x y right down }

pub returns-in-Ok-clause-moved : goal.returns-in-Ok-clause-moved
returns-in-Ok-clause-moved g c =
    let moved = c.in-Ok.ensures in
    record {
      near = record { is_tree = moved.tree; low = omega (arith, moved.level); near = fits_near _ moved.fits };
      shows = λ x y. rw (to_z-of_z w64 c.args.dx c.ranges.dx, to_z-of_z w64 c.args.dy c.ranges.dy) at (moved.cells x y);
    }

pub returns-in-Err-Range-clause-moved : goal.returns-in-Err-Range-clause-moved
returns-in-Err-Range-clause-moved g c =
    let cells = cell c.args.leaper.now.nodes c.args.tree in
    rw (to_z-of_z w64 c.args.dx c.ranges.dx, to_z-of_z w64 c.args.dy c.ranges.dy) at (subst (IsShiftRefused (shifted_cells cells _ _)) c.in-Err-Range.field-0-is c.in-Err-Range.ensures.fault)
