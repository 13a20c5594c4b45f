use Rattle.ca_quad.specs.Prelude.{cell}
use Rattle.ca_verify.proofs.Corners.{leaves_none}
use Rattle.ca_verify.proofs.Starts.{near_pattern}
use Rattle.ca_verify.proofs.Times.{shift_again}
use Rattle.ca_text.proofs.Shifts.{shift_reads}
use Rattle.ca_verify.proofs.decide.moved_tree.Goals as goal

pub moved_inside-requires : goal.moved_inside-requires
moved_inside-requires g c = near_pattern c.args.leaper.now.nodes c.args.pattern c.requires.pattern

pub unreachable-requires : goal.unreachable-requires
unreachable-requires g c =
    leaves_none (cell c.args.leaper.now.nodes c.args.pattern) _ _ c.requires.pattern.range (shift_again c.args.dx c.requires.right) (shift_again c.args.dy c.requires.down)
    (rw c.in_default.is at c.in_ok-moved.ensures.moved)

pub returns-clause-moved : goal.returns-clause-moved
returns-clause-moved g c =
    let moved = rw c.in-Some.is at c.in_ok-moved.ensures.moved in
    record { near = moved.near; shows = λ x y. rw (shift_reads c.args.dx c.requires.right, shift_reads c.args.dy c.requires.down) at (moved.shows x y) }
