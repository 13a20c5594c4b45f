use Rattle.std.proofs.Common.{◌-◌, ◌≤◌}
use Rattle.ca_plane.specs.inner.BitRuns.{AddsColumns}
use Rattle.ca_plane.proofs.bit_plane.BitPlane.add_run.Given as goal

-- the columns before the next one are added
abbrev pub invariant-words : goal.invariant-words
invariant-words l = record {
  start : l.initial.next ≤ l.next;
  order : l.next ≤ l.end;
  adds : AddsColumns l.row l.initial.next l.next l.initial.self l.self;
}

abbrev pub decreases-words : goal.decreases-words
decreases-words l = l.end - l.next
