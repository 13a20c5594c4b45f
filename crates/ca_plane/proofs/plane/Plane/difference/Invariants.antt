use Rattle.std.proofs.Common.{◌≡◌, ◌++◌}
use Rattle.ca_plane.proofs.plane.Plane.difference.Given as goal

-- both planes have the cells so far in common
abbrev pub invariant-cells : goal.invariant-cells
invariant-cells l = l.other ≡ l.yielded ++ l.others
