use Rattle.std.proofs.Common.{take}
use Rattle.std.specs.List.{flat_map}
use Rattle.ca_plane.specs.Prelude.{Puts}
use Rattle.ca_census_runs.specs.Prelude.{object_line}
use Rattle.ca_census_runs.proofs.places.push_objects.Given as goal

-- the lines so far were put
abbrev pub invariant-objects : goal.invariant-objects
invariant-objects l = Puts l.fn.out.items l.out.items (flat_map object_line (take l.object-index l.objects))
