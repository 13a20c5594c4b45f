use Rattle.std.proofs.Common.{◌≡◌, take}
use Rattle.ca_plane.specs.Prelude.{Puts}
use Rattle.ca_census_files.specs.Files.{all_object_claims}
use Rattle.ca_census_files.proofs.claims_text.push_object_claims.Given as goal

-- the lines on the objects so far were put, each with its number
abbrev pub invariant-objects : goal.invariant-objects
invariant-objects l = record {
  numbered : l.number ≡ l.object-index;
  put : Puts l.fn.out.items l.out.items (all_object_claims l.folder l.name 1 (take l.object-index l.objects));
}
