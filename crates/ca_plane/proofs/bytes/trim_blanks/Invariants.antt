use Rattle.std.proofs.Common.{◌≡◌, length}
use Rattle.ca_plane.specs.Prelude.{is_blank, rest, without_last_blanks}
use Rattle.ca_plane.proofs.bytes.trim_blanks.Given as goal

abbrev pub invariant-blanks : goal.invariant-blanks
invariant-blanks l = without_last_blanks (rest is_blank l.bytes) ≡ without_last_blanks l.left

abbrev pub decreases-blanks : goal.decreases-blanks
decreases-blanks l = length l.left
