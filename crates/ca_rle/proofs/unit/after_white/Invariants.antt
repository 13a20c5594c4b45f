use Rattle.std.proofs.Common.{◌≡◌, not, length, IsTrue}
use Rattle.ca_plane.specs.Prelude.{is_blank, is_end_or}
use Rattle.ca_rle.specs.Prelude.{InLine, after_white}
use Rattle.ca_rle.proofs.unit.after_white.Given as goal

-- white space was skipped, and then blanks
abbrev pub invariant-lines : goal.invariant-lines
invariant-lines l = record {
  white : after_white InLine l.bytes ≡ after_white InLine l.rest;
  no_blank : IsTrue (is_end_or (λ b. not (is_blank b)) l.rest);
}

abbrev pub decreases-lines : goal.decreases-lines
decreases-lines l = length l.rest
