use Rattle.std.proofs.Common.{◌≡◌, ◌-◌, ◌^◌, min, take}
use Rattle.ca_plane.specs.Prelude.{value}
use Rattle.ca_plane.proofs.bytes.number.Given as goal

abbrev pub invariant-digits : goal.invariant-digits
invariant-digits l = l.number ≡ min (value (take l.digit-index l.digits)) (2 ^ 64 - 1)
