use Rattle.std.proofs.Common.{map, take}
use Rattle.ca_plane.specs.Prelude.{Puts}
use Rattle.ca_identify_lines.specs.Prelude.{name_byte}
use Rattle.ca_identify_lines.proofs.names.push_name_bytes.Given as goal

-- the bytes so far were put
abbrev pub invariant-bytes : goal.invariant-bytes
invariant-bytes l = Puts l.fn.out.items l.out.items (map name_byte (take l.byte-index l.bytes))
