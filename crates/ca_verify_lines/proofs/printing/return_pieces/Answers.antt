use Rattle.std.proofs.Common.{w64, refl}
use Rattle.std.specs.Fmt.{signed_decimal}
use Rattle.std.proofs.lemmas.List.{append-nil}
use Rattle.std.proofs.lemmas.Int.{to_z-of_z}
use Rattle.ca_verify_lines.proofs.printing.return_pieces.Goals as goal

pub returns : goal.returns
returns c = rw (to_z-of_z w64 c.args.dx c.ranges.dx, to_z-of_z w64 c.args.dy c.ranges.dy, append-nil (signed_decimal c.args.dy)) refl
