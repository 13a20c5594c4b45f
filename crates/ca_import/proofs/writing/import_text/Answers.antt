use Rattle.ca_plane.specs.Prelude.{bit_cell}
use Rattle.ca_import.proofs.InRange.{import_in_range}
use Rattle.ca_import.proofs.writing.import_text.Goals as goal

pub text_of_pattern-requires : goal.text_of_pattern-requires
text_of_pattern-requires c = import_in_range c.args.bytes.now (bit_cell c.in-Ok.pattern.cells) c.in-Ok.pattern.rule c.in-Ok.ensures.found
