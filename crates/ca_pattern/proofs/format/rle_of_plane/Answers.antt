use Rattle.ca_pattern.proofs.WrittenMeanings.{written_rle}
use Rattle.ca_pattern.proofs.format.rle_of_plane.Goals as goal

pub returns-in-Ok-clause-written : goal.returns-in-Ok-clause-written
returns-in-Ok-clause-written c = written_rle c.args.cells.now c.args.rule_text.now c.args.generation c.args.states c.in-Ok.text.items c.requires.few c.in-Ok.ensures
