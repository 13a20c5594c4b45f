use Rattle.ca_quad.proofs.WordExtents.{are_columns}
use Rattle.ca_quad.proofs.store.word_extent.columns_of.Goals as goal

pub returns : goal.returns
returns c = are_columns c.args.word
