use Rattle.ca_quad.proofs.CutWords.{west_columns, east_columns}
use Rattle.ca_quad.proofs.store.cut_words.columns_from.Goals as goal

pub returns-clause-west : goal.returns-clause-west
returns-clause-west c = rw c.low_columns-kept.ensures (west_columns c.args.west c.args.east c.args.column c.requires)

pub returns-clause-east : goal.returns-clause-east
returns-clause-east c = rw c.low_columns-kept.ensures (east_columns c.args.west c.args.east c.args.column c.requires)
