use Rattle.ca_pattern.proofs.OpenedFiles.{opened_ranges}
use Rattle.ca_pattern.proofs.opening.open_pattern.Goals as goal

pub returns-in-Rle-clause-range : goal.returns-in-Rle-clause-range
returns-in-Rle-clause-range c = opened_ranges c.args.bytes.now c.args.tables.now c.open_text.result c.open_text.ensures.opened

pub returns-in_default-clause-range : goal.returns-in_default-clause-range
returns-in_default-clause-range c = opened_ranges c.args.bytes.now c.args.tables.now c.open_squares.result c.open_squares.ensures.opened
