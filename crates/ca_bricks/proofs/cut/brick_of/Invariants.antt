use Rattle.ca_bricks.proofs.BrickWords.{HasRowsOf}
use Rattle.ca_bricks.proofs.cut.brick_of.Given as goal

-- the rows so far
abbrev pub invariant-rows : goal.invariant-rows
invariant-rows l = HasRowsOf l.rows l.fn.north l.fn.south l.y
