use Rattle.std.proofs.Common.{length}
use Rattle.ca_rule.proofs.table.settings.+read_values.Given as goal

abbrev pub decreases-read_values : goal.decreases-read_values
decreases-read_values l = length l.lines.left.now
