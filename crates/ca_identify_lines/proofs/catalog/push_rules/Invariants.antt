use Rattle.std.proofs.Common.{take}
use Rattle.ca_plane.specs.Prelude.{Puts}
use Rattle.ca_identify_lines.specs.Prelude.{rule_lines}
use Rattle.ca_identify_lines.proofs.catalog.push_rules.Given as goal

-- the lines so far were put
abbrev pub invariant-paths : goal.invariant-paths
invariant-paths l = Puts l.fn.out.items l.out.items (rule_lines (take l.path-index l.paths))
