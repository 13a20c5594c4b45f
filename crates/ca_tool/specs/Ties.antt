-- The lines of `--explain` that tell of rule tables with ties (our own; docs/CLAIMS.md).
use Rattle.std.specs.Prelude.{ℕ, List, [], ◌∷◌, ◌++◌, codes, if◌then◌else◌}
use Rattle.std.specs.List.{flat_map}
use Rattle.ca_report.specs.Prelude.{escaped}
use Rattle.ca_rule.specs.Prelude.{TableRule, has_ties}

-- the line that tells of a table with ties: that Golly may take other states under it; none of another table
abbrev pub tie_line : TableRule → List ℕ
tie_line table = if has_ties table
    then codes "  rule " ++ (escaped table.name ++ (codes ": may differ from Golly, where a transition with a variable for its result fits in several orders" ++ 10 ∷ []))
    else []

-- those of several tables, in order
abbrev pub tie_lines : List TableRule → List ℕ
tie_lines tables = flat_map tie_line tables
