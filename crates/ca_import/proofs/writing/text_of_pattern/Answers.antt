use Rattle.ca_import.proofs.WrittenCells.{ok_as}
use Rattle.ca_import.proofs.writing.text_of_pattern.Goals as goal

pub returns-clause-written : goal.returns-clause-written
returns-clause-written c =
    ok_as c.text_of_cells.result _ _ (λ text h. record { rule = c.in_ok-rule.rule; rule_text = c.in_ok-rule.ensures.rule.written_is; written = h }) c.text_of_cells.ensures.written
