use Rattle.ca_import.proofs.WrittenCells.{word_test}
use Rattle.ca_import.proofs.rule_text.is_word.Goals as goal

pub returns-in-Some : goal.returns-in-Some
returns-in-Some c = word_test _ _ _ _ c.in-Some.ensures.cases.0 c.all_word_bytes.ensures
