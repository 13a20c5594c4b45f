use Rattle.ca_report.proofs.After.{puts_then}
use Rattle.ca_identify_lines.proofs.entry_lines.push_later.Goals as goal

pub returns : goal.returns
returns c = puts_then _ _ _ _ _ _ c.in_ok-push_later_head.ensures (puts_then _ _ _ _ _ _ c.in_ok-push_later_text.ensures c.push_text.ensures)
