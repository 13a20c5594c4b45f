use Rattle.std.proofs.Common.{not, sym, subst}
use Rattle.ca_plane.specs.Prelude.{Every, is_line_end}
use Rattle.ca_rule.proofs.SaidLines.{content-every}
use Rattle.ca_rule.proofs.table.said_lines.SaidLines.next.Goals as goal

pub invariant_of-line : goal.invariant_of-line
invariant_of-line c = record { one = subst (λ l. Every (λ b. not (is_line_end b)) l) (sym c.content_of-content.ensures) (content-every c.next_line.result.0.now c.next_line.ensures.line) }
