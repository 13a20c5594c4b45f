use Rattle.std.proofs.Common.{refl, sym, ap, ◌∙◌}
use Rattle.std.specs.Int.{bit_at}
use Rattle.std.proofs.lemmas.List.{get_or-replicate}
use Rattle.ca_rule.proofs.IndexedSlots.{no-zero}
use Rattle.ca_rule.proofs.table.transition_index.index_row.Goals as goal

pub states-init : goal.states-init
states-init c = (refl, λ state small k few there zeros. absurd (no-zero k few (ap (λ n. bit_at n k) (sym (get_or-replicate 256 state 18446744073709551615 0 small)) ∙ zeros)))
