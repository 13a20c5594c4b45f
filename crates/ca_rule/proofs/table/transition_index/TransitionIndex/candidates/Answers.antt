use Rattle.std.proofs.Common.{drop, length, sym, ap, subst, ◌∙◌}
use Rattle.ca_rule.specs.inner.TableSearch.{placements_of}
use Rattle.ca_rule.specs.inner.TransitionIndices.{GivesNone}
use Rattle.ca_rule.proofs.IndexedSlots.{nowhere-first, uncentred-first, past-last}
use Rattle.ca_rule.proofs.Idle.{idle-first, either}
use Rattle.ca_rule.proofs.table.transition_index.TransitionIndex.candidates.Goals as goal

pub returns-in-Listed : goal.returns-in-Listed
returns-in-Listed c = λ variables ts index k few zeros. past-last variables c.args.nine.now (placements_of c.args.orders) ts k (λ there.
    rw c.in-Listed.is (nowhere-first variables c.args.nine.now _ (drop k ts) (c.candidates_in.ensures variables ts index k few there zeros)))

pub returns-then-bits-eq0 : goal.returns-then-bits-eq0
returns-then-bits-eq0 c = λ variables ts index k few zeros. past-last variables c.args.nine.now (placements_of c.args.orders) ts k (λ there.
    uncentred-first variables c.args.nine.now (placements_of c.args.orders) (drop k ts) c.requires.centred (c.candidates_at-bits.ensures variables ts index k few there zeros))

pub returns-else-bits-standing : goal.returns-else-bits-standing
returns-else-bits-standing c = λ variables ts index k few zeros. past-last variables c.args.nine.now (placements_of c.args.orders) ts k (λ there.
    either (GivesNone variables c.args.nine.now (placements_of c.args.orders) (drop k ts)) c.candidates_at-bits.result c.filled_slots.result k zeros
    (λ z. uncentred-first variables c.args.nine.now (placements_of c.args.orders) (drop k ts) c.requires.centred (c.candidates_at-bits.ensures variables ts index k few there z))
    (λ z. subst (λ o. GivesNone variables c.args.nine.now (placements_of o) (drop k ts)) (sym c.in-Every.is)
    (idle-first variables c.args.nine.now c.in-Every.neighbourhood c.free_count.result c.free_places.result.now (drop k ts)
    (c.free_count.ensures.length ∙ sym (ap length c.free_places.ensures)) (c.free_places.ensures ∙ c.of_ring-ring.ensures.free) (c.filled_slots.ensures variables ts index k few there z))))
