use Rattle.std.proofs.Common.{◌<◌, refl, arith}
use Rattle.ca_rule.proofs.IndexedSlots.{next-left, bit-told, none-more, tells-all}
use Rattle.ca_rule.proofs.table.transition_index.bits_of.Goals as goal

pub transitions-init : goal.transitions-init
transitions-init c = (refl, λ k few there zeros. absurd (omega arith))

pub transitions-preserved : goal.transitions-preserved
transitions-preserved c =
    let few : c.transitions.at < 64 = omega arith in (
      next-left c.args.transitions.now c.transitions.left.now c.in-Some.later.now c.in-Some.transition.now c.transitions.at c.transitions.invariant.0 c.in-Some.ensures.cases.0,
      bit-told c.args.variables.now c.args.transitions.now c.transitions.left.now c.in-Some.later.now c.in-Some.transition.now c.args.slot c.args.state c.transitions.bits c.transitions.at
          c.slot_admits.result c.bit_where-bits.result few c.transitions.invariant.0 c.in-Some.ensures.cases.0 c.slot_admits.ensures c.bit_where-bits.ensures c.transitions.invariant.1,
    )

pub returns-in_default : goal.returns-in_default
returns-in_default c =
    tells-all c.args.variables.now c.args.transitions.now c.args.slot c.args.state c.transitions.bits c.transitions.at
    (none-more c.args.transitions.now c.transitions.left.now c.transitions.at c.transitions.invariant.0 c.in_default.ensures.cases) c.transitions.invariant.1
