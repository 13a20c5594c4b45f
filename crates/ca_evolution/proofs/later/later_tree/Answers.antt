use Rattle.std.proofs.Common.{refl, arith}
use Rattle.ca_evolution.proofs.later.later_tree.Goals as goal

-- all work is not used up before all is
pub unreachable-requires : goal.unreachable-requires
unreachable-requires g c =
    let ends = c.in_ok-later.ensures.gives_up (rw c.in-None.is refl) in
    let all = ends.0 in
    let less = ends.1 in
    let same = c.in_ok-later.ensures.goes_on.spends.limit in
    absurd (omega (arith, all, less, same, c.work_limit-most.ensures))
