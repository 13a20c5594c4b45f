use Rattle.std.proofs.Common.{◌≡◌, length}
use Rattle.std.specs.List.{list_any}
use Rattle.ca_rule.specs.Prelude.{Transition, may_tie}
use Rattle.ca_rule.proofs.table.ties.one_may_tie.Given as goal

-- the answer lies with the transitions that are left
abbrev pub invariant-transitions : goal.invariant-transitions
invariant-transitions l =
    list_any (λ (t : Transition). may_tie l.states l.variables l.neighbourhood l.symmetry t.inputs t.result) l.transitions
    ≡ list_any (λ (t : Transition). may_tie l.states l.variables l.neighbourhood l.symmetry t.inputs t.result) l.left

abbrev pub decreases-transitions : goal.decreases-transitions
decreases-transitions l = length l.left
