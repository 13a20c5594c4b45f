use Rattle.ca_run.proofs.LeaperGrowth.{goes_on_again}
use Rattle.ca_pattern.proofs.LeaptTrees.{near_stays, ok_as}
use Rattle.ca_verify.proofs.LeaptTrees.{case_stays, shown_stays, wrong_cell}
use Rattle.ca_verify.proofs.decide.find_wrong_cell.Goals as goal

pub tree_after-requires : goal.tree_after-requires
tree_after-requires g c = record { pattern = c.requires.pattern; few = c.requires.bounded.few }

pub claimed_tree-requires : goal.claimed_tree-requires
claimed_tree-requires g c = case_stays c.args.leaper.now.nodes c.tree_after.new.leaper.nodes c.requires.sound c.in_ok-end.ensures.goes_on.grows c.args.case.now c.requires

pub find_difference-requires-clause-end : goal.find_difference-requires-clause-end
find_difference-requires-clause-end g c =
    near_stays c.tree_after.new.leaper.nodes c.claimed_tree.new.leaper.nodes c.in_ok-end.ensures.goes_on.grows.sound c.in_ok-expected.ensures.goes_on.grows c.in_ok-end.end c.in_ok-end.ensures.end.near

pub returns-clause-wrong : goal.returns-clause-wrong
returns-clause-wrong g c = λ cells other shown.
    let s0 = c.args.leaper.now.nodes in
    let s1 = c.tree_after.new.leaper.nodes in
    let subject = c.args.case.now.subject in
    let goes_on = c.in_ok-end.ensures.goes_on in
    let later = shown_stays s0 s1 c.requires.sound goes_on.grows subject c.requires.pattern.is_tree c.requires.other.is_tree cells other shown in
    ok_as c.find_difference.result _ _
    (wrong_cell (g.A.Automaton.next_of c.args.leaper.now.rule) s0 s1 c.claimed_tree.new.leaper.nodes subject.pattern c.in_ok-end.end c.in_ok-expected.expected c.args.case.now.asks.generations
    c.in_ok-end.ensures.end goes_on.grows c.in_ok-expected.ensures.goes_on.grows cells _ shown.one (c.in_ok-expected.ensures.shows cells other later))
    c.find_difference.ensures.difference

pub returns-clause-goes_on : goal.returns-clause-goes_on
returns-clause-goes_on g c =
    goes_on_again _ c.args.leaper.now c.claimed_tree.new.leaper c.find_difference.new.leaper
    (goes_on_again _ c.args.leaper.now c.tree_after.new.leaper c.claimed_tree.new.leaper c.in_ok-end.ensures.goes_on c.in_ok-expected.ensures.goes_on) c.find_difference.ensures.goes_on
