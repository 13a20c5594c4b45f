use Rattle.ca_text.specs.declared.asks.Expected.TheVariants.{Own, Other}
use Rattle.ca_pattern.proofs.LeaptTrees.{ok_as}
use Rattle.ca_verify.proofs.LeaptTrees.{moved_shown, claimed_shown}
use Rattle.ca_text.proofs.Shifts.{shift_reads}
use Rattle.ca_verify.proofs.decide.claimed_tree.Goals as goal

pub returns-in-Own-clause-shows : goal.returns-in-Own-clause-shows
returns-in-Own-clause-shows g c = λ cells other shown.
    let old = c.args.leaper.now.nodes in
    let new = c.moved_tree.new.leaper.nodes in
    let subject = c.args.case.now.subject in
    let asks = c.args.case.now.asks in
    ok_as c.moved_tree.result _ _
    (λ tree moved. claimed_shown new tree asks Own cells other c.in-Own.is (moved_shown old new subject.pattern tree cells asks.dx asks.dy shown.one
    (λ x y. rw (shift_reads asks.dx c.requires.bounded.right, shift_reads asks.dy c.requires.bounded.down) at (moved.shows x y))))
    c.moved_tree.ensures.moved

pub returns-in-Other-clause-shows : goal.returns-in-Other-clause-shows
returns-in-Other-clause-shows g c = λ cells other shown.
    let old = c.args.leaper.now.nodes in
    let new = c.moved_tree-in-Other.new.leaper.nodes in
    let subject = c.args.case.now.subject in
    let asks = c.args.case.now.asks in
    ok_as c.moved_tree-in-Other.result _ _
    (λ tree moved. claimed_shown new tree asks Other cells other c.in-Other.is (moved_shown old new subject.other tree other asks.dx asks.dy shown.two
    (λ x y. rw (shift_reads asks.dx c.requires.bounded.right, shift_reads asks.dy c.requires.bounded.down) at (moved.shows x y))))
    c.moved_tree-in-Other.ensures.moved
