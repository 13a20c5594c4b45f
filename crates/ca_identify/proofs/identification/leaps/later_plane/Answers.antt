use Rattle.std.proofs.Common.{refl, subst}
use Rattle.ca_quad.specs.Prelude.{IsDead, IsLeastWideBox, cell}
use Rattle.ca_identify.proofs.NoReturn.{tree_empty, tree_grown}
use Rattle.ca_identify.proofs.Stages.{start_goes_on, wide_box, first_box}
use Rattle.ca_identify.proofs.identification.leaps.later_plane.Goals as goal

pub later_within-requires : goal.later_within-requires
later_within-requires g c =
    start_goes_on (g.A.Automaton.next_of c.args.leaper.now.rule) c.args.leaper.now.nodes c.args.first.now.tree c.requires.first.quiet
    c.requires.first.is_first.start c.args.generations c.requires.few

pub returns-in_default-clause-gone : goal.returns-in_default-clause-gone
returns-in_default-clause-gone g c = λ cells shows without _.
    let dead = subst (λ s. IsDead (cell s c.in_ok-end.end)) c.store.ensures.nodes (rw c.in_default.is at c.in_ok-bounds.ensures) in
    tree_empty (g.A.Automaton.next_of c.args.leaper.now.rule) c.requires.first.quiet (cell c.args.leaper.now.nodes c.args.first.now.tree) cells shows _
    c.later_within.new.leaper.nodes c.in_ok-end.end c.in_ok-end.ensures.later c.args.seen c.args.limit c.requires.some without dead

pub has_grown_too_far-requires-clause-from : goal.has_grown_too_far-requires-clause-from
has_grown_too_far-requires-clause-from g c = first_box c.args.leaper.now.nodes c.args.first.now c.requires.first.is_first

pub has_grown_too_far-requires-clause-to : goal.has_grown_too_far-requires-clause-to
has_grown_too_far-requires-clause-to g c =
    let box = subst (λ s. IsLeastWideBox (cell s c.in_ok-end.end) c.in-Some.bounds) c.store.ensures.nodes (rw c.in-Some.is at c.in_ok-bounds.ensures) in
    wide_box (cell c.later_within.new.leaper.nodes c.in_ok-end.end) c.in-Some.bounds box c.in_ok-end.ensures.later.near.near

pub returns-then-has_grown_too_far-clause-gone : goal.returns-then-has_grown_too_far-clause-gone
returns-then-has_grown_too_far-clause-gone g c = λ cells shows without _.
    let box = subst (λ s. IsLeastWideBox (cell s c.in_ok-end.end) c.in-Some.bounds) c.store.ensures.nodes (rw c.in-Some.is at c.in_ok-bounds.ensures) in
    tree_grown (g.A.Automaton.next_of c.args.leaper.now.rule) c.requires.first.quiet (cell c.args.leaper.now.nodes c.args.first.now.tree) cells shows _
    c.later_within.new.leaper.nodes c.in_ok-end.end c.in_ok-end.ensures.later c.args.limit c.args.first.now.bounds c.in-Some.bounds c.requires.first.is_first.box box (c.if-has_grown_too_far.ensures refl)

pub returns-clause-later : goal.returns-clause-later
returns-clause-later g c = record {
  tree = c.in_ok-end.ensures.later;
  box = subst (λ s. IsLeastWideBox (cell s c.in_ok-end.end) c.in-Some.bounds) c.store.ensures.nodes (rw c.in-Some.is at c.in_ok-bounds.ensures);
}
