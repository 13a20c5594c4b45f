use Rattle.std.proofs.Common.{take, subst, ◌∙◌}
use Rattle.ca_quad.specs.Prelude.{IsSoundStore}
use Rattle.ca_quad.proofs.Firsts.{firsts_sound, firsts_grow, firsts_same}
use Rattle.ca_run.proofs.OwnStore.{keeps_then, keeps_of}
use Rattle.ca_run.proofs.DenseRuns.{reached_now, reached_before, reached_moved}
use Rattle.ca_run.proofs.leaper.Leaper.change_store_late.Goals as goal

pub leap_in_more_room-requires-clause-reached : goal.leap_in_more_room-requires-clause-reached
leap_in_more_room-requires-clause-reached g c =
    let s = c.args.self.now.nodes in
    let sound = subst (λ l. IsSoundStore l.nodes) c.self.view_is c.self.invariant.squares in
    reached_now (g.A.Automaton.next_of c.args.self.now.rule) (take c.args.squares s) s c.args.first.now c.args.n c.args.reached (firsts_sound c.args.squares s sound) (firsts_grow c.args.squares s sound) c.requires.first.is_tree c.requires.reached

pub returns-clause-reached : goal.returns-clause-reached
returns-clause-reached g c =
    let next = g.A.Automaton.next_of c.args.self.now.rule in
    let s = c.args.self.now.nodes in
    let s0 = take c.args.squares s in
    let s1 = c.leap_in_more_room.new.self.nodes in
    let first = c.args.first.now in
    let reached = c.leap_in_more_room.new.reached in
    let sound = subst (λ l. IsSoundStore l.nodes) c.self.view_is c.self.invariant.squares in
    let run = reached_before next s0 s s1 first c.args.n reached (firsts_sound c.args.squares s sound) (firsts_grow c.args.squares s sound) c.requires.first.is_tree c.in_ok-leap_in_more_room.ensures.reached in
    reached_moved next s0 s1 first c.args.n reached run c.change_store.new.self.nodes c.in_ok-tree.tree c.in_ok-tree.ensures.moved

pub returns-clause-before : goal.returns-clause-before
returns-clause-before g c = c.in_ok-tree.ensures.before ∙ firsts_same c.args.self.now.nodes c.leap_in_more_room.new.self.nodes c.in_ok-leap_in_more_room.ensures.goes_on.grows c.args.squares c.requires.few

pub returns-in_err-leap_in_more_room-clause-keeps : goal.returns-in_err-leap_in_more_room-clause-keeps
returns-in_err-leap_in_more_room-clause-keeps g c = keeps_of c.in_err-leap_in_more_room.ensures.goes_on

pub returns-in_err-tree-clause-keeps : goal.returns-in_err-tree-clause-keeps
returns-in_err-tree-clause-keeps g c = keeps_then (keeps_of c.in_ok-leap_in_more_room.ensures.goes_on) c.in_err-tree.ensures.keeps

pub returns-clause-keeps : goal.returns-clause-keeps
returns-clause-keeps g c = keeps_then (keeps_of c.in_ok-leap_in_more_room.ensures.goes_on) c.in_ok-tree.ensures.keeps
