use Rattle.std.proofs.Common.{subst}
use Rattle.ca_quad.specs.Prelude.{IsSoundStore}
use Rattle.ca_quad.proofs.Cells.{of_stays}
use Rattle.ca_run.specs.Prelude.{LeaperGrows}
use Rattle.ca_run.specs.inner.Dense.{HasReached}
use Rattle.ca_run.proofs.DenseRuns.{reached_now, reached_before}
use Rattle.ca_run.proofs.LeaperGrowth.{goes_on_same, goes_on_again}
use Rattle.ca_run.proofs.leaper.Leaper.leap_in_more_room.Goals as goal

pub rooms-init : goal.rooms-init
rooms-init g c =
    let sound = subst (λ l. IsSoundStore l.nodes) c.self.view_is c.self.invariant.squares in
    record { reached = c.requires.reached; goes_on = goes_on_same _ c.args.self.now sound }

pub returns-in-Ok-clause-reached : goal.returns-in-Ok-clause-reached
returns-in-Ok-clause-reached g c =
    let next = g.A.Automaton.next_of in
    let sound = subst (λ l. IsSoundStore l.nodes) c.self.view_is c.self.invariant.squares in
    let inv = c.rooms.invariant in
    let first = c.args.first.now in
    let s2 = c.leap_on.new.self.nodes in
    let run = subst (λ l. HasReached (next l.rule) l.nodes first c.args.n s2 c.leap_on.new.reached) c.set_room.ensures c.in-Ok.ensures.reached in
    let here = subst (λ r. HasReached (next r) c.rooms.self.nodes first c.args.n s2 c.leap_on.new.reached) inv.goes_on.rule run in
    reached_before (next c.args.self.now.rule) c.args.self.now.nodes c.rooms.self.nodes s2 first c.args.n c.leap_on.new.reached sound inv.goes_on.grows c.requires.first.is_tree here

pub returns-in-Ok-clause-goes_on : goal.returns-in-Ok-clause-goes_on
returns-in-Ok-clause-goes_on g c =
    let on = subst (λ l. LeaperGrows _ l c.leap_on.new.self) c.set_room.ensures c.in-Ok.ensures.goes_on in
    goes_on_again _ c.args.self.now c.rooms.self c.leap_on.new.self c.rooms.invariant.goes_on on

pub returns-in-Err-Work-clause-reached : goal.returns-in-Err-Work-clause-reached
returns-in-Err-Work-clause-reached g c =
    let next = g.A.Automaton.next_of in
    let sound = subst (λ l. IsSoundStore l.nodes) c.self.view_is c.self.invariant.squares in
    let inv = c.rooms.invariant in
    let first = c.args.first.now in
    let s2 = c.leap_on.new.self.nodes in
    let run = subst (λ l. HasReached (next l.rule) l.nodes first c.args.n s2 c.leap_on.new.reached) c.set_room.ensures c.in-Err-Work.ensures.reached in
    let here = subst (λ r. HasReached (next r) c.rooms.self.nodes first c.args.n s2 c.leap_on.new.reached) inv.goes_on.rule run in
    reached_before (next c.args.self.now.rule) c.args.self.now.nodes c.rooms.self.nodes s2 first c.args.n c.leap_on.new.reached sound inv.goes_on.grows c.requires.first.is_tree here

pub returns-in-Err-Work-clause-goes_on : goal.returns-in-Err-Work-clause-goes_on
returns-in-Err-Work-clause-goes_on g c =
    let on = subst (λ l. LeaperGrows _ l c.leap_on.new.self) c.set_room.ensures c.in-Err-Work.ensures.goes_on in
    goes_on_again _ c.args.self.now c.rooms.self c.leap_on.new.self c.rooms.invariant.goes_on on

pub rooms-preserved : goal.rooms-preserved
rooms-preserved g c =
    let next = g.A.Automaton.next_of in
    let sound = subst (λ l. IsSoundStore l.nodes) c.self.view_is c.self.invariant.squares in
    let inv = c.rooms.invariant in
    let first = c.args.first.now in
    let s1 = c.rooms.self.nodes in
    let s2 = c.leap_on.new.self.nodes in
    let on = subst (λ l. LeaperGrows _ l c.leap_on.new.self) c.set_room.ensures c.in-Err-Memory.ensures.goes_on in
    let run = subst (λ l. HasReached (next l.rule) l.nodes first c.args.n s2 c.leap_on.new.reached) c.set_room.ensures c.in-Err-Memory.ensures.reached in
    let here = subst (λ r. HasReached (next r) s1 first c.args.n s2 c.leap_on.new.reached) inv.goes_on.rule run in
    let is_first = of_stays c.args.self.now.nodes s1 sound inv.goes_on.grows first.root first.level c.requires.first.is_tree in
    record {
      reached = reached_now (next c.args.self.now.rule) s1 s2 first c.args.n c.leap_on.new.reached inv.goes_on.grows.sound on.grows is_first here;
      goes_on = goes_on_again _ c.args.self.now c.rooms.self c.leap_on.new.self inv.goes_on on;
    }

pub returns-clause-reached : goal.returns-clause-reached
returns-clause-reached g c =
    let sound = subst (λ l. IsSoundStore l.nodes) c.self.view_is c.self.invariant.squares in
    let inv = c.rooms.invariant in
    reached_before (g.A.Automaton.next_of c.args.self.now.rule) c.args.self.now.nodes c.rooms.self.nodes c.rooms.self.nodes c.args.first.now c.args.n c.rooms.reached sound inv.goes_on.grows c.requires.first.is_tree inv.reached
