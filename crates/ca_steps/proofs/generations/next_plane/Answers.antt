use Rattle.std.proofs.Common.{◌<◌, refl, arith}
use Rattle.ca_plane.proofs.Pictures.{IsSparse-none}
use Rattle.ca_steps.proofs.OutOfReach.{states_after}
use Rattle.ca_steps.proofs.Windows.{IsReady-next, ShowsWindow-next}
use Rattle.ca_steps.proofs.WrittenGenerations.{IsWritten-corner, IsWritten-set, IsWritten-skip, IsWritten-end, moves_left-fall}
use Rattle.ca_steps.proofs.generations.next_plane.Goals as goal

pub places-init : goal.places-init
places-init g c =
    let next = g.A.Automaton.next_of c.args.rule.now in
    let quiet = g.met.A.Automaton.quiet c.args.rule.now c.states-states.ensures.sound in
    record {
      shows = c.new-window.ensures.shows;
      written = rw c.new-window.ensures.place (IsWritten-corner next c.args.cells.now c.new-next.result _ _ c.requires.reach (refl, refl) c.new-next.ensures quiet);
      sparse = rw c.new-next.ensures IsSparse-none;
    }

pub move_to-requires-clause-within : goal.move_to-requires-clause-within
move_to-requires-clause-within g c = (IsReady-next c.args.cells.now c.places.window c.in-Some.place c.requires.reach c.places.invariant.shows c.in-Some.ensures).within

pub move_to-requires-clause-north : goal.move_to-requires-clause-north
move_to-requires-clause-north g c = (IsReady-next c.args.cells.now c.places.window c.in-Some.place c.requires.reach c.places.invariant.shows c.in-Some.ensures).north.none

pub move_to-requires-clause-middle : goal.move_to-requires-clause-middle
move_to-requires-clause-middle g c = (IsReady-next c.args.cells.now c.places.window c.in-Some.place c.requires.reach c.places.invariant.shows c.in-Some.ensures).middle.none

pub move_to-requires-clause-south : goal.move_to-requires-clause-south
move_to-requires-clause-south g c = (IsReady-next c.args.cells.now c.places.window c.in-Some.place c.requires.reach c.places.invariant.shows c.in-Some.ensures).south.none

pub places-preserved-then-state-eq0 : goal.places-preserved-then-state-eq0
places-preserved-then-state-eq0 g c =
    let next = g.A.Automaton.next_of c.args.rule.now in
    let quiet = g.met.A.Automaton.quiet c.args.rule.now c.states-states.ensures.sound in
    let ready = IsReady-next c.args.cells.now c.places.window c.in-Some.place c.requires.reach c.places.invariant.shows c.in-Some.ensures in
    record {
      shows = ShowsWindow-next c.args.cells.now c.places.window c.move_to.new.self c.in-Some.place c.places.invariant.shows ready c.move_to.ensures;
      written = IsWritten-skip next c.args.cells.now c.places.next c.places.window c.move_to.new.self c.in-Some.place c.nine.result c.next-state.result quiet c.requires.reach c.places.invariant.shows c.places.invariant.written c.in-Some.ensures c.move_to.ensures c.nine.ensures c.next-state.ensures c.if-state-eq0.true;
      sparse = c.places.invariant.sparse;
    }

pub places-smaller-then-state-eq0 : goal.places-smaller-then-state-eq0
places-smaller-then-state-eq0 g c = moves_left-fall c.places.window c.move_to.new.self c.in-Some.place c.in-Some.ensures c.move_to.ensures

pub places-preserved : goal.places-preserved
places-preserved g c =
    let next = g.A.Automaton.next_of c.args.rule.now in
    let quiet = g.met.A.Automaton.quiet c.args.rule.now c.states-states.ensures.sound in
    let ready = IsReady-next c.args.cells.now c.places.window c.in-Some.place c.requires.reach c.places.invariant.shows c.in-Some.ensures in
    record {
      shows = ShowsWindow-next c.args.cells.now c.places.window c.move_to.new.self c.in-Some.place c.places.invariant.shows ready c.move_to.ensures;
      written = IsWritten-set next c.args.cells.now c.places.next c.set.new.self c.places.window c.move_to.new.self c.in-Some.place c.nine.result c.next-state.result quiet c.requires.reach c.places.invariant.shows c.places.invariant.written c.in-Some.ensures c.move_to.ensures c.nine.ensures c.next-state.ensures c.in_ok-set.ensures.ok;
      sparse = c.in_ok-set.ensures.sparse;
    }

pub places-smaller : goal.places-smaller
places-smaller g c = moves_left-fall c.places.window c.move_to.new.self c.in-Some.place c.in-Some.ensures c.move_to.ensures

pub returns : goal.returns
returns g c =
    let next = g.A.Automaton.next_of c.args.rule.now in
    let p = c.args.cells.now in
    let count = g.A.Automaton.state_count c.args.rule.now in
    let sound = c.states-states.ensures.sound in
    let quiet = g.met.A.Automaton.quiet c.args.rule.now sound in
    let some : 0 < count = omega (arith, c.states-states.ensures.value, c.states-states.ensures.low) in
    let inv = c.places.invariant in
    let after = IsWritten-end next p c.places.next c.places.window quiet inv.written inv.shows c.in_default.ensures in
    record {
      after = after;
      states = states_after next p c.places.next count (λ nine nine_long below. g.met.A.Automaton.closed c.args.rule.now nine sound nine_long below) some c.requires.states inv.sparse after;
      sparse = inv.sparse;
    }
