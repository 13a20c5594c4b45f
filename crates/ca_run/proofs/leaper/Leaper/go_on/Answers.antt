use Rattle.std.proofs.Common.{◌≡◌, ℕ, inr, List, length, take, IfOk, sym, subst, arith}
use Rattle.std.specs.Prelude.{replicate}
use Rattle.ca_quad.specs.declared.node.Node.{Node}
use Rattle.ca_quad.specs.Prelude.{IsSoundStore, Grows}
use Rattle.ca_quad.proofs.Firsts.{grown_firsts}
use Rattle.ca_quad.proofs.Shifts.{some_level}
use Rattle.ca_run.specs.Prelude.{CanAdvance, IsAdvanced, LeaperGrows}
use Rattle.ca_run.specs.inner.Dense.{HasReached, HasLeapt}
use Rattle.ca_run.proofs.OwnStore.{keeps_then, keeps_of, back_again}
use Rattle.ca_run.proofs.DenseRuns.{reached_level, advanced_at}
use Rattle.ca_run.proofs.leaper.Leaper.go_on.Goals as goal

-- the squares that there were at first are those that came first
were_first : (old new : List Node) (squares : ℕ) → squares ≡ length old → Grows old new → take squares new ≡ old
were_first old new squares count grows = subst (λ k. take k new ≡ old) (sym count) (grown_firsts old new grows)

pub leap_in_own_store-end-requires-clause-first : goal.leap_in_own_store-end-requires-clause-first
leap_in_own_store-end-requires-clause-first g c =
    let on = subst (λ l. LeaperGrows _ l c.leap_on.new.self) c.set_room.ensures c.in-Err-Memory.ensures.goes_on in
    let count = subst (λ l. c.count-squares.result ≡ length l.nodes) c.self.view_is c.count-squares.ensures.count in
    let firsts = were_first c.args.self.now.nodes c.leap_on.new.self.nodes c.count-squares.result count on.grows in
    subst (λ nodes. CanAdvance nodes c.args.first.now c.args.n) (sym firsts) c.requires.first

pub leap_in_own_store-end-requires-clause-reached : goal.leap_in_own_store-end-requires-clause-reached
leap_in_own_store-end-requires-clause-reached g c =
    let next = g.A.Automaton.next_of in
    let s0 = c.args.self.now.nodes in
    let s1 = c.leap_on.new.self.nodes in
    let first = c.args.first.now in
    let reached = c.leap_on.new.reached in
    let on = subst (λ l. LeaperGrows _ l c.leap_on.new.self) c.set_room.ensures c.in-Err-Memory.ensures.goes_on in
    let count = subst (λ l. c.count-squares.result ≡ length l.nodes) c.self.view_is c.count-squares.ensures.count in
    let firsts = were_first s0 s1 c.count-squares.result count on.grows in
    let run = subst (λ l. HasReached (next l.rule) l.nodes first c.args.n s1 reached) c.set_room.ensures c.in-Err-Memory.ensures.reached in
    let here = subst (λ nodes. HasReached (next c.args.self.now.rule) nodes first c.args.n s1 reached) (sym firsts) run in
    subst (λ r. HasReached (next r) (take c.count-squares.result s1) first c.args.n s1 reached) (sym on.rule) here

pub returns-in-Ok-clause-advanced : goal.returns-in-Ok-clause-advanced
returns-in-Ok-clause-advanced g c =
    let sound = subst (λ l. IsSoundStore l.nodes) c.self.view_is c.self.invariant.squares in
    let quiet = subst (λ l. g.A.Automaton.next_of l.rule (replicate 9 0) ≡ 0) c.self.view_is (g.met.A.Automaton.quiet c.self.inside.rule c.self.invariant.rule) in
    let some = some_level c.args.self.now.nodes sound c.args.first.now c.requires.first.is_tree in
    let run = subst (λ l. HasReached (g.A.Automaton.next_of l.rule) l.nodes c.args.first.now c.args.n c.leap_on.new.self.nodes c.leap_on.new.reached) c.set_room.ensures c.in-Ok.ensures.reached in
    let low = reached_level _ _ _ _ _ _ run quiet some c.requires.first.level c.requires.first.time in
    advanced_at _ _ _ _ _ _ run c.in-Ok.ensures.all low

pub returns-in-Err-Memory-clause-advanced : goal.returns-in-Err-Memory-clause-advanced
returns-in-Err-Memory-clause-advanced g c =
    let next = g.A.Automaton.next_of in
    let s0 = c.args.self.now.nodes in
    let s1 = c.leap_on.new.self.nodes in
    let s2 = c.leap_in_own_store-end.new.self.nodes in
    let first = c.args.first.now in
    let r = c.leap_in_own_store-end.result in
    let on = subst (λ l. LeaperGrows _ l c.leap_on.new.self) c.set_room.ensures c.in-Err-Memory.ensures.goes_on in
    let count = subst (λ l. c.count-squares.result ≡ length l.nodes) c.self.view_is c.count-squares.ensures.count in
    let firsts = were_first s0 s1 c.count-squares.result count on.grows in
    let advanced = subst (λ nodes. IfOk r (IsAdvanced (next c.leap_on.new.self.rule) nodes first c.args.n s2)) firsts c.leap_in_own_store-end.ensures.advanced in
    subst (λ rule. IfOk r (IsAdvanced (next rule) s0 first c.args.n s2)) on.rule advanced

pub returns-in-Err-Memory-clause-goes_on : goal.returns-in-Err-Memory-clause-goes_on
returns-in-Err-Memory-clause-goes_on g c =
    let s0 = c.args.self.now.nodes in
    let s1 = c.leap_on.new.self.nodes in
    let on = subst (λ l. LeaperGrows _ l c.leap_on.new.self) c.set_room.ensures c.in-Err-Memory.ensures.goes_on in
    let count = subst (λ l. c.count-squares.result ≡ length l.nodes) c.self.view_is c.count-squares.ensures.count in
    let firsts = were_first s0 s1 c.count-squares.result count on.grows in
    back_again (keeps_then (keeps_of on) c.leap_in_own_store-end.ensures.keeps) (subst (λ nodes. Grows nodes c.leap_in_own_store-end.new.self.nodes) firsts c.leap_in_own_store-end.ensures.grows)

pub returns-in-Err-Memory-clause-costs : goal.returns-in-Err-Memory-clause-costs
returns-in-Err-Memory-clause-costs g c =
    let first = c.args.first.now in
    let leapt = subst (λ l. HasLeapt _ l first c.args.reached.generations c.args.n 61 c.leap_on.new.self) c.set_room.ensures c.in-Err-Memory.ensures.costs in
    let before = leapt.later 61 (omega (arith, c.requires.first.time)) in
    inr (record {
      long = c.is_long-long.ensures.long c.if-long-2.true;
      used = omega (arith, c.used-used.ensures.value);
      made = omega (arith, before.made, c.leap_in_own_store-end.ensures.made);
    })
