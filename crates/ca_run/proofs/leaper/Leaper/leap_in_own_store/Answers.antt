use Rattle.std.proofs.Common.{◌∙◌, sym, subst, arith}
use Rattle.ca_quad.specs.Prelude.{IsSoundStore, Grows}
use Rattle.ca_run.specs.inner.Dense.{HasReached}
use Rattle.ca_quad.proofs.Firsts.{firsts_same}
use Rattle.ca_run.proofs.OwnStore.{keeps_then, keeps_of, firsts_again, none_made}
use Rattle.ca_run.proofs.leaper.Leaper.leap_in_own_store.Goals as goal

pub leap_until-end-requires-clause-reached : goal.leap_until-end-requires-clause-reached
leap_until-end-requires-clause-reached g c =
    let next = g.A.Automaton.next_of in
    let s1 = c.change_store_late.new.self.nodes in
    let first = c.args.first.now in
    let ensured = c.in-Ok.ensures in
    let there = subst (λ o. HasReached (next c.args.self.now.rule) o first c.args.n s1 c.in-Ok.reached) (sym ensured.before) ensured.reached in
    subst (λ r. HasReached (next r) c.in-Ok.origin first c.args.n s1 c.in-Ok.reached) (sym ensured.keeps.rule) there

pub returns-in-Err-clause-keeps : goal.returns-in-Err-clause-keeps
returns-in-Err-clause-keeps g c = keeps_then c.change_store_late.ensures.keeps c.keep_first.ensures.keeps

pub returns-in-Err-clause-grows : goal.returns-in-Err-clause-grows
returns-in-Err-clause-grows g c =
    let old = c.args.self.now.nodes in
    let sound = subst (λ l. IsSoundStore l.nodes) c.self.view_is c.self.invariant.squares in
    firsts_again c.args.squares old c.keep_first.new.self.nodes sound (c.keep_first.ensures.nodes ∙ firsts_same old c.change_store_late.new.self.nodes c.in-Err.ensures.grows c.args.squares c.requires.few)

pub returns-in-Err-clause-made : goal.returns-in-Err-clause-made
returns-in-Err-clause-made g c = none_made c.args.squares c.change_store_late.new.self.nodes c.keep_first.ensures.nodes c.requires.few (keeps_then c.change_store_late.ensures.keeps c.keep_first.ensures.keeps)

pub returns-in_err-end-in-Ok-clause-keeps : goal.returns-in_err-end-in-Ok-clause-keeps
returns-in_err-end-in-Ok-clause-keeps g c = keeps_then (keeps_then c.change_store_late.ensures.keeps c.leap_until-end.ensures.keeps) c.exchange-apart.ensures.keeps

pub returns-in_err-end-in-Ok-clause-grows : goal.returns-in_err-end-in-Ok-clause-grows
returns-in_err-end-in-Ok-clause-grows g c =
    let sound = subst (λ l. IsSoundStore l.nodes) c.self.view_is c.self.invariant.squares in
    firsts_again c.args.squares c.args.self.now.nodes c.exchange-apart.new.self.nodes sound (c.exchange-apart.ensures.nodes ∙ c.in-Ok.ensures.before)

pub returns-in_err-end-in-Ok-clause-made : goal.returns-in_err-end-in-Ok-clause-made
returns-in_err-end-in-Ok-clause-made g c =
    none_made c.args.squares c.args.self.now.nodes (c.exchange-apart.ensures.nodes ∙ c.in-Ok.ensures.before) c.requires.few (keeps_then (keeps_then c.change_store_late.ensures.keeps c.leap_until-end.ensures.keeps) c.exchange-apart.ensures.keeps)

pub returns-in_ok-end-in-Ok-clause-keeps : goal.returns-in_ok-end-in-Ok-clause-keeps
returns-in_ok-end-in-Ok-clause-keeps g c = keeps_then (keeps_then (keeps_then c.change_store_late.ensures.keeps c.leap_until-end.ensures.keeps) c.exchange-apart.ensures.keeps) (keeps_of c.take.ensures.goes_on)

pub returns-in_ok-end-in-Ok-clause-grows : goal.returns-in_ok-end-in-Ok-clause-grows
returns-in_ok-end-in-Ok-clause-grows g c = subst (λ l. Grows l c.take.new.self.nodes) (c.exchange-apart.ensures.nodes ∙ c.in-Ok.ensures.before) c.take.ensures.goes_on.grows

pub returns-in_ok-end-in-Ok-clause-made : goal.returns-in_ok-end-in-Ok-clause-made
returns-in_ok-end-in-Ok-clause-made g c =
    let none = none_made c.args.squares c.args.self.now.nodes (c.exchange-apart.ensures.nodes ∙ c.in-Ok.ensures.before) c.requires.few (keeps_then (keeps_then c.change_store_late.ensures.keeps c.leap_until-end.ensures.keeps) c.exchange-apart.ensures.keeps) in
    omega (arith, none, c.take.ensures.made)
