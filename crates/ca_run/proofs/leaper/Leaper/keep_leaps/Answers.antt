use Rattle.std.proofs.Common.{◌-◌, length, sym, subst, ◌∙◌, arith}
use Rattle.ca_quad.specs.Prelude.{AreCopies}
use Rattle.ca_run.specs.inner.InUse.{IsTrueLeap}
use Rattle.ca_run.proofs.LeaperGrowth.{goes_on_again}
use Rattle.ca_run.proofs.CopiedLeaps.{no_error}
use Rattle.ca_run.proofs.leaper.Leaper.keep_leaps.Goals as goal

pub keep_leap-requires-clause-leap : goal.keep_leap-requires-clause-leap
keep_leap-requires-clause-leap g c =
    let leap = c.index-leaps-count.result in
    subst (λ r. IsTrueLeap (g.A.Automaton.next_of r) c.args.from.now leap) (sym c.leaps.invariant.goes_on.rule)
    (subst (λ l. IsTrueLeap (g.A.Automaton.next_of c.args.self.now.rule) c.args.from.now l) (sym c.index-leaps-count.is)
    (c.requires.leaps (length c.args.leaps.now - 1 - c.leaps.n) leap (omega (arith, c.leaps-test.true))))

pub leaps-preserved : goal.leaps-preserved
leaps-preserved g c = record {
  copies = no_error c.keep_leap.result (AreCopies c.args.from.now c.keep_leap.new.self.nodes c.keep_leap.new.copies) (sym c.is_err.ensures.value ∙ c.if-is_err.false) c.keep_leap.ensures.copies;
  goes_on = goes_on_again _ c.args.self.now c.leaps.self c.keep_leap.new.self c.leaps.invariant.goes_on c.keep_leap.ensures.goes_on;
  spent = c.keep_leap.ensures.spent ∙ c.leaps.invariant.spent;
}
