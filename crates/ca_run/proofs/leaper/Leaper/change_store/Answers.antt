use Rattle.std.proofs.Common.{sym, subst, ◌∙◌}
use Rattle.ca_run.specs.inner.OwnStore.{IsCopyOfTree}
use Rattle.ca_run.specs.inner.InUse.{AreTrueLeaps}
use Rattle.ca_run.proofs.CopiedLeaps.{copied_tree_stays}
use Rattle.ca_run.proofs.leaper.Leaper.change_store.Goals as goal

pub keep_leaps-requires-clause-leaps : goal.keep_leaps-requires-clause-leaps
keep_leaps-requires-clause-leaps g c =
    subst (λ r. AreTrueLeaps (g.A.Automaton.next_of r) c.exchange-before.result c.args.leaps.now) (sym (c.import_tree.ensures.goes_on.rule ∙ c.exchange-before.ensures.keeps.rule))
    (subst (λ n. AreTrueLeaps (g.A.Automaton.next_of c.args.self.now.rule) n c.args.leaps.now) (sym c.exchange-before.ensures.before) c.requires.leaps)

pub returns-in-Ok-clause-moved : goal.returns-in-Ok-clause-moved
returns-in-Ok-clause-moved g c =
    subst (λ n. IsCopyOfTree n c.args.tree c.keep_leaps.new.self.nodes c.in-Ok.copy) c.exchange-before.ensures.before
    (copied_tree_stays c.exchange-before.result c.import_tree.new.self.nodes c.keep_leaps.new.self.nodes c.args.tree c.in-Ok.copy c.import_tree.ensures.goes_on.grows.sound c.keep_leaps.ensures.goes_on.grows c.in-Ok.ensures.moved)
