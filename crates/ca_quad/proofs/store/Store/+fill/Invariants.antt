use Rattle.ca_quad.proofs.store.Store.+fill.Given as goal

abbrev pub decreases-fill : goal.decreases-fill
decreases-fill l = l.level
