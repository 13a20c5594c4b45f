use Rattle.ca_quad.proofs.store.Store.+empty.Given as goal

abbrev pub decreases-empty : goal.decreases-empty
decreases-empty l = l.level
