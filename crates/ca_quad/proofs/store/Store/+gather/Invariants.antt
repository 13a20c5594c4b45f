use Rattle.ca_quad.proofs.store.Store.+gather.Given as goal

abbrev pub decreases-gather : goal.decreases-gather
decreases-gather g l = l.level
