use Rattle.ca_quad.proofs.store.Store.+draw_band.Given as goal

abbrev pub decreases-draw_band : goal.decreases-draw_band
decreases-draw_band l = l.level
