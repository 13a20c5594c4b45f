use Rattle.ca_quad.proofs.store.Store.+fill_words.Given as goal

abbrev pub decreases-fill_words : goal.decreases-fill_words
decreases-fill_words l = l.level
