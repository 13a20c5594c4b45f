use Rattle.ca_run.proofs.leaper.from_grid.BrickGridSquareGrid.square.Goals as goal

pub returns-clause-shows : goal.returns-clause-shows
returns-clause-shows g c = λ m p shows. c.in_ok-from_word.ensures.shows p _ _ (c.word.ensures m p shows)
