use Rattle.ca_run.proofs.leaper.Leaper.inner_square.Goals as goal

pub returns-clause-shows : goal.returns-clause-shows
returns-clause-shows g c = λ p a b shows. c.inner_of_four.ensures.shows p a b (c.quarters-nw.ensures.shows p a b shows)
