use Rattle.ca_run.proofs.ShownPlanes.{four_made}
use Rattle.ca_run.proofs.leaper.Leaper.from_words.Goals as goal

pub returns-clause-shows : goal.returns-clause-shows
returns-clause-shows g c = λ p a b shows.
    let g1 = c.in_ok-nw.ensures.at_cost.goes_on.grows in
    c.join.ensures.shows p a b
    (four_made _ _ _ _ g1.sound c.in_ok-ne.ensures.at_cost.goes_on.grows c.in_ok-sw.ensures.at_cost.goes_on.grows c.in_ok-se.ensures.at_cost.goes_on.grows 3 _ _ _ _ p a b
    (c.in_ok-nw.ensures.shows p _ _ shows.at_nw) (c.in_ok-ne.ensures.shows p _ _ shows.at_ne) (c.in_ok-sw.ensures.shows p _ _ shows.at_sw) (c.in_ok-se.ensures.shows p _ _ shows.at_se))
