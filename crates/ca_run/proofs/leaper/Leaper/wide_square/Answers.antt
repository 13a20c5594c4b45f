use Rattle.ca_bricks.proofs.Overlaps.{quarters_each}
use Rattle.ca_run.proofs.leaper.Leaper.wide_square.Goals as goal

pub returns : goal.returns
returns g c = λ p a b shows.
    quarters_each _ _ _ _ _ p (c.quarters-nw.ensures.shows p a b shows) (c.in_ok-words.ensures p) (c.in_ok-words-2.ensures p) (c.in_ok-words-3.ensures p) (c.in_ok-words-4.ensures p)
