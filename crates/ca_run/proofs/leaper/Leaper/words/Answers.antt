use Rattle.ca_bricks.proofs.Overlaps.{quarters_each}
use Rattle.ca_run.proofs.leaper.Leaper.words.Goals as goal

pub returns : goal.returns
returns g c = λ p a b shows.
    quarters_each _ _ _ _ _ p (c.quarters-nw.ensures.shows p a b shows) (c.in_ok-word.ensures p) (c.in_ok-word-2.ensures p) (c.in_ok-word-3.ensures p) (c.in_ok-word-4.ensures p)
