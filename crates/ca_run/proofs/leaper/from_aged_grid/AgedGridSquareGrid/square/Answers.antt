use Rattle.ca_plane.specs.Prelude.{liveness}
use Rattle.ca_run.proofs.leaper.from_aged_grid.AgedGridSquareGrid.square.Goals as goal

pub returns-then-is_without_dying-clause-shows : goal.returns-then-is_without_dying-clause-shows
returns-then-is_without_dying-clause-shows g c = λ m p shows.
    let live = c.word-live.ensures m (λ x y. liveness (p x y)) shows.live in
    c.in_ok-from_word.ensures.shows p _ _ (c.is_without_dying.ensures c.if-is_without_dying.true m c.word-live.result p shows live)

pub returns-clause-shows : goal.returns-clause-shows
returns-clause-shows g c = λ m p shows.
    let live = c.word-live.ensures m (λ x y. liveness (p x y)) shows.live in
    c.in_ok-from_states.ensures.shows p _ _ (c.states_at.ensures m p shows live)
