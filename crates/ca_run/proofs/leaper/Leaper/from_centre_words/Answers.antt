use Rattle.std.proofs.Common.{subst}
use Rattle.ca_quad.specs.Prelude.{IsSoundStore}
use Rattle.ca_bricks.specs.Prelude.{WordSquareShows, WordShows}
use Rattle.ca_run.proofs.Lanes.{centre_made}
use Rattle.ca_run.proofs.leaper.Leaper.from_centre_words.Goals as goal

pub returns-in-One-clause-centre : goal.returns-in-One-clause-centre
returns-in-One-clause-centre g c = λ id k j square words.
    let sound = subst (λ l. IsSoundStore l.nodes) c.self.view_is c.self.invariant.squares in
    centre_made WordShows (g.A.Automaton.next_of c.args.self.now.rule) c.args.self.now.nodes c.from_word.new.self.nodes sound c.from_word.ensures.at_cost.goes_on.grows c.from_word.result id k j 2 c.in-One.word
    square (rw c.in-One.is at words) c.from_word.ensures.shows

pub returns-in-Four-clause-centre : goal.returns-in-Four-clause-centre
returns-in-Four-clause-centre g c = λ id k j square words.
    let sound = subst (λ l. IsSoundStore l.nodes) c.self.view_is c.self.invariant.squares in
    centre_made WordSquareShows (g.A.Automaton.next_of c.args.self.now.rule) c.args.self.now.nodes c.from_words.new.self.nodes sound c.from_words.ensures.at_cost.goes_on.grows c.from_words.result id k j 3 c.in-Four.words
    square (rw c.in-Four.is at words) c.from_words.ensures.shows
