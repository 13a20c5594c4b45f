use Rattle.std.proofs.Common.{suc, true, false}
use Rattle.ca_run.proofs.AgedWords.{part_at}
use Rattle.ca_run.proofs.leaper.Leaper.part_in.Goals as goal

pub returns-in-true-true-clause-shows : goal.returns-in-true-true-clause-shows
returns-in-true-true-clause-shows g c = λ p a b shows.
    part_at c.args.self.now.nodes c.quarters-nw.result.0 (suc c.args.part_level) p a b c.args.west c.args.north true true c.in-true-true.is-0 c.in-true-true.is-1 (c.quarters-nw.ensures.shows p a b shows).at_nw

pub returns-in-true-false-clause-shows : goal.returns-in-true-false-clause-shows
returns-in-true-false-clause-shows g c = λ p a b shows.
    part_at c.args.self.now.nodes c.quarters-nw.result.2 (suc c.args.part_level) p a b c.args.west c.args.north true false c.in-true-false.is-0 c.in-true-false.is-1 (c.quarters-nw.ensures.shows p a b shows).at_sw

pub returns-in-false-true-clause-shows : goal.returns-in-false-true-clause-shows
returns-in-false-true-clause-shows g c = λ p a b shows.
    part_at c.args.self.now.nodes c.quarters-nw.result.1 (suc c.args.part_level) p a b c.args.west c.args.north false true c.in-false-true.is-0 c.in-false-true.is-1 (c.quarters-nw.ensures.shows p a b shows).at_ne

pub returns-in-false-false-clause-shows : goal.returns-in-false-false-clause-shows
returns-in-false-false-clause-shows g c = λ p a b shows.
    part_at c.args.self.now.nodes c.quarters-nw.result.3 (suc c.args.part_level) p a b c.args.west c.args.north false false c.in-false-false.is-0 c.in-false-false.is-1 (c.quarters-nw.ensures.shows p a b shows).at_se
