use Rattle.std.proofs.Common.{subst}
use Rattle.std.specs.Prelude.{IsTrue}
use Rattle.ca_quad.specs.Prelude.{cell}
use Rattle.ca_identify.proofs.LaterLeapers.{walk_begins}
use Rattle.ca_identify.proofs.NoReturn.{some_ends}
use Rattle.ca_identify.proofs.identification.leaps.is_back_soon.Goals as goal

pub look_on-requires : goal.look_on-requires
look_on-requires g c = record { walk = walk_begins c.requires.settled c.from-walk.result c.from-walk.ensures.tree c.from-walk.ensures.generations (c.from-walk.ensures.boxes c.args.leaper.now.nodes) }

pub returns-clause-back : goal.returns-clause-back
returns-clause-back g c = λ cells shows back.
    some_ends (g.A.Automaton.next_of c.args.leaper.now.rule) (cell c.args.leaper.now.nodes c.args.settled.now.tree) c.look_on.new.leaper.nodes c.args.seen c.args.seen c.look_on.new.walk c.in_ok-ending.ending (subst IsTrue c.is_some.ensures back) c.in_ok-ending.ensures.found cells shows
