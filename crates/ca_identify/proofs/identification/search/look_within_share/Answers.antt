use Rattle.ca_quad.specs.Prelude.{cell}
use Rattle.ca_identify.specs.inner.Stages.{IsHalted}
use Rattle.ca_identify.proofs.LaterLeapers.{walk_nearer}
use Rattle.ca_identify.proofs.identification.search.look_within_share.Goals as goal

pub look_on-found-requires : goal.look_on-found-requires
look_on-found-requires g c = record { walk = walk_nearer c.requires.walk c.args.early c.requires.within c.requires.begun }

-- where their share is used up, the walk goes on from where it was halted
pub returns-in-Err-Work-clause-found : goal.returns-in-Err-Work-clause-found
returns-in-Err-Work-clause-found g c =
    let mid = c.look_on-found.new.leaper.nodes in
    let halted : IsHalted (g.A.Automaton.next_of c.args.leaper.now.rule) (cell c.args.leaper.now.nodes c.args.first.now.tree) mid c.args.walk.now.generations c.args.early c.look_on-found.new.walk =
    rw c.in-Err-Work.is at c.look_on-found.ensures.halted in
    (record { now = halted.now; others = halted.others; boxes = c.new.ensures mid }, halted.later, halted.within)
