use Rattle.std.proofs.Common.{refl}
use Rattle.ca_parts.specs.inner.Tracks.{way}
use Rattle.ca_parts.proofs.Turns.{IsShort-near}
use Rattle.ca_parts.proofs.track.are_clear.Goals as goal

pub returns-else-lies_before-clause-near : goal.returns-else-lies_before-clause-near
returns-else-lies_before-clause-near c = λ no.
    IsShort-near c.args.one.first c.args.one.last c.args.other.first c.args.other.last (way c.args.one c.args.n) (way c.args.other c.args.n) _ _
    c.requires.one.first c.requires.one.last c.requires.other.first c.requires.other.last
    refl no c.if-lies_before.ensures.1 c.lies_before-else-lies_before.ensures.1
