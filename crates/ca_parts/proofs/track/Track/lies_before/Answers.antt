use Rattle.ca_parts.proofs.Turns.{test-sum}
use Rattle.ca_parts.proofs.track.Track.lies_before.Goals as goal

pub returns : goal.returns
returns c =
    test-sum c.last_after.result c.args.gap c.first_after.result _ _ c.last_after.ensures.value c.first_after.ensures.value c.last_after.ensures.wide c.first_after.ensures.wide c.requires.some c.requires.most
