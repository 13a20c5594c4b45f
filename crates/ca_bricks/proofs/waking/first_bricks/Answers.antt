use Rattle.std.proofs.Common.{sym, subst, length}
use Rattle.ca_bricks.specs.Prelude.{AllHaveNeighbours, IsNotIn}
use Rattle.ca_bricks.proofs.LaterGrids.{queue_inside}
use Rattle.ca_bricks.proofs.waking.first_bricks.Goals as goal

pub returns-clause-inside : goal.returns-clause-inside
returns-clause-inside c = subst (AllHaveNeighbours c.args.across (length c.args.bricks.now)) (sym c.take.ensures.list) (queue_inside _ _ _ _ c.requires.empty c.in_ok-wake_seen.ensures.grows)

pub returns-clause-others : goal.returns-clause-others
returns-clause-others c = λ t has not_in. c.in_ok-wake_seen.ensures.others t has (subst (λ l. IsNotIn l t) c.take.ensures.list not_in)
