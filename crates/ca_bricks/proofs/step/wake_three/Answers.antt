use Rattle.ca_bricks.proofs.BrickQueues.{grows_again}
use Rattle.ca_bricks.proofs.BrickWaking.{first_none, last_none}
use Rattle.ca_bricks.proofs.step.wake_three.Goals as goal

pub returns-clause-grows : goal.returns-clause-grows
returns-clause-grows c = grows_again _ _ _ _ _ c.in_ok-wake_if.ensures.grows (grows_again _ _ _ _ _ c.in_ok-wake_if-2.ensures.grows c.in_ok-wake_if-3.ensures.grows)

pub returns-clause-here : goal.returns-clause-here
returns-clause-here c = λ has not_in. c.in_ok-wake_if.ensures.woken has (c.in_ok-wake_if-2.ensures.grows.not_in _ (c.in_ok-wake_if-3.ensures.grows.not_in _ not_in))

pub returns-clause-west : goal.returns-clause-west
returns-clause-west c = λ has not_in. first_none c.args.word (c.in_ok-wake_if-2.ensures.woken has (c.in_ok-wake_if-3.ensures.grows.not_in _ not_in))

pub returns-clause-east : goal.returns-clause-east
returns-clause-east c = λ has not_in. last_none c.args.word (c.in_ok-wake_if-3.ensures.woken has not_in)
