use Rattle.ca_pattern.proofs.Corners.{corners_moved}
use Rattle.ca_pattern.proofs.Times.{distance_reads, broad_wide}
use Rattle.ca_identify.proofs.Times.{same_far}
use Rattle.ca_identify.proofs.identification.stage.vector_between.Goals as goal

pub returns-then-to-from : goal.returns-then-to-from
returns-then-to-from c = λ p q least least_later dx dy moved.
    let from = c.args.from.now in
    let to = c.args.to.now in
    let (near, far) = corners_moved p q dx dy moved from to least least_later in
    c.if-to-from.true (same_far to.x1 from.x1 to.x0 from.x0 dx c.requires.to.right c.requires.from.right c.requires.to.left (broad_wide from.x0 c.requires.from.left) far.0 near.0)

pub returns-then-to-from-2 : goal.returns-then-to-from-2
returns-then-to-from-2 c = λ p q least least_later dx dy moved.
    let from = c.args.from.now in
    let to = c.args.to.now in
    let (near, far) = corners_moved p q dx dy moved from to least least_later in
    c.if-to-from-2.true (same_far to.y1 from.y1 to.y0 from.y0 dy c.requires.to.bottom c.requires.from.bottom c.requires.to.top (broad_wide from.y0 c.requires.from.top) far.1 near.1)

pub returns : goal.returns
returns c = λ p q least least_later dx dy moved.
    let from = c.args.from.now in
    let to = c.args.to.now in
    let (near, far) = corners_moved p q dx dy moved from to least least_later in (
      distance_reads from.x0 to.x0 dx c.distance.result c.requires.from.left c.requires.to.left c.distance.ensures near.0,
      distance_reads from.y0 to.y0 dy c.distance-2.result c.requires.from.top c.requires.to.top c.distance-2.ensures near.1,
    )
