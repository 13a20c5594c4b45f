use Rattle.std.proofs.Common.{arith}
use Rattle.ca_identify.proofs.Stages.{low_start}
use Rattle.ca_identify.proofs.identification.early.near_plane.Goals as goal

pub returns-clause-first : goal.returns-clause-first
returns-clause-first c =
    let low = c.if-tree-gt62.false in
    record { start = low_start c.args.store.now c.args.tree.now c.count.ensures.sound c.requires.tree c.requires.trimmed (omega (arith, low)); box = rw c.in-Some.is at c.in_ok-bounds.ensures.bounds }
