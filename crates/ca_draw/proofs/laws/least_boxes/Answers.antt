use Rattle.std.proofs.Common.{◌≡◌, ◌∙◌, arith}
use Rattle.ca_draw.proofs.Boxes.{least_in_reach}
use Rattle.ca_draw.proofs.laws.least_boxes.Goals as goal

pub returns : goal.returns
returns c =
    let level : c.level-level.result ≡ c.args.tree.level = c.level-level.ensures.level ∙ c.requires.is_level in
    least_in_reach c.args.store.now c.args.tree (omega (arith, c.level-level.ensures.least)) (omega (arith, c.level-level.ensures.most))
