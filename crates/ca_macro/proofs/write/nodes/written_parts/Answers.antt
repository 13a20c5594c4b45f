use Rattle.ca_macro.proofs.WrittenNodes.{has_fit_parts}
use Rattle.ca_macro.proofs.write.nodes.written_parts.Goals as goal

pub returns : goal.returns
returns c =
    has_fit_parts _ _ _ c.args.level _ _ c.requires.known c.requires.least c.requires.most c.requires.states c.requires.level
    c.leaf_level.ensures c.if-level-leaf_level.false c.children.ensures.quarters
