use Rattle.std.proofs.Common.{◌++◌, ◌∷◌, [], subst, arith}
use Rattle.ca_plane.specs.Prelude.{Puts}
use Rattle.ca_macro.specs.Prelude.{node_text}
use Rattle.ca_macro.specs.inner.Written.{node_of}
use Rattle.ca_macro.proofs.Lines.{puts_all, lines_as}
use Rattle.ca_macro.proofs.write.lines.push_nodes.Goals as goal

pub returns : goal.returns
returns c =
    subst (Puts c.args.out.now.items c.nodes.out.items) (lines_as c.args.nodes.now)
    (puts_all (λ n. node_text (node_of n) ++ 10 ∷ []) c.args.nodes.now c.nodes.node-index c.args.out.now.items c.nodes.out.items (omega arith) c.nodes.invariant)
