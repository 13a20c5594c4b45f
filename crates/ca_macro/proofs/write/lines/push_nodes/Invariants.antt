use Rattle.std.proofs.Common.{◌++◌, ◌∷◌, [], take}
use Rattle.std.specs.List.{flat_map}
use Rattle.ca_plane.specs.Prelude.{Puts}
use Rattle.ca_macro.specs.Prelude.{node_text}
use Rattle.ca_macro.specs.inner.Written.{node_of}
use Rattle.ca_macro.proofs.write.lines.push_nodes.Given as goal

-- the lines of the first nodes follow the text
abbrev pub invariant-nodes : goal.invariant-nodes
invariant-nodes l = Puts l.fn.out.items l.out.items (flat_map (λ n. node_text (node_of n) ++ 10 ∷ []) (take l.node-index l.nodes))
