use Rattle.std.proofs.Common.{◌++◌, ◌∷◌, [], codes, map, subst}
use Rattle.std.specs.List.{flat_map}
use Rattle.std.proofs.lemmas.Result.{on_ok_weaker}
use Rattle.ca_plane.specs.Prelude.{Puts}
use Rattle.ca_macro.specs.Prelude.{node_text, generation_lines, tidy_lines}
use Rattle.ca_macro.specs.inner.Written.{node_of}
use Rattle.ca_macro.proofs.Lines.{puts_five, text_whole}
use Rattle.ca_macro.proofs.write.lines.push_lines.Goals as goal

pub returns : goal.returns
returns c =
    let ns = map node_of c.args.nodes.now in
    let first = c.args.out.now.items in
    let last = c.push_nodes.new.out.items in
    let generation = flat_map (λ line. line ++ 10 ∷ []) (generation_lines c.args.generation) in
    let lines = flat_map (λ line. line ++ 10 ∷ []) (map node_text ns) in
    on_ok_weaker {P = Puts c.push_generation.new.out.items last lines} {Q = Puts first last (flat_map (λ line. line ++ 10 ∷ []) (tidy_lines c.args.rule_text.now c.args.generation ns))} c.push_nodes.result
    (λ p. subst (Puts first last) (text_whole c.args.rule_text.now (generation_lines c.args.generation) (map node_text ns))
    (puts_five first c.push_text.new.out.items c.push_text-2.new.out.items c.push_text-3.new.out.items c.push_generation.new.out.items last (codes "[M2] (cafile)\n#R ") c.args.rule_text.now (10 ∷ []) generation lines
    c.in_ok-push_text.ensures c.in_ok-push_text-2.ensures c.in_ok-push_text-3.ensures c.in_ok-push_generation.ensures p)) c.push_nodes.ensures
