use Rattle.std.proofs.Common.{◌≡◌, length, arith}
use Rattle.ca_quad.proofs.Cuts.{quarters_at, parts_sixteen}
use Rattle.ca_quad.proofs.store.Store.sixteen_parts.Goals as goal

pub returns-clause-cells : goal.returns-clause-cells
returns-clause-cells c = λ k are.
    let nodes = c.args.self.now in
    let four = c.args.four in
    let four_nw : length c.children.result ≡ 4 = omega (arith, c.children.type_inv) in
    let four_ne : length c.children-2.result ≡ 4 = omega (arith, c.children-2.type_inv) in
    let four_sw : length c.children-3.result ≡ 4 = omega (arith, c.children-3.type_inv) in
    let four_se : length c.children-4.result ≡ 4 = omega (arith, c.children-4.type_inv) in
    parts_sixteen nodes k four are _ _ _ _ _ _ _ _ _ _ _ _ _ _ _ _
    (quarters_at nodes four.nw k c.children.result _ _ _ _ four_nw (c.children.ensures.quarters k are.is_nw))
    (quarters_at nodes four.ne k c.children-2.result _ _ _ _ four_ne (c.children-2.ensures.quarters k are.is_ne))
    (quarters_at nodes four.sw k c.children-3.result _ _ _ _ four_sw (c.children-3.ensures.quarters k are.is_sw))
    (quarters_at nodes four.se k c.children-4.result _ _ _ _ four_se (c.children-4.ensures.quarters k are.is_se))
