use Rattle.std.proofs.Common.{map, refl, sym, ap, ◌∙◌, arith}
use Rattle.std.proofs.lemmas.Result.{on_ok_weaker}
use Rattle.ca_quad.specs.Prelude.{level_of}
use Rattle.ca_macro.specs.inner.Written.{node_of}
use Rattle.ca_macro.proofs.Orders.{goes_again, goes_to_leaf, goes_to_parts, extends_on, parts_extend}
use Rattle.ca_macro.proofs.WrittenNodes.{empty_number, part_nw, part_ne, part_sw, part_se, parts_keep, numbered_node, number_extends, goes_on_ok}
use Rattle.ca_macro.proofs.write.nodes.+number.Goals as goal

pub returns-then-is_empty-clause-number : goal.returns-then-is_empty-clause-number
returns-then-is_empty-clause-number t c =
    empty_number c.args.store.now (map node_of c.args.gathered.now.nodes.items) c.args.id
    ((c.is_empty.ensures _ (record { before = c.requires.known; is_level = refl })).0 c.if-is_empty.true)

pub returns-then-is_empty-clause-last : goal.returns-then-is_empty-clause-last
returns-then-is_empty-clause-last t c = λ live none.
    absurd (live ((c.is_empty.ensures _ (record { before = c.requires.known; is_level = refl })).0 c.if-is_empty.true))

pub returns-in-Some-clause-number : goal.returns-in-Some-clause-number
returns-in-Some-clause-number t c = (c.requires.gathered.numbered c.args.id c.in-Some.number (sym c.get.ensures ∙ c.in-Some.is)).1

pub returns-in-Some-clause-order : goal.returns-in-Some-clause-order
returns-in-Some-clause-order t c = goes_again (map node_of c.args.gathered.now.nodes.items) c.in-Some.number

pub push-requires-clause-node : goal.push-requires-clause-node
push-requires-clause-node t c = c.leaf.ensures.node (map node_of c.args.gathered.now.nodes.items)

pub push-requires-clause-live : goal.push-requires-clause-live
push-requires-clause-live t c = λ e.
    let yes = (c.is_empty.ensures _ (record { before = c.requires.known; is_level = refl })).1 e in
    absurd cc

pub returns-in_default-written_parts-clause-order : goal.returns-in_default-written_parts-clause-order
returns-in_default-written_parts-clause-order t c =
    let ns = map node_of c.args.gathered.now.nodes.items in
    goes_on_ok c.push.result ns ns (map node_of c.push.new.self.nodes.items) (node_of c.leaf.result) c.push.ensures.more c.push.ensures.last (goes_to_leaf ns (node_of c.leaf.result) c.leaf.ensures.parts)

pub number-requires : goal.number-requires
number-requires t c =
    let fit = part_nw _ _ _ _ c.in-Some-written_parts.ensures _ c.part.ensures in
    (omega (arith, c.decreases, fit.lower), (fit.before, (fit.least, (fit.most, (fit.low, c.requires.gathered)))))

pub number-requires-2 : goal.number-requires-2
number-requires-2 t c =
    let fit = part_ne _ _ _ _ c.in-Some-written_parts.ensures _ c.part-2.ensures in
    (omega (arith, c.decreases, fit.lower), (fit.before, (fit.least, (fit.most, (fit.low, c.in_ok-nw.ensures.gathered)))))

pub number-requires-3 : goal.number-requires-3
number-requires-3 t c =
    let fit = part_sw _ _ _ _ c.in-Some-written_parts.ensures _ c.part-3.ensures in
    (omega (arith, c.decreases, fit.lower), (fit.before, (fit.least, (fit.most, (fit.low, c.in_ok-ne.ensures.gathered)))))

pub number-requires-4 : goal.number-requires-4
number-requires-4 t c =
    let fit = part_se _ _ _ _ c.in-Some-written_parts.ensures _ c.part-4.ensures in
    (omega (arith, c.decreases, fit.lower), (fit.before, (fit.least, (fit.most, (fit.low, c.in_ok-sw.ensures.gathered)))))

pub push-requires-2-clause-node : goal.push-requires-2-clause-node
push-requires-2-clause-node t c =
    let x34 = c.in_ok-se.ensures.more in
    let x24 = extends_on _ _ _ c.in_ok-sw.ensures.more x34 in
    let x14 = extends_on _ _ _ c.in_ok-ne.ensures.more x24 in
    numbered_node _ _ _ _ c.in-Some-written_parts.ensures _ _ _ _ _ _ _ _ _ _ c.level-level.ensures.level
    c.part.ensures c.part-2.ensures c.part-3.ensures c.part-4.ensures
    (number_extends _ _ _ _ _ x14 c.in_ok-nw.ensures.number) (number_extends _ _ _ _ _ x24 c.in_ok-ne.ensures.number)
    (number_extends _ _ _ _ _ x34 c.in_ok-sw.ensures.number) c.in_ok-se.ensures.number

pub push-requires-2-clause-live : goal.push-requires-2-clause-live
push-requires-2-clause-live t c = λ e.
    let yes = (c.is_empty.ensures _ (record { before = c.requires.known; is_level = refl })).1 e in
    absurd cc

pub push-requires-2-clause-new : goal.push-requires-2-clause-new
push-requires-2-clause-new t c =
    parts_keep _ _ _ _ c.in-Some-written_parts.ensures _ _ _ _
    c.part.ensures c.part-2.ensures c.part-3.ensures c.part-4.ensures _ _ _ _ _
    c.in_ok-nw.ensures.keeps c.in_ok-ne.ensures.keeps c.in_ok-sw.ensures.keeps c.in_ok-se.ensures.keeps
    c.args.id (omega arith) ∙ sym c.get.ensures ∙ c.in_default.is

pub returns-clause-more : goal.returns-clause-more
returns-clause-more t c =
    on_ok_weaker c.push-2.result (λ e. parts_extend _ _ _ _ _ _ c.in_ok-nw.ensures.more c.in_ok-ne.ensures.more c.in_ok-sw.ensures.more c.in_ok-se.ensures.more (_, e)) c.push-2.ensures.more

pub returns-clause-order : goal.returns-clause-order
returns-clause-order t c =
    goes_on_ok c.push-2.result _ _ _ _ c.push-2.ensures.more c.push-2.ensures.last
    (goes_to_parts c.level-level.result _ _ _ _ _ _ _ _ _ c.in_ok-ne.ensures.more c.in_ok-sw.ensures.more c.in_ok-se.ensures.more
    c.in_ok-nw.ensures.number.at_most c.in_ok-ne.ensures.number.at_most c.in_ok-sw.ensures.number.at_most c.in_ok-nw.ensures.order c.in_ok-ne.ensures.order c.in_ok-sw.ensures.order c.in_ok-se.ensures.order)

pub returns-clause-keeps : goal.returns-clause-keeps
returns-clause-keeps t c =
    on_ok_weaker c.push-2.result
    (λ keeps one higher. keeps one (λ same. let e = ap (level_of c.args.store.now) same in omega arith)
    ∙ parts_keep _ _ _ _ c.in-Some-written_parts.ensures _ _ _ _
    c.part.ensures c.part-2.ensures c.part-3.ensures c.part-4.ensures _ _ _ _ _
    c.in_ok-nw.ensures.keeps c.in_ok-ne.ensures.keeps c.in_ok-sw.ensures.keeps c.in_ok-se.ensures.keeps
    one (omega (arith, higher)))
    c.push-2.ensures.keeps
