use Rattle.std.proofs.Common.{◌≡◌, ◌-◌, ◌^◌, sym, ap, ◌∙◌}
use Rattle.ca_quad.specs.Prelude.{level}
use Rattle.ca_quad.proofs.PaintedCells.{pushed}
use Rattle.ca_quad.proofs.store.Store.push_parts.Goals as goal

pub returns : goal.returns
returns c =
    let is = c.requires.ready.1 in
    let same : c.in-Parts.field-0 ≡ c.args.level = ap level c.in-Parts.ensures.shows ∙ is.is_square.is_level in
    pushed c.args.self.now c.args.square c.in-Parts.nw c.in-Parts.ne c.in-Parts.sw c.in-Parts.se is.is_square.before c.in-Parts.field-0 c.in-Parts.ensures.shows c.in-Parts.ensures.whole
    c.half_side.result (c.half_side.ensures.half ∙ ap (λ k. 2 ^ (k - 1)) (sym same)) c.part_corners-corners.result c.part_corners-corners.ensures c.args.halves.now _ c.push_live.new.squares.items c.push_live-in-Parts-2.new.squares.items
    c.in_ok-push_live-in-Parts.ensures c.in_ok-push_live-in-Parts-2.ensures c.in_ok-push_live-in-Parts-3.ensures c.in_ok-push_live-in-Parts-4.ensures c.args.level is.is_square.is_level
