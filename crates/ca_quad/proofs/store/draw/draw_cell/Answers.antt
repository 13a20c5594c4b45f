use Rattle.std.proofs.Common.{◌≡◌, ◌≢◌, sym, ◌∙◌, arith}
use Rattle.std.proofs.lemmas.Bool.Decides.{nat_tests}
use Rattle.ca_quad.proofs.DrawnSquares.{dot_at}
use Rattle.ca_quad.proofs.PaintedCells.{paints_dot_none, paints_dot}
use Rattle.ca_quad.proofs.store.draw.draw_cell.Goals as goal

pub returns-then-state-eq0 : goal.returns-then-state-eq0
returns-then-state-eq0 c = λ all h. let no_cells : c.args.state ≡ 0 = grind (arith, nat_tests) in paints_dot_none all c.args.plane.now c.args.state c.args.at no_cells

pub point-requires : goal.point-requires
point-requires c =
    let live : c.args.state ≢ 0 = grind (arith, nat_tests) in
    c.requires.near.fits c.args.at.x c.args.at.y (λ z. live (sym (dot_at c.args.state c.args.at) ∙ z))

pub set-requires : goal.set-requires
set-requires c =
    let live : c.args.state ≢ 0 = grind (arith, nat_tests) in
    rw (c.point.ensures.x, c.point.ensures.y) (c.requires.near.fits c.args.at.x c.args.at.y (λ z. live (sym (dot_at c.args.state c.args.at) ∙ z)))

pub returns : goal.returns
returns c = λ all h.
    let live : c.args.state ≢ 0 = grind (arith, nat_tests) in
    paints_dot all c.args.plane.now c.set.new.self c.args.state c.point.result c.args.at c.point.ensures.x c.point.ensures.y live c.in_ok-set.ensures.ok h
