use Rattle.std.proofs.Common.{◌≡◌, suc, ◌+◌, min, max, length, take, sym, ap, ap₂, ◌∙◌, arith, get_or, []}
use Rattle.std.proofs.Math.Seq.{take-length}
use Rattle.std.proofs.lemmas.List.{get_or_default}
use Rattle.ca_plane.specs.Prelude.{row_cells}
use Rattle.ca_bricks.specs.Prelude.{number_at}
use Rattle.ca_bricks.proofs.AgedNumbers.{some_more}
use Rattle.ca_bricks.proofs.aged_step.dying_cells.Goals as goal

pub digits-preserved : goal.digits-preserved
digits-preserved c = λ x y h k.
    let grids = c.args.digits.now in
    let some = some_more grids c.digits.k c.index-digits-k.result c.args.s x y c.digits-test.true in
    let brick = get_or grids c.digits.k c.index-digits-k.result in
    let one : suc c.digits.k ≡ c.digits.k + 1 = omega arith in
    c.bits_of_both-dying.ensures x y h k ∙ ap₂ max (c.digits.invariant x y h k)
    (ap (λ r. row_cells r x y) (c.index.ensures ∙ get_or_default brick.bricks.items c.args.s c.index.result.now [] (omega (arith, c.requires.brick, c.requires.size c.digits.k c.index-digits-k.result c.digits-test.true)))) ∙ sym some ∙ ap (λ n. min 1 (number_at (take n grids) c.args.s x y)) one

pub returns : goal.returns
returns c = λ x y h k.
    let all : c.digits.k ≡ length c.args.digits.now = omega (arith, c.digits-test.false, c.digits.auto.k-end) in
    c.digits.invariant x y h k
    ∙ ap (λ l. min 1 (number_at l c.args.s x y)) (ap (λ n. take n c.args.digits.now) all ∙ take-length c.args.digits.now)
