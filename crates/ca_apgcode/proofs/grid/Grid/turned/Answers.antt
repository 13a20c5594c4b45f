use Rattle.std.proofs.Common.{IfOk, ap, sym, subst}
use Rattle.ca_apgcode.specs.Prelude.{IsBoxRound, turned}
use Rattle.ca_apgcode.specs.declared.orientation.Orientation.TheVariants.{Upright, ThreeQuarterTurn, EastWest, Diagonal}
use Rattle.ca_apgcode.proofs.EightTexts.{neg_twice}
use Rattle.ca_apgcode.proofs.TurnedBoxes.{IsBoxRound-mirrored, IsBoxRound-transposed, mirrored_if_ok, flipped_if_ok, transposed_if_ok, box_if_ok}
use Rattle.ca_apgcode.proofs.grid.Grid.turned.Goals as goal

pub returns-in_ok-mirrored-in-Upright : goal.returns-in_ok-mirrored-in-Upright
returns-in_ok-mirrored-in-Upright c = λ cells box. subst (λ o. IfOk c.mirrored-in-Upright-2.result (IsBoxRound (turned o cells))) (sym c.in-Upright.is)
    (box_if_ok c.mirrored-in-Upright-2.result (turned EastWest (turned EastWest cells)) (turned Upright cells) (λ x y. ap (λ k. cells k y) (neg_twice x))
    (mirrored_if_ok c.mirrored-in-Upright-2.result (turned EastWest cells) c.in_ok-mirrored-in-Upright.field-0 (IsBoxRound-mirrored cells c.args.self.now c.in_ok-mirrored-in-Upright.field-0 c.in_ok-mirrored-in-Upright.ensures box) c.mirrored-in-Upright-2.ensures))

pub returns-in_ok-transposed-in-QuarterTurn : goal.returns-in_ok-transposed-in-QuarterTurn
returns-in_ok-transposed-in-QuarterTurn c = λ cells box. subst (λ o. IfOk c.mirrored-in-QuarterTurn-2.result (IsBoxRound (turned o cells))) (sym c.in-QuarterTurn.is)
    (mirrored_if_ok c.mirrored-in-QuarterTurn-2.result (turned Diagonal cells) c.in_ok-transposed-in-QuarterTurn.field-0 (IsBoxRound-transposed cells c.args.self.now c.in_ok-transposed-in-QuarterTurn.field-0 c.in_ok-transposed-in-QuarterTurn.ensures box) c.mirrored-in-QuarterTurn-2.ensures)

pub returns-in_ok-mirrored-in-HalfTurn : goal.returns-in_ok-mirrored-in-HalfTurn
returns-in_ok-mirrored-in-HalfTurn c = λ cells box. subst (λ o. IfOk c.flipped-in-HalfTurn.result (IsBoxRound (turned o cells))) (sym c.in-HalfTurn.is)
    (flipped_if_ok c.flipped-in-HalfTurn.result (turned EastWest cells) c.in_ok-mirrored-in-HalfTurn.field-0 (IsBoxRound-mirrored cells c.args.self.now c.in_ok-mirrored-in-HalfTurn.field-0 c.in_ok-mirrored-in-HalfTurn.ensures box) c.flipped-in-HalfTurn.ensures)

pub returns-in_ok-mirrored-in-ThreeQuarterTurn : goal.returns-in_ok-mirrored-in-ThreeQuarterTurn
returns-in_ok-mirrored-in-ThreeQuarterTurn c = λ cells box. subst (λ o. IfOk c.transposed-in-ThreeQuarterTurn-2.result (IsBoxRound (turned o cells))) (sym c.in-ThreeQuarterTurn.is)
    (transposed_if_ok c.transposed-in-ThreeQuarterTurn-2.result (turned EastWest cells) c.in_ok-mirrored-in-ThreeQuarterTurn.field-0 (IsBoxRound-mirrored cells c.args.self.now c.in_ok-mirrored-in-ThreeQuarterTurn.field-0 c.in_ok-mirrored-in-ThreeQuarterTurn.ensures box) c.transposed-in-ThreeQuarterTurn-2.ensures)

pub returns-in-EastWest : goal.returns-in-EastWest
returns-in-EastWest c = λ cells box. subst (λ o. IfOk c.mirrored-in-EastWest.result (IsBoxRound (turned o cells))) (sym c.in-EastWest.is)
    (mirrored_if_ok c.mirrored-in-EastWest.result cells c.args.self.now box c.mirrored-in-EastWest.ensures)

pub returns-in-NorthSouth : goal.returns-in-NorthSouth
returns-in-NorthSouth c = λ cells box. subst (λ o. IfOk c.flipped-in-NorthSouth.result (IsBoxRound (turned o cells))) (sym c.in-NorthSouth.is)
    (flipped_if_ok c.flipped-in-NorthSouth.result cells c.args.self.now box c.flipped-in-NorthSouth.ensures)

pub returns-in-Diagonal : goal.returns-in-Diagonal
returns-in-Diagonal c = λ cells box. subst (λ o. IfOk c.transposed-in-Diagonal.result (IsBoxRound (turned o cells))) (sym c.in-Diagonal.is)
    (transposed_if_ok c.transposed-in-Diagonal.result cells c.args.self.now box c.transposed-in-Diagonal.ensures)

pub returns-in_ok-transposed-in-Antidiagonal : goal.returns-in_ok-transposed-in-Antidiagonal
returns-in_ok-transposed-in-Antidiagonal c = λ cells box. subst (λ o. IfOk c.mirrored-in-Antidiagonal-3.result (IsBoxRound (turned o cells))) (sym c.in-Antidiagonal.is)
    (let m = IsBoxRound-mirrored cells c.args.self.now c.in_ok-mirrored-in-Antidiagonal.field-0 c.in_ok-mirrored-in-Antidiagonal.ensures box in
    let t = IsBoxRound-transposed (turned EastWest cells) c.in_ok-mirrored-in-Antidiagonal.field-0 c.in_ok-transposed-in-Antidiagonal.field-0 c.in_ok-transposed-in-Antidiagonal.ensures m in
    mirrored_if_ok c.mirrored-in-Antidiagonal-3.result (turned ThreeQuarterTurn cells) c.in_ok-transposed-in-Antidiagonal.field-0 t c.mirrored-in-Antidiagonal-3.ensures)
