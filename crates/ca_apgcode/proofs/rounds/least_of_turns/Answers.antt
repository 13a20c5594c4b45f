use Rattle.std.proofs.Common.{◌≡◌, ℤ, neg_ℤ, ap}
use Rattle.ca_apgcode.specs.Prelude.{turned}
use Rattle.ca_apgcode.specs.declared.orientation.Orientation.TheVariants.{QuarterTurn, HalfTurn, ThreeQuarterTurn, EastWest, NorthSouth, Diagonal}
use Rattle.ca_apgcode.proofs.EightTexts.{neg_twice, least_of_eight, least_of_turns}
use Rattle.ca_apgcode.proofs.PlaneBoxes.{box_as, text_as}
use Rattle.ca_apgcode.proofs.TurnedBoxes.{IsBoxRound-mirrored}
use Rattle.ca_apgcode.proofs.rounds.least_of_turns.Goals as goal

pub returns : goal.returns
returns c = λ cells box.
    let grid = c.args.grid.now in
    let a = c.in_ok-upright.ensures cells box in
    let b = c.in_ok-east_west.ensures (turned EastWest cells) (IsBoxRound-mirrored cells grid c.in_ok-mirrored.mirrored c.in_ok-mirrored.ensures box) in
    let h = c.in_ok-half.ensures (turned EastWest cells) b.box in
    let n = c.in_ok-north_south.ensures (turned HalfTurn cells) h.box in
    let west : (x y : ℤ) → turned EastWest (turned HalfTurn cells) x y ≡ turned NorthSouth cells x y = λ x y. ap (λ k. cells k (neg_ℤ y)) (neg_twice x) in
    let q = c.in_ok-quarter.ensures (turned NorthSouth cells) (box_as (turned EastWest (turned HalfTurn cells)) (turned NorthSouth cells) c.in_ok-north_south.north_south.grid west n.box) in
    let d = c.in_ok-diagonal.ensures (turned QuarterTurn cells) q.box in
    let south : (x y : ℤ) → turned EastWest (turned QuarterTurn cells) x y ≡ turned Diagonal cells x y = λ x y. ap (cells y) (neg_twice x) in
    let t = c.in_ok-three_quarters.ensures (turned Diagonal cells) (box_as (turned EastWest (turned QuarterTurn cells)) (turned Diagonal cells) c.in_ok-diagonal.diagonal.grid south d.box) in
    let i = c.in_ok-antidiagonal.ensures (turned ThreeQuarterTurn cells) t.box in
    least_of_eight cells c.args.least.items a.text b.lesser.text h.lesser.text n.lesser.text q.lesser.text d.lesser.text t.lesser.text i.lesser.text c.in_ok-antidiagonal.antidiagonal.least.items
    a.is_text b.lesser.is_text h.lesser.is_text
    (text_as (turned EastWest (turned HalfTurn cells)) (turned NorthSouth cells) n.lesser.text west n.lesser.is_text) q.lesser.is_text
    (text_as (turned EastWest (turned QuarterTurn cells)) (turned Diagonal cells) d.lesser.text south d.lesser.is_text) t.lesser.is_text i.lesser.is_text
    (least_of_turns c.args.least.items a.text b.lesser.text h.lesser.text n.lesser.text q.lesser.text d.lesser.text t.lesser.text i.lesser.text
    c.in_ok-upright.upright.items c.in_ok-east_west.east_west.least.items c.in_ok-half.half.least.items c.in_ok-north_south.north_south.least.items
    c.in_ok-quarter.quarter.least.items c.in_ok-diagonal.diagonal.least.items c.in_ok-three_quarters.three_quarters.least.items c.in_ok-antidiagonal.antidiagonal.least.items
    a.least b.lesser.least h.lesser.least n.lesser.least q.lesser.least d.lesser.least t.lesser.least i.lesser.least)
