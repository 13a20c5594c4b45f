use Rattle.std.proofs.Common.{◌<◌, ◌+◌, length, refl, inl, arith}
use Rattle.ca_apgcode.specs.Prelude.{Step}
use Rattle.ca_apgcode.proofs.StepsRead.{step_there}
use Rattle.ca_apgcode.proofs.Drawn.{drawn_columns}
use Rattle.ca_apgcode.proofs.drawing.Drawing.draw_step.Goals as goal

pub returns-then-x-ge-MOST_SIDE : goal.returns-then-x-ge-MOST_SIDE
returns-then-x-ge-MOST_SIDE c =
    let step : Step = record { gap = c.in_ok-step.step.gap; column = c.in_ok-step.step.column } in
    let there = step_there c.args.bytes.now step c.in_ok-step.step.rest.now c.in_ok-step.ensures.step in
    inl (record { step = step; rest = c.in_ok-step.step.rest.now; is_step = there.0; text = there.1; full = c.if-x-ge-MOST_SIDE.true })

pub returns : goal.returns
returns c =
    let step : Step = record { gap = c.in_ok-step.step.gap; column = c.in_ok-step.step.column } in
    let there = step_there c.args.bytes.now step c.in_ok-step.step.rest.now c.in_ok-step.ensures.step in
    let place = c.args.self.now.x + c.in_ok-step.step.gap in
    let room : place < 40 = c.if-x-ge-MOST_SIDE.false in
    let within : place < length c.args.self.now.columns.items = omega (arith, room, c.requires.columns) in
    record {
      step = step;
      is_step = there.0;
      text = there.1;
      columns = drawn_columns c.args.self.now.columns.items c.from.result c.from-3.result place c.index-column.result.now c.from-2.result c.in_ok-step.step.column c.args.self.now.y c.from.ensures c.from-3.ensures c.index-column.ensures within c.from-2.ensures c.in_ok-step.ensures.column c.requires.y;
      x = refl;
      y = refl;
      room = room;
    }
