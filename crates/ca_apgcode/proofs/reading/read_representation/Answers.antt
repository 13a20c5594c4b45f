use Rattle.std.proofs.Common.{◌≡◌, ◌≢◌, ◌<◌, length, ap, sym, inl, inr, arith}
use Rattle.std.proofs.lemmas.Bool.{eqb-true, eqb-false}
use Rattle.ca_apgcode.specs.Prelude.{GridCells}
use Rattle.ca_apgcode.proofs.Drawn.{IsDrawn-none, IsDrawn-step}
use Rattle.ca_apgcode.proofs.ReadTexts.{Reads-none, Reads-end, Reads-step}
use Rattle.ca_apgcode.proofs.ReadCells.{IsCode-read, IsLeastOf-code, reads_all, one_least_of, low_columns}
use Rattle.ca_apgcode.proofs.Codes.{one_picture}
use Rattle.ca_apgcode.proofs.Stuck.{IsStuck-no_code}
use Rattle.ca_apgcode.proofs.reading.read_representation.Goals as goal

pub steps-init : goal.steps-init
steps-init c =
    let d = c.in_ok-drawing.drawing in
    Reads-none c.args.text.now d.columns.items d.x d.y (IsDrawn-none d.columns.items d.x d.y c.in_ok-drawing.ensures.columns c.in_ok-drawing.ensures.x c.in_ok-drawing.ensures.y)

pub returns-in_default-clause-only : goal.returns-in_default-clause-only
returns-in_default-clause-only c = λ g code.
    let full : length c.steps.rest.now ≢ 0 = eqb-false (length c.steps.rest.now) 0 (sym c.steps-test.ensures) in
    let some : 0 < length c.steps.rest.now = omega (arith, full) in
    absurd (IsStuck-no_code c.args.text.now c.steps.rest.now c.steps.drawing g some c.steps.invariant c.in_default.ensures code)

pub steps-preserved : goal.steps-preserved
steps-preserved c =
    let old = c.steps.drawing in
    let new = c.take.new.self in
    elim c.in-Some.ensures [
      | inl ends ↦ Reads-end c.args.text.now c.steps.rest.now c.in-Some.left.now old.columns.items new.columns.items old.x old.y new.x new.y ends.text ends.columns ends.x ends.y ends.room c.steps.invariant
      | inr draws ↦
          Reads-step c.args.text.now c.steps.rest.now c.in-Some.left.now old.columns.items new.columns.items old.x old.y new.x new.y draws.step draws.text
          (λ strips steps drawn. IsDrawn-step old.columns.items new.columns.items old.x old.y new.x new.y strips steps draws.step draws.is_step draws.columns draws.x draws.y draws.room drawn)
          c.steps.invariant
    ]

pub from_columns-requires-clause-height : goal.from_columns-requires-clause-height
from_columns-requires-clause-height c = low_columns c.steps.drawing.columns.items c.steps.drawing.x c.steps.drawing.y c.steps.invariant.strips c.steps.invariant.steps c.steps.invariant.drawn

pub returns-in_default-from_columns-clause-only : goal.returns-in_default-from_columns-clause-only
returns-in_default-from_columns-clause-only c = λ g code.
    let d = c.steps.drawing in
    let reads = reads_all c.args.text.now c.steps.rest.now d.columns.items d.x d.y (eqb-true (length c.steps.rest.now) 0 (sym c.steps-test.ensures)) c.steps.invariant in
    absurd (c.in_default-from_columns.ensures.none g (IsLeastOf-code c.args.text.now d.columns.items d.x d.y g reads code).0)

pub returns-then-height-y-clause-only : goal.returns-then-height-y-clause-only
returns-then-height-y-clause-only c = λ g code.
    let d = c.steps.drawing in
    let reads = reads_all c.args.text.now c.steps.rest.now d.columns.items d.x d.y (eqb-true (length c.steps.rest.now) 0 (sym c.steps-test.ensures)) c.steps.invariant in
    let of_code = IsLeastOf-code c.args.text.now d.columns.items d.x d.y g reads code in
    let grid : GridCells = c.in-Some-from_columns.grid in
    let height : g.height ≡ grid.height = ap (λ (o : GridCells). o.height) (one_least_of d.columns.items g grid of_code.0 c.in-Some-from_columns.ensures.some) in
    absurd (omega (arith, height, of_code.1, c.height.ensures.height, c.if-height-y.true))

pub returns-clause-found : goal.returns-clause-found
returns-clause-found c =
    let d = c.steps.drawing in
    let reads = reads_all c.args.text.now c.steps.rest.now d.columns.items d.x d.y (eqb-true (length c.steps.rest.now) 0 (sym c.steps-test.ensures)) c.steps.invariant in
    IsCode-read c.args.text.now d.columns.items d.x d.y c.in-Some-from_columns.grid reads c.in-Some-from_columns.ensures.some (omega (arith, c.height.ensures.height, c.if-height-y.false))

pub returns-clause-only : goal.returns-clause-only
returns-clause-only c = λ g code. one_picture c.in-Some-from_columns.grid g c.args.text.now (returns-clause-found c) code
