use Rattle.std.proofs.Common.{ℕ, Vec, Global}
use Rattle.std.specs.Prelude.{option_map}
use Rattle.ca_quad.specs.Prelude.{cell}
use Rattle.ca_apgcode.proofs.Copies.{same_copy, turned_text_of_copy}
use Rattle.ca_apgcode.proofs.PhaseTexts.{least_same}
use Rattle.ca_apgcode.proofs.PlaneBoxes.{box_as}
use Rattle.ca_apgcode_search.proofs.phases.least_up_to.Goals as goal

pub returns-in_ok-least-in-Some-clause-least : goal.returns-in_ok-least-in-Some-clause-least
returns-in_ok-least-in-Some-clause-least c = λ phases n shows before.
    c.in_ok-least-in-Some.ensures phases n (box_as (cell c.args.store.now c.args.tree.now) (phases n) c.in-Some.grid shows (rw c.in-Some.is at c.in_ok-grid.ensures.grid)) before

pub returns-in-None-clause-least : goal.returns-in-None-clause-least
returns-in-None-clause-least c = λ phases n shows before.
    let p = cell c.args.store.now c.args.tree.now in
    let none = rw c.in-None.is at c.in_ok-grid.ensures.grid in
    least_same phases n (option_map (λ (text : Vec ℕ Global). text.items) c.args.least) (λ text is_text. none text (turned_text_of_copy p (phases n) text (same_copy p (phases n) shows) is_text)) before
