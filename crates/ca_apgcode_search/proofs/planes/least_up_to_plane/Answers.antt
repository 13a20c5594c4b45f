use Rattle.std.proofs.Common.{ℕ, Vec, Global}
use Rattle.std.specs.Prelude.{option_map}
use Rattle.ca_plane.specs.Prelude.{cell}
use Rattle.ca_apgcode.proofs.Copies.{same_copy, turned_text_of_copy}
use Rattle.ca_apgcode.proofs.PhaseTexts.{least_same}
use Rattle.ca_apgcode.proofs.PlaneBoxes.{box_as}
use Rattle.ca_apgcode_search.proofs.planes.least_up_to_plane.Goals as goal

pub returns-in_ok-least-in-Some : goal.returns-in_ok-least-in-Some
returns-in_ok-least-in-Some c = λ phases n shows before.
    c.in_ok-least-in-Some.ensures phases n (box_as (cell c.args.plane.now) (phases n) c.in-Some.grid shows (rw c.in-Some.is at c.in_ok-grid.ensures)) before

pub returns-in-None : goal.returns-in-None
returns-in-None c = λ phases n shows before.
    let p = cell c.args.plane.now in
    let none = rw c.in-None.is at c.in_ok-grid.ensures in
    least_same phases n (option_map (λ (text : Vec ℕ Global). text.items) c.args.least) (λ text is_text. none text (turned_text_of_copy p (phases n) text (same_copy p (phases n) shows) is_text)) before
