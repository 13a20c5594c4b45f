use Rattle.std.proofs.Common.{◌≡◌, [], ◌∷◌, sym, ◌∙◌}
use Rattle.ca_plane.specs.Prelude.{words_of}
use Rattle.ca_import.specs.Prelude.{Life106WordsSay}
use Rattle.ca_import.specs.inner.Lines.{IsAloneFault}
use Rattle.ca_import.proofs.Faults.{passed_on}
use Rattle.ca_import.proofs.Life106Lines.{cell_fault}
use Rattle.ca_import.proofs.life106.life106_line.Goals as goal

pub returns-in_err-point-in-None-clause-fault : goal.returns-in_err-point-in-None-clause-fault
returns-in_err-point-in-None-clause-fault c =
    let line = c.args.line.now in
    let x = c.in-Some.x.now in
    let y = c.in-Some-next_word.y.now in
    let first = c.in-Some.ensures.words in
    let second = c.in-Some-next_word.ensures.words in
    let none = c.in-None.ensures.words in
    let x_is = c.in-Some.x-is in
    let rest_is = c.in-Some.rest-is in
    let y_is = c.in-Some-next_word.y-is in
    let later_is = c.in-Some-next_word.rest-is in
    let words : words_of line ≡ x ∷ y ∷ [] = cc in
    let fault = c.in_err-point-in-None.field-0.0 in
    passed_on _ fault (IsAloneFault (Life106WordsSay (words_of line))) c.from_residual.ensures.1
    (cell_fault (words_of line) x y words (sym c.starts_with.ensures.value ∙ c.if-starts_with.false) fault c.in_err-point-in-None.ensures.fault)
