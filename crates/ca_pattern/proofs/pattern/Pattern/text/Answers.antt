use Rattle.std.proofs.Common.{◌≡◌, sym, subst}
use Rattle.std.specs.Result.{IfOk}
use Rattle.ca_plane.specs.Prelude.{cell as plane_cell}
use Rattle.ca_quad.specs.Prelude.{cell}
use Rattle.ca_rle.specs.Prelude.{picture_of_items}
use Rattle.ca_rule.specs.Prelude.{rule_value, printed_form, states_of}
use Rattle.ca_pattern.specs.declared.format.Format.TheVariants.{Rle}
use Rattle.ca_pattern.specs.Prelude.{AreCells, IsGenerationOf, IsWrittenAs}
use Rattle.ca_pattern.proofs.WrittenMeanings.{written_ok, unwritten_err}
use Rattle.ca_pattern.proofs.pattern.Pattern.text.Goals as goal
use Rattle.ca_pattern.proofs.pattern.Pattern.text.Goals.{in_default-via-in-Text+in-Mc-1, in_default-via-in-Squares-1}

pub rle_of_text-requires : goal.rle_of_text-requires
rle_of_text-requires c =
    let (cells, is) = c.requires in
    (cells, subst (λ s. AreCells s cells) c.in-Text-Rle.is-0 is.are_cells, is.small)

pub returns-in-Text-Rle-clause-written : goal.returns-in-Text-Rle-clause-written
returns-in-Text-Rle-clause-written c = λ cells is.
    let text = c.in-Text-Rle.text in
    let rule = rule_value c.args.self.rule in
    let made = c.rle_of_text.result in
    let (bytes, of, shows) = subst (λ s. AreCells s cells) c.in-Text-Rle.is-0 is.are_cells in
    let at : text.generation ≡ c.args.self.generation = subst (λ s. IsGenerationOf s c.args.self.generation) c.in-Text-Rle.is-0 is.generation_is in
    let written = written_ok (plane_cell (picture_of_items text.corner of.file.items)) cells shows Rle (printed_form rule) text.generation (states_of rule) (λ v. v.items) made (c.rle_of_text.ensures.written bytes of) in
    subst (λ t. IfOk made (λ v. IsWrittenAs t cells rule c.args.self.generation v.items)) (sym c.in-Text-Rle.is-1)
    (subst (λ g. IfOk made (λ v. IsWrittenAs Rle cells rule g v.items)) at written)

pub returns-in-Ok-clause-fault : goal.returns-in-Ok-clause-fault
returns-in-Ok-clause-fault c = λ cells is.
    let squares = c.in-Ok.squares in
    let same : c.args.self.cells ≡ c.in_default-1.cells = elim c.in_default-1.branch [
      | in_default-via-in-Text+in-Mc-1 w ↦ let e = w.cells-is in cc
      | in_default-via-in-Squares-1 w ↦ let e = w.cells-is in cc
    ] in
    let tree = c.in-Ok.ensures.tree cells (subst (λ s. AreCells s cells) same is.are_cells) in
    unwritten_err (cell squares.store squares.tree) cells tree.shows c.args.target c.text_of_squares.result c.text_of_squares.ensures.fault
