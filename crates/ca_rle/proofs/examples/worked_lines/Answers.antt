use Rattle.std.proofs.Common.{[], ◌∷◌, ◌++◌, None, inl, inr, lit<, codes, refl}
use Rattle.ca_rle.specs.declared.fault.RleFault.TheVariants.{Syntax, NoEnd}
use Rattle.ca_rle.specs.declared.item.Tag.TheVariants.{Cell, RowEnd}
use Rattle.ca_rle.proofs.ReadItems.{run_found}
use Rattle.ca_rle.proofs.Headers.{no_header}
use Rattle.ca_rle.proofs.ExampleHeaders.{some_lines, no_lines, plain_header, bad_item, no_header_after}
use Rattle.ca_rle.proofs.examples.worked_lines.Goals as goal

pub returns-clause-item : goal.returns-clause-item
returns-clause-item c =
    let body = codes "\n2o$\nz!" in
    let later = codes "$\nz!" in
    let bad = codes "\nz!" in
    let row_end = record { count = 1; tag = RowEnd } ∷ [] in
    let run = run_found body later bad _ row_end refl (lit< tt) (run_found later bad bad _ [] refl (lit< tt) refl) in
    let headed = plain_header (codes "x = 1, y = 1") body refl refl refl in
    (codes "z!", inr (bad_item _ None body bad (record { count = 2; tag = Cell 1 } ∷ row_end) Syntax headed run refl, refl), refl)

pub returns-clause-white : goal.returns-clause-white
returns-clause-white c =
    let body = codes "\n# c!\n\n2\nz!" in
    let headed = plain_header (codes "x = 1, y = 1") body refl refl refl in
    (codes "2\nz!", inr (bad_item _ None body body [] Syntax headed refl refl, refl), refl)

pub returns-clause-header : goal.returns-clause-header
returns-clause-header c =
    let line = codes "x = 3, y = 3," in
    let more = codes "\n3o!" in
    let lines = codes "#C c" ∷ [] in
    (line ++ more, (no_header_after lines line more (some_lines lines [] (refl, tt) (refl, tt) tt) refl refl (no_header line refl refl) (inl refl), refl), refl)

pub returns-clause-cut_off : goal.returns-clause-cut_off
returns-clause-cut_off c =
    let bad = codes "\n# c\n" in
    let body = codes "\n3o\n# c\n" in
    let headed = plain_header (codes "x = 3, y = 1") body refl refl refl in
    ([], (bad_item _ None body bad (record { count = 3; tag = Cell 1 } ∷ []) NoEnd headed (run_found body bad bad _ [] refl (lit< tt) refl) refl, refl), refl)

pub returns-clause-comments : goal.returns-clause-comments
returns-clause-comments c =
    let lines = codes "#C c" ∷ codes "#C d" ∷ [] in
    ([], (no_header_after lines [] [] (some_lines lines [] (refl, (refl, tt)) (refl, (refl, tt)) tt) refl refl (no_header [] refl refl) (inr (refl, ([], tt))), refl), refl)

pub returns-clause-empty : goal.returns-clause-empty
returns-clause-empty c = ([], (no_header_after [] [] [] no_lines refl refl (no_header [] refl refl) (inr (refl, ([], tt))), refl), refl)
