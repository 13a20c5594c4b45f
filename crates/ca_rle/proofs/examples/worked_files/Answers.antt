use Rattle.std.proofs.Common.{[], ◌∷◌, pos, negsuc, Some, None, inl, inr, lit<, codes, refl}
use Rattle.ca_rle.specs.Prelude.{Corner, Generation}
use Rattle.ca_rle.proofs.ReadItems.{items_found}
use Rattle.ca_rle.proofs.FileParts.{headed_is_file}
use Rattle.ca_rle.proofs.ExampleHeaders.{some_lines, plain_header, ruled_header}
use Rattle.ca_rle.proofs.examples.worked_files.Goals as goal

pub returns-clause-r_pentomino : goal.returns-clause-r_pentomino
returns-clause-r_pentomino c =
    let said = Corner (negsuc 0) (negsuc 0) ∷ Generation 7 ∷ [] in
    let body = codes "\nb2o$2o$bo!\r\n" in
    let lines = codes "#CXRLE Pos=-1,-1 Gen=7\r" ∷ [] in
    let before =
    some_lines lines said (refl, tt) (refl, tt)
    ((codes "-1", codes "-1", refl, inr (codes "1", refl, refl, refl), inr (codes "1", refl, refl, refl)), ((codes "7", refl, refl, refl, lit< tt), tt)) in
    let headed =
    ruled_header lines said (codes "x = 3, y = 3, rule = B3/S23\r") body (codes "B3/S23") (13 ∷ [])
    before refl refl refl refl refl in
    (headed_is_file _ said (Some (codes "B3/S23")) body _ headed (items_found 8 body _ refl), refl)

pub returns-clause-empty : goal.returns-clause-empty
returns-clause-empty c =
    let body = codes "\n!" in
    headed_is_file _ [] None body [] (plain_header (codes "x = 0, y = 0") body refl refl refl) (items_found 1 body [] refl)

pub returns-clause-corner : goal.returns-clause-corner
returns-clause-corner c =
    let said = Corner (negsuc 2) (pos 4) ∷ [] in
    let body = codes "\n3o2$G!" in
    let lines = codes "#CXRLE Pos=-3,4" ∷ [] in
    let before = some_lines lines said (refl, tt) (refl, tt) ((codes "-3", codes "4", refl, inr (codes "3", refl, refl, refl), inl (refl, refl)), tt) in
    let headed = ruled_header lines said (codes "x = 3, y = 3, rule = Star") body (codes "Star") [] before refl refl refl refl refl in
    (headed_is_file _ said (Some (codes "Star")) body _ headed (items_found 4 body _ refl), refl)
