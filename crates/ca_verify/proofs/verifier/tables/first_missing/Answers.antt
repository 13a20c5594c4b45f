use Rattle.std.proofs.Common.{◌≡◌, get_or, None, refl}
use Rattle.std.proofs.lemmas.Option.{slice_get-get_or}
use Rattle.ca_verify.proofs.FoundFiles.{is_nothing}
use Rattle.ca_verify.specs.inner.Found.{IsFound}
use Rattle.ca_text.proofs.PairedLists.{first_after}
use Rattle.ca_verify.proofs.verifier.tables.first_missing.Goals as goal

pub returns-then-is_none : goal.returns-then-is_none
returns-then-is_none c =
    let places = c.args.places.now in
    let at = slice_get-get_or places c.places.place-index _ c.places-test.true in
    first_after (IsFound c.args.found.now) (λ i. (i ≡ get_or places c.places.place-index 0) × (get_or c.args.found.now i None ≡ None)) places c.places.place-index _ c.places.invariant at (refl, is_nothing _ c.if-is_none.ensures)
