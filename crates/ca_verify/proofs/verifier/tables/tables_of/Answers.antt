use Rattle.std.proofs.Common.{◌+◌, [], ◌∷◌, ◌++◌, take, if◌then◌else◌, refl, ap, subst, sym, ◌∙◌}
use Rattle.std.specs.List.{AllZip}
use Rattle.std.proofs.lemmas.Option.{slice_get-get_or}
use Rattle.ca_rule.specs.Prelude.{TableRule}
use Rattle.ca_verify.specs.inner.Found.{IsTableFound, IsFaultFound}
use Rattle.ca_text.proofs.PairedLists.{first_behind, zip_more}
use Rattle.ca_verify.proofs.verifier.tables.tables_of.Goals as goal

pub returns-in-Err-clause-fault : goal.returns-in-Err-clause-fault
returns-in-Err-clause-fault c = λ differ.
    let places = c.args.places.now in
    let found = c.args.found.now in
    let at = slice_get-get_or places c.places.place-index _ c.places-test.true in
    first_behind (IsTableFound found) (λ i. (table : TableRule) × IsTableFound found i table) (IsFaultFound found _) (λ i t is. (t, is)) places c.places.tables.items c.places.place-index _ c.places.invariant at
    (refl, c.in-Some.bytes, c.in-Some.is, (differ, c.in-Err.ensures.fault))

pub places-preserved : goal.places-preserved
places-preserved c =
    let places = c.args.places.now in
    let found = c.args.found.now in
    let old = c.places.tables.items in
    let items = c.push.ensures.items ∙ ap (λ b. if b then old ++ c.in-Ok.table ∷ [] else old) c.if-is_err.ensures.negation in
    let at = slice_get-get_or places c.places.place-index _ c.places-test.true in
    subst (AllZip (IsTableFound found) (take (c.places.place-index + 1) places)) (sym items)
    (zip_more (IsTableFound found) places old c.places.place-index _ c.in-Ok.table c.places.invariant at (c.in-Some.bytes, c.in-Some.is, (c.in-Ok.ensures.found, c.in-Ok.ensures.quiet)))
