use Rattle.std.proofs.Common.{◌≡◌, ◌<◌, replicate, ap, subst, sym, ◌∙◌, arith}
use Rattle.std.proofs.lemmas.Bool.Decides.{nat_tests}
use Rattle.ca_rule.specs.Prelude.{IsSoundTable, table_next}
use Rattle.ca_rule.specs.inner.TableSearch.{placements_of}
use Rattle.ca_rule.specs.inner.TablePlaces.{next_at}
use Rattle.ca_rule.specs.inner.TableStored.{stored_table, IsStoredTable}
use Rattle.ca_rule.proofs.TableStates.{closed}
use Rattle.ca_rule.proofs.SymmetryPlaces.{stored-next}
use Rattle.ca_rule.proofs.table.Table.of_parts.Goals as goal

pub returns-then-first_outcome-ne0-clause-fault : goal.returns-then-first_outcome-ne0-clause-fault
returns-then-first_outcome-ne0-clause-fault c =
    let found : c.first_outcome.result ≡ next_at c.args.variables.items (placements_of c.of-orders.result) (replicate 9 0) c.args.transitions.items
    = cc (c.first_outcome.ensures, c.deref.ensures.value, c.deref-2.ensures.value) in
    let same = stored-next c.args.name.items c.args.states c.args.neighbourhood c.args.symmetry c.args.variables.items c.args.transitions.items
    (replicate 9 0) (placements_of c.of-orders.result) c.of-orders.ensures.placements in
    λ quiet. let zero : c.first_outcome.result ≡ 0 = found ∙ same ∙ quiet in grind (arith, nat_tests)

pub returns-in_default-clause-fault : goal.returns-in_default-clause-fault
returns-in_default-clause-fault c =
    let found : c.first_outcome.result ≡ next_at c.args.variables.items (placements_of c.of-orders.result) (replicate 9 0) c.args.transitions.items
    = cc (c.first_outcome.ensures, c.deref.ensures.value, c.deref-2.ensures.value) in
    let same = stored-next c.args.name.items c.args.states c.args.neighbourhood c.args.symmetry c.args.variables.items c.args.transitions.items
    (replicate 9 0) (placements_of c.of-orders.result) c.of-orders.ensures.placements in
    let zero : c.first_outcome.result ≡ 0 = grind (arith, nat_tests) in
    sym same ∙ sym found ∙ zero

pub returns-clause-quiet : goal.returns-clause-quiet
returns-clause-quiet c =
    let found : c.first_outcome.result ≡ next_at c.args.variables.items (placements_of c.of-orders.result) (replicate 9 0) c.args.transitions.items
    = cc (c.first_outcome.ensures, c.deref.ensures.value, c.deref-2.ensures.value) in
    let same = stored-next c.args.name.items c.args.states c.args.neighbourhood c.args.symmetry c.args.variables.items c.args.transitions.items
    (replicate 9 0) (placements_of c.of-orders.result) c.of-orders.ensures.placements in
    let zero : c.first_outcome.result ≡ 0 = grind (arith, nat_tests) in
    let kept : stored_table c.args.name.items c.args.states c.args.neighbourhood c.args.symmetry c.in-Ok.indexed.variables c.in-Ok.indexed.transitions
    ≡ stored_table c.args.name.items c.args.states c.args.neighbourhood c.args.symmetry c.args.variables.items c.args.transitions.items
    = ap (λ v. stored_table c.args.name.items c.args.states c.args.neighbourhood c.args.symmetry v c.in-Ok.indexed.transitions) c.in-Ok.ensures.variables
    ∙ ap (λ t. stored_table c.args.name.items c.args.states c.args.neighbourhood c.args.symmetry c.args.variables.items t) c.in-Ok.ensures.transitions in
    ap (λ t. table_next t (replicate 9 0)) kept ∙ sym same ∙ sym found ∙ zero

pub invariant_of-result : goal.invariant_of-result
invariant_of-result c =
    let some : 0 < c.args.states = omega arith in
    let kept : stored_table c.args.name.items c.args.states c.args.neighbourhood c.args.symmetry c.in-Ok.indexed.variables c.in-Ok.indexed.transitions
    ≡ stored_table c.args.name.items c.args.states c.args.neighbourhood c.args.symmetry c.args.variables.items c.args.transitions.items
    = ap (λ v. stored_table c.args.name.items c.args.states c.args.neighbourhood c.args.symmetry v c.in-Ok.indexed.transitions) c.in-Ok.ensures.variables
    ∙ ap (λ t. stored_table c.args.name.items c.args.states c.args.neighbourhood c.args.symmetry c.args.variables.items t) c.in-Ok.ensures.transitions in
    let sound : IsSoundTable (stored_table c.args.name.items c.args.states c.args.neighbourhood c.args.symmetry c.args.variables.items c.args.transitions.items) = record {
      low = c.requires.low;
      high = c.requires.high;
      closed = closed (stored_table c.args.name.items c.args.states c.args.neighbourhood c.args.symmetry c.args.variables.items c.args.transitions.items) some c.requires.results;
      quiet = ap (λ t. table_next t (replicate 9 0)) (sym kept) ∙ returns-clause-quiet c;
    } in
    subst IsStoredTable (sym kept) (record { named = c.requires.named; sound = sound })
