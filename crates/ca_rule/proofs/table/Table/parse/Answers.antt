use Rattle.std.proofs.Common.{inr, ap, subst, ◌∙◌}
use Rattle.std.specs.List.{list_all}
use Rattle.ca_rule.specs.Prelude.{Transition, last_line}
use Rattle.ca_rule.specs.inner.TableReading.{left_of}
use Rattle.ca_rule.specs.inner.TableSettings.{meaning_of}
use Rattle.ca_rule.specs.inner.TableStored.{stored_table, is_below, IsPartsFault}
use Rattle.ca_rule.proofs.TableParsed.{kept-below, is-table}
use Rattle.ca_rule.proofs.table.Table.parse.Goals as goal

pub returns-in_default-clause-fault : goal.returns-in_default-clause-fault
returns-in_default-clause-fault c =
    inr (
      _,
      is-table c.args.text.now c.in_ok-name.name.now (left_of c.in_ok-name.lines) (left_of c.in_ok-settings.tail_after) (meaning_of c.in_ok-settings.settings) c.in_ok-statements.statements
          c.in_ok-name.ensures.found c.in_ok-settings.ensures.found c.in_ok-statements.ensures.found,
    )

pub of_parts-made-requires-clause-results : goal.of_parts-made-requires-clause-results
of_parts-made-requires-clause-results c =
    let below = kept-below (meaning_of c.in_ok-settings.settings) (left_of c.in_ok-settings.tail_after) c.in_ok-statements.statements c.in_ok-statements.ensures.found in
    ap (list_all (λ (t : Transition). is_below c.in_ok-settings.settings.states t.result)) c.into_parts-variables.ensures.transitions ∙ below

pub returns-in-Err-clause-fault : goal.returns-in-Err-clause-fault
returns-in-Err-clause-fault c =
    let settings = c.in_ok-settings.settings in
    let kept = c.in_ok-statements.statements in
    let table = is-table c.args.text.now c.in_ok-name.name.now (left_of c.in_ok-name.lines) (left_of c.in_ok-settings.tail_after) (meaning_of settings) kept
    c.in_ok-name.ensures.found c.in_ok-settings.ensures.found c.in_ok-statements.ensures.found in
    let named = c.in-Ok.ensures.items_if_clones_equal (λ x y e. e) in
    c.at.ensures c.args.text.now _ table (c.last_line.ensures ∙ ap last_line c.in_ok-name.ensures.text)
    (subst (λ t. IsPartsFault t c.in-Err.fault) (λ i. stored_table (named i) settings.states settings.neighbourhood settings.symmetry (c.into_parts-variables.ensures.variables i) (c.into_parts-variables.ensures.transitions i)) c.in-Err.ensures.fault)
