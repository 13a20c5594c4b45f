use Rattle.std.proofs.Common.{sym, subst, ◌∙◌}
use Rattle.ca_plane.specs.Plane as plane
use Rattle.ca_plane.specs.Prelude.{cells_after}
use Rattle.ca_quad.specs.Prelude.{cell}
use Rattle.ca_rule.specs.Prelude.{rule_value, next_of}
use Rattle.ca_pattern.specs.Prelude.{ShowsTree, IsPattern}
use Rattle.ca_pattern.proofs.OpenedFiles.{first_in_range, pattern_of_tree}
use Rattle.ca_identify_runs.specs.inner.CodedLooks.{IsCodedLook}
use Rattle.ca_identify_runs.specs.inner.Spent.{TakesRunAndTwice}
use Rattle.ca_identify_runs.proofs.CodedFiles.{ruled_code, file_needs_twice}
use Rattle.ca_identify_runs.proofs.coded_files.identify_with_code.Goals as goal

pub into_squares-requires : goal.into_squares-requires
into_squares-requires g c =
    let is = c.in_ok-pattern.ensures.opened in
    (plane.cell is.cells, is.is_pattern.are_cells)

pub look_and_code-requires-clause-pattern : goal.look_and_code-requires-clause-pattern
look_and_code-requires-clause-pattern g c =
    let is = c.in_ok-pattern.ensures.opened in
    let stored = c.in-Ok.field-0 in
    let tree = c.in-Ok.ensures.tree (plane.cell is.cells) is.is_pattern.are_cells in
    subst (λ s. IsPattern s stored.tree) (sym c.in-Ok-leaper_of.ensures.store)
    (pattern_of_tree (plane.cell is.cells) stored tree (first_in_range c.args.bytes.now c.args.tables.now c.in_ok-pattern.pattern is))

pub returns-in-Ok-look_and_code-clause-look : goal.returns-in-Ok-look_and_code-clause-look
returns-in-Ok-look_and_code-clause-look g c =
    let is = c.in_ok-pattern.ensures.opened in
    let stored = c.in-Ok.field-0 in
    let tree = c.in-Ok.ensures.tree (plane.cell is.cells) is.is_pattern.are_cells in
    let shows = subst (λ s. ShowsTree s stored.tree is.cells) (sym c.in-Ok-leaper_of.ensures.store) (λ x y. sym (tree.shows x y)) in
    let found = c.in-Ok-look_and_code.found in
    let (later, stands, look, code) = subst (λ r. IsCodedLook (next_of (rule_value r)) is.cells c.args.generations c.args.scope c.has_codes-coded.result found) c.in-Ok-leaper_of.ensures.rule
    (c.in-Ok-look_and_code.ensures.found is.cells shows) in
    (is.cells, rule_value c.in_ok-pattern.pattern.rule, (is.begun, is.begins), (later, stands, look))

pub returns-in-Ok-look_and_code-clause-code : goal.returns-in-Ok-look_and_code-clause-code
returns-in-Ok-look_and_code-clause-code g c =
    let is = c.in_ok-pattern.ensures.opened in
    let rule = rule_value c.in_ok-pattern.pattern.rule in
    let stored = c.in-Ok.field-0 in
    let tree = c.in-Ok.ensures.tree (plane.cell is.cells) is.is_pattern.are_cells in
    let shows = subst (λ s. ShowsTree s stored.tree is.cells) (sym c.in-Ok-leaper_of.ensures.store) (λ x y. sym (tree.shows x y)) in
    let found = c.in-Ok-look_and_code.found in
    let (later, stands, look, code) = subst (λ r. IsCodedLook (next_of (rule_value r)) is.cells c.args.generations c.args.scope c.has_codes-coded.result found) c.in-Ok-leaper_of.ensures.rule
    (c.in-Ok-look_and_code.ensures.found is.cells shows) in
    (is.cells, rule, (is.begun, is.begins), (later, stands, ruled_code c.has_codes-coded.result rule c.has_codes-coded.ensures later found.look.identity found.code code))

-- out of work
pub returns-clause-uncoded : goal.returns-clause-uncoded
returns-clause-uncoded g c =
    let is = c.in_ok-pattern.ensures.opened in
    let rule = c.in_ok-pattern.pattern.rule in
    let stored = c.in-Ok.field-0 in
    let tree = c.in-Ok.ensures.tree (plane.cell is.cells) is.is_pattern.are_cells in
    let n = c.args.generations in
    let limit = c.args.scope.limit in
    let leaper = c.in-Ok-leaper_of.leaper in
    let new = c.look_and_code.new.leaper.spent.used in
    let told = c.in-Err-Work.ensures in
    let takes =
    subst (λ r. TakesRunAndTwice leaper.spent.used new stored.tree.level n (cells_after (next_of (rule_value r)) (cell stored.store stored.tree)) limit) c.in-Ok-leaper_of.ensures.rule
    (subst (λ s. TakesRunAndTwice leaper.spent.used new stored.tree.level n (cells_after (next_of (rule_value leaper.rule)) (cell s stored.tree)) limit) c.in-Ok-leaper_of.ensures.store told.takes) in (
      is.cells,
      rule_value rule,
      (is.begun, is.begins),
      file_needs_twice (next_of (rule_value rule)) is.cells stored tree leaper.spent.used new c.args.limits.work n limit
          c.in-Ok-leaper_of.ensures.used (told.work c.in-Err-Work.field-0-is ∙ told.goes_on.spends.limit ∙ c.in-Ok-leaper_of.ensures.limits.work) takes,
    )
