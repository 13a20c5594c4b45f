use Rattle.std.proofs.Common.{sym, subst}
use Rattle.ca_plane.specs.Plane as plane
use Rattle.ca_rule.specs.Prelude.{rule_value}
use Rattle.ca_pattern.specs.Prelude.{ShowsTree, IsPattern}
use Rattle.ca_pattern.proofs.OpenedFiles.{first_in_range, pattern_of_tree}
use Rattle.ca_census.proofs.CensusFiles.{census_at, fileable_at}
use Rattle.ca_census.proofs.file.census_of_file.Goals as goal

pub census_of_tree-requires-clause-pattern : goal.census_of_tree-requires-clause-pattern
census_of_tree-requires-clause-pattern g c =
    let is = c.in_ok-pattern.ensures.opened in
    let stored = c.in-Ok.field-0 in
    let tree = c.in-Ok.ensures.tree (plane.cell is.cells) is.is_pattern.are_cells in
    subst (λ s. IsPattern s stored.tree) (sym c.in-Ok-leaper_of.ensures.store)
    (pattern_of_tree (plane.cell is.cells) stored tree (first_in_range c.args.bytes.now c.args.tables.now c.in_ok-pattern.pattern is))

pub returns-clause-census : goal.returns-clause-census
returns-clause-census g c =
    let is = c.in_ok-pattern.ensures.opened in
    let rule = rule_value c.in_ok-pattern.pattern.rule in
    let stored = c.in-Ok.field-0 in
    let tree = c.in-Ok.ensures.tree (plane.cell is.cells) is.is_pattern.are_cells in
    let shows = subst (λ s. ShowsTree s stored.tree is.cells) (sym c.in-Ok-leaper_of.ensures.store) (λ x y. sym (tree.shows x y)) in
    let counted = rw c.in-Ok-Some.field-0-is at (c.in-Ok-Some.ensures.census is.cells shows) in
    census_at c.args.bytes.now c.args.tables.now c.args.reach is.cells rule c.has_codes-coded.result is.begun c.in_ok-pattern.pattern.generation c.in-Ok-Some.census c.in-Ok-origin_of.origin
    is.begins is.added c.has_codes-coded.ensures counted c.in-Ok-origin_of.ensures.origin

pub returns-clause-fileable : goal.returns-clause-fileable
returns-clause-fileable g c =
    let is = c.in_ok-pattern.ensures.opened.is_pattern in
    fileable_at (rule_value c.in_ok-pattern.pattern.rule) c.in_ok-pattern.pattern.generation c.in-Ok-Some.census c.in-Ok-origin_of.origin c.in-Ok-origin_of.ensures.origin c.in-Ok-origin_of.ensures.word
    is.low (rw c.in-Ok-Some.field-0-is at c.in-Ok-Some.ensures.fits) (rw c.in-Ok-Some.field-0-is at c.in-Ok-Some.ensures.objects)
