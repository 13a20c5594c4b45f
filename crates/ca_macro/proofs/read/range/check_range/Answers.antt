use Rattle.std.proofs.Common.{refl, sym, subst, ◌∙◌, inr, arith}
use Rattle.std.specs.Option.{MatchOption}
use Rattle.std.proofs.lemmas.Bool.{false≢true}
use Rattle.ca_quad.specs.Prelude.{IsDead, IsLeastWideBox, cell}
use Rattle.ca_macro.proofs.Ranges.{box_of_range, range_of_box, low_in_range}
use Rattle.ca_macro.proofs.read.range.check_range.Goals as goal

pub returns-then-not-is_in_range-clause-fault : goal.returns-then-not-is_in_range-clause-fault
returns-then-not-is_in_range-clause-fault c =
    let cells = cell c.args.store.now c.args.tree.now in
    let least : IsLeastWideBox cells c.in-Some.cells = subst (λ o. MatchOption o (IsDead cells) (IsLeastWideBox cells)) c.in-Some.is c.in_ok-cells.ensures in
    inr (refl, λ within. false≢true (sym c.if-not-is_in_range.true ∙ c.is_in_range.ensures.1 (box_of_range cells c.in-Some.cells least within)))

pub returns-then-level-le-LEVEL_OF_RANGE-clause-good : goal.returns-then-level-le-LEVEL_OF_RANGE-clause-good
returns-then-level-le-LEVEL_OF_RANGE-clause-good c =
    let level = c.level.ensures.level ∙ c.requires.is_level in
    low_in_range c.args.store.now c.args.tree.now (omega (arith, level, c.level.ensures.least)) (omega (arith, level, c.if-level-le-LEVEL_OF_RANGE.true))

pub returns-clause-good : goal.returns-clause-good
returns-clause-good c =
    let cells = cell c.args.store.now c.args.tree.now in
    let least : IsLeastWideBox cells c.in-Some.cells = subst (λ o. MatchOption o (IsDead cells) (IsLeastWideBox cells)) c.in-Some.is c.in_ok-cells.ensures in
    range_of_box cells c.in-Some.cells least (c.is_in_range.ensures.0 c.if-not-is_in_range.false)
