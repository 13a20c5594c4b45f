use Rattle.std.proofs.Common.{◌<◌, refl, sym, subst, ◌∙◌, arith}
use Rattle.ca_plane.specs.Prelude.{cells_after, generation_limit}
use Rattle.ca_quad.specs.Trees as trees
use Rattle.ca_rule.specs.Prelude.{rule_value, next_of}
use Rattle.ca_pattern.specs.Prelude.{IsPatternOf, IsPattern, HasSmallStates, IsLaterTree}
use Rattle.ca_pattern.proofs.EqualCells.{small_shown}
use Rattle.ca_pattern.proofs.OpenedFiles.{pattern_of_tree}
use Rattle.ca_evolution.proofs.EvolvedPatterns.{later_pattern, needs_run}
use Rattle.ca_evolution.proofs.evolution.evolve.Goals as goal

pub returns-then-generations-eq0-clause-evolved : goal.returns-then-generations-eq0-clause-evolved
returns-then-generations-eq0-clause-evolved g c = λ cells is.
    let none = c.if-generations-eq0.true in
    record {
      is_pattern = subst (λ n. IsPatternOf (cells_after (next_of (rule_value c.args.pattern.rule)) cells n) c.args.pattern) (sym none) is;
      rule = refl;
      kind = refl;
      added = omega (arith, none);
    }

pub end_of-requires-clause-run : goal.end_of-requires-clause-run
end_of-requires-clause-run g c =
    let (cells, is, range) = c.requires.begins in
    record {
      pattern = subst (λ s. IsPattern s c.in-Ok.field-0.tree) (sym c.in-Ok-leaper_of.ensures.store) (pattern_of_tree cells c.in-Ok.field-0 (c.in-Ok.ensures.tree cells is.are_cells) range);
      few = c.requires.few;
    }

pub returns-in-Ok-end_of-clause-evolved : goal.returns-in-Ok-end_of-clause-evolved
returns-in-Ok-end_of-clause-evolved g c = λ cells is.
    let stored = c.in-Ok.field-0 in
    let tree = c.in-Ok.ensures.tree cells is.are_cells in
    let first = c.args.pattern in
    let leaper = c.in-Ok-leaper_of.leaper in
    let end = c.in-Ok-end_of.end in
    let told = c.in-Ok-end_of.ensures in
    let n = c.args.generations in
    let later = subst (λ r. IsLaterTree (next_of (rule_value r)) (trees.cell stored.store stored.tree) n end.store end.tree) c.in-Ok-leaper_of.ensures.rule
    (subst (λ s. IsLaterTree (next_of (rule_value leaper.rule)) (trees.cell s stored.tree) n end.store end.tree) c.in-Ok-leaper_of.ensures.store told.end.0) in
    let shown = small_shown cells (trees.cell stored.store stored.tree) (λ x y. sym (tree.shows x y)) (rule_value first.rule) is.small in
    let first_small = subst (λ s. HasSmallStates (rule_value leaper.rule) (trees.cell s stored.tree)) (sym c.in-Ok-leaper_of.ensures.store)
    (subst (λ r. HasSmallStates (rule_value r) (trees.cell stored.store stored.tree)) (sym c.in-Ok-leaper_of.ensures.rule) shown) in
    let small = subst (λ r. HasSmallStates (rule_value r) (trees.cell end.store end.tree)) c.in-Ok-leaper_of.ensures.rule (told.small first_small) in
    later_pattern first cells n c.in-Some.generation stored end tree c.in-Some.ensures.0 c.in-Some.ensures.1 told.end.1 later small

pub returns-clause-fault : goal.returns-clause-fault
returns-clause-fault g c = λ cells is.
    let told = c.in-Err-Work.ensures in
    let leaper = c.in-Ok-leaper_of.leaper in
    let low = subst (λ g. g < generation_limit) c.in-Some.ensures.0 c.in-Some.ensures.1 in (
      low,
      needs_run cells c.in-Ok.field-0 (c.in-Ok.ensures.tree cells is.are_cells) c.args.generations leaper.spent.used c.end_of.new.leaper.spent.used c.args.limits.work
          c.in-Ok-leaper_of.ensures.used (told.work c.in-Err-Work.field-0-is ∙ told.goes_on.spends.limit ∙ c.in-Ok-leaper_of.ensures.limits.work) (told.some c.in-Err-Work.field-0-is) told.takes,
    )
