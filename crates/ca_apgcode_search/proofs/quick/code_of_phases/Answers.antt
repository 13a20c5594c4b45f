use Rattle.std.proofs.Common.{None, Some, refl, ap, subst, ◌∙◌}
use Rattle.ca_quad.specs.Prelude.{AreSquareBoxes, IsLeastWideBox, cell}
use Rattle.ca_apgcode.specs.Prelude.{code_text}
use Rattle.ca_pattern.proofs.Corners.{far_corner_wide, corner_wide}
use Rattle.ca_apgcode_search.specs.Countings.{MayGoBy}
use Rattle.ca_apgcode_search.proofs.LargeObjects.{no_phase}
use Rattle.ca_apgcode_search.proofs.quick.code_of_phases.Goals as goal

pub is_too_large-requires-clause-wide : goal.is_too_large-requires-clause-wide
is_too_large-requires-clause-wide g c =
    let p = cell c.args.leaper.now.nodes c.args.tree.now in
    let least = subst (λ s. IsLeastWideBox (cell s c.args.tree.now) c.in-Some.bounds) c.store.ensures.nodes (rw c.in-Some.is at c.in_ok-bounds.ensures.bounds) in
    let corner = corner_wide p c.in-Some.bounds least c.requires.tree.near in
    let far = far_corner_wide p c.in-Some.bounds least c.requires.tree.near in
    record { left = corner.0; top = corner.1; right = far.0; bottom = far.1 }

pub least_of_small-requires-clause-boxes : goal.least_of_small-requires-clause-boxes
least_of_small-requires-clause-boxes g c = subst (λ s. AreSquareBoxes s c.bounds_with.new.boxes) c.store.ensures.nodes c.in_ok-bounds.ensures.boxes

pub returns-then-is_too_large : goal.returns-then-is_too_large
returns-then-is_too_large g c = λ next dx dy quiet may back.
    let p = cell c.args.leaper.now.nodes c.args.tree.now in
    let least = subst (λ s. IsLeastWideBox (cell s c.args.tree.now) c.in-Some.bounds) c.store.ensures.nodes (rw c.in-Some.is at c.in_ok-bounds.ensures.bounds) in
    record {
      text = None;
      is_least = no_phase next quiet p c.args.period dx dy back c.requires.some c.in-Some.bounds least (c.if-is_too_large.ensures refl);
      whole = c.in_ok-number.ensures ∙ ap (λ n. code_text c.args.kind n None) c.from.ensures;
    }

pub returns : goal.returns
returns g c = λ next dx dy quiet may back.
    let by = subst (MayGoBy next (cell c.args.leaper.now.nodes c.args.tree.now)) c.in-Some-counting.is may in
    record {
      text = Some c.in-Some-2.least.items;
      is_least = rw c.in-Some-2.is at (c.in_ok-least.ensures.least next by.0 quiet by.1);
      whole = c.in_ok-code.ensures ∙ ap (λ n. code_text c.args.kind n (Some c.in-Some-2.least.items)) c.from-2.ensures;
    }
