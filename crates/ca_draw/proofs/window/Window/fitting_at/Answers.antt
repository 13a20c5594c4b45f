use Rattle.std.proofs.Common.{FitsSigned, ◌≤◌, pos, ◌+ℤ◌, ◌≤ℤ◌, ◌<ℤ◌, subst, arith, rules}
use Rattle.std.proofs.lemmas.Bool.Decides.{nat_tests}
use Rattle.std.specs.Int.{w128}
use Rattle.std.proofs.lemmas.Int.{to_z-of_z}
use Rattle.ca_draw.specs.Prelude.{strip_of}
use Rattle.ca_draw.proofs.Boxes.{first_corner, last_corner, span_x, span_y, shows_box, last_square}
use Rattle.ca_draw.proofs.window.Window.fitting_at.Goals as goal

pub returns-in_default-clause-none : goal.returns-in_default-clause-none
returns-in_default-clause-none c = λ other same shows.
    let f : FitsSigned w128 c.args.bounds.x0 = search rules in
    let g : FitsSigned w128 c.args.bounds.x1 = search rules in
    let first = first_corner c.args.bounds c.requires c.args.columns c.args.rows other shows in
    let last = last_corner c.args.bounds c.requires c.args.columns c.args.rows other shows in
    let none = simp (to_z-of_z, f, g) at c.in_default.ensures.none in
    none other.column other.width (span_x c.args.bounds c.requires c.args.columns c.args.rows other shows) shows.width
    (subst (λ k. other.column ≤ℤ strip_of k c.args.bounds.x0) same first.west)
    (subst (λ k. strip_of k c.args.bounds.x1 <ℤ (other.column +ℤ pos other.width)) same last.east)

pub returns-in_default-strips_between-clause-none : goal.returns-in_default-strips_between-clause-none
returns-in_default-strips_between-clause-none c = λ other same shows.
    let f : FitsSigned w128 c.args.bounds.y0 = search rules in
    let g : FitsSigned w128 c.args.bounds.y1 = search rules in
    let first = first_corner c.args.bounds c.requires c.args.columns c.args.rows other shows in
    let last = last_corner c.args.bounds c.requires c.args.columns c.args.rows other shows in
    let none = simp (to_z-of_z, f, g) at c.in_default-strips_between.ensures.none in
    none other.row other.height (span_y c.args.bounds c.requires c.args.columns c.args.rows other shows) shows.height
    (subst (λ k. other.row ≤ℤ strip_of k c.args.bounds.y0) same first.north)
    (subst (λ k. strip_of k c.args.bounds.y1 <ℤ (other.row +ℤ pos other.height)) same last.south)

pub returns : goal.returns
returns c =
    let low : c.args.scale ≤ 124 = grind (arith, nat_tests) in
    let f : FitsSigned w128 c.in-Some.across.first = search rules in
    let g : FitsSigned w128 c.in-Some-strips_between.down.first = search rules in
    let p : FitsSigned w128 c.args.bounds.x0 = search rules in
    let q : FitsSigned w128 c.args.bounds.x1 = search rules in
    let r : FitsSigned w128 c.args.bounds.y0 = search rules in
    let s : FitsSigned w128 c.args.bounds.y1 = search rules in
    let across = simp (to_z-of_z, p, q) at c.in-Some.ensures.span in
    let down = simp (to_z-of_z, r, s) at c.in-Some-strips_between.ensures.span in
    record {
      shows =
          simp (to_z-of_z, f, g)
          (shows_box c.args.bounds c.requires c.args.columns c.args.rows c.args.scale low c.in-Some.across.first c.in-Some-strips_between.down.first
          c.in-Some.across.count c.in-Some-strips_between.down.count across.0 down.0 across.1 down.1);
      begins = search rules;
      ends =
          simp (to_z-of_z, f, g)
          (last_square c.args.bounds c.requires c.args.columns c.args.rows c.args.scale low c.in-Some.across.first c.in-Some-strips_between.down.first
          c.in-Some.across.count c.in-Some-strips_between.down.count across.0 down.0);
      scale = search rules;
      none = search rules;
    }
