use Rattle.std.proofs.Common.{FitsSigned, ◌≤ℤ◌, sym, arith, rules}
use Rattle.std.specs.Int.{w128}
use Rattle.std.proofs.lemmas.Int.{to_z-of_z, ints}
use Rattle.ca_draw.proofs.Strips.{strip_mono}
use Rattle.ca_draw.proofs.window.strips_between.Goals as goal

pub count_of-count-requires-clause-order : goal.count_of-count-requires-clause-order
count_of-count-requires-clause-order c =
    let x : FitsSigned w128 c.args.from = search rules in
    let y : FitsSigned w128 c.args.to = search rules in
    let f : FitsSigned w128 c.strip-first.result = search rules in
    let g : FitsSigned w128 c.strip-last.result = search rules in
    let h = strip_mono c.args.scale c.args.from c.args.to c.requires.order in
    let a = simp (to_z-of_z, x) at c.strip-first.ensures in
    let b = simp (to_z-of_z, y) at c.strip-last.ensures in
    simp (to_z-of_z, f, g) (rw (a, b) h)

pub returns-clause-span : goal.returns-clause-span
returns-clause-span c =
    let x : FitsSigned w128 c.args.from = search rules in
    let y : FitsSigned w128 c.args.to = search rules in
    let f : FitsSigned w128 c.strip-first.result = search rules in
    let g : FitsSigned w128 c.strip-last.result = search rules in
    let a = simp (to_z-of_z, x) at c.strip-first.ensures in
    let b = simp (to_z-of_z, y) at c.strip-last.ensures in
    let order : c.strip-first.result ≤ℤ c.strip-last.result = rw (a, b) (strip_mono c.args.scale c.args.from c.args.to c.requires.order) in
    simp (to_z-of_z, f) (
      record {
        are_strips = record { some = omega (arith, ints); most = omega (arith, ints); begins = omega (arith, ints); ends = omega (arith, ints) };
        begins = sym a;
        ends = omega (arith, ints, b);
      },
      omega (arith, ints),
    )
