use Rattle.std.proofs.Common.{subst, sym, arith, w64}
use Rattle.std.specs.Prelude.{pos, ◌+ℤ◌, ◌<ℤ◌, ◌≤ℤ◌, FitsSigned}
use Rattle.std.proofs.lemmas.Int.{ints, to_z-of_z}
use Rattle.ca_bricks.proofs.grid.WordPlace.naturals.Goals as goal

pub returns-clause-words : goal.returns-clause-words
returns-clause-words c = λ u low high.
    let fits : FitsSigned w64 c.args.self.i = omega (arith, ints, c.requires.west, c.requires.east) in
    let same = sym (to_z-of_z w64 c.args.self.i fits) in
    c.naturals.ensures u (subst (λ z. z ≤ℤ pos u) same low) (subst (λ z. pos u <ℤ (z +ℤ pos c.args.count)) same high)

pub returns-clause-rows : goal.returns-clause-rows
returns-clause-rows c = λ v low high.
    let fits : FitsSigned w64 c.args.self.j = omega (arith, ints, c.requires.north, c.requires.south) in
    let same = sym (to_z-of_z w64 c.args.self.j fits) in
    c.naturals-2.ensures v (subst (λ z. z ≤ℤ pos v) same low) (subst (λ z. pos v <ℤ (z +ℤ pos c.args.count)) same high)
