use Rattle.std.proofs.Common.{◌≡◌, suc, ◌+◌, ◌-◌, ◌*◌, ◌%◌, ◌≤◌, ◌^◌, subst, arith}
use Rattle.std.specs.Prelude.{ℤ, ◌+ℤ◌, nat_lt, if◌then◌else◌}
use Rattle.std.proofs.lemmas.Bool.Decides.{nat_tests}
use Rattle.ca_quad.specs.Prelude.{IsOf}
use Rattle.ca_run.specs.inner.Shown.{ShowsAt}
use Rattle.ca_bricks.specs.Prelude.{side}
use Rattle.ca_run.proofs.ReadWords.{half_is, first_place, part_from}
use Rattle.ca_run.proofs.ShownPlanes.{at_from}
use Rattle.ca_run.proofs.leaper.Leaper.+part_at.Goals as goal

pub returns-then-halvings-eq0-clause-square : goal.returns-then-halvings-eq0-clause-square
returns-then-halvings-eq0-clause-square g t c =
    let whole : c.args.halvings + c.args.level ≡ c.args.level = grind (arith, nat_tests, c.if-halvings-eq0.true) in
    subst (IsOf c.args.self.now.nodes c.args.id) whole c.requires.square

pub returns-then-halvings-eq0-clause-shows : goal.returns-then-halvings-eq0-clause-shows
returns-then-halvings-eq0-clause-shows g t c = λ p a b shows.
    let none : c.args.halvings ≡ 0 = grind (arith, nat_tests, c.if-halvings-eq0.true) in
    let i : suc c.args.i ≤ 2 ^ 0 = subst (λ n. suc c.args.i ≤ 2 ^ n) none c.requires.place_x in
    let j : suc c.args.j ≤ 2 ^ 0 = subst (λ n. suc c.args.j ≤ 2 ^ n) none c.requires.place_y in
    let whole : c.args.halvings + c.args.level ≡ c.args.level = omega (arith, none) in
    at_from c.args.self.now.nodes c.args.id c.args.level p a b _ _ (first_place c.args.level c.args.i (omega (arith, i)) a) (first_place c.args.level c.args.j (omega (arith, j)) b)
    (subst (λ n. ShowsAt c.args.self.now.nodes c.args.id n p a b) whole shows)

pub part_in-part-requires : goal.part_in-part-requires
part_in-part-requires g t c =
    let some : 1 ≤ c.args.halvings = grind (arith, nat_tests, c.if-halvings-eq0.false) in
    let whole : c.args.halvings + c.args.level ≡ suc (suc (c.args.level + c.args.halvings - 2)) = omega (arith, some, c.requires.least) in
    subst (IsOf c.args.self.now.nodes c.args.id) whole c.requires.square

pub returns-clause-shows : goal.returns-clause-shows
returns-clause-shows g t c = λ p a b shows.
    let nodes = c.args.self.now.nodes in
    let l = c.args.level in
    let k = c.args.halvings - 1 in
    let some : 1 ≤ c.args.halvings = grind (arith, nat_tests, c.if-halvings-eq0.false) in
    let up : c.args.halvings ≡ suc k = omega (arith, some) in
    let h = 1 * 2 ^ k % 2 ^ 64 in
    let e : h ≡ 2 ^ k = half_is k (omega (arith, c.requires.low)) in
    let n = suc (l + c.args.halvings - 2) in
    let below : n ≡ k + l = omega (arith, some, c.requires.least) in
    let whole : c.args.halvings + l ≡ suc n = omega (arith, some, c.requires.least) in
    let west : ℤ = if nat_lt c.args.i h then a else (a +ℤ side n) in
    let north : ℤ = if nat_lt c.args.j h then b else (b +ℤ side n) in
    let part : ShowsAt nodes c.part_in-part.result n p west north = c.part_in-part.ensures.shows p a b (subst (λ n. ShowsAt nodes c.args.id n p a b) whole shows) in
    at_from nodes c.part_at.result l p _ _ _ _
    (part_from k l n c.args.i h below e (subst (λ n. suc c.args.i ≤ 2 ^ n) up c.requires.place_x) a)
    (part_from k l n c.args.j h below e (subst (λ n. suc c.args.j ≤ 2 ^ n) up c.requires.place_y) b)
    (c.part_at.ensures.shows p west north (subst (λ n. ShowsAt nodes c.part_in-part.result n p west north) below part))
