use Rattle.std.proofs.Common.{◌≡◌, ◌-◌, ◌<◌, ◌^◌, Some, length, sym, subst, ap, ◌∙◌, arith}
use Rattle.std.specs.List.{slice_get}
use Rattle.std.proofs.lemmas.Bool.Decides.{nat_tests}
use Rattle.std.proofs.lemmas.Option.{slice_get-get_or}
use Rattle.ca_macro.proofs.KeptSquares.{number_forward, number_named, number_of_other_level}
use Rattle.ca_macro.proofs.read.squares.Squares.part.Goals as goal

pub returns-in_default-clause-fault : goal.returns-in_default-clause-fault
returns-in_default-clause-fault c = λ store nodes n h e.
    let items = c.args.self.now.squares.items in
    let same : length c.deref.result.now ≡ length items = ap length c.deref.ensures.value in
    let few : length items < 2 ^ 64 - 1 = omega (arith, c.deref.type_inv.1) in
    let look = c.in_default.ensures.lookup in
    number_forward store nodes c.args.self.now h few c.args.level n c.args.number e (grind (arith, nat_tests)) (grind (arith, nat_tests, c.if-number-eq0.false))

pub returns-then-square-level-clause-fault : goal.returns-then-square-level-clause-fault
returns-then-square-level-clause-fault c = λ store nodes n h e.
    let items = c.args.self.now.squares.items in
    let same : length c.deref.result.now ≡ length items = ap length c.deref.ensures.value in
    let few : length items < 2 ^ 64 - 1 = omega (arith, c.deref.type_inv.1) in
    let at : slice_get items (c.args.number - 1) ≡ Some c.in-Some.square.now = subst (λ xs. slice_get xs (c.args.number - 1) ≡ Some c.in-Some.square.now) c.deref.ensures.value (slice_get-get_or c.deref.result.now (c.args.number - 1) c.in-Some.square.now (c.in-Some.ensures.lookup.3.0) ∙ ap Some (sym c.in-Some.ensures.lookup.1)) in
    number_of_other_level store nodes c.args.self.now h few c.args.level n c.args.number e c.in-Some.square.now at (grind (arith, nat_tests, c.if-number-eq0.false)) c.if-square-level.true

pub returns-clause-part : goal.returns-clause-part
returns-clause-part c = λ store nodes n h e.
    let items = c.args.self.now.squares.items in
    let same : length c.deref.result.now ≡ length items = ap length c.deref.ensures.value in
    let few : length items < 2 ^ 64 - 1 = omega (arith, c.deref.type_inv.1) in
    let at : slice_get items (c.args.number - 1) ≡ Some c.in-Some.square.now = subst (λ xs. slice_get xs (c.args.number - 1) ≡ Some c.in-Some.square.now) c.deref.ensures.value (slice_get-get_or c.deref.result.now (c.args.number - 1) c.in-Some.square.now (c.in-Some.ensures.lookup.3.0) ∙ ap Some (sym c.in-Some.ensures.lookup.1)) in
    number_named store nodes c.args.self.now h few c.args.level n c.args.number e c.in-Some.square.now at (grind (arith, nat_tests, c.if-number-eq0.false)) c.if-square-level.false
