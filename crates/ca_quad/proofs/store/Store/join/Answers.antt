use Rattle.std.proofs.Common.{◌≡◌, ◌+◌, ℕ, IfOk, subst, ◌∙◌, arith}
use Rattle.ca_quad.specs.declared.square.Square.TheVariants.{Parts}
use Rattle.ca_quad.specs.Prelude.{square_of, IsSoundStore}
use Rattle.ca_quad.proofs.Growth.{grows_same}
use Rattle.ca_quad.proofs.JoinedSquares.{four_at, joined, joined_ok, sixteen, sixty_four}
use Rattle.ca_quad.proofs.store.Store.join.Goals as goal

pub returns-in-Some-clause-shows : goal.returns-in-Some-clause-shows
returns-in-Some-clause-shows c = λ k h.
    let nodes = c.args.self.now in
    let sound = subst IsSoundStore c.self.view_is c.self.invariant in
    let four = four_at nodes c.requires.0 k c.args.nw c.args.ne c.args.sw c.args.se c.requires.1 h in
    rw c.cells4.ensures
    (joined nodes nodes sound (grows_same nodes sound) _ k c.args.nw c.args.ne c.args.sw c.args.se four (omega (arith, c.in-Some.ensures.low))
    (sixteen nodes k c.args.nw c.args.ne c.args.sw c.args.se c.in-Some.cells h c.in-Some.ensures))

pub returns-in-Some-sixty_four_cells-clause-shows :
    goal.returns-in-Some-sixty_four_cells-clause-shows
returns-in-Some-sixty_four_cells-clause-shows c = λ k h.
    let nodes = c.args.self.now in
    let four = four_at nodes c.requires.0 k c.args.nw c.args.ne c.args.sw c.args.se c.requires.1 h in
    let block = sixty_four nodes k c.args.nw c.args.ne c.args.sw c.args.se c.in-Some-sixty_four_cells.cells h c.in-Some-sixty_four_cells.ensures in
    joined_ok nodes c.put.new.self (subst IsSoundStore c.self.view_is c.self.invariant) c.put.ensures.grows c.put.result k c.args.nw c.args.ne c.args.sw c.args.se four c.put.ensures.known
    (subst (λ s. IfOk c.put.result (λ id. square_of c.put.new.self id ≡ s)) block c.put.ensures.shows)

pub returns-clause-shows : goal.returns-clause-shows
returns-clause-shows c = λ k h.
    let nodes = c.args.self.now in
    let four = four_at nodes c.requires.0 k c.args.nw c.args.ne c.args.sw c.args.se c.requires.1 h in
    let level : c.level-level.result ≡ k = c.level-level.ensures.level ∙ h.is_level in
    joined_ok nodes c.put-2.new.self (subst IsSoundStore c.self.view_is c.self.invariant) c.put-2.ensures.grows c.put-2.result k c.args.nw c.args.ne c.args.sw c.args.se four c.put-2.ensures.known
    (subst (λ (l : ℕ). IfOk c.put-2.result (λ id. square_of c.put-2.new.self id ≡ Parts (l + 1) c.args.nw c.args.ne c.args.sw c.args.se)) level c.put-2.ensures.shows)
