use Rattle.std.proofs.Common.{◌≡◌, ◌==◌, ℕ, ◌∷◌, [], ◌++◌, map, length, Some, cond, sym, subst, arith}
use Rattle.ca_quad.specs.Prelude.{square_value}
use Rattle.ca_macro.specs.inner.Written.{node_of, IsWrittenNumber, IsGathered}
use Rattle.ca_macro.proofs.Gathering.{last_number, gathered_more, written_more}
use Rattle.ca_macro.proofs.write.nodes.GatheredNodes.push.Goals as goal

pub returns-clause-number : goal.returns-clause-number
returns-clause-number c =
    let last : c.len-number.result ≡ length c.push.new.self.items = omega (arith, c.len-number.ensures) in
    let more = written_more _ _ c.args.node _ c.in_ok-push.ensures.items last in
    let node = node_of c.args.node in
    subst (λ l. IsWrittenNumber c.args.store.now l c.args.id c.len-number.result) (sym more.0)
    (subst (λ k. IsWrittenNumber c.args.store.now (map node_of c.args.self.now.nodes.items ++ node ∷ []) c.args.id k) more.1 (last_number c.args.store.now c.args.states _ c.args.id node c.requires.node))

pub returns-clause-gathered : goal.returns-clause-gathered
returns-clause-gathered c =
    let last : c.len-number.result ≡ length c.push.new.self.items = omega (arith, c.len-number.ensures) in
    let more = written_more _ _ c.args.node _ c.in_ok-push.ensures.items last in
    let old = c.args.self.now.numbers in
    let new = c.put.new.self in
    subst (λ l. IsGathered c.args.store.now c.args.states l new) (sym more.0)
    (gathered_more c.args.store.now c.count-squares.ensures.sound c.args.states _ old new c.args.id (node_of c.args.node) c.requires.known c.requires.gathered c.requires.node c.requires.live c.requires.new
    (subst (λ n. (other : ℕ) → square_value new other
    ≡ cond (c.args.id == other) (Some n) (square_value old other)) (sym more.1) c.in_ok-put.ensures.ok))
