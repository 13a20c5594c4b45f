-- The test for equal nodes that `derive` writes: it tells nodes apart, and finds each equal to itself.
use Rattle.std.proofs.Common.{◌≡◌, ℕ, ◌==◌, ◌&&◌, Bool, true, ap, arith}
use Rattle.std.proofs.lemmas.Bool.{eqb-true, and_parts}
use Rattle.std.proofs.lemmas.Bool.Decides.{nat_tests}
use Rattle.ca_quad.specs.contracts.node.NodePartialEq.TheImpl.{eq-value}
use Rattle.ca_quad.specs.declared.node.Node.{Node}
use Rattle.ca_quad.specs.declared.node.Node.TheVariants.{Leaf, Block, Join}

abbrev pub node_eq : Node → Node → Bool
node_eq = (eq-value).it

pub node_eq-self : (n : Node) → node_eq n n ≡ true
node_eq-self (Leaf nw ne sw se) = grind (arith, nat_tests)
node_eq-self (Block n) = grind (arith, nat_tests)
node_eq-self (Join level nw ne sw se) = grind (arith, nat_tests)

-- four tests that are true
four_same : (p q r s a b c d : ℕ) → ((p == a) && ((q == b) && ((r == c) && (s == d)))) ≡ true → (p ≡ a) × (q ≡ b) × (r ≡ c) × (s ≡ d)
four_same p q r s a b c d e =
    let h = and_parts (p == a) _ e in
    let i = and_parts (q == b) _ h.1 in
    let j = and_parts (r == c) (s == d) i.1 in
    (eqb-true p a h.0, eqb-true q b i.0, eqb-true r c j.0, eqb-true s d j.1)

pub node_eq-same : (m n : Node) → node_eq m n ≡ true → m ≡ n
node_eq-same (Leaf nw ne sw se) (Leaf a b c d) e =
    let (p, q, r, s) = four_same nw ne sw se a b c d e in
    cc
node_eq-same (Leaf nw ne sw se) (Block n) e = cc
node_eq-same (Leaf nw ne sw se) (Join level a b c d) e = cc
node_eq-same (Block n) (Leaf a b c d) e = cc
node_eq-same (Block m) (Block n) e = ap (λ (n : ℕ). Block n) (eqb-true m n e)
node_eq-same (Block n) (Join level a b c d) e = cc
node_eq-same (Join level nw ne sw se) (Leaf a b c d) e = cc
node_eq-same (Join level nw ne sw se) (Block n) e = cc
node_eq-same (Join k nw ne sw se) (Join l a b c d) e =
    let g = and_parts (k == l) _ e in
    let o = eqb-true k l g.0 in
    let (p, q, r, s) = four_same nw ne sw se a b c d g.1 in
    cc
