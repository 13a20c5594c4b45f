use Rattle.std.proofs.Common.{◌≡◌, ℕ, ◌+◌, ◌-◌, ◌*◌, ◌/◌, ◌%◌, ◌<◌, ◌^◌, List, sym, ap, subst, ◌∙◌, arith}
use Rattle.std.specs.Prelude.{ℤ, replicate}
use Rattle.std.proofs.Math.Nat.{mod-le}
use Rattle.std.proofs.lemmas.Bool.Decides.{nat_tests}
use Rattle.std.proofs.lemmas.Nat.Bits.{bit_at-zero}
use Rattle.ca_plane.specs.Prelude.{cells_after}
use Rattle.ca_quad.specs.Prelude.{IsSoundStore, cell}
use Rattle.ca_quad.proofs.Shifts.{some_level}
use Rattle.ca_run.proofs.DenseRuns.{reached_kept, reached_level, leapt_on}
use Rattle.ca_run.proofs.Levels.{one_leapt, leapt_more}
use Rattle.ca_run.proofs.LeaperGrowth.{goes_on_again}
use Rattle.ca_plane.proofs.After.{after_same}
use Rattle.ca_run.proofs.Trees.{tree_stays, digit_adds, no_digit, shifted_two}
use Rattle.ca_run.proofs.leaper.Leaper.leap_on.Goals as goal
use Rattle.ca_run.proofs.leaper.Leaper.leap_on.Goals.{then-left-j-eq1+in_ok-tree, else-left-j-eq1}

-- the generations with one digit more
with_digit : (begun left reached j : ℕ) → j < 61 → reached ≡ begun + left % 2 ^ j → left / 2 ^ j % 2 ≡ 1 → reached + 2 ^ j ≡ begun + left % (2 * 2 ^ j % 18446744073709551616)
with_digit begun left reached j low time digit =
    let digits = digit_adds left j digit in
    let power = shifted_two j low in
    rw power (omega (arith, time, digits))

-- the plane after as many generations, in other words
at_time : (next : List ℕ → ℕ) (p now : ℤ → ℤ → ℕ) (m k : ℕ) → m ≡ k → ((x y : ℤ) → now x y ≡ cells_after next p m x y) → (x y : ℤ) → now x y ≡ cells_after next p k x y
at_time next p now m k same shows x y = shows x y ∙ ap (λ t. cells_after next p t x y) same

pub leap-requires-clause-level : goal.leap-requires-clause-level
leap-requires-clause-level g c =
    let next = g.A.Automaton.next_of c.args.self.now.rule in
    let sound = subst (λ l. IsSoundStore l.nodes) c.self.view_is c.self.invariant.squares in
    let quiet = subst (λ l. g.A.Automaton.next_of l.rule (replicate 9 0) ≡ 0) c.self.view_is (g.met.A.Automaton.quiet c.self.inside.rule c.self.invariant.rule) in
    let some = some_level c.args.self.now.nodes sound c.args.first.now c.requires.first.is_tree in
    reached_level next c.args.self.now.nodes c.digits.self.nodes c.args.first.now c.args.n c.digits.reached c.digits.invariant.reached quiet some c.requires.first.level c.requires.first.time

pub returns-in_err-tree-clause-reached : goal.returns-in_err-tree-clause-reached
returns-in_err-tree-clause-reached g c =
    let inv = c.digits.invariant in
    reached_kept (g.A.Automaton.next_of c.args.self.now.rule) c.args.self.now.nodes c.digits.self.nodes c.leap.new.self.nodes c.args.first.now c.args.n c.digits.reached
    inv.goes_on.grows.sound c.in_err-tree.ensures.at_cost.goes_on.grows inv.reached

pub returns-in_err-tree-clause-costs : goal.returns-in_err-tree-clause-costs
returns-in_err-tree-clause-costs g c =
    let next = g.A.Automaton.next_of c.args.self.now.rule in
    let s0 = c.args.self.now.nodes in
    let first = c.args.first.now in
    let begun = c.args.reached.now.generations in
    let left = c.args.n - begun in
    let inv = c.digits.invariant in
    let sound = subst (λ l. IsSoundStore l.nodes) c.self.view_is c.self.invariant.squares in
    let quiet = subst (λ l. g.A.Automaton.next_of l.rule (replicate 9 0) ≡ 0) c.self.view_is (g.met.A.Automaton.quiet c.self.inside.rule c.self.invariant.rule) in
    let some = some_level s0 sound first c.requires.first.is_tree in
    let digit : left / 2 ^ c.digits.j % 2 ≡ 1 = grind (arith, nat_tests, c.if-left-j-eq1.true) in
    leapt_more c.args.self.now first begun c.args.n (c.digits.j + 1) 61 (omega (arith, c.digits-test.true))
    (one_leapt c.args.self.now first begun c.args.n next quiet s0 c.digits.self.nodes some c.digits.reached.tree inv.reached.low left c.digits.j (omega (arith, c.requires.reached.most)) digit
    (at_time next (cell s0 first) (cell c.digits.self.nodes c.digits.reached.tree) c.digits.reached.generations (begun + left % 2 ^ c.digits.j) inv.time inv.reached.cells) inv.costs c.in_err-tree.ensures.at_cost.costs)

pub with_tree-requires : goal.with_tree-requires
with_tree-requires g c = λ x y.
    let next = g.A.Automaton.next_of in
    let rule = next c.args.self.now.rule in
    let s0 = c.args.self.now.nodes in
    let s2 = c.leap.new.self.nodes in
    let first = c.args.first.now in
    let more = c.in_ok-tree.tree in
    let begun = c.args.reached.now.generations in
    let left = c.args.n - begun in
    let j = c.digits.j in
    let inv = c.digits.invariant in
    let digit : left / 2 ^ j % 2 ≡ 1 = grind (arith, nat_tests, c.if-left-j-eq1.true) in
    let k = begun + left % (2 * 2 ^ j % 18446744073709551616) in
    let sum = with_digit begun left c.digits.reached.generations j (omega (arith, c.digits-test.true)) inv.time digit in
    let sound = subst (λ l. IsSoundStore l.nodes) c.self.view_is c.self.invariant.squares in
    let some = some_level s0 sound first c.requires.first.is_tree in
    let less = mod-le left (2 * 2 ^ j % 18446744073709551616) in
    let leapt = subst (λ r. (x y : ℤ) → cell s2 more x y ≡ cells_after (next r) (cell c.digits.self.nodes c.digits.reached.tree) (2 ^ j) x y) inv.goes_on.rule c.in_ok-tree.ensures.advanced.cells in
    let run = leapt_on rule s0 c.digits.self.nodes first c.args.n c.digits.reached inv.reached s2 more (2 ^ j) k some sum (omega (arith, less, c.requires.reached.most)) c.in_ok-tree.ensures.advanced.is_tree c.in_ok-tree.ensures.trimmed leapt in
    let on = goes_on_again _ c.args.self.now c.digits.self c.leap.new.self inv.goes_on c.in_ok-tree.ensures.at_cost.goes_on in
    let same = after_same rule (cell s0 first) (cell s2 first) k (λ u v. sym (tree_stays s0 s2 sound on.grows first c.requires.first.is_tree u v)) x y in
    let here = subst (λ r. cell s2 more x y ≡ cells_after (next r) (cell s2 first) k x y) (sym on.rule) (run.cells x y ∙ same) in
    subst (λ l. cell s2 more x y ≡ cells_after (next c.leap.new.self.rule) (cell l.nodes first) k x y) (sym c.self-then-left-j-eq1.view_is) here

pub digits-preserved : goal.digits-preserved
digits-preserved g c =
    let next = g.A.Automaton.next_of c.args.self.now.rule in
    let s0 = c.args.self.now.nodes in
    let s1 = c.digits.self.nodes in
    let first = c.args.first.now in
    let begun = c.args.reached.now.generations in
    let left = c.args.n - begun in
    let j = c.digits.j in
    let inv = c.digits.invariant in
    let one : 1 + j ≡ j + 1 = omega arith in
    elim c.if-left-j-eq1.branch [
      | then-left-j-eq1+in_ok-tree w ↦
          let s2 = w.leap.new.self.nodes in
          let more = w.in_ok-tree.tree in
          let sound = subst (λ l. IsSoundStore l.nodes) c.self.view_is c.self.invariant.squares in
          let quiet = subst (λ l. g.A.Automaton.next_of l.rule (replicate 9 0) ≡ 0) c.self.view_is (g.met.A.Automaton.quiet c.self.inside.rule c.self.invariant.rule) in
          let some = some_level s0 sound first c.requires.first.is_tree in
          let digit : left / 2 ^ j % 2 ≡ 1 = grind (arith, nat_tests, w.if-left-j-eq1.true) in
          let k = begun + left % (2 * 2 ^ j % 18446744073709551616) in
          let low : j < 61 = omega (arith, c.digits-test.true) in
          let sum = with_digit begun left c.digits.reached.generations j low inv.time digit in
          let less = mod-le left (2 * 2 ^ j % 18446744073709551616) in
          let leapt = subst (λ r. (x y : ℤ) → cell s2 more x y ≡ cells_after (g.A.Automaton.next_of r) (cell s1 c.digits.reached.tree) (2 ^ j) x y) inv.goes_on.rule w.in_ok-tree.ensures.advanced.cells in
          rw (w.self-is, w.reached-is)
          (record {
            reached = leapt_on next s0 s1 first c.args.n c.digits.reached inv.reached s2 more (2 ^ j) k some sum (omega (arith, less, c.requires.reached.most)) w.in_ok-tree.ensures.advanced.is_tree w.in_ok-tree.ensures.trimmed leapt;
            time = ap (λ m. begun + left % m) (shifted_two j low ∙ ap (λ m. 2 ^ m) one);
            none = λ z.
                let nothing : left ≡ 0 = omega (arith, z) in
                let a : 0 / 2 ^ j % 2 ≡ 1 = subst (λ m. m / 2 ^ j % 2 ≡ 1) nothing digit in
                let b : 0 / 2 ^ j % 2 ≡ 0 = bit_at-zero j in
                absurd (omega (arith, a, b));
            goes_on = goes_on_again _ c.args.self.now c.digits.self w.leap.new.self inv.goes_on w.in_ok-tree.ensures.at_cost.goes_on;
            costs = one_leapt c.args.self.now first begun c.args.n next quiet s0 s1 some c.digits.reached.tree inv.reached.low left j (omega (arith, c.requires.reached.most)) digit
                (at_time next (cell s0 first) (cell c.digits.self.nodes c.digits.reached.tree) c.digits.reached.generations (begun + left % 2 ^ c.digits.j) inv.time inv.reached.cells) inv.costs w.in_ok-tree.ensures.at_cost.costs;
          })
      | else-left-j-eq1 w ↦
          let digit : left / 2 ^ j % 2 ≡ 0 = grind (arith, nat_tests, w.if-left-j-eq1.false) in
          rw (w.self-is, w.reached-is)
          (record {
            reached = inv.reached;
            time = inv.time ∙ ap (λ m. begun + m) (no_digit left j digit ∙ ap (λ m. left % 2 ^ m) one);
            none = inv.none;
            goes_on = inv.goes_on;
            costs = leapt_more c.args.self.now first begun c.args.n j (j + 1) (omega arith) inv.costs;
          })
    ]

pub returns-clause-costs : goal.returns-clause-costs
returns-clause-costs g c = leapt_more c.args.self.now c.args.first.now c.args.reached.now.generations c.args.n c.digits.j 61 (omega (arith, c.digits.auto.j-end)) c.digits.invariant.costs
