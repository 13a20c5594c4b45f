-- What is found of the plane of a file's pattern with its code, and what finding it may need.
use Rattle.std.proofs.Common.{◌≡◌, ℕ, suc, ◌+◌, ◌*◌, ◌^◌, ◌≤◌, List, Option, Some, None, Vec, Global, Bool, true, false, inl, inr, refl, sym, subst, ◌∙◌, arith, ap}
use Rattle.std.specs.Prelude.{ℤ, option_map, MatchOption, IsTrue, ◌↔◌}
use Rattle.std.proofs.Math.Nat.{mul-le-mul_right}
use Rattle.std.proofs.lemmas.Bool.{false≢true}
use Rattle.ca_plane.specs.Prelude.{Picture, after, cells_after}
use Rattle.ca_plane.specs.Plane as plane
use Rattle.ca_plane.proofs.After.{after_same, after_again}
use Rattle.ca_quad.specs.declared.{node.Node.Node, tree.Tree.Tree}
use Rattle.ca_quad.specs.Trees as trees
use Rattle.ca_rule.specs.Prelude.{RuleValue, next_of}
use Rattle.ca_budget.proofs.Powers.{power_suc}
use Rattle.ca_pattern.specs.declared.pattern.StoredTree.{StoredTree}
use Rattle.ca_pattern.specs.Prelude.{IsTreeOf, ShowsTree}
use Rattle.ca_pattern.proofs.CellsNearMiddle.{trimmed_low}
use Rattle.ca_answers.specs.Prelude.{IsIdentity, HasCodes, HasNoCode, HasGoodPeriod, IsNoObject, IsCodeOf, MayNeedWorkTwice, steps_of}
use Rattle.ca_identify.specs.TreeLooks.{IsTreeLook, TakesRunAndSearch}
use Rattle.ca_evolution.specs.Prelude.{TakesSteps}
use Rattle.ca_text.specs.declared.kind.Kind.TheVariants.{Oscillator, Spaceship}
use Rattle.ca_answers.specs.declared.{identity.Identity.Identity, scope.Scope.Scope}
use Rattle.ca_answers.specs.declared.identity.Identity.TheVariants.{Claim}
use Rattle.ca_identify.specs.declared.tree_look.TreeLook.{TreeLook}
use Rattle.ca_identify.proofs.LaterPlanes.{tree_picture}
use Rattle.ca_identify.proofs.Stages.{run_more}
use Rattle.ca_identify_runs.specs.inner.CodedLooks.{IsFoundCode}
use Rattle.ca_identify_runs.specs.inner.Spent.{TakesRunAndTwice}

-- ---- periods

-- a period that is found is a good one
good_period : (next : List ℕ → ℕ) (cells : Picture) (limit : ℕ) (identity : Identity) → IsIdentity next cells limit identity → HasGoodPeriod identity
good_period next cells limit (Claim (Oscillator period)) (own, is) = (let some = is.numbers.0 in omega (arith, some), is.numbers.1)
good_period next cells limit (Claim (Spaceship period dx dy)) (own, is) = (is.numbers.0, is.numbers.1)
good_period next cells limit identity is = tt

-- and the steps through it are no more than the generations that were looked at
few_steps : (next : List ℕ → ℕ) (cells : Picture) (limit : ℕ) (identity : Identity) → IsIdentity next cells limit identity → steps_of identity ≤ limit
few_steps next cells limit (Claim (Oscillator period)) (own, is) = let within = is.within in omega (arith, within)
few_steps next cells limit (Claim (Spaceship period dx dy)) (own, is) = let within = is.within in omega (arith, within)
few_steps next cells limit identity is = omega arith

-- what is found of the plane of a tree has both
module _ (next : List ℕ → ℕ) (old new : List Node) (pattern : Tree) (n : ℕ) (scope : Scope) (found : TreeLook)
    (looks : (cells : Picture) → ShowsTree old pattern cells → IsTreeLook next cells n scope new found) where
  pub found_period : HasGoodPeriod found.look.identity
  found_period =
      let (cells, same) = tree_picture old pattern in
      let (later, stands, shown, look) = looks cells (λ x y. sym (same x y)) in
      good_period next later found.look.limit found.look.identity look.identity

  pub found_steps : steps_of found.look.identity ≤ scope.limit
  found_steps =
      let (cells, same) = tree_picture old pattern in
      let (later, stands, shown, look) = looks cells (λ x y. sym (same x y)) in
      let few = few_steps next later found.look.limit found.look.identity look.identity in
      let most = look.most in
      omega (arith, few, most)

  -- and its tree shows the plane after n generations
  pub found_shows : (x y : ℤ) → trees.cell new found.tree x y ≡ cells_after next (trees.cell old pattern) n x y
  found_shows x y =
      let (cells, same) = tree_picture old pattern in
      let (later, stands, shown, look) = looks cells (λ u v. sym (same u v)) in
      sym (shown x y) ∙ sym (stands x y) ∙ after_same next (plane.cell cells) (trees.cell old pattern) n (λ u v. sym (same u v)) x y

-- ---- codes

-- where they are looked for
pub found_code : (next : List ℕ → ℕ) (cells : Picture) (identity : Identity) (found : Option (Vec ℕ Global)) → MatchOption found (IsNoObject identity) (λ code. IsCodeOf next cells identity code.items)
    → IsFoundCode next cells identity true found
found_code next cells identity (Some code) is = is
found_code next cells identity None is = is

some_or_none : (code : Vec ℕ Global) → Some code ≡ None → ⊥
some_or_none code e = cc

-- under a rule, where they are looked for if objects have codes under it
pub ruled_code : (coded : Bool) (rule : RuleValue) → (IsTrue coded ↔ HasCodes rule) → (cells : Picture) (identity : Identity) (found : Option (Vec ℕ Global)) → IsFoundCode (next_of rule) cells identity coded found
    → MatchOption (option_map (λ (code : Vec ℕ Global). code.items) found) (HasNoCode rule identity) (λ code. HasCodes rule × IsCodeOf (next_of rule) cells identity code)
ruled_code true rule tells cells identity (Some code) is = (tells.0 refl, is)
ruled_code true rule tells cells identity None is = inr is
ruled_code false rule tells cells identity (Some code) is = absurd (some_or_none code is)
ruled_code false rule tells cells identity None is = inl (λ codes. false≢true (tells.1 codes))

-- ---- work

-- a look alone takes no more than a look and a code
pub look_alone : (next : List ℕ → ℕ) (p : ℤ → ℤ → ℕ) (old new start n limit : ℕ) → TakesRunAndSearch old new start n (cells_after next p) limit → TakesRunAndTwice old new start n (cells_after next p) limit
look_alone next p old new start n limit takes digits level short some holds =
    let most = takes digits level short some holds in
    let twice : 2 * limit * 14 ^ (level + 3) ≡ limit * 14 ^ (level + 3) + limit * 14 ^ (level + 3) = omega arith in
    omega (arith, most, twice)

power_next : (g h : ℕ) → h ≡ suc g → 14 ^ h ≡ 14 * 14 ^ g
power_next g h e = subst (λ k. 14 ^ k ≡ 14 * 14 ^ g) (sym e) (power_suc g)

-- a look, and steps from there
pub look_then_steps : (next : List ℕ → ℕ) (p : ℤ → ℤ → ℕ) (old mid new start n limit steps : ℕ) (nodes : List Node) (tree : Tree) → TakesRunAndSearch old mid start n (cells_after next p) limit
    → ((x y : ℤ) → trees.cell nodes tree x y ≡ cells_after next p n x y) → steps ≤ limit → TakesSteps mid new (cells_after next (trees.cell nodes tree)) steps steps
    → TakesRunAndTwice old new start n (cells_after next p) limit
look_then_steps next p old mid new start n limit steps nodes tree look shows few takes digits level short some holds =
    let x = 14 ^ (level + 2) in
    let first = look digits level short some holds in
    let most = takes level some (λ m less u v live. holds m (omega (arith, less, few)) u v (λ none. live (after_same next (trees.cell nodes tree) (cells_after next p n) m shows u v ∙ after_again next p n m u v ∙ none))) in
    let all : steps * (14 * x) ≤ limit * (14 * x) = mul-le-mul_right (14 * x) few in
    let sum : steps * (14 * x) ≡ steps * (13 * x) + x * steps = omega arith in
    let up : 14 ^ (level + 3) ≡ 14 * x = power_next (level + 2) (level + 3) (omega arith) in
    let top : limit * 14 ^ (level + 3) ≡ limit * (14 * x) = ap (λ k. limit * k) up in
    let twice : 2 * limit * 14 ^ (level + 3) ≡ limit * 14 ^ (level + 3) + limit * 14 ^ (level + 3) = omega arith in
    omega (arith, first, most, all, sum, top, twice)

-- where all `work` units of work are used up, a run from the tree of a pattern, and steps, may need as many
pub file_needs_twice : (next : List ℕ → ℕ) (cells : Picture) (stored : StoredTree) → IsTreeOf (plane.cell cells) stored → (old new work n limit : ℕ) → old ≡ 0 → new ≡ work
    → TakesRunAndTwice old new stored.tree.level n (cells_after next (trees.cell stored.store stored.tree)) limit → MayNeedWorkTwice work n (after next cells) limit
file_needs_twice next cells stored tree old new work n limit none all takes start digits level first held short some holds =
    let shown = trees.cell stored.store stored.tree in
    let same : (m : ℕ) (x y : ℤ) → cells_after next shown m x y ≡ after next cells m x y = λ m x y. after_same next shown (plane.cell cells) m tree.shows x y in
    let high = trimmed_low stored.store stored.tree (plane.cell cells) start first tree.trimmed tree.shows held in
    let most = takes digits level short some (λ m less x y live. holds m less x y (λ dead. live (same (n + m) x y ∙ dead))) in
    let more = run_more n stored.tree.level start digits (omega (arith, high)) in
    omega (arith, none, all, most, more)
