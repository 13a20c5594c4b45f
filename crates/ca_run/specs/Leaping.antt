-- What a leaper works on, and what its calls leave and cost.
use Rattle.std.specs.Prelude.{◌≡◌, ℕ, ◌+◌, ◌*◌, ◌≤◌, List, length}
use Rattle.ca_quad.specs.declared.node.Node.{Node}
use Rattle.ca_quad.specs.Prelude.{Grows}
pub use Rattle.ca_budget.specs.Spending.{Spent, Spends, EndsAtLimit}

-- a rule, the squares of a store, how many entries the memo and its two tables may have together, and the work that was done
-- and may be
pub record LeaperView (Rule : Type 0) : Type 0 where
  pub rule : Rule
  pub nodes : List Node
  pub memo : ℕ
  pub spent : Spent

-- the rule is the same, each old square stays what it was, the memo may have as many entries, and no work is given back
pub record LeaperGrows (Rule : Type 0) (old new : LeaperView Rule) : Type 0 where
  pub rule : new.rule ≡ old.rule
  pub grows : Grows old.nodes new.nodes
  pub memo : new.memo ≡ old.memo
  pub spends : Spends old.spent new.spent

-- at most `units` units of work were done, and at most 4096 squares added for each of them, and `squares` besides
pub record Costs (Rule : Type 0) (old new : LeaperView Rule) (units squares : ℕ) : Type 0 where
  pub most : new.spent.used ≤ old.spent.used + units
  pub made : length new.nodes + 4096 * old.spent.used ≤ length old.nodes + 4096 * new.spent.used + squares
