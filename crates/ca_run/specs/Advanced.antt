-- Trees after some generations.
use Rattle.std.specs.Prelude.{◌≡◌, ℕ, ◌+◌, ◌*◌, ◌<◌, ◌≤◌, ◌^◌, max, ℤ, List, Option, Some, None, Result, Ok, IfOk, IfSome}
use Rattle.ca_plane.specs.Prelude.{cells_after, most_generations}
use Rattle.ca_quad.specs.declared.{node.Node.Node, tree.Tree.Tree}
use Rattle.ca_quad.specs.Prelude.{IsTree, cell}
use Rattle.ca_budget.specs.declared.fault.LeapFault.{LeapFault}
use Rattle.ca_run.specs.Leaping.{Costs, LeaperView, LeaperGrows}
use Rattle.ca_budget.specs.Prelude.{Spent, EndsAtLimit}

-- a tree that can be advanced by n generations: of at most 2^64 cells a side, by at most 2^60 generations
pub record CanAdvance (nodes : List Node) (tree : Tree) (n : ℕ) : Type 0 where
  pub is_tree : IsTree nodes tree
  pub level : tree.level ≤ 64
  pub time : n ≤ most_generations

-- the tree shows what the plane of the first one is after n generations, and has at most 2^124 cells a side
pub record IsAdvanced (next : List ℕ → ℕ) (old : List Node) (first : Tree) (n : ℕ) (new : List Node) (tree : Tree) : Type 0 where
  pub is_tree : IsTree new tree
  pub level : tree.level ≤ 124
  pub cells : (x y : ℤ) → cell new tree x y ≡ cells_after next (cell old first) n x y

-- what a call that advances a tree by n generations comes to: Ok with the later tree, which is the same one where n is
-- 0; want of work is reported only at its limit; what a leaper had stays; and where n has at most d binary digits, Ok
-- or not, it costs no more than 14 to the power of the tree's level, d and 2; one generation costs at most 13
-- fourteenths of that for a d of 1
pub record Advances (Rule : Type 0) (next : List ℕ → ℕ) (old : LeaperView Rule)
    (tree : Tree) (n : ℕ) (new : LeaperView Rule) (result : Result Tree LeapFault) : Type 0 where
  pub advanced : IfOk result (IsAdvanced next old.nodes tree n new.nodes)
  pub none : n ≡ 0 → result ≡ Ok tree
  pub work : EndsAtLimit new.spent result
  pub goes_on : LeaperGrows Rule old new
  pub costs : (d : ℕ) → n < 2 ^ d → Costs Rule old new (14 ^ (tree.level + d + 2)) 1048576
  pub one : n ≡ 1 → Costs Rule old new (13 * 14 ^ (tree.level + 2)) 1048576

-- none is given only where `most` units of work are used up, and fewer than may be
abbrev pub GivesUpAt : {T : Type 0} → (most : ℕ) → Spent → Result (Option T) LeapFault → Type 0
GivesUpAt most spent result = IfOk result (λ found. found ≡ None → (most ≤ spent.used) × (spent.used < spent.limit))

-- what a call comes to that advances a tree by n generations with no more work than until `most` units are used up, or as
-- many as were before: Ok with the later tree, as above, or with none where these are used up; all else is the same
pub record AdvancesWithin (Rule : Type 0) (next : List ℕ → ℕ) (old : LeaperView Rule)
    (tree : Tree) (n most : ℕ) (new : LeaperView Rule) (result : Result (Option Tree) LeapFault) : Type 0 where
  pub advanced : IfOk result (λ found. IfSome found (IsAdvanced next old.nodes tree n new.nodes))
  pub none : n ≡ 0 → result ≡ Ok (Some tree)
  pub within : new.spent.used ≤ max old.spent.used most
  pub gives_up : GivesUpAt most new.spent result
  pub work : EndsAtLimit new.spent result
  pub goes_on : LeaperGrows Rule old new
  pub costs : (d : ℕ) → n < 2 ^ d → Costs Rule old new (14 ^ (tree.level + d + 2)) 1048576
  pub one : n ≡ 1 → Costs Rule old new (13 * 14 ^ (tree.level + 2)) 1048576
