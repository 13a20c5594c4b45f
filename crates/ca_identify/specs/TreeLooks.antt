-- Looks at the planes of trees, and what work they take.
use Rattle.std.specs.Prelude.{◌≡◌, ℕ, ◌+◌, ◌*◌, ◌^◌, ◌≤◌, ◌<◌, ℤ, List}
use Rattle.ca_plane.specs.Prelude.{Picture, IsAfter}
use Rattle.ca_quad.specs.declared.node.Node.{Node}
use Rattle.ca_quad.specs.Prelude.{HoldsAll}
use Rattle.ca_answers.specs.declared.{scope.Scope.Scope, scope.Look.Look}
use Rattle.ca_identify.specs.declared.tree_look.TreeLook.{TreeLook}
use Rattle.ca_answers.specs.Prelude.{IsLook}
use Rattle.ca_evolution.specs.Prelude.{TakesRun}
use Rattle.ca_pattern.specs.Prelude.{run_work, ShowsTree}

-- the tree shows the plane n generations after some cells, and a look at that with this scope finds what it is
abbrev pub IsTreeLook : (List ℕ → ℕ) → Picture → (n : ℕ) → Scope → List Node → TreeLook → Type 0
IsTreeLook next cells n scope nodes found = (later : Picture) × IsAfter next cells n later × ShowsTree nodes found.tree later × IsLook next later scope found.look

-- from the old count of work to the new one it is at most a run of n generations, and then a search through `limit`
-- generations
abbrev pub TakesRunAndSearch : (old new start n : ℕ) → (stages : ℕ → ℤ → ℤ → ℕ) → (limit : ℕ) → Type 0
TakesRunAndSearch old new start n stages limit = (digits level : ℕ) → n < 2 ^ digits → 1 ≤ level → ((m : ℕ) → m < limit → HoldsAll level (stages (n + m)))
    → new ≤ old + run_work n start digits + limit * 14 ^ (level + 3)

-- from the old count of work to the new one it is at most a run of n generations, and then just the work of the look
abbrev pub TakesRunAndLook : (old new start n : ℕ) → Look → Type 0
TakesRunAndLook old new start n look = (begun : ℕ) × TakesRun old begun start n × (old ≤ begun) × (begun + look.work ≡ new)
