-- Planes after some generations, by steps.
use Rattle.std.specs.Prelude.{ℕ, ◌<◌, List, Result, IfOk, IsErrOf}
use Rattle.std.specs.List.{All}
use Rattle.ca_plane.specs.Prelude.{Picture, IsSparse, IsAfter}
use Rattle.ca_steps.specs.declared.fault.RunFault.{RunFault}
use Rattle.ca_steps.specs.declared.fault.RunFault.TheVariants.{Range}
use Rattle.ca_steps.specs.Reach.{LeavesReach, LeavesReachBefore}

-- all states are below the number of states that a rule has
abbrev pub HasStates : ℕ → Picture → Type 0
HasStates count cells = All (λ e. e.1 < count) cells

-- the later picture is what the plane of the first one is after n generations, as a sparse plane keeps it
pub record IsStepped (next : List ℕ → ℕ) (count : ℕ) (first : Picture) (n : ℕ) (later : Picture) : Type 0 where
  pub after : IsAfter next first n later
  pub states : HasStates count later
  pub sparse : IsSparse later

-- what a call comes to that steps a plane n times: Ok with the later plane, and only where no step leaves the reach;
-- `Range` only where one does, and always where the first does
pub record Steps (next : List ℕ → ℕ) (count : ℕ) (first : Picture) (n : ℕ) (result : Result Picture RunFault) : Type 0 where
  pub stepped : IfOk result (IsStepped next count first n)
  pub within : IfOk result (λ _. LeavesReachBefore next first n → ⊥)
  pub range : IsErrOf result Range → LeavesReachBefore next first n
  pub judged : 0 < n → LeavesReach next first 0 → IsErrOf result Range
