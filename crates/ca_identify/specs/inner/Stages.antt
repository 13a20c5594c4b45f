-- What a live pattern's plane shows after some generations, and what work it takes to see it.
use Rattle.std.specs.Prelude.{◌≡◌, ℕ, ◌+◌, ◌-◌, ◌*◌, ◌^◌, ◌≤◌, ◌<◌, min, ℤ, List, Option, Some, None, Result, IfErr, replicate, slice_get}
use Rattle.ca_plane.specs.declared.point.Bounds.{Bounds}
use Rattle.ca_plane.specs.Prelude.{Picture, IsLive, shifted, cells_after, IsAfter, longest_period}
use Rattle.ca_plane.specs.Plane as plane
use Rattle.ca_quad.specs.declared.{node.Node.Node, tree.Tree.Tree, tree.WideBounds.WideBounds}
use Rattle.ca_quad.specs.Prelude.{IsDead, IsSoundStore, IsLeastWideBox, AreSquareBoxes, shifted_cells, cell, HoldsAll}
use Rattle.ca_identify.specs.declared.identification.{ending.Ending.Ending, ending.Recurrence.Recurrence, stage.First.First, stage.Stage.Stage, strides.Stride.Stride, walk.Walk.Walk}
use Rattle.ca_identify.specs.declared.identification.ending.Ending.TheVariants.{Death, Return}
use Rattle.ca_identify.specs.declared.identification.stage.Stage.TheVariants.{Empty, Back, Other}
use Rattle.ca_identify.specs.declared.identification.strides.Stride.TheVariants.{On, End, Never, Dead}
use Rattle.ca_answers.specs.declared.identity.Growth.{Growth}
use Rattle.ca_answers.specs.Prelude.{IsGrowth}
use Rattle.ca_evolution.specs.Prelude.{step_work}
use Rattle.ca_budget.specs.Prelude.{Spent}
use Rattle.ca_budget.specs.declared.fault.LeapFault.{LeapFault}
use Rattle.ca_budget.specs.declared.fault.LeapFault.TheVariants.{Work}
use Rattle.ca_text.specs.Prelude.{IsShift, IsChanged, IsNowhere}
use Rattle.ca_pattern.specs.Prelude.{IsBroad, IsWide, ShowsTree, HasLive, IsStart, IsLaterTree}
use Rattle.ca_pattern.specs.inner.LifeSpans.{IsLifeSpan}

-- the tree of a live plane that is looked at, and the smallest box round its cells
pub record IsFirst (nodes : List Node) (first : First) : Type 0 where
  pub start : IsStart nodes first.tree
  pub box : IsLeastWideBox (cell nodes first.tree) first.bounds

-- such a plane, in a sound store, can be looked at for `limit` generations, under a rule that leaves a dead plane dead
pub record CanSearch (next : List ℕ → ℕ) (nodes : List Node) (first : First) (limit : ℕ) : Type 0 where
  pub sound : IsSoundStore nodes
  pub quiet : next (replicate 9 0) ≡ 0
  pub is_first : IsFirst nodes first
  pub most : limit ≤ longest_period

-- the sides of the box lie in the square of a plane, and its corner is at most half as far
pub record IsFirstBox (box : WideBounds) : Type 0 where
  pub left : IsBroad box.x0
  pub top : IsBroad box.y0
  pub right : IsWide box.x1
  pub bottom : IsWide box.y1

-- later cells are the first ones, moved by (dx, dy)
abbrev pub AreMoved : (first later : ℤ → ℤ → ℕ) → ℤ → ℤ → Type 0
AreMoved first later dx dy = (x y : ℤ) → later x y ≡ shifted_cells first dx dy x y

-- they are under no vector
abbrev pub AreMovedNowhere : (first later : ℤ → ℤ → ℕ) → Type 0
AreMovedNowhere first later = (dx dy : ℤ) → AreMoved first later dx dy → ⊥

-- they are under no vector but this one
abbrev pub AreMovedOnlyBy : (first later : ℤ → ℤ → ℕ) → ℤ × ℤ → Type 0
AreMovedOnlyBy first later v = (dx dy : ℤ) → AreMoved first later dx dy → (dx ≡ v.0) × (dy ≡ v.1)

-- what later cells are: all dead; the first ones, moved; or live, and the first ones moved by no vector
abbrev pub IsStage : (first later : ℤ → ℤ → ℕ) → Stage → Type 0
IsStage first later Empty = IsDead later
IsStage first later (Back dx dy) = AreMoved first later dx dy
IsStage first later Other = HasLive later × AreMovedNowhere first later

-- such a tree, of a live plane, and the smallest box round its cells
pub record IsLater (next : List ℕ → ℕ) (first : ℤ → ℤ → ℕ) (n : ℕ) (nodes : List Node) (later : First) : Type 0 where
  pub tree : IsLaterTree next first n nodes later.tree
  pub box : IsLeastWideBox (cell nodes later.tree) later.bounds

-- the growth is that of the tree's plane
abbrev pub IsGrowthOf : List Node → Tree → Growth → Type 0
IsGrowthOf nodes tree growth = (cells : Picture) × ShowsTree nodes tree cells × IsGrowth cells growth

-- after none of the generations from 1 to n are the cells dead or the first ones, moved
abbrev pub AreOtherUpTo : (List ℕ → ℕ) → (ℤ → ℤ → ℕ) → ℕ → Type 0
AreOtherUpTo next first n = (m : ℕ) → 1 ≤ m → m ≤ n → IsStage first (cells_after next first m) Other

-- what the generations that are looked at first, one by one, may take of the work of a search, but those that are in any case; and their planes once more
abbrev pub early_work : (limit : ℕ) → ℕ
early_work limit = limit * 256

-- what leaps may take of it, and strides once more: together, with the early generations, no more than what is left of a tree of level 1, the lowest, where
-- each step takes its most
abbrev pub leap_work : (limit : ℕ) → ℕ
leap_work limit = limit * 1024

-- from the old count of work to the new one it is at most what as many runs of one generation as the limit may need, each of a tree of a level that holds
-- the live cells before it: steps and leaps together
abbrev pub TakesSearch : (old new : ℕ) → (stages : ℕ → ℤ → ℤ → ℕ) → (limit : ℕ) → Type 0
TakesSearch old new stages limit = (level : ℕ) → 1 ≤ level → ((m : ℕ) → m < limit → HoldsAll level (stages m)) → new ≤ old + limit * 14 ^ (level + 3)

-- the same where `begun` steps were taken before
abbrev pub TakesSearchFrom : (old new : ℕ) → (stages : ℕ → ℤ → ℤ → ℕ) → (begun limit : ℕ) → Type 0
TakesSearchFrom old new stages begun limit =
    (level : ℕ) → 1 ≤ level → ((m : ℕ) → m < limit → HoldsAll level (stages m)) → new + begun * step_work level ≤ old + limit * 14 ^ (level + 3)

-- from the old count of work to the new one it is at most `sure` steps, less the `begun` that were taken before, and
-- then what early generations may take
abbrev pub TakesEarly : (old new : ℕ) → (stages : ℕ → ℤ → ℤ → ℕ) → (begun sure limit : ℕ) → Type 0
TakesEarly old new stages begun sure limit =
    (level : ℕ) → 1 ≤ level → ((m : ℕ) → m < limit → HoldsAll level (stages m)) → new ≤ old + (sure - begun) * step_work level + early_work limit

-- want of work is reported only where `until` units of work are used up, or as many as may be
abbrev pub EndsAfter : {T : Type 0} → (until : ℕ) → Spent → Result T LeapFault → Type 0
EndsAfter until spent result = IfErr result (λ fault. fault ≡ Work → min until spent.limit ≤ spent.used)

-- a live pattern is back so for the first time
pub record IsReturn (next : List ℕ → ℕ) (cells : Picture) (again : Recurrence) : Type 0 where
  pub live : IsLive cells
  pub some : 1 ≤ again.generations
  pub right : IsShift again.dx
  pub down : IsShift again.dy
  pub stands : IsAfter next cells again.generations (shifted cells again.dx again.dy)
  pub changed : (m : ℕ) → 1 ≤ m → m < again.generations → IsChanged next cells m
  pub nowhere : (m : ℕ) → 1 ≤ m → m < again.generations → IsNowhere next cells m

-- the pattern is live, and after these generations, for the first time, its plane is dead, or the pattern is back
abbrev pub IsEnding : (List ℕ → ℕ) → Picture → Ending → Type 0
IsEnding next cells (Death generations) = (1 ≤ generations) × IsLive cells × IsLifeSpan next cells generations
IsEnding next cells (Return again) = IsReturn next cells again

-- after how many generations it ends so
abbrev pub generations_of : Ending → ℕ
generations_of (Death generations) = generations
generations_of (Return again) = again.generations

-- how it ends, where its plane shows this after n generations and no ending before
abbrev pub ending_of : Stage → ℕ → Option Ending
ending_of Empty n = Some (Death n)
ending_of (Back dx dy) n = Some (Return (record { generations = n; dx = dx; dy = dy }))
ending_of Other n = None

-- it is dead or back within n generations
abbrev pub EndsWithin : (List ℕ → ℕ) → Picture → ℕ → Type 0
EndsWithin next cells n = (ending : Ending) × IsEnding next cells ending × (generations_of ending ≤ n)

-- after none of the generations from 1 to n is the pattern there again, under any vector
abbrev pub HasNoReturn : (List ℕ → ℕ) → Picture → ℕ → Type 0
HasNoReturn next cells n = (m : ℕ) → 1 ≤ m → m ≤ n → IsNowhere next cells m

-- a pattern's plane was looked at up to some generation: its tree then, boxes of some squares, and after no generation, starting at 1, was it dead or the
-- pattern, moved
pub record IsWalk (next : List ℕ → ℕ) (first : ℤ → ℤ → ℕ) (nodes : List Node) (walk : Walk) : Type 0 where
  pub now : IsLaterTree next first walk.generations nodes walk.tree
  pub others : AreOtherUpTo next first walk.generations
  pub boxes : AreSquareBoxes nodes walk.boxes

-- a walk that began after `begun` generations was halted after that many or more, up to `end`: its tree then, and after
-- no generation, starting at 1, was the plane dead or the pattern, moved. Nothing is said of its boxes
pub record IsHalted (next : List ℕ → ℕ) (first : ℤ → ℤ → ℕ) (nodes : List Node) (begun end : ℕ) (walk : Walk) : Type 0 where
  pub now : IsLaterTree next first walk.generations nodes walk.tree
  pub others : AreOtherUpTo next first walk.generations
  pub later : begun ≤ walk.generations
  pub within : walk.generations ≤ end

-- every picture of the first cells ends so
abbrev pub EndSo : (List ℕ → ℕ) → (ℤ → ℤ → ℕ) → Ending → Type 0
EndSo next first ending = (cells : Picture) → ((x y : ℤ) → plane.cell cells x y ≡ first x y) → IsEnding next cells ending

-- a look at the generations up to `end` finds how the pattern ends by then, or else its walk is at one of them, from
-- `least` onwards
abbrev pub IsLookedAt : (List ℕ → ℕ) → (ℤ → ℤ → ℕ) → List Node → (least end : ℕ) → Walk → Option Ending → Type 0
IsLookedAt next first nodes least end walk (Some ending) = EndSo next first ending × (generations_of ending ≤ end)
IsLookedAt next first nodes least end walk None = IsWalk next first nodes walk × (least ≤ walk.generations) × (walk.generations ≤ end)

-- a walk of a live pattern can be taken on to some end
pub record CanLookOn (next : List ℕ → ℕ) (nodes : List Node) (first : First) (walk : Walk) (end : ℕ) : Type 0 where
  pub pattern : CanSearch next nodes first end
  pub is_walk : IsWalk next (cell nodes first.tree) nodes walk
  pub within : walk.generations ≤ end

-- the same box, as one of a picture
abbrev pub box_of : WideBounds → Bounds
box_of box = record { x0 = box.x0; y0 = box.y0; x1 = box.x1; y1 = box.y1 }

-- the plane k generations after the first cells, live and near enough to the origin to be looked at as a pattern's
pub record IsEarly (next : List ℕ → ℕ) (first : ℤ → ℤ → ℕ) (nodes : List Node) (k : ℕ) (plane : First) : Type 0 where
  pub is_first : IsFirst nodes plane
  pub shows : (x y : ℤ) → cell nodes plane.tree x y ≡ cells_after next first k x y

-- the planes of the first generations, from the first cells onwards
abbrev pub AreEarly : (List ℕ → ℕ) → (ℤ → ℤ → ℕ) → List Node → List First → Type 0
AreEarly next first nodes planes = (k : ℕ) (plane : First) → slice_get planes k ≡ Some plane → IsEarly next first nodes k plane

-- later cells are those of the plane with this number, moved
abbrev pub IsMovedFromPlane : List Node → List First → (ℤ → ℤ → ℕ) → ℕ → Type 0
IsMovedFromPlane nodes planes later k = (plane : First) × (slice_get planes k ≡ Some plane) × (dx : ℤ) × (dy : ℤ) × AreMoved (cell nodes plane.tree) later dx dy

-- the same, and of no later one of the planes
abbrev pub IsLastMovedFrom : List Node → List First → (ℤ → ℤ → ℕ) → ℕ → Type 0
IsLastMovedFrom nodes planes later k = IsMovedFromPlane nodes planes later k
    × ((j : ℕ) (plane : First) → k < j → slice_get planes j ≡ Some plane → AreMovedNowhere (cell nodes plane.tree) later)

-- what a stride up to n generations shows: after none of these the plane is dead, or the first cells are there again, moved, and the tree is that of
-- the last one; or the pattern ends so within them; or the first cells are there again at no time; or the plane is dead at last
abbrev pub IsStride : (List ℕ → ℕ) → (ℤ → ℤ → ℕ) → (n : ℕ) → List Node → Stride → Type 0
IsStride next first n nodes (On tree) = IsLaterTree next first n nodes tree × AreOtherUpTo next first n
IsStride next first n nodes (End ending) = (generations_of ending ≤ n) × EndSo next first ending
IsStride next first n nodes Never = (m : ℕ) → 1 ≤ m → AreMovedNowhere first (cells_after next first m)
IsStride next first n nodes Dead = IsDead (cells_after next first n)
