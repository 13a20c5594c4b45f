-- What a pattern is found to be, by the claims that are true of it, and why that isn't found out.
use Rattle.std.specs.Prelude.{◌≡◌, ℕ, ◌+◌, ◌*◌, ◌^◌, ◌≤◌, ◌<◌, min, ℤ, List, Some}
use Rattle.ca_plane.specs.Prelude.{Picture, cell, IsLive, IsLeastBox, after, IsAfter, HasPopulation}
use Rattle.ca_quad.specs.Prelude.{HoldsAll}
use Rattle.ca_rule.specs.Prelude.{TableRule, RuleValue, next_of}
use Rattle.ca_text.specs.declared.{asks.Expected.Expected, kind.Kind.Kind}
use Rattle.ca_text.specs.declared.asks.Expected.TheVariants.{Own, Other, NoCells}
use Rattle.ca_answers.specs.declared.{identity.Identity.Identity, identity.Growth.Growth, scope.Scope.Scope, scope.Look.Look}
use Rattle.ca_answers.specs.declared.identity.Identity.TheVariants.{Empty, Claim, Unknown}
use Rattle.ca_pattern.specs.declared.located_fault.LocatedFault.{LocatedFault}
use Rattle.ca_pattern.specs.declared.located_fault.LocatedFault.TheVariants.{Work}
use Rattle.ca_text.specs.Prelude.{HasGoodNumbers, asks_of, IsTrueClaim}
use Rattle.ca_pattern.specs.Prelude.{HoldsSmallRuledPattern, run_work, IsOpeningFault}

-- these expected cells are of no other pattern
abbrev pub AreOfNoOther : Expected → Type 0
AreOfNoOther Own = Unit {0}
AreOfNoOther Other = ⊥
AreOfNoOther NoCells = Unit {0}

-- a claim of this kind, which has good numbers and a time of at most the limit, is true of the cells
pub record IsTrueWithin (next : List ℕ → ℕ) (cells : Picture) (limit : ℕ) (kind : Kind) : Type 0 where
  pub numbers : HasGoodNumbers kind
  pub within : (asks_of kind).generations ≤ limit
  pub holds : IsTrueClaim next cells cells (asks_of kind)

-- no claim about the one pattern whose time is at least 1, and at most the limit, is true of the cells
abbrev pub HasNoTrueClaim : (List ℕ → ℕ) → Picture → ℕ → Type 0
HasNoTrueClaim next cells limit = (kind : Kind) → AreOfNoOther (asks_of kind).expected → 1 ≤ (asks_of kind).generations → (asks_of kind).generations ≤ limit
    → IsTrueClaim next cells cells (asks_of kind) → ⊥

-- `growth.cells` cells of the plane are live, and `growth.bounds` is the smallest box round them
pub record IsGrowth (cells : Picture) (growth : Growth) : Type 0 where
  pub population : HasPopulation (cell cells) growth.cells
  pub bounds : IsLeastBox cells growth.bounds

-- the cells are what is found of them: a claim about them alone is true of them; or none is, since no cell is live or within the limit. Where none is
-- within the limit, the growth is that of the plane after as many generations
abbrev pub IsIdentity : (List ℕ → ℕ) → Picture → (limit : ℕ) → Identity → Type 0
IsIdentity next cells limit Empty = IsLive cells → ⊥
IsIdentity next cells limit (Claim kind) = AreOfNoOther (asks_of kind).expected × IsTrueWithin next cells limit kind
IsIdentity next cells limit (Unknown growth) = IsLive cells × HasNoTrueClaim next cells limit
    × (later : Picture) × IsAfter next cells limit later × IsGrowth later growth

-- n generations after these cells the plane is what is found of it
abbrev pub IsIdentityAfter : (List ℕ → ℕ) → Picture → (n limit : ℕ) → Identity → Type 0
IsIdentityAfter next cells n limit identity = (later : Picture) × IsAfter next cells n later × IsIdentity next later limit identity

-- the work is no more than `limit` steps of one generation may need, of a tree of a level that holds every live cell
-- before each of them: 14 to the power of the level and 3
abbrev pub MayNeedWork : ℕ → (ℕ → ℤ → ℤ → ℕ) → (limit : ℕ) → Type 0
MayNeedWork work stages limit = (level : ℕ) → 1 ≤ level → ((n : ℕ) → n < limit → HoldsAll level (stages n)) → work ≤ limit * 14 ^ (level + 3)

-- a look with this scope may end before its limit: nothing is found, and it took the units of work for which the scope has patience, at least
abbrev pub MayEndEarly : Scope → Look → Type 0
MayEndEarly scope look = (growth : Growth) × (look.identity ≡ Unknown growth) × (units : ℕ) × (scope.patience ≡ Some units) × (units ≤ look.work)

-- what a look at the cells with this scope finds: what they are within the generations that were looked at, the first two at least. These are all up to
-- the limit of the scope, but where patience ended the look. It took no more work than a look up to that limit may need
pub record IsLook (next : List ℕ → ℕ) (cells : Picture) (scope : Scope) (look : Look) : Type 0 where
  pub least : min 2 scope.limit ≤ look.limit
  pub most : look.limit ≤ scope.limit
  pub identity : IsIdentity next cells look.limit look.identity
  pub work : MayNeedWork look.work (after next cells) scope.limit
  pub early : look.limit < scope.limit → MayEndEarly scope look

-- the same of the plane n generations after these cells
abbrev pub IsLookAfter : (List ℕ → ℕ) → Picture → (n : ℕ) → Scope → Look → Type 0
IsLookAfter next cells n scope look = (later : Picture) × IsAfter next cells n later × IsLook next later scope look

-- the bytes are a file whose pattern has these cells, of small states, under the rule that its rule text names, at some generation
abbrev pub HoldsSmallPattern : List ℕ → List TableRule → Picture → RuleValue → Type 0
HoldsSmallPattern bytes tables cells rule = (generation : ℕ) × HoldsSmallRuledPattern bytes tables cells rule generation

-- n generations after the cells that the file means, under its rule, the plane is what is found of it; after no
-- generations it is that of these cells
abbrev pub IsIdentifiedAfter : List ℕ → List TableRule → (n limit : ℕ) → Identity → Type 0
IsIdentifiedAfter bytes tables n limit identity = (cells : Picture) × (rule : RuleValue) × HoldsSmallPattern bytes tables cells rule
    × IsIdentityAfter (next_of rule) cells n limit identity

-- it is that of a look with this scope at that plane
abbrev pub IsLookAt : List ℕ → List TableRule → (n : ℕ) → Scope → Look → Type 0
IsLookAt bytes tables n scope look = (cells : Picture) × (rule : RuleValue) × HoldsSmallPattern bytes tables cells rule
    × IsLookAfter (next_of rule) cells n scope look

-- the work is no more than a run of n generations and then `limit` steps of one generation may need together
abbrev pub MayNeedWorkAfter : (work n : ℕ) → (ℕ → ℤ → ℤ → ℕ) → (limit : ℕ) → Type 0
MayNeedWorkAfter work n stages limit = (start digits level : ℕ) → 1 ≤ start → HoldsAll start (stages 0) → n < 2 ^ digits
    → 1 ≤ level → ((m : ℕ) → m < limit → HoldsAll level (stages (n + m))) → work ≤ run_work n start digits + limit * 14 ^ (level + 3)

-- the first reason for which it isn't found out what the plane of a file's pattern is after n generations: the file
-- isn't opened, or work is out. Out of memory may come before any of them, where memory may run out for the bytes
abbrev pub IsUnidentifiedAfter : List ℕ → List TableRule → (work n limit : ℕ) → LocatedFault → Type 0
IsUnidentifiedAfter bytes tables work n limit Work = (cells : Picture) × (rule : RuleValue) × HoldsSmallPattern bytes tables cells rule
    × MayNeedWorkAfter work n (after (next_of rule) cells) limit
IsUnidentifiedAfter bytes tables work n limit fault = IsOpeningFault bytes tables fault
