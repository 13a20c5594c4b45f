-- The code of a pattern under a rule, where it is a still life, an oscillator or a spaceship (LifeWiki, "Apgcode").
use Rattle.std.specs.Prelude.{◌≤◌, ◌<◌, ◌+◌, ◌-◌, ◌*◌, ◌^◌, ◌⊎◌, ℕ, ℤ, List, Option, MatchOption}
use Rattle.ca_plane.specs.Prelude.{longest_period, Picture, cell, after, IsAfter, HasPopulation}
use Rattle.ca_quad.specs.Prelude.{HoldsAll}
use Rattle.ca_rule.specs.Prelude.{RuleValue, Bs, Gen, Tab, next_of, TableRule}
use Rattle.ca_rule.specs.declared.hood.Hood.{Hood}
use Rattle.ca_rule.specs.declared.hood.Hood.TheVariants.{Moore, VonNeumann, Hex}
use Rattle.ca_apgcode.specs.Prelude.{IsObjectCode}
use Rattle.ca_apgcode.specs.declared.object.ObjectKind.TheVariants as object
use Rattle.ca_text.specs.declared.kind.Kind.TheVariants.{Still, Oscillator, Spaceship}
use Rattle.ca_pattern.specs.declared.located_fault.LocatedFault.{LocatedFault}
use Rattle.ca_pattern.specs.declared.located_fault.LocatedFault.TheVariants.{Work}
use Rattle.ca_pattern.specs.Prelude.{IsOpeningFault, run_work}
use Rattle.ca_answers.specs.Identified.{HoldsSmallPattern}
use Rattle.ca_answers.specs.declared.identity.Identity.{Identity}
use Rattle.ca_answers.specs.declared.identity.Identity.TheVariants.{Claim}

-- all eight neighbours are counted, or four
abbrev pub CountsEightOrFour : Hood → Type 0
CountsEightOrFour Moore = Unit {0}
CountsEightOrFour VonNeumann = Unit {0}
CountsEightOrFour Hex = ⊥

-- objects have codes under the rule: it is a B/S rule, and counts all eight or four neighbours
abbrev pub HasCodes : RuleValue → Type 0
HasCodes (Bs rule) = CountsEightOrFour rule.hood
HasCodes (Gen rule) = ⊥
HasCodes (Tab table) = ⊥

-- the code of cells that are this object under a rule; its phases are the planes after 0, 1, 2 .. generations, as many as its period
abbrev pub IsCodeOf : (List ℕ → ℕ) → Picture → Identity → List ℕ → Type 0
IsCodeOf next cells (Claim Still) code = (count : ℕ) × HasPopulation (cell cells) count × IsObjectCode object.StillLife count (after next cells) 1 code
IsCodeOf next cells (Claim (Oscillator period)) code = IsObjectCode object.Oscillator period (after next cells) period code
IsCodeOf next cells (Claim (Spaceship period dx dy)) code = IsObjectCode object.Spaceship period (after next cells) period code
IsCodeOf next cells identity code = ⊥

-- it is no object
abbrev pub IsNoObject : Identity → Type 0
IsNoObject (Claim Still) = ⊥
IsNoObject (Claim (Oscillator period)) = ⊥
IsNoObject (Claim (Spaceship period dx dy)) = ⊥
IsNoObject identity = Unit {0}

-- a period is at least 1 and no longer than one that is looked for
abbrev pub IsPeriod : ℕ → Type 0
IsPeriod period = (1 ≤ period) × (period ≤ longest_period)

-- the period is one that may be found
abbrev pub HasGoodPeriod : Identity → Type 0
HasGoodPeriod (Claim (Oscillator period)) = IsPeriod period
HasGoodPeriod (Claim (Spaceship period dx dy)) = IsPeriod period
HasGoodPeriod identity = Unit {0}

-- how many steps lead through the phases of what is found, from the first one to the last
abbrev pub steps_of : Identity → ℕ
steps_of (Claim (Oscillator period)) = period - 1
steps_of (Claim (Spaceship period dx dy)) = period - 1
steps_of identity = 0

-- nothing has a code that is no object, nor under a rule under which objects have none
abbrev pub HasNoCode : RuleValue → Identity → Type 0
HasNoCode rule identity = (HasCodes rule → ⊥) ⊎ IsNoObject identity

-- the code of the plane n generations after these cells, which is this object under the rule; none where it has none
abbrev pub IsCodeAfter : RuleValue → Picture → (n : ℕ) → Identity → Option (List ℕ) → Type 0
IsCodeAfter rule cells n identity found = (later : Picture) × IsAfter (next_of rule) cells n later
    × MatchOption found (HasNoCode rule identity) (λ code. HasCodes rule × IsCodeOf (next_of rule) later identity code)

-- the same of the pattern of a file, under its rule
abbrev pub IsCodeOfFile : List ℕ → List TableRule → (n : ℕ) → Identity → Option (List ℕ) → Type 0
IsCodeOfFile bytes tables n identity found = (cells : Picture) × (rule : RuleValue) × HoldsSmallPattern bytes tables cells rule
    × IsCodeAfter rule cells n identity found

-- the work is no more than a run of n generations and then twice `limit` steps of one generation may need together, of
-- a tree of a level that holds every live cell before each of them: those of a look at the plane, and those through its
-- period
abbrev pub MayNeedWorkTwice : (work n : ℕ) → (ℕ → ℤ → ℤ → ℕ) → (limit : ℕ) → Type 0
MayNeedWorkTwice work n stages limit = (start digits level : ℕ) → 1 ≤ start → HoldsAll start (stages 0) → n < 2 ^ digits
    → 1 ≤ level → ((m : ℕ) → m < limit → HoldsAll level (stages (n + m))) → work ≤ run_work n start digits + 2 * limit * 14 ^ (level + 3)

-- the first reason for which it isn't found out what the plane of a file's pattern is after n generations, or its code:
-- the file isn't opened, or work is out. Out of memory may come before any of them, where memory may run out for the
-- bytes
abbrev pub IsUncodedAfter : List ℕ → List TableRule → (work n limit : ℕ) → LocatedFault → Type 0
IsUncodedAfter bytes tables work n limit Work = (cells : Picture) × (rule : RuleValue) × HoldsSmallPattern bytes tables cells rule
    × MayNeedWorkTwice work n (after (next_of rule) cells) limit
IsUncodedAfter bytes tables work n limit fault = IsOpeningFault bytes tables fault
