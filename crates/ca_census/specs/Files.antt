-- The census of a pattern file, and why there is none (our own).
use Rattle.std.specs.Prelude.{◌≡◌, ◌<◌, ℕ, List, Bool, ◌↔◌, ⊤, IsTrue}
use Rattle.std.specs.List.{All}
use Rattle.ca_plane.specs.Prelude.{Picture, cell, IsWord, generation_limit, HasFewCells}
use Rattle.ca_steps.specs.Prelude.{HasStates}
use Rattle.ca_rule.specs.Prelude.{TableRule, RuleValue, next_of, states_of, printed_form}
use Rattle.ca_pattern.specs.declared.located_fault.LocatedFault.{LocatedFault}
use Rattle.ca_pattern.specs.declared.located_fault.LocatedFault.TheVariants.{Work}
use Rattle.ca_answers.specs.Prelude.{HasCodes}
use Rattle.ca_pattern.specs.Prelude.{HoldsSmallRuledPattern, IsOpeningFault}
use Rattle.ca_census.specs.declared.{reach.Reach.Reach, census.Census.Census, file.FileCensus.FileCensus, file.Origin.Origin, settling.Settling.Settling}
use Rattle.ca_census.specs.Settlings.{IsSettling}
use Rattle.ca_census.specs.Censuses.{IsCensusOf}

-- some cells, under some rule, settle so within the reach, and this is the census of that, with codes where objects have codes under the rule
pub record IsCensusUnder (rule : RuleValue) (cells : Picture) (reach : Reach) (census : Census) : Type 0 where
  pub coded : Bool
  pub codes : IsTrue coded ↔ HasCodes rule
  pub settling : Settling
  pub settles : IsSettling (next_of rule) cells reach settling
  pub is_census : IsCensusOf (next_of rule) coded settling census

-- what a file of this rule and generation says besides its cells
pub record IsOrigin (rule : RuleValue) (generation : ℕ) (origin : Origin) : Type 0 where
  pub rule_text : origin.rule_text.items ≡ printed_form rule
  pub states : origin.states ≡ states_of rule
  pub generation_is : origin.generation ≡ generation

-- it is the census of the cells that the file means, under its rule, with its origin
abbrev pub IsCensusAt : List ℕ → List TableRule → Reach → FileCensus → Type 0
IsCensusAt bytes tables reach found = (cells : Picture) × (rule : RuleValue) × (generation : ℕ) × HoldsSmallRuledPattern bytes tables cells rule generation
    × IsCensusUnder rule cells reach found.census × IsOrigin rule generation found.origin

-- these cells fit into a pattern file, but that some may be out of range: their states are below the number of states, and they are few
pub record FitsFile (states : ℕ) (cells : Picture) : Type 0 where
  pub small : HasStates states cells
  pub few : HasFewCells (cell cells)

-- apart from cells that are out of range, a pattern file can be written of the plane and of each object: the rule text is a word, and the generation one
-- that a file may have
pub record IsFileable (origin : Origin) (census : Census) : Type 0 where
  pub word : IsWord origin.rule_text.items
  pub generation : origin.generation < generation_limit
  pub plane : FitsFile origin.states census.plane
  pub objects : All (λ o. FitsFile origin.states o.plane) census.objects.items

-- why there is no census: the file isn't opened, or work is out
abbrev pub IsUncountedFor : List ℕ → List TableRule → LocatedFault → Type 0
IsUncountedFor bytes tables Work = ⊤
IsUncountedFor bytes tables fault = IsOpeningFault bytes tables fault
