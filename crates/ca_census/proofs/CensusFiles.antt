-- The censuses of pattern files.
use Rattle.std.proofs.Common.{◌≡◌, ◌<◌, ◌+◌, ℕ, Bool, List, IsTrue, sym, subst, arith}
use Rattle.std.specs.Prelude.{◌↔◌}
use Rattle.std.specs.List.{All}
use Rattle.ca_plane.specs.Prelude.{Picture, IsWord, generation_limit}
use Rattle.ca_rule.specs.Prelude.{TableRule, RuleValue, next_of, states_of}
use Rattle.ca_pattern.specs.declared.pattern.Pattern.{Pattern}
use Rattle.ca_pattern.specs.Prelude.{HoldsSmallRuledPattern, IsPatternAfter, MayWantMemory}
use Rattle.ca_pattern.proofs.PatternsRead.{reads_may_want}
use Rattle.ca_answers.specs.Prelude.{HasCodes}
use Rattle.ca_census.specs.declared.{census.Census.Census, entry.CensusObject.CensusObject, file.Origin.Origin, reach.Reach.Reach, settling.Settling.Settling}
use Rattle.ca_census.specs.Prelude.{IsSettling, IsCensusOf, IsOrigin, IsCensusAt, FitsFile, IsFileable}

-- memory may run out for a file that is opened
pub opened_may_want : (bytes : List ℕ) (tables : List TableRule) (pattern : Pattern) → IsPatternAfter bytes tables 0 pattern → MayWantMemory bytes
opened_may_want bytes tables pattern is = reads_may_want bytes is.begins.holds.holds.readable

-- a census of the cells that a file means is its own
pub census_at : (bytes : List ℕ) (tables : List TableRule) (reach : Reach) (cells : Picture) (rule : RuleValue) (coded : Bool) (begun generation : ℕ) (census : Census) (origin : Origin)
    → HoldsSmallRuledPattern bytes tables cells rule begun → generation ≡ begun + 0 → IsTrue coded ↔ HasCodes rule
    → (settled : Settling) × IsSettling (next_of rule) cells reach settled × IsCensusOf (next_of rule) coded settled census → IsOrigin rule generation origin
    → IsCensusAt bytes tables reach (record { census = census; origin = origin })
census_at bytes tables reach cells rule coded begun generation census origin holds added codes is from = (
  cells,
  rule,
  begun,
  holds,
  record { coded = coded; codes = codes; settling = is.0; settles = is.1; is_census = is.2 },
  subst (λ n. IsOrigin rule n origin) (let same : generation ≡ begun = omega (arith, added) in same) from,
)

-- a pattern file can be written of what a census has, where the states are those of the rule
pub fileable_at : (rule : RuleValue) (generation : ℕ) (census : Census) (origin : Origin) → IsOrigin rule generation origin → IsWord origin.rule_text.items → generation < generation_limit
    → FitsFile (states_of rule) census.plane → All (λ o. FitsFile (states_of rule) o.plane) census.objects.items → IsFileable origin census
fileable_at rule generation census origin from word low fits objects = record {
  word = word;
  generation = subst (λ n. n < generation_limit) (sym from.generation_is) low;
  plane = subst (λ n. FitsFile n census.plane) (sym from.states) fits;
  objects = subst (λ n. All (λ (o : CensusObject). FitsFile n o.plane) census.objects.items) (sym from.states) objects;
}
