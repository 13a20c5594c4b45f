-- What the bytes of a pattern file mean.
use Rattle.std.specs.Prelude.{ℕ, List}
use Rattle.ca_plane.specs.Prelude.{Picture}
use Rattle.ca_rule.specs.Prelude.{TableRule, RuleValue, NamesRule, IsRuleFault}
use Rattle.ca_rule.specs.declared.fault.RuleFault.{RuleFault}
use Rattle.ca_pattern.specs.Formats.{format_of, MeansAs, IsReadableAs, MayWantMemoryAs}

-- the bytes of a file mean a picture, a rule text and a generation
abbrev pub Means : List ℕ → Picture → List ℕ → ℕ → Type 0
Means bytes cells rule_text generation = MeansAs (format_of bytes) bytes cells rule_text generation

-- the bytes mean a pattern and pass no limit
abbrev pub IsReadable : List ℕ → Type 0
IsReadable bytes = IsReadableAs (format_of bytes) bytes

-- the bytes are a file that is read, and its pattern has these cells, this rule text and this generation
pub record HoldsPattern (bytes : List ℕ) (cells : Picture) (rule_text : List ℕ) (generation : ℕ) : Type 0 where
  pub readable : IsReadable bytes
  pub means : Means bytes cells rule_text generation

-- this is its rule text
abbrev pub HoldsRuleText : (text bytes : List ℕ) → Type 0
HoldsRuleText text bytes = (cells : Picture) × (generation : ℕ) × HoldsPattern bytes cells text generation

-- and its rule text names this rule among the tables
pub record HoldsRuledPattern (bytes : List ℕ) (tables : List TableRule) (cells : Picture) (rule : RuleValue) (generation : ℕ) : Type 0 where
  pub rule_text : List ℕ
  pub holds : HoldsPattern bytes cells rule_text generation
  pub names : NamesRule rule_text tables rule

-- or has this fault
abbrev pub HasRuleFault : List ℕ → List TableRule → RuleFault → Type 0
HasRuleFault bytes tables fault = (cells : Picture) × (rule_text : List ℕ) × (generation : ℕ)
    × HoldsPattern bytes cells rule_text generation × IsRuleFault rule_text tables fault

-- memory may run out where these bytes are read
abbrev pub MayWantMemory : List ℕ → Type 0
MayWantMemory bytes = MayWantMemoryAs (format_of bytes) bytes
