-- The rule of a text that is imported.
use Rattle.std.specs.Prelude.{ℕ, List, Option, None, Some, String, string_bytes, codes}

-- the rule that is asked for, for a text that names none: the one that is given, or else B3/S23
abbrev pub rule_asked : {A : Type 0} → Option (String A) → List ℕ
rule_asked None = codes "B3/S23"
rule_asked (Some rule) = string_bytes rule
