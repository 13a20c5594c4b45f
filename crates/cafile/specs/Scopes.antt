-- How far a pattern is looked at by the words of `identify`.
use Rattle.std.specs.Prelude.{ℕ, min, max, Option, None, Some}
use Rattle.ca_plane.specs.Prelude.{longest_period}
use Rattle.ca_answers.specs.declared.scope.Scope.{Scope}

-- how many units of work a look at a pattern may take where no number of generations is set
abbrev pub usual_patience : ℕ
usual_patience = 300000

-- how far a pattern is looked at: as many generations as are set, whatever they take; or 65536, while patience for this many units of work lasts
abbrev pub scope_of : Option ℕ → Scope
scope_of None = record { limit = 65536; patience = Some usual_patience }
scope_of (Some limit) = record { limit = max 1 (min limit longest_period); patience = None }
