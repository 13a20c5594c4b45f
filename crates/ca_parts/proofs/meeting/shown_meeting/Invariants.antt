use Rattle.std.proofs.Common.{ℕ, suc, ◌-◌, ◌<◌, ◌≤◌}
use Rattle.ca_parts.specs.Partings.{AreParted, EndsRound}
use Rattle.ca_parts.specs.Meetings.{AreApartAfter}
use Rattle.ca_parts.proofs.meeting.shown_meeting.Given as goal

-- after each number of generations so far they are apart, and nothing shows that they stay so
abbrev pub invariant-generations : goal.invariant-generations
invariant-generations l = record { within : l.n ≤ l.most; before : (k : ℕ) → k < l.n → AreApartAfter l.one l.other k; parted : (k : ℕ) → k < l.n → AreParted l.one l.other k → ⊥; round : (k : ℕ) → k < l.n → EndsRound l.one l.other (suc k) → ⊥ }

abbrev pub decreases-generations : goal.decreases-generations
decreases-generations l = l.most - l.n
