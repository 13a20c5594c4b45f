use Rattle.std.proofs.Common.{ℕ, List, refl, sym, ◌∙◌}
use Rattle.std.specs.Prelude.{pos}
use Rattle.ca_plane.specs.Prelude.{Picture, shifted, IsAfter}
use Rattle.ca_verify.proofs.Times.{cell_shifted_0}
use Rattle.ca_verify.proofs.verdict_laws.true_claims.Goals as goal

-- cells that stand moved by (0, 0) stand in their place
in_place : (next : List ℕ → ℕ) (cells expected : Picture) (n : ℕ) → IsAfter next cells n (shifted expected (pos 0) (pos 0)) → IsAfter next cells n expected
in_place next cells expected n stands = λ x y. stands x y ∙ cell_shifted_0 expected x y

-- and the other way round
moved_by_none : (next : List ℕ → ℕ) (cells expected : Picture) (n : ℕ) → IsAfter next cells n expected → IsAfter next cells n (shifted expected (pos 0) (pos 0))
moved_by_none next cells expected n stands = λ x y. stands x y ∙ sym (cell_shifted_0 expected x y)

pub returns-clause-still : goal.returns-clause-still
returns-clause-still c = λ next cells other. (
  λ true. (true.live refl, in_place next cells cells 1 true.stands),
  λ h. record { live = λ _. h.0; stands = moved_by_none next cells cells 1 h.1; least = λ m low high. tt },
)

pub returns-clause-oscillator : goal.returns-clause-oscillator
returns-clause-oscillator c = λ next cells other period. (
  λ true. (true.live refl, in_place next cells cells period true.stands, true.least),
  λ h. record { live = λ _. h.0; stands = moved_by_none next cells cells period h.1; least = h.2 },
)

pub returns-clause-spaceship : goal.returns-clause-spaceship
returns-clause-spaceship c = λ next cells other period dx dy. (
  λ true. (true.live refl, true.stands, true.least),
  λ h. record { live = λ _. h.0; stands = h.1; least = h.2 },
)

pub returns-clause-becomes : goal.returns-clause-becomes
returns-clause-becomes c = λ next cells other generations. (
  λ true. in_place next cells other generations true.stands,
  λ h. record { live = λ no. cc; stands = moved_by_none next cells other generations h; least = λ m low high. tt },
)

pub returns-clause-becomes_shifted : goal.returns-clause-becomes_shifted
returns-clause-becomes_shifted c = λ next cells other generations dx dy. (
  λ true. true.stands,
  λ h. record { live = λ no. cc; stands = h; least = λ m low high. tt },
)

pub returns-clause-dies : goal.returns-clause-dies
returns-clause-dies c = λ next cells other generations. (
  λ true. (true.live refl, true.stands, true.least),
  λ h. record { live = λ _. h.0; stands = h.1; least = h.2 },
)
