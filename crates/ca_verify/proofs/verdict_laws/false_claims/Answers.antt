use Rattle.std.proofs.Common.{◌≡◌, ◌≢◌, ℕ, List, refl, sym, ap, ◌∙◌}
use Rattle.std.specs.Prelude.{ℤ, pos, ◌↔◌}
use Rattle.ca_plane.specs.Prelude.{Picture, cell, shifted, after, IsAfter}
use Rattle.ca_text.specs.declared.kind.Kind.{Kind}
use Rattle.ca_text.specs.declared.kind.Kind.TheVariants.{Still, Dies}
use Rattle.ca_text.specs.declared.asks.Forbidden.TheVariants.{EmptyPlane}
use Rattle.ca_text.specs.Prelude.{asks_of}
use Rattle.ca_verify.proofs.Times.{cell_shifted_0}
use Rattle.ca_text.proofs.Shifts.{unmoved}
use Rattle.ca_verify.proofs.verdict_laws.false_claims.Goals as goal

-- cells that stand moved by (0, 0) stand in their place, and the other way round
in_place : (next : List ℕ → ℕ) (cells expected : Picture) (n : ℕ) → IsAfter next cells n (shifted expected (pos 0) (pos 0)) ↔ IsAfter next cells n expected
in_place next cells expected n = (λ h. λ x y. h x y ∙ cell_shifted_0 expected x y, λ h. λ x y. h x y ∙ sym (cell_shifted_0 expected x y))

-- a cell that differs from one that isn't moved
differs : (next : List ℕ → ℕ) (cells expected : Picture) (period : ℕ) (x y : ℤ) (found asked n : ℕ)
    → ((n ≡ period) × (after next cells n x y ≡ found) × (cell (shifted expected (pos 0) (pos 0)) x y ≡ asked) × (found ≢ asked))
    ↔ ((n ≡ period) × (after next cells period x y ≡ found) × (cell expected x y ≡ asked) × (found ≢ asked))
differs next cells expected period x y found asked n = (
  λ h. (h.0, ap (λ k. after next cells k x y) (sym h.0) ∙ h.1, sym (cell_shifted_0 expected x y) ∙ h.2, h.3),
  λ h. (h.0, ap (λ k. after next cells k x y) h.0 ∙ h.1, cell_shifted_0 expected x y ∙ h.2, h.3),
)

pub returns-clause-still_empty : goal.returns-clause-still_empty
returns-clause-still_empty c = λ next cells other. (λ h. h.1, λ h. (refl, h))

pub returns-clause-still_differs : goal.returns-clause-still_differs
returns-clause-still_differs c = λ next cells other x y found expected n. (
  λ h. let d = (differs next cells cells 1 x y found expected n).0 (h.1, h.2, h.3, h.4) in (h.0 refl, d.0, d.1, d.2, d.3),
  λ h. let d = (differs next cells cells 1 x y found expected n).1 (h.1, h.2, h.3, h.4) in (λ _. h.0, d.0, d.1, d.2, d.3),
)

pub returns-clause-still_earlier : goal.returns-clause-still_earlier
returns-clause-still_earlier c = λ next cells other m dx dy h. h.4

pub returns-clause-oscillator_empty : goal.returns-clause-oscillator_empty
returns-clause-oscillator_empty c = λ next cells other period. (λ h. h.1, λ h. (refl, h))

pub returns-clause-oscillator_differs : goal.returns-clause-oscillator_differs
returns-clause-oscillator_differs c = λ next cells other period x y found expected n. (
  λ h. let d = (differs next cells cells period x y found expected n).0 (h.1, h.2, h.3, h.4) in (h.0 refl, d.0, d.1, d.2, d.3),
  λ h. let d = (differs next cells cells period x y found expected n).1 (h.1, h.2, h.3, h.4) in (λ _. h.0, d.0, d.1, d.2, d.3),
)

pub returns-clause-oscillator_earlier : goal.returns-clause-oscillator_earlier
returns-clause-oscillator_earlier c = λ next cells other period m dx dy. (
  λ h. (h.0, (in_place next cells cells period).0 h.1, h.2, h.3, h.4.0, h.4.1, λ x y. h.5 x y ∙ unmoved cells dx dy x y h.4.0 h.4.1, h.6),
  λ h. (h.0, (in_place next cells cells period).1 h.1, h.2, h.3, (h.4, h.5), λ x y. h.6 x y ∙ sym (unmoved cells dx dy x y h.4 h.5), h.7),
)

pub returns-clause-spaceship_empty : goal.returns-clause-spaceship_empty
returns-clause-spaceship_empty c = λ next cells other period dx dy. (λ h. h.1, λ h. (refl, h))

pub returns-clause-spaceship_differs : goal.returns-clause-spaceship_differs
returns-clause-spaceship_differs c = λ next cells other period dx dy x y found expected n. (
  λ h. (h.0 refl, h.1, ap (λ k. after next cells k x y) (sym h.1) ∙ h.2, h.3, h.4),
  λ h. (λ _. h.0, h.1, ap (λ k. after next cells k x y) h.1 ∙ h.2, h.3, h.4),
)

pub returns-clause-spaceship_earlier : goal.returns-clause-spaceship_earlier
returns-clause-spaceship_earlier c = λ next cells other period m dx dy u v. (
  λ h. (h.0, h.1, h.2, h.3, h.5, h.6),
  λ h. (h.0, h.1, h.2, h.3, tt, h.4, h.5),
)

pub returns-clause-becomes_empty : goal.returns-clause-becomes_empty
returns-clause-becomes_empty c = λ next cells other generations h. cc

pub returns-clause-becomes_differs : goal.returns-clause-becomes_differs
returns-clause-becomes_differs c = λ next cells other generations x y found expected n. (
  λ h. (differs next cells other generations x y found expected n).0 (h.1, h.2, h.3, h.4),
  λ h. let d = (differs next cells other generations x y found expected n).1 h in (λ no. cc, d.0, d.1, d.2, d.3),
)

pub returns-clause-becomes_earlier : goal.returns-clause-becomes_earlier
returns-clause-becomes_earlier c = λ next cells other generations m dx dy h. h.4

pub returns-clause-shifted_empty : goal.returns-clause-shifted_empty
returns-clause-shifted_empty c = λ next cells other generations dx dy h. cc

pub returns-clause-shifted_differs : goal.returns-clause-shifted_differs
returns-clause-shifted_differs c = λ next cells other generations dx dy x y found expected n. (
  λ h. (h.1, ap (λ k. after next cells k x y) (sym h.1) ∙ h.2, h.3, h.4),
  λ h. (λ no. cc, h.0, ap (λ k. after next cells k x y) h.0 ∙ h.1, h.2, h.3),
)

pub returns-clause-shifted_earlier : goal.returns-clause-shifted_earlier
returns-clause-shifted_earlier c = λ next cells other generations m dx dy u v h. h.4

pub returns-clause-dies_empty : goal.returns-clause-dies_empty
returns-clause-dies_empty c = λ next cells other generations. (λ h. h.1, λ h. (refl, h))

pub returns-clause-dies_differs : goal.returns-clause-dies_differs
returns-clause-dies_differs c = λ next cells other generations x y found expected n. (
  λ h. (h.0 refl, h.1, ap (λ k. after next cells k x y) (sym h.1) ∙ h.2, sym h.3, h.4),
  λ h. (λ _. h.0, h.1, ap (λ k. after next cells k x y) h.1 ∙ h.2, sym h.3, h.4),
)

pub returns-clause-dies_earlier : goal.returns-clause-dies_earlier
returns-clause-dies_earlier c = λ next cells other generations m dx dy h. h.4

pub returns-clause-dies_died : goal.returns-clause-dies_died
returns-clause-dies_died c = λ next cells other generations m. (
  λ h. (h.0, h.1, h.2, h.3, h.5, h.6),
  λ h. (h.0, h.1, h.2, h.3, refl, h.4, h.5),
)

-- only where an empty plane is forbidden an early death is a reason
death_forbidden : (kind : Kind) → (asks_of kind).forbidden ≡ EmptyPlane → (n : ℕ) × (kind ≡ Dies n)
death_forbidden (Dies generations) is = (generations, refl)
death_forbidden Still is = cc
death_forbidden kind is = cc

pub returns-clause-only_dies_died : goal.returns-clause-only_dies_died
returns-clause-only_dies_died c = λ next cells other kind m h. death_forbidden kind h.4
