use Rattle.std.proofs.Common.{◌≡◌, ℕ, suc, ◌*◌, refl, sym, ◌∙◌, subst}
use Rattle.ca_parts.proofs.PartedTracks.{untrue}
use Rattle.ca_parts.proofs.meeting.end_periods.Goals as goal

pub returns-then-ends_period : goal.returns-then-ends_period
returns-then-ends_period c = (
  λ yes.
      let first = c.if-ends_period.ensures.0 refl in
      let second = c.ends_period-then-ends_period.ensures.0 yes in
      record {
        turns = first.0;
        others = second.0;
        first = subst (λ (p : ℕ). suc c.args.n ≡ first.0 * p) c.period.ensures.value first.1;
        second = subst (λ (p : ℕ). suc c.args.n ≡ second.0 * p) c.period-then-ends_period.ensures.value second.1;
      },
  λ ends. c.ends_period-then-ends_period.ensures.1 (ends.others, subst (λ (p : ℕ). suc c.args.n ≡ ends.others * p) (sym c.period-then-ends_period.ensures.value) ends.second),
)

pub returns-else-ends_period : goal.returns-else-ends_period
returns-else-ends_period c = (
  λ yes. absurd (untrue (sym c.if-ends_period.false ∙ yes)),
  λ ends. absurd (untrue (c.if-ends_period.ensures.1 (ends.turns, subst (λ (p : ℕ). suc c.args.n ≡ ends.turns * p) (sym c.period.ensures.value) ends.first))),
)
