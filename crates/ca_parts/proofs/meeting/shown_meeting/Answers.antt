use Rattle.std.proofs.Common.{suc, inl, inr, refl, arith, below_more}
use Rattle.ca_plane.proofs.Numbers.{below_or_not}
use Rattle.ca_parts.specs.Meetings.{AreApartAfter}
use Rattle.ca_parts.specs.Partings.{AreParted, EndsRound}
use Rattle.ca_parts.proofs.PartedTracks.{untrue}
use Rattle.ca_parts.proofs.ShownCourses.{apart_from_round, ClosesRound-from_ends}
use Rattle.ca_parts.proofs.meeting.shown_meeting.Goals as goal

pub returns-then-stay_apart-clause-meeting : goal.returns-then-stay_apart-clause-meeting
returns-then-stay_apart-clause-meeting c = λ n.
    elim (below_or_not n c.generations.n) [ inl below ↦ c.generations.invariant.before n below | inr late ↦ c.if-stay_apart.ensures.apart refl n late ]

pub returns-then-closes_round-clause-meeting : goal.returns-then-closes_round-clause-meeting
returns-then-closes_round-clause-meeting c =
    apart_from_round c.args.one.now c.args.other.now c.generations.n
    (let ends = c.if-closes_round.ensures.0 refl in ClosesRound-from_ends c.args.one.now c.args.other.now c.generations.n ends.ends ends.alike)
    (below_more (AreApartAfter c.args.one.now c.args.other.now) c.generations.n c.generations.invariant.before (c.if-not-are_apart_after.ensures.0 refl))

pub returns-then-n-most-clause-meeting : goal.returns-then-n-most-clause-meeting
returns-then-n-most-clause-meeting c = λ n within.
    below_more (AreApartAfter c.args.one.now c.args.other.now) c.generations.n c.generations.invariant.before (c.if-not-are_apart_after.ensures.0 refl) n (omega arith)

-- up to this generation nothing shows that they stay apart
pub returns-then-n-most-clause-parted : goal.returns-then-n-most-clause-parted
returns-then-n-most-clause-parted c = λ n within.
    below_more (λ k. AreParted c.args.one.now c.args.other.now k → ⊥) c.generations.n c.generations.invariant.parted
    (λ parted. untrue (c.if-stay_apart.ensures.parted parted)) n (omega arith)

pub returns-then-n-most-clause-round : goal.returns-then-n-most-clause-round
returns-then-n-most-clause-round c = λ n within.
    below_more (λ k. EndsRound c.args.one.now c.args.other.now (suc k) → ⊥) c.generations.n c.generations.invariant.round
    (λ ends. untrue (c.if-closes_round.ensures.1 ends)) n (omega arith)

pub generations-preserved : goal.generations-preserved
generations-preserved c = record {
  within = omega arith;
  before = below_more (AreApartAfter c.args.one.now c.args.other.now) c.generations.n c.generations.invariant.before (c.if-not-are_apart_after.ensures.0 refl);
  parted = below_more (λ k. AreParted c.args.one.now c.args.other.now k → ⊥) c.generations.n c.generations.invariant.parted
      (λ parted. untrue (c.if-stay_apart.ensures.parted parted));
  round = below_more (λ k. EndsRound c.args.one.now c.args.other.now (suc k) → ⊥) c.generations.n c.generations.invariant.round
      (λ ends. untrue (c.if-closes_round.ensures.1 ends));
}
