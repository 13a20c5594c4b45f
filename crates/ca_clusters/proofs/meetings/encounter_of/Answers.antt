use Rattle.std.proofs.Common.{◌≡◌, ℕ, length, refl, subst, arith}
use Rattle.ca_clusters.specs.inner.Encounters.{IsTrueLook}
use Rattle.ca_clusters.proofs.PairLooks.{meet_first, never_meet}
use Rattle.ca_clusters.proofs.meetings.encounter_of.Goals as goal

pub returns-in-Some : goal.returns-in-Some
returns-in-Some c = λ next count runs.
    let all : c.parts.other ≡ length c.args.parts.now = omega arith in
    meet_first next count c.args.horizon c.args.parts.now c.parts.look c.in-Some.one c.in-Some.other runs
    (subst (λ (k : ℕ). IsTrueLook c.args.parts.now 0 k c.parts.look) all c.parts.invariant.look) c.parts.invariant.most c.in-Some.is

pub returns-in-None : goal.returns-in-None
returns-in-None c = λ next count runs.
    let all : c.parts.other ≡ length c.args.parts.now = omega arith in
    never_meet next count c.args.horizon c.args.parts.now c.parts.look runs
    (subst (λ (k : ℕ). IsTrueLook c.args.parts.now 0 k c.parts.look) all c.parts.invariant.look) c.if-look.true (c.if-are_back.ensures refl)
