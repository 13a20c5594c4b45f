use Rattle.std.proofs.Common.{◌≡◌, refl, subst, arith, to_z, of_z}
use Rattle.std.specs.Prelude.{ℤ}
use Rattle.std.specs.Int.{w64}
use Rattle.std.proofs.lemmas.Int.{ints}
use Rattle.ca_parts.specs.Partings.{length_of}
use Rattle.ca_parts.specs.inner.Tracks.{IsLengthOf, LiesBefore}
use Rattle.ca_parts.proofs.Turns.{LiesBefore-later}
use Rattle.ca_parts.proofs.track.Track.stays_before.Goals as goal

pub returns-then-goes_no_faster-clause-clear : goal.returns-then-goes_no_faster-clause-clear
returns-then-goes_no_faster-clause-clear c = λ yes k late.
    let step : to_z w64 (of_z w64 c.args.self.step) ≡ c.args.self.step = omega (arith, ints) in
    let others : to_z w64 (of_z w64 c.args.other.step) ≡ c.args.other.step = omega (arith, ints) in
    let long = subst (λ (d : ℤ). IsLengthOf d c.length_of.result) step c.length_of.ensures.bounds in
    let long_too = subst (λ (d : ℤ). IsLengthOf d c.length_of-then-goes_no_faster.result) others c.length_of-then-goes_no_faster.ensures.bounds in
    LiesBefore-later c.args.self c.args.other c.args.n k c.length_of.result c.length_of-then-goes_no_faster.result c.requires.one c.requires.other (c.if-goes_no_faster.ensures.0 refl)
    long long_too
    (subst (λ (gap : ℤ). LiesBefore c.args.self c.args.other c.args.n gap) (omega (arith, ints, long, long_too)) (c.lies_before.ensures.0 yes)) late

pub returns-then-goes_no_faster-clause-kept : goal.returns-then-goes_no_faster-clause-kept
returns-then-goes_no_faster-clause-kept c =
    let step : to_z w64 (of_z w64 c.args.self.step) ≡ c.args.self.step = omega (arith, ints) in
    let others : to_z w64 (of_z w64 c.args.other.step) ≡ c.args.other.step = omega (arith, ints) in
    let long = c.length_of.ensures.bounds in
    let long_too = c.length_of-then-goes_no_faster.ensures.bounds in
    let value = subst (λ (d : ℤ). c.length_of.result ≡ length_of d) step c.length_of.ensures.value in
    let value_too = subst (λ (d : ℤ). c.length_of-then-goes_no_faster.result ≡ length_of d) others c.length_of-then-goes_no_faster.ensures.value in (
      λ yes. (c.if-goes_no_faster.ensures.0 refl, subst (λ (gap : ℤ). LiesBefore c.args.self c.args.other c.args.n gap) (omega (arith, ints, long, long_too, value, value_too)) (c.lies_before.ensures.0 yes)),
      λ kept. c.lies_before.ensures.1 (subst (λ (gap : ℤ). LiesBefore c.args.self c.args.other c.args.n gap) (omega (arith, ints, long, long_too, value, value_too)) kept.1),
    )
