use Rattle.std.proofs.Common.{◌≡◌, subst, arith, to_z, of_z}
use Rattle.std.specs.Prelude.{ℤ, pos, ◌*ℤ◌}
use Rattle.std.specs.Int.{w64}
use Rattle.std.proofs.lemmas.Int.{ints}
use Rattle.ca_parts.proofs.PartedTracks.{test-order}
use Rattle.ca_parts.proofs.track.Track.goes_no_faster.Goals as goal

pub returns : goal.returns
returns c =
    let step : to_z w64 (of_z w64 c.args.self.step) ≡ c.args.self.step = omega (arith, ints) in
    let others : to_z w64 (of_z w64 c.args.other.step) ≡ c.args.other.step = omega (arith, ints) in
    test-order c.times.result c.times-2.result (pos c.args.other.period *ℤ c.args.self.step) (pos c.args.self.period *ℤ c.args.other.step)
    (subst (λ (d : ℤ). c.times.result ≡ pos c.args.other.period *ℤ d) step c.times.ensures.value)
    (subst (λ (d : ℤ). c.times-2.result ≡ pos c.args.self.period *ℤ d) others c.times-2.ensures.value) c.times.ensures.long c.times-2.ensures.long
