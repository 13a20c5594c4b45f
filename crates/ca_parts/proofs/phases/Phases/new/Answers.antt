use Rattle.std.proofs.Common.{refl, arith}
use Rattle.std.proofs.lemmas.Int.{ints}
use Rattle.ca_parts.proofs.phases.Phases.new.Goals as goal

pub invariant_of-result : goal.invariant_of-result
invariant_of-result c =
    let within = c.if-not-is_period.ensures.0 refl in
    let across = c.if-not-is_short.ensures.0 refl in
    let down = c.if-not-is_short-2.ensures.0 refl in
    record {
      limits = record {
        some = omega (arith, within);
        most = omega (arith, within);
        across = (omega (arith, ints, across), omega (arith, ints, across));
        down = (omega (arith, ints, down), omega (arith, ints, down));
      };
      near = c.sweep_of-sweep.ensures.near;
      all = rw c.deref.ensures.value at c.sweep_of-sweep.ensures.all;
      least = rw c.deref.ensures.value at c.sweep_of-sweep.ensures.least;
    }
