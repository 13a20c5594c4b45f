use Rattle.std.proofs.Common.{arith}
use Rattle.ca_parts.proofs.SweptPlanes.{sweeps_more, touches_more}
use Rattle.ca_parts.proofs.phases.live_sweep.Goals as goal

pub planes-preserved : goal.planes-preserved
planes-preserved c = record {
  near = c.with_plane-sweep.ensures.near;
  all = sweeps_more c.args.planes.now c.planes.plane-index c.plane-item.result c.planes.sweep c.with_plane-sweep.result (omega arith) c.plane-item.is
      c.with_plane-sweep.ensures.old c.with_plane-sweep.ensures.new c.planes.invariant.all;
  least = touches_more c.args.planes.now c.planes.plane-index c.plane-item.result c.planes.sweep c.with_plane-sweep.result (omega arith) c.plane-item.is
      c.planes.invariant.least c.with_plane-sweep.ensures.least;
}
