use Rattle.std.proofs.lemmas.Result.{IfOk-weaker}
use Rattle.ca_plane.specs.Prelude.{cell}
use Rattle.ca_parts.proofs.Partitions.{parts_apart}
use Rattle.ca_parts.proofs.partition.components.Goals as goal

pub returns : goal.returns
returns c = IfOk-weaker c.parts.result _ _ (λ v are. parts_apart (cell c.args.plane.now) v.items are) c.parts.ensures
