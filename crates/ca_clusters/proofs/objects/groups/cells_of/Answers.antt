use Rattle.std.proofs.Common.{◌<◌, length, sym, subst, ◌∙◌, arith}
use Rattle.ca_clusters.specs.declared.objects.groups.Run.{Run}
use Rattle.ca_clusters.proofs.GroupRuns.{latest_read, cells_more, sparse_more}
use Rattle.ca_clusters.proofs.objects.groups.cells_of.Goals as goal

pub runs-preserved : goal.runs-preserved
runs-preserved c =
    let runs = c.args.runs.now in
    let i = c.runs.run-index in
    let run = c.run-item.result in
    let low : i < length runs = omega arith in
    let some = subst (λ (r : Run). 0 < length r.planes.items) (sym c.run-item.is) (c.requires i run low) in
    let latest = latest_read run c.len.result c.index.result.now some (omega (arith, c.len.ensures, run.planes.ok.0)) c.index.ensures in
    record {
      cells = cells_more runs i run c.runs.cells.items c.extend_from_slice.new.self.items c.as_slice.result.now low c.run-item.is c.runs.invariant.cells
          c.in_ok-extend_from_slice.ensures.items (c.as_slice.ensures.all ∙ latest);
      sparse = sparse_more runs i run c.index.result.now low c.run-item.is c.as_slice.ensures.sparse latest c.runs.invariant.sparse;
    }
