use Rattle.std.proofs.Common.{◌≡◌, ◌∙◌, true, not, ap}
use Rattle.std.specs.Prelude.{is_ok}
use Rattle.ca_cli.proofs.Paths.{paths_then}
use Rattle.ca_cli.proofs.raw.path_bytes.Goals as goal

pub paths-preserved : goal.paths-preserved
paths-preserved c =
    let kept : is_ok c.push.result ≡ true = c.is_err.ensures.negation ∙ ap not c.if-is_err.false in
    record {
      whole = paths_then (λ word. word.items) c.args.paths.now c.paths.path-index c.path-item.result _ c.in_ok-bytes.bytes _ _ c.paths.all.items _ _
          c.paths-test.true c.path-item.is c.as_str.ensures.value c.in_ok-bytes.ensures.bytes (rw kept at c.push.ensures.items) c.paths.invariant.whole;
      count = c.in_ok-bytes.ensures.count c.paths.invariant.count;
    }
