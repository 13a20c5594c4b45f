use Rattle.std.proofs.Common.{◌≡◌, ◌<◌, map, Some, length, slice_get, subst}
use Rattle.ca_text.specs.Prelude.{claim_with_paths}
use Rattle.ca_text.proofs.ClaimsKept.{claim_at}
use Rattle.ca_text.proofs.claims.Claims.claim.Goals as goal

pub returns-clause-claim : goal.returns-clause-claim
returns-clause-claim c =
    let kept = c.self.inside in
    let l = c.index.result.now in
    subst (λ a. c.args.index < length a.claims → slice_get a.claims c.args.index ≡ Some (claim_with_paths a.paths (record { line = l.line; claim = c.by_path.result }))) c.self.view_is
    (λ within. claim_at (map (λ n. n.items) kept.names.items) kept.paths kept.claims.items c.args.index l c.by_path.result within c.index.ensures c.by_path.ensures) c.requires
