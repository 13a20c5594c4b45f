use Rattle.std.proofs.Common.{◌+◌, sym, subst, arith}
use Rattle.ca_plane.specs.Prelude.{Puts}
use Rattle.ca_census_files.specs.Prelude.{object_name, object_claim_lines}
use Rattle.ca_census_files.proofs.Numbered.{claims_more, put_after}
use Rattle.ca_census_files.proofs.claims_text.push_object_claims.Goals as goal

pub objects-preserved : goal.objects-preserved
objects-preserved c =
    let folder = c.args.folder.now in
    let name = c.args.name.now in
    let number = c.objects.invariant.numbered in
    let one = subst (λ n. Puts c.objects.out.items c.push_object_claim.new.out.items (object_claim_lines folder (object_name name (n + 1)) c.object-item.result)) number c.in_ok-push_object_claim.ensures in
    record {
      numbered = omega arith;
      put = subst (λ t. Puts c.args.out.now.items c.push_object_claim.new.out.items t)
          (sym (claims_more folder name c.args.objects.now c.objects.object-index c.object-item.result c.objects-test.true c.object-item.is))
          (put_after _ _ _ _ _ c.objects.invariant.put one);
    }
