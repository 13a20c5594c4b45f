use Rattle.std.proofs.Common.{List, get_or, refl, sym, subst, arith}
use Rattle.std.proofs.lemmas.List.Elements.{AllWithin-more, at_read}
use Rattle.ca_parts.specs.Prelude.{Course}
use Rattle.ca_clusters.specs.declared.region.Region.{Region}
use Rattle.ca_clusters.specs.inner.Regions.{KeepClear, AreAllApart, clusters_in}
use Rattle.ca_clusters.proofs.regions.region_meeting.Goals as goal

pub regions-preserved : goal.regions-preserved
regions-preserved c =
    let region : Region = c.index-regions-one.result in
    let clear : KeepClear (get_or c.args.regions.now c.regions.one region) c.args.other.now =
    subst (λ (courses : List Course). AreAllApart courses (clusters_in c.args.other.now)) c.deref.ensures.value
    (subst (λ (others : List Course). AreAllApart c.deref.result.now others) c.deref-in-regions.ensures.value (c.if-not-never_meet.ensures refl)) in
    AllWithin-more (λ (one : Region). KeepClear one c.args.other.now) c.args.regions.now 0 c.regions.one c.regions.invariant
    (at_read c.args.regions.now (λ (one : Region). KeepClear one c.args.other.now) c.regions.one region (omega arith) c.index-regions-one.is
    (subst (λ (one : Region). KeepClear one c.args.other.now) (sym c.index-regions-one.is) clear))

pub returns-clause-clear : goal.returns-clause-clear
returns-clause-clear c = λ is k d low. c.regions.invariant k d (omega arith) (omega arith)
