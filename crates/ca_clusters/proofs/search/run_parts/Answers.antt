use Rattle.std.proofs.Common.{◌≡◌, ◌++◌, ◌∷◌, [], map, arith}
use Rattle.std.proofs.lemmas.List.{map_push}
use Rattle.std.proofs.lemmas.List.Elements.{All-push, All-same}
use Rattle.ca_clusters.specs.declared.part.Part.{Part}
use Rattle.ca_clusters.specs.inner.Runs.{IsRunTo, origin}
use Rattle.ca_clusters.proofs.search.run_parts.Goals as goal

pub parts-preserved : goal.parts-preserved
parts-preserved g c =
    let so_far = c.parts.invariant in
    let later = c.in_ok-run_part.field-0 in
    let Far : Part → Type 0 = IsRunTo (g.A.Automaton.next_of c.args.rule.now) (g.A.Automaton.state_count c.args.rule.now) c.args.horizon in
    record {
      can_next = tt;
      is_finite = tt;
      far = All-same Far c.push.new.self.items (c.parts.later.items ++ later ∷ []) c.in_ok-push.ensures.items
          (All-push Far c.parts.later.items later so_far.far c.in_ok-run_part.ensures.run);
      origins =
          let before = map_push origin c.parts.later.items later in
          let after = map_push origin c.parts.yielded c.in-Some.part in
          let first : origin later ≡ origin c.in-Some.part = c.in_ok-run_part.ensures.first in
          let same : map origin c.parts.later.items ≡ map origin c.parts.yielded = so_far.origins in
          cc c.in_ok-push.ensures.items;
      budget = let before = so_far.budget in omega (arith, before, c.in_ok-run_part.ensures.budget);
    }
