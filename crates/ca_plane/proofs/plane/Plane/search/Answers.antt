use Rattle.std.proofs.Common.{◌≡◌, ℕ, length, rules, ◌∙◌}
use Rattle.std.proofs.lemmas.List.Sorted.{answers_always}
use Rattle.ca_plane.specs.declared.point.Point.{Point}
use Rattle.ca_plane.proofs.Places.{searched, IsGap-end}
use Rattle.ca_plane.proofs.plane.Plane.search.Goals as goal

pub returns-then-ends_before-clause-absent : goal.returns-then-ends_before-clause-absent
returns-then-ends_before-clause-absent c =
    let end : c.len.result ≡ length c.self.inside.cells.items = c.len.ensures ∙ c.self.inside.cells.ok.0 in
    rw (end, c.self.view_is) (IsGap-end c.args.self.now c.args.at (c.ends_before.ensures c.if-ends_before.true))

pub returns-clause-found : goal.returns-clause-found
returns-clause-found c =
    let facts = c.binary_search_by_key.ensures in
    let by_point = facts.position (λ (e : Point × ℕ). e.0) (search (rules, answers_always)) in
    rw (← c.self.view_is, ← c.deref.ensures.value) (searched _ (rw c.deref.ensures.value c.self.invariant) c.args.at _ facts.bound by_point).found

pub returns-clause-absent : goal.returns-clause-absent
returns-clause-absent c =
    let facts = c.binary_search_by_key.ensures in
    let by_point = facts.position (λ (e : Point × ℕ). e.0) (search (rules, answers_always)) in
    rw (← c.self.view_is, ← c.deref.ensures.value) (searched _ (rw c.deref.ensures.value c.self.invariant) c.args.at _ facts.bound by_point).absent
