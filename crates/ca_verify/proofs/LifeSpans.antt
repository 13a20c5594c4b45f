-- After how many generations a live pattern is dead, found between a time at which it lives and one at which it is dead.
use Rattle.std.proofs.Common.{◌≡◌, ℕ, ◌-◌, ◌≤◌, ◌<◌, List, [], sym, ap, subst, ◌∙◌, arith}
use Rattle.std.specs.Prelude.{ℤ, replicate}
use Rattle.ca_plane.specs.Prelude.{Picture, after, IsAfter}
use Rattle.ca_quad.specs.declared.{node.Node.Node, tree.Tree.Tree}
use Rattle.ca_quad.specs.Prelude.{IsDead, IsSoundStore, Grows, cell}
use Rattle.ca_verify.specs.declared.decide.Case.{Case}
use Rattle.ca_pattern.specs.inner.LifeSpans.{IsLifeSpan}
use Rattle.ca_pattern.specs.Prelude.{ShowsTree, HasLive, IsEndTree}
use Rattle.ca_verify.specs.inner.Subjects.{ForbidsDeath, AreLifeBounds}
use Rattle.ca_pattern.proofs.Deaths.{live_at_all}
use Rattle.ca_verify.proofs.LeaptTrees.{shows_after}
use Rattle.ca_pattern.proofs.LeaptTrees.{shows_stays}

module _ (next : List ℕ → ℕ) (nodes : List Node) (case : Case) where
  -- where no time is between, that is the life span
  pub span_found : next (replicate 9 0) ≡ 0 → (low high : ℕ) → AreLifeBounds next nodes case low high → high - low ≤ 1 → (cells : Picture) → ShowsTree nodes case.subject.pattern cells
      → IsAfter next cells case.asks.generations [] → IsLifeSpan next cells high
  span_found quiet low high bounds close cells shows empty = record {
    empty = (bounds.holds cells shows empty).1;
    live = λ k less. live_at_all next cells quiet k low (let order = bounds.order in omega (arith, close, less, order)) (bounds.holds cells shows empty).0;
  }

-- ---- a time between that is tried

module _ {R : Type 0} (next_of : R → List ℕ → ℕ) (rule later : R) (same : later ≡ rule) (s0 s1 s2 s : List Node) (case : Case) (sound : IsSoundStore s0) (grows : Grows s0 s1) (kept : s ≡ s2)
    (forbids : ForbidsDeath s0 case) (low high : ℕ) (bounds : AreLifeBounds (next_of rule) s0 case low high) (middle : ℕ) (above : low < middle) (below : middle < high) (end : Tree)
    (is : IsEndTree (next_of later) s1 case.subject.pattern middle s2 end) where
  ends : (cells : Picture) → ShowsTree s0 case.subject.pattern cells → (x y : ℤ) → after (next_of rule) cells middle x y ≡ cell s end x y
  ends cells shows x y =
      let later_shows = shows_stays s0 s1 sound grows case.subject.pattern cells forbids.subject.pattern.is_tree shows in
      shows_after (next_of rule) s1 s2 case.subject.pattern end middle cells
      (subst (λ r. IsEndTree (next_of r) s1 case.subject.pattern middle s2 end) same is) later_shows x y
      ∙ ap (λ nodes. cell nodes end x y) (sym kept)

  -- it's dead by then,
  pub dead_by_middle : IsDead (cell s end) → AreLifeBounds (next_of rule) s0 case low middle
  dead_by_middle dead = record {
    order = above;
    within = let within = bounds.within in omega (arith, below, within);
    holds = λ cells shows empty. ((bounds.holds cells shows empty).0, λ x y. ends cells shows x y ∙ dead x y);
  }

  -- or lives still
  pub lives_at_middle : HasLive (cell s end) → AreLifeBounds (next_of rule) s0 case middle high
  lives_at_middle live = record {
    order = below;
    within = bounds.within;
    holds = λ cells shows empty. ((live.0, live.1, λ z. live.2 (sym (ends cells shows live.0 live.1) ∙ z)), (bounds.holds cells shows empty).1);
  }
