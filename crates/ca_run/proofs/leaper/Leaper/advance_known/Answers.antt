use Rattle.std.proofs.Common.{◌≡◌, true, false, inl, inr, Ok, IfOk, IsOk, sym, ap, subst, ◌∙◌}
use Rattle.std.proofs.lemmas.Result.{err_from_is_err_and}
use Rattle.ca_quad.specs.Prelude.{IsSoundStore}
use Rattle.ca_quad.proofs.Cells.{of_stays}
use Rattle.ca_run.specs.Prelude.{IsAdvanced}
use Rattle.ca_budget.specs.Prelude.{EndsAtLimit}
use Rattle.ca_run.specs.inner.Dense.{HasReached}
use Rattle.ca_run.proofs.DenseRuns.{reached_now, advanced_before, stepped_cost, whole_cost, parted_cost, stepped_one, whole_one, parted_one}
use Rattle.ca_run.proofs.LeaperGrowth.{goes_on_again}
use Rattle.ca_run.proofs.leaper.Leaper.advance_known.Goals as goal

pub go_on-requires-clause-first : goal.go_on-requires-clause-first
go_on-requires-clause-first g c =
    let sound = subst (λ l. IsSoundStore l.nodes) c.self.view_is c.self.invariant.squares in
    record {
      is_tree = of_stays c.args.self.now.nodes c.step_dense.new.self.nodes sound c.in_ok-reached.ensures.goes_on.grows c.args.tree.root c.args.tree.level c.requires.is_tree;
      level = c.requires.level;
      time = c.requires.time;
    }

pub go_on-requires-clause-reached : goal.go_on-requires-clause-reached
go_on-requires-clause-reached g c =
    let sound = subst (λ l. IsSoundStore l.nodes) c.self.view_is c.self.invariant.squares in
    let on = c.in_ok-reached.ensures.goes_on in
    let s1 = c.step_dense.new.self.nodes in
    let next = g.A.Automaton.next_of in
    let run = reached_now (next c.args.self.now.rule) c.args.self.now.nodes s1 c.args.tree c.args.n c.in_ok-reached.reached sound on.grows c.requires.is_tree c.in_ok-reached.ensures.reached in
    subst (λ r. HasReached (next r) s1 c.args.tree c.args.n s1 c.in_ok-reached.reached) (sym on.rule) run

pub returns-in_err-reached : goal.returns-in_err-reached
returns-in_err-reached g c =
    let passed = err_from_is_err_and c.from_residual.result c.from_residual.ensures.1 in
    let failed = c.in_err-reached.was in
    rw passed.1 (record {
      advanced = tt;
      none = λ z. let never : false ≡ true = subst IsOk failed (c.step_dense.ensures.calm z) in cc;
      work = λ is. subst (EndsAtLimit c.step_dense.new.self.spent) failed c.step_dense.ensures.work (sym passed.2 ∙ is);
      goes_on = c.step_dense.ensures.goes_on;
      costs = λ d less. stepped_cost c.args.tree c.args.n d less c.step_dense.result c.step_dense.ensures.costs;
      one = λ single. stepped_one c.args.tree c.args.n single c.step_dense.result c.step_dense.ensures.costs;
    })

pub returns : goal.returns
returns g c =
    let sound = subst (λ l. IsSoundStore l.nodes) c.self.view_is c.self.invariant.squares in
    let on = c.in_ok-reached.ensures.goes_on in
    let next = g.A.Automaton.next_of in
    let s0 = c.args.self.now.nodes in
    let s1 = c.step_dense.new.self.nodes in
    let s2 = c.go_on.new.self.nodes in
    let tree = c.args.tree in
    let advanced = subst (λ r. IfOk c.go_on.result (IsAdvanced (next r) s1 tree c.args.n s2)) on.rule c.go_on.ensures.advanced in
    record {
      advanced = advanced_before (next c.args.self.now.rule) s0 s1 s2 tree c.args.n c.go_on.result sound on.grows c.requires.is_tree advanced;
      none = λ z. c.go_on.ensures.none z ∙ ap Ok (c.in_ok-reached.ensures.none z);
      work = c.go_on.ensures.work;
      goes_on = goes_on_again _ c.args.self.now c.step_dense.new.self c.go_on.new.self on c.go_on.ensures.goes_on;
      costs = λ d less. elim c.go_on.ensures.costs [
        | inl leapt ↦ whole_cost tree c.args.n d less c.in_ok-reached.reached c.in_ok-reached.ensures.costs leapt
        | inr parted ↦ parted_cost tree c.args.n d less _ c.in_ok-reached.ensures.costs parted
      ];
      one = λ single. elim c.go_on.ensures.costs [
        | inl leapt ↦ whole_one tree c.args.n single c.in_ok-reached.reached c.in_ok-reached.ensures.costs leapt
        | inr parted ↦ parted_one tree c.args.n single _ c.in_ok-reached.ensures.costs parted
      ];
    }
