use Rattle.std.proofs.Common.{◌≡◌, true, false, IsOk, sym, subst, ◌∙◌, arith}
use Rattle.std.proofs.lemmas.Result.{err_from_is_err_and}
use Rattle.ca_budget.specs.Prelude.{EndsAtLimit}
use Rattle.ca_run.proofs.leaper.Leaper.advance_watched.Goals as goal

pub returns-in_err-learn_cell_rule : goal.returns-in_err-learn_cell_rule
returns-in_err-learn_cell_rule g c =
    let passed = err_from_is_err_and c.from_residual.result c.from_residual.ensures.1 in
    let failed = c.in_err-learn_cell_rule.was in
    let stays = c.learn_cell_rule.ensures.at_cost in
    rw passed.1 (record {
      advanced = tt;
      none = λ z. let never : false ≡ true = subst IsOk failed (c.learn_cell_rule.ensures.calm z) in cc;
      work = λ is. subst (EndsAtLimit c.learn_cell_rule.new.self.spent) failed c.learn_cell_rule.ensures.work (sym passed.2 ∙ is);
      goes_on = stays.goes_on;
      costs = λ d less. record { most = omega (arith, stays.costs.most); made = omega (arith, stays.costs.made) };
      one = λ single. record { most = omega (arith, stays.costs.most); made = omega (arith, stays.costs.made) };
    })
