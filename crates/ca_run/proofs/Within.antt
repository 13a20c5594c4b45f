-- Runs with a lower limit of work, after which the leaper has its own again.
use Rattle.std.proofs.Common.{◌≡◌, ℕ, ◌<◌, ◌≤◌, min, max, List, Option, None, Some, Result, Ok, Err, refl, sym, ap, subst, arith}
use Rattle.std.proofs.lemmas.Option.{none-some}
use Rattle.ca_quad.specs.declared.tree.Tree.{Tree}
use Rattle.ca_budget.specs.declared.fault.LeapFault.{LeapFault}
use Rattle.ca_budget.specs.declared.fault.LeapFault.TheVariants.{Memory, Work}
use Rattle.ca_run.specs.Advanced.{Advances, AdvancesWithin}
use Rattle.ca_run.specs.Prelude.{IsAdvanced, LeaperView, LeaperGrows, Costs}
use Rattle.ca_run.specs.inner.AtCost.{limited}

-- a result, as one that may be none
abbrev some_of : Result Tree LeapFault → Result (Option Tree) LeapFault
some_of (Ok tree) = Ok (Some tree)
some_of (Err fault) = Err fault

abbrev IsTree : Result Tree LeapFault → Type 0
IsTree (Ok tree) = Unit {0}
IsTree (Err fault) = ⊥

-- want of memory is no want of work
pub memory_is_no_work : Memory ≡ Work → ⊥
memory_is_no_work e = cc

module _ {Rule : Type 0} (next_of : Rule → List ℕ → ℕ) (old : LeaperView Rule) (tree : Tree) (n most limit : ℕ) {lower mid new : LeaperView Rule} (r : Result Tree LeapFault)
    (begins : lower ≡ limited old (min most limit)) (told : Advances Rule (next_of lower.rule) lower tree n mid r) (ends : new ≡ limited mid limit)
    (whole : limit ≡ old.spent.limit) (fits : old.spent.used ≤ old.spent.limit) (held : mid.spent.used ≤ mid.spent.limit) where
  run : Advances Rule (next_of old.rule) (limited old (min most limit)) tree n mid r
  run = subst (λ (l : LeaperView Rule). Advances Rule (next_of l.rule) l tree n mid r) begins told

  lowered : mid.spent.limit ≡ max old.spent.used (min most limit)
  lowered = run.goes_on.spends.limit

  goes : LeaperGrows Rule old new
  goes =
      subst (LeaperGrows Rule old) (sym ends)
      (record { rule = run.goes_on.rule; grows = run.goes_on.grows; memo = run.goes_on.memo; spends = record { limit = omega (arith, lowered, held, whole, fits); rises = run.goes_on.spends.rises } })

  bounded : new.spent.used ≤ max old.spent.used most
  bounded = subst (λ (l : LeaperView Rule). l.spent.used ≤ max old.spent.used most) (sym ends) (omega (arith, lowered, held))

  takes : (units squares : ℕ) → Costs Rule (limited old (min most limit)) mid units squares → Costs Rule old new units squares
  takes units squares costs = subst (λ l. Costs Rule old l units squares) (sym ends) (record { most = costs.most; made = costs.made })

  -- it reaches its tree
  pub within_reached : (later : Tree) → r ≡ Ok later → AdvancesWithin Rule (next_of old.rule) old tree n most new (Ok (Some later))
  within_reached later is =
      let reached = subst (Advances Rule (next_of old.rule) (limited old (min most limit)) tree n mid) is run in
      record {
        advanced = subst (λ (l : LeaperView Rule). IsAdvanced (next_of old.rule) old.nodes tree n l.nodes later) (sym ends) reached.advanced;
        none = λ still. ap some_of (reached.none still);
        within = bounded;
        gives_up = λ never. absurd (none-some later (sym never));
        work = tt;
        goes_on = goes;
        costs = λ d less. takes _ _ (reached.costs d less);
        one = λ single. takes _ _ (reached.one single);
      }

  -- it ends at the lower limit
  pub within_ended : (fault : LeapFault) → r ≡ Err fault → fault ≡ Work → mid.spent.used < limit → AdvancesWithin Rule (next_of old.rule) old tree n most new (Ok None)
  within_ended fault was work less =
      let is = subst (λ f. r ≡ Err f) work was in
      let ended = subst (Advances Rule (next_of old.rule) (limited old (min most limit)) tree n mid) is run in
      let all = ended.work refl in
      record {
        advanced = tt;
        none = λ still. absurd (subst IsTree (sym (ended.none still)) tt);
        within = bounded;
        gives_up = λ _. subst (λ (l : LeaperView Rule). (most ≤ l.spent.used) × (l.spent.used < l.spent.limit)) (sym ends) (omega (arith, all, lowered, less), omega (arith, less));
        work = tt;
        goes_on = goes;
        costs = λ d less. takes _ _ (ended.costs d less);
        one = λ single. takes _ _ (ended.one single);
      }

  -- it fails, for want of work at the leaper's own limit alone
  pub within_failed : (first fault : LeapFault) → r ≡ Err first → first ≡ fault → (fault ≡ Work → limit ≤ mid.spent.used) → AdvancesWithin Rule (next_of old.rule) old tree n most new (Err fault)
  within_failed first fault was same all =
      let is = subst (λ f. r ≡ Err f) same was in
      let failed = subst (Advances Rule (next_of old.rule) (limited old (min most limit)) tree n mid) is run in
      record {
        advanced = tt;
        none = λ still. absurd (subst IsTree (sym (failed.none still)) tt);
        within = bounded;
        gives_up = tt;
        work = λ want. subst (λ (l : LeaperView Rule). l.spent.used ≡ l.spent.limit) (sym ends) (let end = all want in omega (arith, end, lowered, held, whole, fits));
        goes_on = goes;
        costs = λ d less. takes _ _ (failed.costs d less);
        one = λ single. takes _ _ (failed.one single);
      }
