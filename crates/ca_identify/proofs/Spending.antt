-- Until how many units of a leaper's work are used up its calls go on.
use Rattle.std.proofs.Common.{◌≡◌, ℕ, ◌≤◌, min, max, Result, sym, subst, arith}
use Rattle.std.specs.Prelude.{IfErr}
use Rattle.std.specs.Result.{IsErrAnd}
use Rattle.std.proofs.lemmas.Result.{err_from_is_err_and}
use Rattle.ca_budget.specs.Prelude.{Spent, Spends, EndsAtLimit}
use Rattle.ca_budget.specs.declared.fault.LeapFault.{LeapFault}
use Rattle.ca_budget.specs.declared.fault.LeapFault.TheVariants.{Work}
use Rattle.ca_identify.specs.inner.Stages.{EndsAfter}

module _ {T : Type 0} (r : Result T LeapFault) (fault : LeapFault) (passed : IsErrAnd r (λ given. given ≡ fault)) where
  -- what holds of a fault holds of the same one that is passed on
  same_fault : (P : LeapFault → Type 0) → P fault → IfErr r P
  same_fault P holds =
      let p = err_from_is_err_and r passed in
      subst (λ o. IfErr o P) (sym p.1) (subst P (sym p.2) holds)

  -- what wants work only where the leaper's limit is used up wants it only where a share is
  pub ends_after : (until : ℕ) (spent : Spent) → (fault ≡ Work → spent.used ≡ spent.limit) → EndsAfter until spent r
  ends_after until spent told = same_fault (λ f. f ≡ Work → min until spent.limit ≤ spent.used) (λ is. let all = told is in omega (arith, all))

  -- and the other way round, where the share is all that may be used
  pub ends_at_limit : (until : ℕ) (old new : Spent) → until ≡ old.limit → old.used ≤ old.limit → Spends old new → new.used ≤ max old.used until
      → (fault ≡ Work → min until new.limit ≤ new.used) → EndsAtLimit new r
  ends_at_limit until old new whole fits on bounded told = same_fault (λ f. f ≡ Work → new.used ≡ new.limit) (λ is.
      let same = on.limit in
      let end = told is in
      omega (arith, whole, fits, same, bounded, end))
