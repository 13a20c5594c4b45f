-- Faults that are passed on.
use Rattle.std.proofs.Common.{◌≡◌, Result, Ok, Err, IfErr, sym, subst}
use Rattle.std.specs.Result.{IsErrAnd}
use Rattle.std.proofs.lemmas.Result.{err_from_is_err_and}
use Rattle.ca_import.specs.declared.fault.ImportFault.{ImportFault}

-- by `?`
pub passed_on : {T E : Type 0} (r : Result T E) (f : E) (P : E → Type 0) → IsErrAnd r (λ g. g ≡ f) → P f → IfErr r P
passed_on r f P h holds =
    let p = err_from_is_err_and r h in
    subst (λ o. IfErr o P) (sym p.1) (subst P (sym p.2) holds)

-- as they are, where they mean something else too
pub other_fault : {T : Type 0} (r : Result T ImportFault) (P Q : ImportFault → Type 0) → ((f : ImportFault) → P f → Q f) → IfErr r P → IfErr r Q
other_fault (Ok t) P Q also h = tt
other_fault (Err f) P Q also h = also f h
