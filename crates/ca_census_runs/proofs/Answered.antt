-- What a clause on one kind of answer says, once it is tested which kind came.
use Rattle.std.proofs.Common.{◌≡◌, ◌∙◌, sym, Bool, true, false, Result, Ok, Err, is_err, OnOk, OnErr}
use Rattle.std.proofs.lemmas.Bool.{false≢true}

-- it didn't fail
pub when_ok : {X E : Type 0} (answer : Result X E) (P : Type 0) (failed : Bool) → failed ≡ is_err answer → failed ≡ false → OnOk answer P → P
when_ok (Ok x) P failed is tested holds = holds
when_ok (Err e) P failed is tested holds = absurd (false≢true (sym tested ∙ is))

-- it failed
pub when_err : {X E : Type 0} (answer : Result X E) (P : Type 0) (failed : Bool) → failed ≡ is_err answer → failed ≡ true → OnErr answer P → P
when_err (Ok x) P failed is tested holds = absurd (false≢true (sym is ∙ tested))
when_err (Err e) P failed is tested holds = holds

-- it says what holds in any case
pub in_any_case : {X E : Type 0} (answer : Result X E) (P : Type 0) → P → OnOk answer P
in_any_case (Ok x) P holds = holds
in_any_case (Err e) P holds = tt
