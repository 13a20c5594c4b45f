-- Claims that were judged one after another.
use Rattle.std.proofs.Common.{◌≡◌, ◌≢◌, ℕ, ◌+◌, suc, length, arith, List, [], ◌∷◌, ◌++◌, drop, slice_get, Some, Result, Ok, Err, OnErr, add-one, refl, sym, ap, subst, ◌∙◌}
use Rattle.std.proofs.Math.Seq.{drop-cons}
use Rattle.std.proofs.lemmas.List.{append_assoc}
use Rattle.std.proofs.lemmas.Option.{slice_get_within, get_or_from_slice_get}
use Rattle.indexmap.proofs.SetLemmas.{AllZip-push}
use Rattle.ca_answers.specs.declared.{verdict.Answer.Answer, note.Note.Note}
use Rattle.ca_text.specs.Prelude.{Claim, ClaimText}
use Rattle.ca_answers.specs.Prelude.{SuppliedFiles, IsTrueAnswer, AreTrueAnswers, IsWithinWork, AreWithinWork, Judging, Judges, JudgesAndNotes}
use Rattle.ca_verify.specs.inner.Kept.{left_from, IsAnswerTo}

-- some of the claims have true answers, out of work only within what each may take, and the others are left
pub record IsAnswered (files : SuppliedFiles) (rules : List (List ℕ)) (work : ℕ) (claims : List (ℕ × Claim)) (left : Judging) (answers : List Answer) : Type 0 where
  pub files_kept : left.files ≡ files
  pub rules_kept : left.rules ≡ rules
  pub work_kept : left.work ≡ work
  pub done : List (ℕ × Claim)
  pub split : claims ≡ done ++ left.claims
  pub holds : AreTrueAnswers files rules done answers
  pub within : AreWithinWork files rules work done answers

-- the elements from one onwards are that one and those after it
from_next : {X : Type 0} (xs : List X) (i : ℕ) (x : X) → slice_get xs i ≡ Some x → drop i xs ≡ x ∷ drop (i + 1) xs
from_next xs i x e = rw add-one (drop-cons xs i x (slice_get_within xs i x e) ∙ ap (λ y. y ∷ drop (suc i) xs) (get_or_from_slice_get xs i x x e))

-- what holds holds on an error
pub on_error : {X Y : Type 0} (r : Result X Y) (P : Type 0) → P → OnErr r P
on_error (Ok x) P holds = tt
on_error (Err y) P holds = holds

-- a list with an element isn't empty
not_empty : {X : Type 0} (xs ys : List X) (y : X) → xs ++ y ∷ ys ≡ [] → ⊥
not_empty [] ys y e = let none : suc (length ys) ≡ 0 = ap length e in omega (arith, none)
not_empty (x ∷ xs) ys y e = let none : suc (length (xs ++ y ∷ ys)) ≡ 0 = ap length e in omega (arith, none)

-- where one more is judged, there are claims
pub some_claims : (files : SuppliedFiles) (rules : List (List ℕ)) (work : ℕ) (claims : List (ℕ × Claim)) (old new : Judging) (answers : List Answer) (answer : Answer)
    → IsAnswered files rules work claims old answers → Judges old new answer → claims ≢ []
some_claims files rules work claims old new answers answer before next none =
    not_empty before.done new.claims next.claim (ap (λ l. before.done ++ l) (sym next.claims) ∙ sym before.split ∙ none)

-- the claim with an index is judged, with a true note, and those after it are left
pub judged_and_noted : (files : SuppliedFiles) (asked : ClaimText) (index work : ℕ) (answer : Answer) (note : Note) → IsAnswerTo files asked index work answer note
    → JudgesAndNotes (left_from files asked index work) (left_from files asked (index + 1) work) answer note
judged_and_noted files asked index work answer note is = record {
  judges = record {
    files = refl;
    rules = refl;
    work = refl;
    claim = is.claim;
    claims = from_next asked.claims index is.claim is.at;
    its_patterns = is.patterns;
    patterns = from_next asked.patterns index is.patterns is.named;
    holds = is.holds;
    within = is.within;
  };
  noted = is.noted;
}

module _ (files : SuppliedFiles) (rules : List (List ℕ)) (work : ℕ) (claims : List (ℕ × Claim)) where
  -- one more is judged
  pub one_more : (old new : Judging) (answers : List Answer) (answer : Answer) → IsAnswered files rules work claims old answers → Judges old new answer → IsAnswered files rules work claims new (answers ++ answer ∷ [])
  one_more old new answers answer before next =
      let holds : IsTrueAnswer files rules next.claim answer = subst (λ f. IsTrueAnswer f rules next.claim answer) before.files_kept (subst (λ r. IsTrueAnswer old.files r next.claim answer) before.rules_kept next.holds) in
      let within : IsWithinWork files rules work next.claim.1 answer.verdict = subst (λ f. IsWithinWork f rules work next.claim.1 answer.verdict) before.files_kept (subst (λ r. IsWithinWork old.files r work next.claim.1 answer.verdict) before.rules_kept (subst (λ w. IsWithinWork old.files old.rules w next.claim.1 answer.verdict) before.work_kept next.within)) in
      record {
        files_kept = next.files ∙ before.files_kept;
        rules_kept = next.rules ∙ before.rules_kept;
        work_kept = next.work ∙ before.work_kept;
        done = before.done ++ next.claim ∷ [];
        split = before.split ∙ ap (λ l. before.done ++ l) next.claims ∙ sym (append_assoc before.done (next.claim ∷ []) new.claims);
        holds = AllZip-push (IsTrueAnswer files rules) before.done answers next.claim answer before.holds holds;
        within = AllZip-push (λ numbered answer. IsWithinWork files rules work numbered.1 answer.verdict) before.done answers next.claim answer before.within within;
      }
