-- The exit status of some answers and one more.
use Rattle.std.proofs.Common.{◌≡◌, List, [], ◌∷◌, ◌++◌, Bool, true, false, ◌||◌, max, if◌then◌else◌, refl, ap, ◌∙◌}
use Rattle.std.specs.List.{list_any}
use Rattle.ca_answers.specs.declared.verdict.Answer.{Answer}
use Rattle.ca_verify_lines.specs.Prelude.{status_of, is_refusal, is_no}
use Rattle.ca_report.proofs.OneMore.{any_more}

-- the greater of two statuses, each of them by whether something is refused and whether something is false
greater : (refused false_one refused_more false_more : Bool) → (if refused || refused_more then 2 else (if false_one || false_more then 1 else 0))
    ≡ max (if refused then 2 else (if false_one then 1 else 0)) (if refused_more then 2 else (if false_more then 1 else 0))
greater true a true b = refl
greater true true false true = refl
greater true true false false = refl
greater true false false true = refl
greater true false false false = refl
greater false true true b = refl
greater false false true b = refl
greater false true false true = refl
greater false true false false = refl
greater false false false true = refl
greater false false false false = refl

-- the greatest so far and that of one more
pub status_more : (answers : List Answer) (answer : Answer) → status_of (answers ++ answer ∷ []) ≡ max (status_of answers) (status_of (answer ∷ []))
status_more answers answer =
    ap (λ b. if b then 2 else (if list_any (λ a. is_no a.verdict) (answers ++ answer ∷ []) then 1 else 0)) (any_more (λ a. is_refusal a.verdict) answers answer)
    ∙ ap (λ b. if list_any (λ a. is_refusal a.verdict) answers || list_any (λ a. is_refusal a.verdict) (answer ∷ []) then 2 else (if b then 1 else 0)) (any_more (λ a. is_no a.verdict) answers answer)
    ∙ greater (list_any (λ a. is_refusal a.verdict) answers) (list_any (λ a. is_no a.verdict) answers) (list_any (λ a. is_refusal a.verdict) (answer ∷ [])) (list_any (λ a. is_no a.verdict) (answer ∷ []))
