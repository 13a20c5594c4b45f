-- A claim is false for one kind of reason at most, and there is one earlier return or death.
use Rattle.std.proofs.Common.{◌≡◌, ℕ, ◌<◌, List, sym, ap, subst, ◌∙◌, inl, inr}
use Rattle.std.specs.Prelude.{ℤ}
use Rattle.std.proofs.lemmas.Bool.{cases_order}
use Rattle.ca_plane.specs.Prelude.{Picture, IsSame, shifted, after, IsAfter}
use Rattle.ca_answers.specs.declared.verdict.Refutation.{Refutation}
use Rattle.ca_answers.specs.declared.verdict.Refutation.TheVariants.{Empty, Differs, Earlier, Died}
use Rattle.ca_text.specs.declared.asks.{Asks.Asks, Forbidden.Forbidden}
use Rattle.ca_text.specs.declared.asks.Forbidden.TheVariants.{EmptyPlane}
use Rattle.ca_text.specs.Prelude.{claimed_cells, MayReturnBy}
use Rattle.ca_answers.specs.Prelude.{IsReason, IsSameReason}
use Rattle.ca_text.proofs.Truths.{back}
use Rattle.ca_verify.proofs.Verdicts.{dead}
use Rattle.ca_evolution.proofs.Vectors.{one_vector}

-- ---- the time of a return

-- of two first returns neither is the earlier
no_earlier : (next : List ℕ → ℕ) (cells other : Picture) (asks : Asks) (m n : ℕ) (dx dy u v : ℤ) → IsReason next cells other asks (Earlier m dx dy)
    → IsReason next cells other asks (Earlier n u v) → m < n → ⊥
no_earlier next cells other asks m n dx dy u v one two less = back next cells asks.forbidden m dx dy one.4 one.5 (two.6 m one.2 less)

-- so they are at one time
one_time : (next : List ℕ → ℕ) (cells other : Picture) (asks : Asks) (m n : ℕ) (dx dy u v : ℤ) → IsReason next cells other asks (Earlier m dx dy)
    → IsReason next cells other asks (Earlier n u v) → m ≡ n
one_time next cells other asks m n dx dy u v one two =
    elim (cases_order m n) [
      | inl e ↦ e
      | inr (inl less) ↦ absurd (no_earlier next cells other asks m n dx dy u v one two less)
      | inr (inr more) ↦ absurd (no_earlier next cells other asks n m u v dx dy two one more)
    ]

-- nor of two first deaths
no_earlier_death : (next : List ℕ → ℕ) (cells other : Picture) (asks : Asks) (m n : ℕ) → IsReason next cells other asks (Died m) → IsReason next cells other asks (Died n) → m < n → ⊥
no_earlier_death next cells other asks m n one two less = dead next cells asks.forbidden m one.4 one.5 (two.6 m one.2 less)

one_death : (next : List ℕ → ℕ) (cells other : Picture) (asks : Asks) (m n : ℕ) → IsReason next cells other asks (Died m) → IsReason next cells other asks (Died n) → m ≡ n
one_death next cells other asks m n one two =
    elim (cases_order m n) [
      | inl e ↦ e
      | inr (inl less) ↦ absurd (no_earlier_death next cells other asks m n one two less)
      | inr (inr more) ↦ absurd (no_earlier_death next cells other asks n m two one more)
    ]

-- ---- the kinds

-- where a cell isn't the claimed one, the claimed cells don't stand
not_both : (next : List ℕ → ℕ) (cells other : Picture) (asks : Asks) (x y : ℤ) (found expected n : ℕ)
    → IsReason next cells other asks (Differs x y found expected n) → IsAfter next cells asks.generations (claimed_cells asks cells other) → ⊥
not_both next cells other asks x y found expected n differs stands =
    differs.4 (sym differs.2 ∙ ap (λ k. after next cells k x y) differs.1 ∙ stands x y ∙ differs.3)

-- where a death is forbidden, no return is
no_return : (forbidden : Forbidden) (dx dy : ℤ) → forbidden ≡ EmptyPlane → MayReturnBy forbidden dx dy → ⊥
no_return forbidden dx dy is may = subst (λ b. MayReturnBy b dx dy) is may

-- two reasons against a claim are of one kind, and two returns or deaths are one
pub one_reason : (next : List ℕ → ℕ) (cells other : Picture) (asks : Asks) (one two : Refutation) → IsReason next cells other asks one
    → IsReason next cells other asks two → IsSameReason one two
one_reason next cells other asks Empty Empty h k = tt
one_reason next cells other asks Empty (Differs x y found expected n) h k = h.1 (k.0 h.0)
one_reason next cells other asks Empty (Earlier m dx dy) h k = h.1 k.0
one_reason next cells other asks Empty (Died m) h k = h.1 k.0
one_reason next cells other asks (Differs x y found expected n) Empty h k = k.1 (h.0 k.0)
one_reason next cells other asks (Differs x y found expected n) (Differs u v shown asked m) h k = h.1 ∙ sym k.1
one_reason next cells other asks (Differs x y found expected n) (Earlier m dx dy) h k = not_both next cells other asks x y found expected n h k.1
one_reason next cells other asks (Differs x y found expected n) (Died m) h k = not_both next cells other asks x y found expected n h k.1
one_reason next cells other asks (Earlier m dx dy) Empty h k = k.1 h.0
one_reason next cells other asks (Earlier m dx dy) (Differs x y found expected n) h k = not_both next cells other asks x y found expected n k h.1
one_reason next cells other asks (Earlier m dx dy) (Earlier n u v) h k =
    let time = one_time next cells other asks m n dx dy u v h k in
    let same : IsSame (shifted cells dx dy) (shifted cells u v) = λ x y. sym (h.5 x y) ∙ ap (λ t. after next cells t x y) time ∙ k.5 x y in
    let vector = one_vector cells dx dy u v h.0 same in
    (time, vector.0, vector.1)
one_reason next cells other asks (Earlier m dx dy) (Died n) h k = no_return asks.forbidden dx dy k.4 h.4
one_reason next cells other asks (Died m) Empty h k = k.1 h.0
one_reason next cells other asks (Died m) (Differs x y found expected n) h k = not_both next cells other asks x y found expected n k h.1
one_reason next cells other asks (Died m) (Earlier n dx dy) h k = no_return asks.forbidden dx dy h.4 k.4
one_reason next cells other asks (Died m) (Died n) h k = one_death next cells other asks m n h k
