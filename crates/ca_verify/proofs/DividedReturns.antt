-- The first return of a pattern, looked for at a time at which it's back divided by the primes that divide that.
use Rattle.std.proofs.Common.{◌≡◌, ◌≢◌, ℕ, ◌*◌, ◌/◌, ◌%◌, ◌≤◌, ◌<◌, List, Option, Some, None, MatchOption, inl, inr, refl, sym, ap, subst, ◌∙◌, arith}
use Rattle.std.specs.Prelude.{ℤ, pos, ◌-ℤ◌, ◌*ℤ◌}
use Rattle.std.specs.Int.{◌∣◌}
use Rattle.std.proofs.Math.Nat.{dvd_refl, dvd_trans, dvd-mul_right, dvd_of_mod-eq-zero, dvd_iff_mod-eq-zero, dvd_of_mul-dvd-mul_right, eq-one_of_dvd-one, eq-zero_of_zero-dvd, div-mul_cancel, mul-div_cancel, div-lt_self}
use Rattle.std.proofs.lemmas.Bool.{cases_eq}
use Rattle.ca_plane.specs.Prelude.{Picture, cell, shifted, after, IsAfter}
use Rattle.ca_plane.proofs.Shifts.{cell-shifted}
use Rattle.ca_quad.specs.declared.{node.Node.Node, tree.Tree.Tree}
use Rattle.ca_quad.specs.Trees as trees
use Rattle.ca_steps.specs.Prelude.{IsPrime}
use Rattle.ca_steps.proofs.Primes.{quotient_some, swapped}
use Rattle.ca_steps.proofs.Returns.{back_times}
use Rattle.ca_answers.specs.declared.verdict.Refutation.TheVariants.{Earlier}
use Rattle.ca_text.specs.declared.asks.Forbidden.{Forbidden}
use Rattle.ca_text.specs.declared.asks.Forbidden.TheVariants.{Nothing, InPlace, Anywhere, EmptyPlane}
use Rattle.ca_text.specs.Prelude.{ShowsNothingForbidden, MayReturnBy}
use Rattle.ca_verify.specs.inner.Decided.{ForbidsReturns}
use Rattle.ca_verify.specs.inner.Returns.{IsSparedBefore, IsFirstReturn}
use Rattle.ca_verify.specs.declared.decide.Case.{Case}
use Rattle.ca_pattern.specs.Prelude.{ShowsTree, IsEndTree, IsMove, IsNoMove}
use Rattle.ca_verify.specs.inner.Subjects.{ForbidsReturn, IsBackBy, IsNarrowed}
use Rattle.ca_text.proofs.Shifts.{unmoved}
use Rattle.ca_verify.proofs.ReturnsAtDivisors.{changed_once, changed_before, nowhere_before}
use Rattle.ca_verify.proofs.LeaptTrees.{shows_after}

-- a pattern that is back at n, and at no proper divisor of n, is back at no time before n
not_before : (next : List ℕ → ℕ) (p : Picture) (forbidden : Forbidden) (n : ℕ) (u v : ℤ) → MayReturnBy forbidden u v → IsAfter next p n (shifted p u v)
    → ((d : ℕ) → 1 ≤ d → d < n → d ∣ n → ShowsNothingForbidden next p forbidden d) → IsSparedBefore next p forbidden n
not_before next p Nothing n u v may back tested = absurd may
not_before next p InPlace n u v may back tested = λ k some less. changed_before next p n (λ x y. back x y ∙ unmoved p u v x y may.0 may.1) tested k k (omega arith) some less
not_before next p EmptyPlane n u v may back tested = absurd may
not_before next p Anywhere n u v may back tested = λ k some less. nowhere_before next p n u v back tested k k (omega arith) some less

-- ---- the pattern at one time

-- in its place
in_place : (next : List ℕ → ℕ) (cells : Picture) (forbidden : Forbidden) (n : ℕ) (p q : ℤ → ℤ → ℕ) (back : Option (ℤ × ℤ)) → ForbidsReturns forbidden → forbidden ≢ Anywhere
    → ((x y : ℤ) → after next cells n x y ≡ p x y) → ((x y : ℤ) → cell cells x y ≡ q x y)
    → MatchOption back ((x : ℤ) × (y : ℤ) × (p x y ≢ q x y)) (λ v. (v.0 ≡ pos 0) × (v.1 ≡ pos 0) × ((x y : ℤ) → p x y ≡ q x y))
    → MatchOption back (ShowsNothingForbidden next cells forbidden n) (IsBackBy next cells forbidden n)
in_place next cells Nothing n p q back some place ends shows told = absurd some
in_place next cells EmptyPlane n p q back some place ends shows told = absurd some
in_place next cells Anywhere n p q back some place ends shows told = absurd (place refl)
in_place next cells InPlace n p q None some place ends shows told = (told.0, told.1, λ e. told.2 (sym (ends told.0 told.1) ∙ e ∙ shows told.0 told.1))
in_place next cells InPlace n p q (Some v) some place ends shows told =
    ((told.0, told.1), λ x y. ends x y ∙ told.2 x y ∙ sym (shows x y) ∙ sym (unmoved cells v.0 v.1 x y told.0 told.1))

-- anywhere
anywhere : (next : List ℕ → ℕ) (cells : Picture) (n : ℕ) (nodes : List Node) (end pattern : Tree) (back : Option (ℤ × ℤ)) → ((x y : ℤ) → after next cells n x y ≡ trees.cell nodes end x y)
    → ShowsTree nodes pattern cells → MatchOption back (IsNoMove nodes end pattern) (λ v. IsMove nodes end pattern v.0 v.1)
    → MatchOption back (ShowsNothingForbidden next cells Anywhere n) (IsBackBy next cells Anywhere n)
anywhere next cells n nodes end pattern None ends shows told =
    λ dx dy is. told dx dy (λ x y. sym (ends x y) ∙ is x y ∙ cell-shifted cells dx dy x y ∙ shows (x -ℤ dx) (y -ℤ dy))
anywhere next cells n nodes end pattern (Some v) ends shows told =
    (tt, λ x y. ends x y ∙ told x y ∙ sym (shows (x -ℤ v.0) (y -ℤ v.1)) ∙ sym (cell-shifted cells v.0 v.1 x y))

-- what is judged, of a plane after some generations
module _ (next : List ℕ → ℕ) (s0 s1 : List Node) (case : Case) (forbids : ForbidsReturn s0 case) (end : Tree) (m : ℕ) (is : IsEndTree next s0 case.subject.pattern m s1 end) (cells : Picture)
    (shows : ShowsTree s0 case.subject.pattern cells) (later : ShowsTree s1 case.subject.pattern cells) (back : Option (ℤ × ℤ)) where
  abbrev pub pattern : Tree
  pattern = case.subject.pattern

  ends : (x y : ℤ) → after next cells m x y ≡ trees.cell s1 end x y
  ends = shows_after next s0 s1 case.subject.pattern end m cells is shows

  -- where it may not be back in its place
  pub back_here : case.asks.forbidden ≢ Anywhere
      → MatchOption back ((x : ℤ) × (y : ℤ) × (trees.cell s1 end x y ≢ trees.cell s1 pattern x y)) (λ v. (v.0 ≡ pos 0) × (v.1 ≡ pos 0) × ((x y : ℤ) → trees.cell s1 end x y ≡ trees.cell s1 pattern x y))
      → MatchOption back (ShowsNothingForbidden next cells case.asks.forbidden m) (IsBackBy next cells case.asks.forbidden m)
  back_here place told = in_place next cells case.asks.forbidden m (trees.cell s1 end) (trees.cell s1 pattern) back forbids.forbidden place ends later told

  -- and where it may be back nowhere
  pub back_there : case.asks.forbidden ≡ Anywhere → MatchOption back (IsNoMove s1 end pattern) (λ v. IsMove s1 end pattern v.0 v.1)
      → MatchOption back (ShowsNothingForbidden next cells case.asks.forbidden m) (IsBackBy next cells case.asks.forbidden m)
  back_there place told =
      subst (λ b. MatchOption back (ShowsNothingForbidden next cells b m) (IsBackBy next cells b m)) (sym place) (anywhere next cells m s1 end pattern back ends later told)

-- ---- the primes of the time

-- what is shown at no multiple of a time isn't shown at that time
spared_once : (next : List ℕ → ℕ) (p : Picture) (forbidden : Forbidden) (k m : ℕ) → ForbidsReturns forbidden → ShowsNothingForbidden next p forbidden (k * m) → ShowsNothingForbidden next p forbidden m
spared_once next p Nothing k m some spared = absurd some
spared_once next p EmptyPlane k m some spared = absurd some
spared_once next p InPlace k m some spared = changed_once next p k m spared.0 spared.1 spared.2
spared_once next p Anywhere k m some spared = λ dx dy back. spared (pos k *ℤ dx) (pos k *ℤ dy) (back_times next p m k dx dy back)

-- what forbids a return forbids something
pub return_is_some : (forbidden : Forbidden) → ForbidsReturns forbidden → forbidden ≢ Nothing
return_is_some Nothing some nothing = some
return_is_some InPlace some nothing = cc
return_is_some Anywhere some nothing = cc
return_is_some EmptyPlane some nothing = some

module _ (next : List ℕ → ℕ) (nodes : List Node) (case : Case) where
  -- at first the pattern is back at the claim's time, and all of it is left
  pub all_left : 1 ≤ case.asks.generations → IsNarrowed next nodes case case.asks.generations case.asks.generations None
  all_left some = record {
    some = some;
    within = omega arith;
    part = dvd_refl case.asks.generations;
    back = λ cells shows. refl;
    before = λ cells shows k m whole. inr (subst (λ j. k ∣ j) whole (dvd-mul_right k m));
  }

  module _ (time left q : ℕ) (found : Option (ℤ × ℤ)) (prime : IsPrime q) (divides : q ∣ left) (h : IsNarrowed next nodes case time left found) where
    abbrev pub in_time : q ∣ time
    in_time = dvd_trans q divides h.part

    -- at the time divided by a prime that is left the pattern is back,
    pub back_sooner : (v : ℤ × ℤ) → ((cells : Picture) → ShowsTree nodes case.subject.pattern cells → IsBackBy next cells case.asks.forbidden (time / q) v)
        → IsNarrowed next nodes case (time / q) (left / q) (Some v)
    back_sooner v tried =
        let above = prime.above in
        let less : time / q < time = div-lt_self h.some prime.above in
        let within = h.within in
        let rest : (left / q) * q ≡ left = div-mul_cancel q divides in
        let whole : (time / q) * q ≡ time = div-mul_cancel q in_time in
        record {
          some = quotient_some time q h.some prime in_time;
          within = omega (arith, less, within);
          part = dvd_of_mul-dvd-mul_right (left / q) (omega (arith, above)) (subst (λ j. j ∣ (time / q) * q) (sym rest) (subst (λ j. left ∣ j) (sym whole) h.part));
          back = λ cells shows. (omega (arith, less, within), tried cells shows);
          before = λ cells shows k m product.
              elim (h.before cells shows (k * q) m (swapped k q m ∙ ap (λ j. j * q) product ∙ whole)) [
                | inl spared ↦ inl spared
                | inr part ↦ inr (dvd_of_mul-dvd-mul_right k (omega (arith, above)) (subst (λ j. k * q ∣ j) (sym rest) part))
              ];
        }

    -- or it isn't
    pub not_sooner : ForbidsReturns case.asks.forbidden → (rest : ℕ) → rest ∣ left → ((m : ℕ) → m ∣ left → (q ∣ m → ⊥) → m ∣ rest)
        → ((cells : Picture) → ShowsTree nodes case.subject.pattern cells → ShowsNothingForbidden next cells case.asks.forbidden (time / q)) → IsNarrowed next nodes case time rest found
    not_sooner forbids rest part keeps tried = record {
      some = h.some;
      within = h.within;
      part = dvd_trans rest part h.part;
      back = h.back;
      before = λ cells shows k m product.
          elim (h.before cells shows k m product) [
            | inl spared ↦ inl spared
            | inr all ↦
                elim (cases_eq (k % q) 0) [
                  | inr other ↦ inr (keeps k all (λ whole. other ((dvd_iff_mod-eq-zero q).0 whole)))
                  | inl none ↦
                      let above = prime.above in
                      let exact : (k / q) * q ≡ k = div-mul_cancel q (dvd_of_mod-eq-zero q none) in
                      let again : ((k / q) * m) * q ≡ time = swapped (k / q) m q ∙ ap (λ j. j * m) exact ∙ product in
                      let sooner : time / q ≡ (k / q) * m = ap (λ j. j / q) (sym again) ∙ mul-div_cancel ((k / q) * m) (omega (arith, above)) in
                      inl (spared_once next cells case.asks.forbidden (k / q) m forbids (subst (ShowsNothingForbidden next cells case.asks.forbidden) sooner (tried cells shows)))
                ]
          ];
    }

  -- where nothing is left, the pattern is back at no time before this one
  pub none_left : (time left : ℕ) (found : Option (ℤ × ℤ)) → left ≤ 1 → IsNarrowed next nodes case time left found → (cells : Picture) → ShowsTree nodes case.subject.pattern cells → (u v : ℤ)
      → MayReturnBy case.asks.forbidden u v → IsAfter next cells time (shifted cells u v) → IsSparedBefore next cells case.asks.forbidden time
  none_left time left found few h cells shows u v may back =
      not_before next cells case.asks.forbidden time u v may back (λ d some less divides.
      let whole : (time / d) * d ≡ time = div-mul_cancel d divides in
      elim (h.before cells shows (time / d) d whole) [
        | inl spared ↦ spared
        | inr part ↦
            let positive = h.some in
            let one : left ≡ 1 =
            elim (cases_eq left 0) [
              | inr other ↦ omega (arith, few, other)
              | inl none ↦
                  let zero_time : time ≡ 0 = eq-zero_of_zero-dvd (subst (λ j. j ∣ time) none h.part) in
                  absurd (omega (arith, positive, zero_time))
            ] in
            let once : time / d ≡ 1 = eq-one_of_dvd-one (subst (λ j. time / d ∣ j) one part) in
            let same : 1 * d ≡ time = ap (λ j. j * d) (sym once) ∙ whole in
            absurd (omega (arith, same, less))
      ])

  -- that is the claim's time, where none was found,
  pub none_sooner : (time left : ℕ) → left ≤ 1 → IsNarrowed next nodes case time left None → (cells : Picture) → ShowsTree nodes case.subject.pattern cells → (u v : ℤ)
      → MayReturnBy case.asks.forbidden u v → IsAfter next cells case.asks.generations (shifted cells u v) → IsSparedBefore next cells case.asks.forbidden case.asks.generations
  none_sooner time left few h cells shows u v may back =
      let same : time ≡ case.asks.generations = h.back cells shows in
      subst (IsSparedBefore next cells case.asks.forbidden) same
      (none_left time left None few h cells shows u v may (subst (λ n. IsAfter next cells n (shifted cells u v)) (sym same) back))

  -- and else the first return
  pub first_found : (time left : ℕ) (v : ℤ × ℤ) → left ≤ 1 → IsNarrowed next nodes case time left (Some v) → (cells : Picture) → ShowsTree nodes case.subject.pattern cells
      → IsFirstReturn next cells case.asks.forbidden case.asks.generations (Earlier time v.0 v.1)
  first_found time left v few h cells shows =
      let back = h.back cells shows in
      (h.some, back.0, back.1.0, back.1.1, none_left time left (Some v) few h cells shows v.0 v.1 back.1.0 back.1.1)
