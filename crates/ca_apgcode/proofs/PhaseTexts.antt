-- The least text of phases, one after the other.
use Rattle.std.proofs.Common.{Result, Ok, Err, IfOk, Vec, Global, ◌≢◌, ℕ, ◌+◌, List, Option, Some, None, sym, ap, subst, ◌∙◌, inl, inr, ℤ, pos, ◌+ℤ◌, arith}
use Rattle.std.specs.Prelude.{neg_ℤ, ◌≤ℤ◌}
use Rattle.std.proofs.lemmas.Bool.{cases_eq}
use Rattle.std.proofs.lemmas.Int.{ints}
use Rattle.ca_apgcode.specs.Prelude.{GridCells, IsBoxRound, IsTurnedText, IsPhaseText, IsLeastAmong, IsLeastOfPhases, turned}
use Rattle.ca_apgcode.specs.declared.orientation.Orientation.{Orientation}
use Rattle.ca_apgcode.specs.declared.orientation.Orientation.TheVariants.{Upright, QuarterTurn, HalfTurn, ThreeQuarterTurn, EastWest, NorthSouth, Diagonal, Antidiagonal}
use Rattle.ca_apgcode.specs.inner.Rounds.{IsLeastWith}
use Rattle.ca_apgcode.proofs.Leasts.{precedes_after}
use Rattle.ca_apgcode.proofs.PlaneBoxes.{lives_near}
use Rattle.ca_apgcode.proofs.EightTexts.{neg_twice}

-- ---- a phase more

-- a text of the first phases, or of the next one
text_of_more : (phases : ℕ → ℤ → ℤ → ℕ) (n : ℕ) (P : Type 0) (text : List ℕ) → (IsPhaseText phases n text → P) → (IsTurnedText (phases n) text → P) → IsPhaseText phases (n + 1) text → P
text_of_more phases n P text before here is = elim (cases_eq is.0 n) [
  | inl same ↦ here (subst (λ k. IsTurnedText (phases k) text) same is.2)
  | inr other ↦ let below = is.1 in before (is.0, omega (arith, below, other), is.2)
]

-- where it has texts, and those before it have none
pub least_first : (phases : ℕ → ℤ → ℤ → ℕ) (n : ℕ) (text : List ℕ) → IsLeastOfPhases phases n None → IsLeastAmong (IsTurnedText (phases n)) text → IsLeastOfPhases phases (n + 1) (Some text)
least_first phases n text none here = record {
  is_one = (n, omega arith, here.is_one);
  is_first = λ other is_other before. text_of_more phases n ⊥ other (none other) (λ there. here.is_first other there before) is_other;
}

-- where both have
pub least_more : (phases : ℕ → ℤ → ℤ → ℕ) (n : ℕ) (now least : List ℕ) → IsLeastOfPhases phases n (Some least) → IsLeastWith (IsTurnedText (phases n)) least now → IsLeastOfPhases phases (n + 1) (Some now)
least_more phases n now least before here = record {
  is_one = elim here.is_one [
    | inl same ↦ subst (IsPhaseText phases (n + 1)) (sym same) (let below = before.is_one.1 in (before.is_one.0, omega (arith, below), before.is_one.2))
    | inr turned ↦ (n, omega arith, turned)
  ];
  is_first = λ other is_other precedes.
      text_of_more phases n ⊥ other
      (λ earlier. before.is_first other earlier (precedes_after other now least precedes here.not_after))
      (λ there. here.is_first other there precedes) is_other;
}

-- as calls give them
pub first_if_ok : {E : Type 0} (r : Result (Vec ℕ Global) E) (phases : ℕ → ℤ → ℤ → ℕ) (n : ℕ) → IsLeastOfPhases phases n None → IfOk r (λ text. IsLeastAmong (IsTurnedText (phases n)) text.items) → IfOk r (λ text. IsLeastOfPhases phases (n + 1) (Some text.items))
first_if_ok (Ok text) phases n none here = least_first phases n text.items none here
first_if_ok (Err e) phases n none here = tt

pub more_if_ok : {E : Type 0} (r : Result (Vec ℕ Global) E) (phases : ℕ → ℤ → ℤ → ℕ) (n : ℕ) (least : List ℕ) → IsLeastOfPhases phases n (Some least) → IfOk r (λ text. IsLeastWith (IsTurnedText (phases n)) least text.items) → IfOk r (λ text. IsLeastOfPhases phases (n + 1) (Some text.items))
more_if_ok (Ok text) phases n least before here = least_more phases n text.items least before here
more_if_ok (Err e) phases n least before here = tt

-- where it has none
pub least_same : (phases : ℕ → ℤ → ℤ → ℕ) (n : ℕ) (least : Option (List ℕ)) → ((text : List ℕ) → IsTurnedText (phases n) text → ⊥) → IsLeastOfPhases phases n least → IsLeastOfPhases phases (n + 1) least
least_same phases n (Some least) none is =
    let below = is.is_one.1 in
    record {
      is_one = (is.is_one.0, omega (arith, below), is.is_one.2);
      is_first = λ other is_other before. text_of_more phases n ⊥ other (λ earlier. is.is_first other earlier before) (none other) is_other;
    }
least_same phases n None none is = λ other is_other. text_of_more phases n ⊥ other (is other) (none other) is_other

-- no phase
pub least_none : (phases : ℕ → ℤ → ℤ → ℕ) → IsLeastOfPhases phases 0 None
least_none phases = λ text is. let below = is.1 in omega (arith, below)

-- ---- cells that are far apart

-- a plane with a box in some orientation has no live cells that are far apart
module _ (p : ℤ → ℤ → ℕ) (g : GridCells) (x y x' y' : ℤ) (some : p x y ≢ 0) (other : p x' y' ≢ 0) where
  pub near_each_other : (o : Orientation) → IsBoxRound (turned o p) g → (x' ≤ℤ (x +ℤ pos 39)) × (y' ≤ℤ (y +ℤ pos 39))
  near_each_other Upright is =
      let a = lives_near (turned Upright p) g is x y some in
      let b = lives_near (turned Upright p) g is x' y' other in
      (omega (arith, ints, a, b), omega (arith, ints, a, b))
  near_each_other QuarterTurn is =
      let a = lives_near (turned QuarterTurn p) g is (neg_ℤ y) x (λ none. some (sym (ap (p x) (neg_twice y)) ∙ none)) in
      let b = lives_near (turned QuarterTurn p) g is (neg_ℤ y') x' (λ none. other (sym (ap (p x') (neg_twice y')) ∙ none)) in
      (omega (arith, ints, a, b), omega (arith, ints, a, b))
  near_each_other HalfTurn is =
      let a = lives_near (turned HalfTurn p) g is (neg_ℤ x) (neg_ℤ y) (λ none. some (sym (ap (p x) (neg_twice y)) ∙ (sym (ap (λ k. p k (neg_ℤ (neg_ℤ y))) (neg_twice x)) ∙ none))) in
      let b = lives_near (turned HalfTurn p) g is (neg_ℤ x') (neg_ℤ y') (λ none. other (sym (ap (p x') (neg_twice y')) ∙ (sym (ap (λ k. p k (neg_ℤ (neg_ℤ y'))) (neg_twice x')) ∙ none))) in
      (omega (arith, ints, a, b), omega (arith, ints, a, b))
  near_each_other ThreeQuarterTurn is =
      let a = lives_near (turned ThreeQuarterTurn p) g is y (neg_ℤ x) (λ none. some (sym (ap (λ k. p k y) (neg_twice x)) ∙ none)) in
      let b = lives_near (turned ThreeQuarterTurn p) g is y' (neg_ℤ x') (λ none. other (sym (ap (λ k. p k y') (neg_twice x')) ∙ none)) in
      (omega (arith, ints, a, b), omega (arith, ints, a, b))
  near_each_other EastWest is =
      let a = lives_near (turned EastWest p) g is (neg_ℤ x) y (λ none. some (sym (ap (λ k. p k y) (neg_twice x)) ∙ none)) in
      let b = lives_near (turned EastWest p) g is (neg_ℤ x') y' (λ none. other (sym (ap (λ k. p k y') (neg_twice x')) ∙ none)) in
      (omega (arith, ints, a, b), omega (arith, ints, a, b))
  near_each_other NorthSouth is =
      let a = lives_near (turned NorthSouth p) g is x (neg_ℤ y) (λ none. some (sym (ap (p x) (neg_twice y)) ∙ none)) in
      let b = lives_near (turned NorthSouth p) g is x' (neg_ℤ y') (λ none. other (sym (ap (p x') (neg_twice y')) ∙ none)) in
      (omega (arith, ints, a, b), omega (arith, ints, a, b))
  near_each_other Diagonal is =
      let a = lives_near (turned Diagonal p) g is y x some in
      let b = lives_near (turned Diagonal p) g is y' x' other in
      (omega (arith, ints, a, b), omega (arith, ints, a, b))
  near_each_other Antidiagonal is =
      let a = lives_near (turned Antidiagonal p) g is (neg_ℤ y) (neg_ℤ x) (λ none. some (sym (ap (p x) (neg_twice y)) ∙ (sym (ap (λ k. p k (neg_ℤ (neg_ℤ y))) (neg_twice x)) ∙ none))) in
      let b = lives_near (turned Antidiagonal p) g is (neg_ℤ y') (neg_ℤ x') (λ none. other (sym (ap (p x') (neg_twice y')) ∙ (sym (ap (λ k. p k (neg_ℤ (neg_ℤ y'))) (neg_twice x')) ∙ none))) in
      (omega (arith, ints, a, b), omega (arith, ints, a, b))
