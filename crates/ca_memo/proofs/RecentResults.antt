-- Results in slots that are set, or of which there are more.
use Rattle.std.proofs.Common.{◌≡◌, ℕ, zero, suc, Bool, true, false, ◌⊎◌, List, [], ◌∷◌, ◌++◌, take, replicate, slice_set, Contains, Option, Some, None, sym, subst, inl, inr, ap}
use Rattle.std.specs.Prelude.{if◌then◌else◌}
use Rattle.std.proofs.lemmas.List.Elements.{Contains-append_cases}
use Rattle.lru.proofs.CallerLemmas.{Contains-take}
use Rattle.lru.proofs.Splits.{Contains-head, Contains-tail, Contains-cons, Contains-nil}

-- what a list contains after a place was set is what was put there, or was contained
pub set-either : {X : Type 0} (xs : List X) (n : ℕ) (v x : X) → Contains (slice_set xs n v) x → Contains xs x ⊎ (x ≡ v)
set-either [] n v x c = inl c
set-either (y ∷ xs) zero v x c = elim (Contains-cons v xs x c) [
  | inl e ↦ inr (sym e)
  | inr d ↦ inl (Contains-tail y xs x d)
]
set-either (y ∷ xs) (suc n) v x c = elim (Contains-cons y (slice_set xs n v) x c) [
  | inl e ↦ inl (subst (Contains (y ∷ xs)) e (Contains-head y xs))
  | inr d ↦ elim (set-either xs n v x d) [
    | inl r ↦ inl (Contains-tail y xs x r)
    | inr s ↦ inr s
  ]
]

-- slots with nothing in them have no result
none-there : {X : Type 0} (m : ℕ) (x : X) → Contains (replicate m None) (Some x) → ⊥
none-there zero x c = Contains-nil (Some x) c
none-there (suc m) x c = elim (Contains-cons None (replicate m None) (Some x) c) [
  | inl e ↦ cc
  | inr d ↦ none-there m x d
]

-- and add none
pub grown-there : {X : Type 0} (ok : Bool) (n m : ℕ) (old new : List (Option X)) (x : X) → new ≡ (if ok then (take n old ++ replicate m None) else old) → Contains new (Some x) → Contains old (Some x)
grown-there true n m old new x e c = elim (Contains-append_cases (take n old) (replicate m None) (Some x) (subst (λ l. Contains l (Some x)) e c)) [
  | inl d ↦ Contains-take n old (Some x) d
  | inr d ↦ absurd (none-there m x d)
]
grown-there false n m old new x e c = subst (λ l. Contains l (Some x)) e c

-- a result that is there after one was put is that one, or was there
pub put-either : {K : Type 0} (slots : List (Option (K × ℕ))) (n : ℕ) (key other : K) (square any : ℕ) → Contains (slice_set slots n (Some (key, square))) (Some (other, any)) → Contains slots (Some (other, any)) ⊎ ((other ≡ key) × (any ≡ square))
put-either {K = K} slots n key other square any c = elim (set-either slots n (Some (key, square)) (Some (other, any)) c) [
  | inl d ↦ inl d
  | inr e ↦ let same : ◌≡◌ {A = K × ℕ} (other, any) (key, square) = cc in inr (ap (λ p. p.0) same, ap (λ p. p.1) same)
]
