-- What stays in an order of use.
use Rattle.std.proofs.Common.{◌≡◌, ℕ, zero, suc, ◌-◌, ◌≤◌, Bool, true, false, ◌⊎◌, List, [], ◌∷◌, length, take, slice_get, Contains, Option, Some, None, refl, ap, subst, inl, inr, arith}
use Rattle.std.specs.Option.{option_map_or}
use Rattle.std.specs.Map.{lookup, lookup_entry, remove_entry}
use Rattle.lru.specs.LruCache.{LruCache, promoted, put_entries, displaced}
use Rattle.lru.proofs.Splits.{Contains-head, Contains-tail, Contains-cons, Contains-nil}

-- the first n elements and the next one are all that a list has, if it has no more
pub Contains-all_but_last : {X : Type 0} (n : ℕ) (xs : List X) (x : X) → length xs ≤ suc n → Contains xs x → Contains (take n xs) x ⊎ (slice_get xs n ≡ Some x)
Contains-all_but_last n [] x h c = absurd (Contains-nil x c)
Contains-all_but_last zero (y ∷ []) x h c = elim (Contains-cons y [] x c) [
  | inl e ↦ inr (ap (λ z. Some z) e)
  | inr d ↦ absurd (Contains-nil x d)
]
Contains-all_but_last zero (y ∷ z ∷ xs) x h c = let no : ⊥ = omega arith in absurd no
Contains-all_but_last (suc n) (y ∷ xs) x h c = elim (Contains-cons y xs x c) [
  | inl e ↦ inl (subst (Contains (y ∷ take n xs)) e (Contains-head y (take n xs)))
  | inr d ↦ let fewer : length xs ≤ suc n = omega arith in elim (Contains-all_but_last n xs x fewer d) [
    | inl r ↦ inl (Contains-tail y (take n xs) x r)
    | inr l ↦ inr l
  ]
]

module _ {K V : Type 0} (test : K → Bool) where
  pub lookup-none : (es : List (K × V)) → lookup_entry test es ≡ None → lookup test es ≡ None
  lookup-none [] h = refl
  lookup-none (f ∷ es) h = (elim (test f.0) as (λ y. test f.0 ≡ y → lookup test (f ∷ es) ≡ None) [
    | true ↦ λ t. let h' = rw t at h in cc
    | false ↦ λ t. rw t (lookup-none es (rw t at h))
  ]) refl

  -- an entry is the one that goes, or stays
  pub Contains-split : (es : List (K × V)) (e f : K × V) → lookup_entry test es ≡ Some f → Contains es e → (f ≡ e) ⊎ Contains (remove_entry test es) e
  Contains-split [] e f h c = absurd (Contains-nil e c)
  Contains-split (g ∷ es) e f h c = (elim (test g.0) as (λ y. test g.0 ≡ y → (f ≡ e) ⊎ Contains (remove_entry test (g ∷ es)) e) [
    | true ↦ λ t. let h' = rw t at h in let same : g ≡ f = cc in elim (Contains-cons g es e c) [
      | inl s ↦ inl (let r : f ≡ e = cc in r)
      | inr d ↦ inr (rw t d)
    ]
    | false ↦ λ t. elim (Contains-cons g es e c) [
      | inl s ↦ inr (rw t (subst (Contains (g ∷ remove_entry test es)) s (Contains-head g (remove_entry test es))))
      | inr d ↦ elim (Contains-split es e f (rw t at h) d) [
        | inl s ↦ inl s
        | inr r ↦ inr (rw t (Contains-tail g (remove_entry test es) e r))
      ]
    ]
  ]) refl

  stays : (es : List (K × V)) (e : K × V) (o : Option (K × V)) → lookup_entry test es ≡ o → Contains es e → Contains (option_map_or (λ f. f ∷ remove_entry test es) o es) e
  stays es e None h c = c
  stays es e (Some f) h c = elim (Contains-split es e f h c) [
    | inl s ↦ subst (Contains (f ∷ remove_entry test es)) s (Contains-head f (remove_entry test es))
    | inr d ↦ Contains-tail f (remove_entry test es) e d
  ]

  -- each entry stays where one is promoted
  pub promoted-Contains : (es : List (K × V)) (e : K × V) → Contains es e → Contains (promoted test es) e
  promoted-Contains es e = stays es e (lookup_entry test es) refl

module _ {K V : Type 0} (eq : K → K → Bool) (c : LruCache K V) (k : K) (v : V) where
  abbrev pub after : Option (K × V) → List (K × V)
  after o = option_map_or (λ e. (e.0, v) ∷ remove_entry (eq k) c.entries) o ((k, v) ∷ take (c.cap - 1) c.entries)

  kept : length c.entries ≤ c.cap → (e : K × V) (o : Option (K × V)) → lookup_entry (eq k) c.entries ≡ o → Contains c.entries e
      → ((w : V) × Contains (after o) (e.0, w)) ⊎ (displaced eq c k v ≡ Some e)
  kept most e (Some f) h d = elim (Contains-split (eq k) c.entries e f h d) [
    | inl s ↦ inl (v, subst (λ (g : K × V). Contains ((f.0, v) ∷ remove_entry (eq k) c.entries) (g.0, v)) s (Contains-head (f.0, v) (remove_entry (eq k) c.entries)))
    | inr r ↦ inl (e.1, Contains-tail (f.0, v) (remove_entry (eq k) c.entries) e r)
  ]
  kept most e None h d = let room : length c.entries ≤ suc (c.cap - 1) = omega arith in
      elim (Contains-all_but_last (c.cap - 1) c.entries e room d) [
        | inl r ↦ inl (e.1, Contains-tail (k, v) (take (c.cap - 1) c.entries) e r)
        | inr l ↦ inr (rw (lookup-none (eq k) c.entries h) l)
      ]

  -- each key stays where one is put, but for the one that goes
  pub put_entries-key : length c.entries ≤ c.cap → (e : K × V) → Contains c.entries e → ((w : V) × Contains (put_entries eq c k v) (e.0, w)) ⊎ (displaced eq c k v ≡ Some e)
  put_entries-key most e = kept most e (lookup_entry (eq k) c.entries) refl
