-- Keys of pages and of single results.
use Rattle.std.proofs.Common.{◌≡◌, ℕ, zero, suc, ◌-◌, ◌≤◌, Bool, true, ◌⊎◌, List, [], ◌∷◌, length, take, slice_get, slice_set, ◌/◌, ◌%◌, Contains, Option, Some, None, IfSome, refl, sym, ap, subst, inl, inr, arith}
use Rattle.std.proofs.lemmas.Grind.{common_steps}
use Rattle.std.specs.Map.{lookup, lookup_entry, remove_entry}
use Rattle.lru.specs.LruCache.{LruCache, promoted, put_entries, displaced}
use Rattle.lru.proofs.CallerLemmas.{Contains-lookup, Contains-lookup_entry, Contains-put_entries}
use Rattle.lru.proofs.Splits.{Contains-head}
use Rattle.ca_memo.specs.declared.{key.Key.Key, page.Page.Page}
use Rattle.ca_memo.specs.declared.key.Key.TheVariants.{Page as OfPage, Single}
use Rattle.ca_memo.specs.Prelude.{HasPageKey, ArePagesKept, HasSlot, HasFullLeapIn, HasSingleIn}
use Rattle.ca_memo.specs.contracts.key.KeyPartialEq.TheImpl as eq
use Rattle.ca_memo.proofs.OrdersOfUse.{promoted-Contains, put_entries-key, after}

-- whether two keys are the same
abbrev pub same : Key → Key → Bool
same = eq.eq-value.it

pub same-true : (a b : Key) → same a b ≡ true → a ≡ b
same-true (OfPage m) (OfPage n) h = grind (arith, common_steps, h)
same-true (OfPage m) (Single id j) h = cc
same-true (Single i j) (OfPage n) h = cc
same-true (Single i j) (Single m n) h = grind (arith, common_steps, h)

pub near-found : (entries : List (Key × Option ℕ)) (id j : ℕ) (found : Option ℕ) → lookup (same (Single id j)) entries ≡ Some found → IfSome found (HasSingleIn entries id j)
near-found entries id j None h = tt
near-found entries id j (Some result_id) h = let at = Contains-lookup (same (Single id j)) entries (Some result_id) h in
    subst (λ (k : Key). Contains entries (k, Some result_id)) (sym (same-true (Single id j) at.0 at.2)) at.1

pub promoted-held : (pages : List (Option Page)) (order : LruCache Key (Option ℕ)) (test : Key → Bool) → ArePagesKept pages order.entries → ArePagesKept pages (promoted test order.entries)
promoted-held pages order test h = λ n page e. let at = h n page e in (at.0, promoted-Contains test order.entries (OfPage n, at.0) at.1)

module _ (c : LruCache Key (Option ℕ)) (k : Key) (v : Option ℕ) where
  -- each page that still stands still has its key
  pub put-held : (old new : List (Option Page)) → length c.entries ≤ c.cap → ArePagesKept old c.entries
      → ((n : ℕ) (page : Page) → slice_get new n ≡ Some (Some page) → (slice_get old n ≡ Some (Some page)) × ((w : Option ℕ) → displaced same c k v ≡ Some (OfPage n, w) → ⊥))
      → ArePagesKept new (put_entries same c k v)
  put-held old new most held rest = λ n page e. let r = rest n page e in let at = held n page r.0 in
      elim (put_entries-key same c k v most (OfPage n, at.0) at.1) [
        | inl s ↦ s
        | inr gone ↦ absurd (r.1 at.0 gone)
      ]

  -- a single result is the one that was put, or was there
  pub put-near : (i j result_id : ℕ) → HasSingleIn (put_entries same c k v) i j result_id → HasSingleIn c.entries i j result_id ⊎ ((k ≡ Single i j) × (v ≡ Some result_id))
  put-near i j result_id d = elim (Contains-put_entries same c k v (Single i j, Some result_id) d) [
    | inl was ↦ inl was
    | inr put ↦ inr (elim put.1 [ inl is ↦ sym is | inr was ↦ same-true k (Single i j) was.2 ], sym put.0)
  ]

  first : (o : Option (Key × Option ℕ)) → lookup_entry (same k) c.entries ≡ o → (w : Option ℕ) × Contains (after same c k v o) (k, w)
  first None h = (v, Contains-head (k, v) (take (c.cap - 1) c.entries))
  first (Some f) h = (v, subst (λ (g : Key). Contains ((f.0, v) ∷ remove_entry (same k) c.entries) (g, v)) (sym (same-true k f.0 (Contains-lookup_entry (same k) c.entries f h).1)) (Contains-head (f.0, v) (remove_entry (same k) c.entries)))

  -- the key that was put is there
  pub put-there : (n : ℕ) → k ≡ OfPage n → HasPageKey (put_entries same c k v) n
  put-there n e = let at = first (lookup_entry (same k) c.entries) refl in (at.0, subst (λ (g : Key). Contains (put_entries same c k v) (g, at.0)) e at.1)

key-id : Key → ℕ → ℕ
key-id (OfPage n) d = d
key-id (Single i j) d = i

key-time : Key → ℕ → ℕ
key-time (OfPage n) d = d
key-time (Single i j) d = j

-- what a key of a single result and its value are
pub single-is : (i j result_id other time centre : ℕ) → Single i j ≡ Single other time → Some result_id ≡ Some centre → (other ≡ i) × (time ≡ j) × (centre ≡ result_id)
unfolding key-id key-time
single-is i j result_id other time centre e h = let a : other ≡ i = ap (λ k. key-id k 0) (sym e) in let b : time ≡ j = ap (λ k. key-time k 0) (sym e) in (a, b, cc)

-- no single result comes with the key of a page
pub none-put : {P : Type 0} {n i j result_id : ℕ} {v : Option ℕ} → P ⊎ ((OfPage n ≡ Single i j) × (v ≡ Some result_id)) → P
none-put (inl p) = p
none-put (inr q) = let e = q.0 in absurd (let no : ⊥ = cc in no)

-- a page or a result that stands after one was set is that one, or stood
pub set-cases : {X : Type 0} (pages : List (Option X)) (n m : ℕ) (q : Option X) (p : X) → slice_get (slice_set pages n q) m ≡ Some (Some p) → ((m ≡ n) × (q ≡ Some p)) ⊎ (slice_get pages m ≡ Some (Some p))
set-cases [] n m q p h = inr h
set-cases (x ∷ xs) zero zero q p h = inl (refl, cc)
set-cases (x ∷ xs) zero (suc m) q p h = inr h
set-cases (x ∷ xs) (suc n) zero q p h = inr h
set-cases (x ∷ xs) (suc n) (suc m) q p h = elim (set-cases xs n m q p h) [
  | inl s ↦ inl (ap suc s.0, s.1)
  | inr r ↦ inr r
]

-- a page whose key is there may be set
pub opened-held : (pages : List (Option Page)) (entries : List (Key × Option ℕ)) (n : ℕ) (q : Page) → HasPageKey entries n → ArePagesKept pages entries → ArePagesKept (slice_set pages n (Some q)) entries
opened-held pages entries n q key held = λ m p e. elim (set-cases pages n m (Some q) p e) [
  | inl s ↦ subst (HasPageKey entries) (sym s.0) key
  | inr r ↦ held m p r
]

-- an empty page adds no result
pub opened-far : (pages : List (Option Page)) (n : ℕ) (q : Page) → ((i result_id : ℕ) → HasSlot q i result_id → ⊥) → (id result_id : ℕ) → HasFullLeapIn (slice_set pages n (Some q)) id result_id → HasFullLeapIn pages id result_id
opened-far pages n q none id result_id f = elim (set-cases pages n (id / 64) (Some q) f.0 f.1) [
  | inl s ↦ let is : f.0 ≡ q = cc in absurd (none (id % 64) result_id (subst (λ (g : Page). HasSlot g (id % 64) result_id) is f.2))
  | inr r ↦ (f.0, r, f.2)
]

-- nor does a page that is changed, but for its slots
module _ (pages : List (Option Page)) (n : ℕ) (old new : Page) (was : slice_get pages n ≡ Some (Some old)) where
  pub changed-held : (entries : List (Key × Option ℕ)) → ArePagesKept pages entries → ArePagesKept (slice_set pages n (Some new)) entries
  changed-held entries held = opened-held pages entries n new (held n old was) held

  pub changed-far : new.slots ≡ old.slots → (id result_id : ℕ) → HasFullLeapIn (slice_set pages n (Some new)) id result_id → HasFullLeapIn pages id result_id
  changed-far slots id result_id f = elim (set-cases pages n (id / 64) (Some new) f.0 f.1) [
    | inl s ↦
        let is : f.0 ≡ new = cc in
        (old, subst (λ m. slice_get pages m ≡ Some (Some old)) (sym s.0) was, subst (λ l. slice_get l (id % 64) ≡ Some (Some result_id)) slots (subst (λ (g : Page). HasSlot g (id % 64) result_id) is f.2))
    | inr r ↦ (f.0, r, f.2)
  ]

  -- and one more result adds that
  pub written-far : (id place result_id : ℕ) → place ≡ id → n ≡ place / 64 → new.slots ≡ slice_set old.slots (place % 64) (Some result_id) → (other centre : ℕ) → HasFullLeapIn (slice_set pages n (Some new)) other centre
      → HasFullLeapIn pages other centre ⊎ ((other ≡ id) × (centre ≡ result_id))
  written-far id place result_id is_place at slots other centre f = elim (set-cases pages n (other / 64) (Some new) f.0 f.1) [
    | inl s ↦
        let is : f.0 ≡ new = cc in
        let here = subst (λ l. slice_get l (other % 64) ≡ Some (Some centre)) slots (subst (λ (g : Page). HasSlot g (other % 64) centre) is f.2) in
        elim (set-cases old.slots (place % 64) (other % 64) (Some result_id) centre here) [
          | inl t ↦ inr (omega (arith, s.0, t.0, at, is_place), cc)
          | inr r ↦ inl (old, subst (λ m. slice_get pages m ≡ Some (Some old)) (sym s.0) was, r)
        ]
    | inr r ↦ inl (f.0, r, f.2)
  ]
