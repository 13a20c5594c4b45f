-- Every order of a ring's positions leads to every order of its places.
use Rattle.std.proofs.Common.{◌≡◌, ℕ, zero, suc, List, [], ◌∷◌, ◌++◌, map, length, slice_index, refl, ap, sym, ◌∙◌}
use Rattle.std.specs.Prelude.{flat_map}
use Rattle.std.proofs.lemmas.List.{map-append}
use Rattle.ca_rule.specs.declared.table.neighbourhood.Neighbourhood.{Neighbourhood}
use Rattle.ca_rule.specs.declared.table.neighbourhood.Neighbourhood.TheVariants.{VonNeumann, Moore, Hexagonal, OneDimensional}
use Rattle.ca_rule.specs.Prelude.{ring, ring_size, forward_order, picks, every_order, orders, places, States, Transition}
use Rattle.ca_rule.specs.declared.table.neighbourhood.Symmetry.TheVariants.{Permute}
use Rattle.ca_rule.specs.inner.TablePlaces.{outcome_at}
use Rattle.ca_rule.specs.inner.TableSearch.{least_outcome}

-- a pick with one more element among the others
abbrev with_first : ℕ → ℕ × List ℕ → ℕ × List ℕ
with_first x p = (p.0, x ∷ p.1)

module _ (f : ℕ → ℕ) where
  -- a pick, changed
  abbrev changed : ℕ × List ℕ → ℕ × List ℕ
  changed p = (f p.0, map f p.1)

  picks-more : (x : ℕ) (ps : List (ℕ × List ℕ)) →
      map (with_first (f x)) (map changed ps) ≡ map changed (map (with_first x) ps)
  picks-more x [] = refl
  picks-more x (p ∷ ps) = ap (λ l. (f p.0, f x ∷ map f p.1) ∷ l) (picks-more x ps)

  -- the picks of changed elements
  picks-map : (xs : List ℕ) → picks (map f xs) ≡ map changed (picks xs)
  picks-map [] = refl
  picks-map (x ∷ xs) = ap (λ l. (f x, map f xs) ∷ map (with_first (f x)) l) (picks-map xs) ∙ ap (λ l. (f x, map f xs) ∷ l) (picks-more x (picks xs))

  map-behind : (x : ℕ) (gs : List (List ℕ)) → map (map f) (map (λ g. x ∷ g) gs) ≡ map (λ g. f x ∷ g) (map (map f) gs)
  map-behind x [] = refl
  map-behind x (g ∷ gs) = ap (λ l. (f x ∷ map f g) ∷ l) (map-behind x gs)

  -- orders that begin with a pick
  picked-map : (n : ℕ) → ((xs : List ℕ) → map (map f) (every_order n xs) ≡ every_order n (map f xs)) → (ps : List (ℕ × List ℕ)) →
      map (map f) (flat_map (λ (p : ℕ × List ℕ). map (λ g. p.0 ∷ g) (every_order n p.1)) ps)
      ≡ flat_map (λ (p : ℕ × List ℕ). map (λ g. p.0 ∷ g) (every_order n p.1)) (map changed ps)
  picked-map n fewer [] = refl
  picked-map n fewer (p ∷ ps) =
      map-append (map f) (map (λ g. p.0 ∷ g) (every_order n p.1)) (flat_map (λ (q : ℕ × List ℕ). map (λ g. q.0 ∷ g) (every_order n q.1)) ps)
      ∙ ap (λ l. l ++ map (map f) (flat_map (λ (q : ℕ × List ℕ). map (λ g. q.0 ∷ g) (every_order n q.1)) ps)) (map-behind p.0 (every_order n p.1) ∙ ap (map (λ g. f p.0 ∷ g)) (fewer p.1))
      ∙ ap (λ l. map (λ g. f p.0 ∷ g) (every_order n (map f p.1)) ++ l) (picked-map n fewer ps)

  -- the orders of changed elements are the orders, changed
  pub every_order-map : (n : ℕ) (xs : List ℕ) → map (map f) (every_order n xs) ≡ every_order n (map f xs)
  every_order-map zero xs = refl
  every_order-map (suc n) xs =
      picked-map n (every_order-map n) (picks xs) ∙ ap (flat_map (λ (p : ℕ × List ℕ). map (λ g. p.0 ∷ g) (every_order n p.1))) (sym (picks-map xs))

-- the ring by its positions
ring-forward : (h : Neighbourhood) → map (slice_index (ring h)) (forward_order (ring_size h) 0) ≡ ring h
ring-forward VonNeumann = refl
ring-forward Moore = refl
ring-forward Hexagonal = refl
ring-forward OneDimensional = refl

places-behind : (h : Neighbourhood) (gs : List (List ℕ)) → map (places h) gs ≡ map (λ g. (4 ∷ []) ++ g) (map (map (slice_index (ring h))) gs)
places-behind h [] = refl
places-behind h (g ∷ gs) = ap (λ l. places h g ∷ l) (places-behind h gs)

-- the places to which all orders of a ring lead
pub every_order_placed : (h : Neighbourhood) → map (λ g. (4 ∷ []) ++ g) (every_order (ring_size h) (ring h)) ≡ map (places h) (orders h Permute)
every_order_placed h =
    sym (places-behind h (every_order (ring_size h) (forward_order (ring_size h) 0))
    ∙ ap (map (λ g. (4 ∷ []) ++ g)) (every_order-map (slice_index (ring h)) (ring_size h) (forward_order (ring_size h) 0) ∙ ap (every_order (ring_size h)) (ring-forward h)))

-- what is searched from the centre and the ring on is what these orders lead to
pub outcome_of_ring : (variables : List States) (nine : List ℕ) (t : Transition) (h : Neighbourhood) (taken free : List ℕ) → taken ≡ 4 ∷ [] → free ≡ ring h
    → least_outcome variables nine t taken (length free) free ≡ outcome_at variables nine t (map (λ g. (4 ∷ []) ++ g) (every_order (ring_size h) (ring h)))
outcome_of_ring variables nine t h taken free e f =
    ap (λ l. least_outcome variables nine t l (length free) free) e ∙ ap (λ l. least_outcome variables nine t (4 ∷ []) (length l) l) f
