-- The orders of `permute`, tried slot by slot.
use Rattle.std.specs.Prelude.{ℕ, List, [], ◌∷◌, ◌++◌, ◌≡◌, ◌<◌, Option, None, map, get_or, remove}
use Rattle.std.specs.Option.{option_or}
use Rattle.std.specs.Borrow.{Bor}
use Rattle.ca_rule.specs.declared.table.placement.Orders.{Orders}
use Rattle.ca_rule.specs.declared.table.placement.Orders.TheVariants.{Listed, Every}
use Rattle.ca_rule.specs.{TableOrders.ring, TableOrders.ring_size, TableOrders.every_order, TableNext.States, TableNext.Transition}
use Rattle.ca_rule.specs.inner.TablePlaces.{outcome_at}

-- what a transition gives where its first slots take their cells at some places, and the others at n of the free ones, in
-- the first of their orders in which it fits
abbrev pub least_outcome : List States → List ℕ → Transition → List ℕ → ℕ → List ℕ → Option ℕ
least_outcome variables nine t taken n free = outcome_at variables nine t (map (λ g. taken ++ g) (every_order n free))

-- the same, where the next slot takes the first place of one of these picks that leads to an outcome
abbrev pub picked_outcome : List States → List ℕ → Transition → List ℕ → ℕ → List (ℕ × List ℕ) → Option ℕ
picked_outcome variables nine t taken n [] = None
picked_outcome variables nine t taken n (p ∷ ps) =
    option_or (least_outcome variables nine t (taken ++ p.0 ∷ []) n p.1) (picked_outcome variables nine t taken n ps)

-- the next slot finds no outcome at the first of the free places
abbrev pub LeadToNone : List States → List ℕ → Transition → List ℕ → ℕ → List ℕ → ℕ → Type 0
LeadToNone variables nine t taken n free count =
    (k : ℕ) → k < count → least_outcome variables nine t (taken ++ get_or free k 0 ∷ []) n (remove free k) ≡ None

-- the placements of orders: those that are listed, or those of every order of the ring after the centre
abbrev pub placements_of : Orders → List (List ℕ)
placements_of (Listed ps) = map (λ (p : Bor (List ℕ)). p.now) ps.now
placements_of (Every neighbourhood) = map (λ g. (4 ∷ []) ++ g) (every_order (ring_size neighbourhood) (ring neighbourhood))
