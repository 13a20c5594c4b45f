-- Where the slots of a transition take their cells.
use Rattle.std.specs.Prelude.{◌≡◌, ℕ, Bool, true, false, ◌==◌, List, [], ◌∷◌, Option, Some, None, unwrap_or, slice_index, map, zip, if◌then◌else◌}
use Rattle.ca_rule.specs.declared.table.{neighbourhood.Neighbourhood.Neighbourhood, neighbourhood.Symmetry.Symmetry, slot.Slot.Slot}
use Rattle.ca_rule.specs.TableOrders.{orders, places}
use Rattle.ca_rule.specs.TableNext.{States, Transition, SlotCell, admits, fits, result_state}

-- these are the places in each order of the symmetry
abbrev pub ArePlacesOf : Neighbourhood → Symmetry → List (List ℕ) → Type 0
ArePlacesOf neighbourhood symmetry lists = lists ≡ map (places neighbourhood) (orders neighbourhood symmetry)

-- the slots of a transition with the cells at those places
abbrev pub taken_at : List ℕ → Transition → List ℕ → List SlotCell
taken_at nine t placement = zip t.inputs (map (slice_index nine) placement)

-- what a transition gives at the first of these placements at which it fits
abbrev pub outcome_at : List States → List ℕ → Transition → List (List ℕ) → Option ℕ
outcome_at variables nine t [] = None
outcome_at variables nine t (p ∷ ps) =
    if fits variables (taken_at nine t p) then Some (result_state t.result (taken_at nine t p)) else outcome_at variables nine t ps

-- what the first transition gives that fits at one of these placements; where none fits, the centre stays
abbrev pub next_at : List States → List (List ℕ) → List ℕ → List Transition → ℕ
next_at variables ps nine [] = slice_index nine 4
next_at variables ps nine (t ∷ ts) = unwrap_or (outcome_at variables nine t ps) (next_at variables ps nine ts)

-- the first of these places is the centre's
abbrev pub begins_at_centre : List ℕ → Bool
begins_at_centre [] = false
begins_at_centre (p ∷ ps) = p == 4

-- the first slot admits the centre
abbrev pub slots_admit : List States → ℕ → List Slot → Bool
slots_admit variables cell [] = true
slots_admit variables cell (s ∷ ss) = admits variables s cell

abbrev pub admits_centre : List States → List ℕ → Transition → Bool
admits_centre variables nine t = slots_admit variables (slice_index nine 4) t.inputs
