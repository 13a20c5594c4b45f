-- Transitions told apart by bits: a bit that is 0 tells that a transition doesn't fit.
use Rattle.std.specs.Prelude.{ℕ, zero, List, [], ◌∷◌, ◌≡◌, ◌<◌, ◌≤◌, false, None, slice_index, get_or, drop, length, map, zip}
use Rattle.std.specs.List.{count_by}
use Rattle.std.specs.Int.{bit_at}
use Rattle.ca_rule.specs.declared.table.slot.Slot.{Slot}
use Rattle.ca_rule.specs.{TableNext.States, TableNext.Transition, TableNext.fits, inner.TablePlaces.slots_admit, inner.TablePlaces.outcome_at}

-- the slots of the first of these transitions, or none
abbrev pub first_inputs : List Transition → List Slot
first_inputs [] = []
first_inputs (t ∷ ts) = t.inputs

-- the slots of the k-th transition, counted from 0
abbrev pub inputs_at : List Transition → ℕ → List Slot
inputs_at ts k = first_inputs (drop k ts)

-- for each of the transitions before this one: where its bit is 0, its slot doesn't admit the state
abbrev pub TellsBefore : List States → List Transition → ℕ → ℕ → ℕ → ℕ → Type 0
TellsBefore variables ts slot state bits end = (k : ℕ) → k < end → k < length ts → bit_at bits k ≡ 0 → slots_admit variables state (drop slot (inputs_at ts k)) ≡ false

-- so it is for the first 64
abbrev pub TellsSlot : List States → List Transition → ℕ → ℕ → ℕ → Type 0
TellsSlot variables ts slot state bits = TellsBefore variables ts slot state bits 64

-- and for each state of a row of numbers
abbrev pub IsIndexRow : List States → List Transition → ℕ → List ℕ → Type 0
IsIndexRow variables ts slot row = (state : ℕ) → state < 256 → TellsSlot variables ts slot state (slice_index row state)

-- and for each slot that has a row
abbrev pub IsIndex : List States → List Transition → List (List ℕ) → Type 0
IsIndex variables ts rows = (slot : ℕ) → slot < length rows → IsIndexRow variables ts slot (get_or rows slot [])

-- how many of the cells at these places the first of the slots admits
abbrev pub takable : List States → List ℕ → List Slot → List ℕ → ℕ
takable variables nine slots places = count_by (λ p. slots_admit variables (slice_index nine p) slots) places

-- one of the slots after the centre's, up to this one, admits none of the cells at these places
pub record HasIdle (variables : List States) (nine : List ℕ) (slots : List Slot) (most : ℕ) (places : List ℕ) : Type 0 where
  pub slot : ℕ
  pub low : 0 < slot
  pub high : slot ≤ most
  pub idle : takable variables nine (drop slot slots) places ≡ 0

-- the slots fit at none of these placements
abbrev pub FitNowhere : List States → List ℕ → List Slot → List (List ℕ) → Type 0
FitNowhere variables nine slots [] = zero ≡ zero
FitNowhere variables nine slots (p ∷ ps) = (fits variables (zip slots (map (slice_index nine) p)) ≡ false) × FitNowhere variables nine slots ps

-- the first of these transitions, if there is one, gives nothing
abbrev pub GivesNone : List States → List ℕ → List (List ℕ) → List Transition → Type 0
GivesNone variables nine ps [] = zero ≡ zero
GivesNone variables nine ps (t ∷ ts) = outcome_at variables nine t ps ≡ None

-- of the first 64 transitions those whose bits are 0 give nothing
abbrev pub PassesOver : List States → List ℕ → List (List ℕ) → List Transition → ℕ → Type 0
PassesOver variables nine ps ts bits = (k : ℕ) → k < 64 → bit_at bits k ≡ 0 → GivesNone variables nine ps (drop k ts)

-- each index is that of its 64 transitions
abbrev pub AreIndices : List States → List Transition → List (List (List ℕ)) → Type 0
AreIndices variables ts [] = zero ≡ zero
AreIndices variables ts (rows ∷ indices) = IsIndex variables ts rows × AreIndices variables (drop 64 ts) indices

-- the variables and the transitions of a table
pub record Lines : Type 0 where
  pub variables : List States
  pub transitions : List Transition
