-- The next state of a cell under a rule table (Golly Help, File Formats: rule tables; that a result variable has the cell
-- that it takes under the least fitting order is our own).
use Rattle.std.specs.Prelude.{ℕ, List, [], ◌∷◌, Bool, true, false, not, ◌&&◌, ◌||◌, ◌==◌, ◌≡◌, ◌≤◌, ◌<◌, replicate, length, All, Option, Some, None, slice_index, slice_index_or, map, zip, if◌then◌else◌, unwrap_or}
use Rattle.std.specs.List.{list_all, list_any}
use Rattle.ca_rule.specs.declared.table.{neighbourhood.Neighbourhood.Neighbourhood, neighbourhood.Symmetry.Symmetry, slot.Slot.Slot}
use Rattle.ca_rule.specs.declared.table.slot.Slot.TheVariants.{Number, Variable}
use Rattle.ca_rule.specs.TableOrders.{ring, orders}

-- a set of states, as a list of them
abbrev pub States : Type 0
States = List ℕ

-- a transition: the slots of the centre and of the ring, and the result
pub record Transition : Type 0 where
  pub inputs : List Slot
  pub result : Slot

-- what a table says. Variables are numbered from 0, by their `var` lines, and have the states of these
pub record TableRule : Type 0 where
  pub name : List ℕ
  pub states : ℕ
  pub neighbourhood : Neighbourhood
  pub symmetry : Symmetry
  pub variables : List States
  pub transitions : List Transition

-- the states of the variable with this number
abbrev pub variable_states : List States → ℕ → States
variable_states variables v = slice_index_or variables v []

-- the cells that the slots take under an order: the centre, and then the ring's cells, each at its position
abbrev pub cells_in_order : Neighbourhood → List ℕ → List ℕ → List ℕ
cells_in_order neighbourhood nine order = slice_index nine 4 ∷ map (λ position. slice_index nine (slice_index (ring neighbourhood) position)) order

-- a slot with the cell that it takes
abbrev pub SlotCell : Type 0
SlotCell = Slot × ℕ

-- the slot is that number, or a variable that has that state
abbrev pub admits : List States → Slot → ℕ → Bool
admits variables (Number state) cell = cell == state
admits variables (Variable v) cell = list_any (λ s. s == cell) (variable_states variables v)

-- the slot is the variable with this number
abbrev pub is_variable : ℕ → Slot → Bool
is_variable v (Number state) = false
is_variable v (Variable w) = v == w

-- each slot of the variable takes this cell
abbrev pub take_one_cell : List SlotCell → Slot → ℕ → Bool
take_one_cell all (Number state) cell = true
take_one_cell all (Variable v) cell = list_all (λ (t : SlotCell). not (is_variable v t.0) || (t.1 == cell)) all

-- each slot admits its cell, and all slots of one variable take one cell
abbrev pub fits : List States → List SlotCell → Bool
fits variables all = list_all (λ (t : SlotCell). admits variables t.0 t.1 && take_one_cell all t.0 t.1) all

-- the cell that the variable takes
abbrev pub taken_cell : ℕ → List SlotCell → ℕ
taken_cell v [] = 0
taken_cell v (t ∷ ts) = if is_variable v t.0 then t.1 else taken_cell v ts

-- the state that a result gives: its number, or the cell of its variable
abbrev pub result_state : Slot → List SlotCell → ℕ
result_state (Number state) all = state
result_state (Variable v) all = taken_cell v all

-- what a transition gives under the first of these orders under which it fits
abbrev pub outcome : Neighbourhood → List States → List ℕ → Transition → List (List ℕ) → Option ℕ
outcome neighbourhood variables nine t [] = None
outcome neighbourhood variables nine t (g ∷ gs) =
    if fits variables (zip t.inputs (cells_in_order neighbourhood nine g)) then Some (result_state t.result (zip t.inputs (cells_in_order neighbourhood nine g)))
    else outcome neighbourhood variables nine t gs

-- what the first transition gives that fits under one of these orders; where none fits, the centre stays
abbrev pub next_by : Neighbourhood → List States → List (List ℕ) → List ℕ → List Transition → ℕ
next_by neighbourhood variables gs nine [] = slice_index nine 4
next_by neighbourhood variables gs nine (t ∷ ts) = unwrap_or (outcome neighbourhood variables nine t gs) (next_by neighbourhood variables gs nine ts)

-- the next state of the centre of nine cells: transitions are tried in the order of the file
abbrev pub table_next : TableRule → List ℕ → ℕ
table_next table nine = next_by table.neighbourhood table.variables (orders table.neighbourhood table.symmetry) nine table.transitions

-- a table of two to 256 states under which states lead to states, and the empty plane stays empty
pub record IsSoundTable (table : TableRule) : Type 0 where
  pub low : 2 ≤ table.states
  pub high : table.states ≤ 256
  pub closed : (nine : List ℕ) → length nine ≡ 9 → All (λ s. s < table.states) nine → table_next table nine < table.states
  pub quiet : table_next table (replicate 9 0) ≡ 0
