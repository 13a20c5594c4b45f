-- Ties of rule tables: transitions that may give one neighbourhood two states, each under an order in which they fit.
-- Which of them a result variable has is our own (`outcome`), and Golly may take the other; only in a table with a tie can
-- one transition give two.
use Rattle.std.specs.Prelude.{◌≡◌, ℕ, List, [], ◌∷◌, Bool, true, false, not, ◌&&◌, ◌||◌, ◌==◌, nat_le, map, zip}
use Rattle.std.specs.List.{AllByRecursion, list_all, list_any, count_by, range_with_len}
use Rattle.ca_rule.specs.declared.table.{neighbourhood.Neighbourhood.Neighbourhood, neighbourhood.Symmetry.Symmetry, slot.Slot.Slot}
use Rattle.ca_rule.specs.declared.table.slot.Slot.TheVariants.{Number, Variable}
use Rattle.ca_rule.specs.declared.table.neighbourhood.Symmetry.TheVariants.{Permute}
use Rattle.ca_rule.specs.TableOrders.{orders, places}
use Rattle.ca_rule.specs.TableNext.{States, SlotCell, Transition, TableRule, admits, is_variable, fits, result_state, cells_in_order}

-- the slot admits another of so many states than this one
abbrev pub admits_another : ℕ → List States → Slot → ℕ → Bool
admits_another states variables slot cell = list_any (λ s. not (s == cell) && admits variables slot s) (range_with_len 0 states)

-- the slot, which isn't the variable, may take the state under one order and another under another
abbrev pub may_take_over : ℕ → List States → ℕ → ℕ → Slot → Bool
may_take_over states variables v cell slot = not (is_variable v slot) && (admits variables slot cell && admits_another states variables slot cell)

-- the variable may have the state under one order and not under another: as many other slots may take it over as it has
abbrev pub is_exchanged : ℕ → List States → List Slot → ℕ → ℕ → Bool
is_exchanged states variables slots v cell =
    admits variables (Variable v) cell && nat_le (count_by (is_variable v) slots) (count_by (may_take_over states variables v cell) slots)

-- that holds of two states
abbrev pub exchanges_two : ℕ → List States → List Slot → ℕ → Bool
exchanges_two states variables slots v = nat_le 2 (count_by (is_exchanged states variables slots v) (range_with_len 0 states))

-- a state that both slots admit
abbrev pub have_common : ℕ → List States → Slot → Slot → Bool
have_common states variables s t = list_any (λ x. admits variables s x && admits variables t x) (range_with_len 0 states)

-- one cell may be taken by the one slot under one order and by the other under another, and the variable take two states:
-- it isn't both of them
abbrev pub may_change : ℕ → List States → ℕ → Slot → Slot → Bool
may_change states variables v s t = not (is_variable v s && is_variable v t) && have_common states variables s t

-- so it is with each cell, where the slots are given with the places of the cells that they take under either order
abbrev pub may_fit_both : ℕ → List States → ℕ → List SlotCell → List SlotCell → Bool
may_fit_both states variables v first second =
    list_all (λ (a : SlotCell). list_all (λ (b : SlotCell). not (a.1 == b.1) || may_change states variables v a.0 b.0) second) first

-- so it is under two of these orders, given by the places of the slots' cells
abbrev pub two_may_fit : ℕ → List States → ℕ → List Slot → List (List ℕ) → Bool
two_may_fit states variables v slots ps = list_any (λ p. list_any (λ q. may_fit_both states variables v (zip slots p) (zip slots q)) ps) ps

-- so it is under two orders of a symmetry; under `permute` this isn't asked
abbrev pub orders_may_fit : ℕ → List States → Neighbourhood → Symmetry → ℕ → List Slot → Bool
orders_may_fit states variables neighbourhood Permute v slots = true
orders_may_fit states variables neighbourhood symmetry v slots = two_may_fit states variables v slots (map (places neighbourhood) (orders neighbourhood symmetry))

-- a transition of these slots and this result has a tie: its result is a variable that the centre isn't, whose state may
-- be exchanged for another by the cells of the ring, under two of the orders
abbrev pub may_tie : ℕ → List States → Neighbourhood → Symmetry → List Slot → Slot → Bool
may_tie states variables neighbourhood symmetry [] result = false
may_tie states variables neighbourhood symmetry (centre ∷ slots) (Number state) = false
may_tie states variables neighbourhood symmetry (centre ∷ slots) (Variable v) =
    not (is_variable v centre) && (exchanges_two states variables slots v && orders_may_fit states variables neighbourhood symmetry v (centre ∷ slots))

-- a transition of the table has one
abbrev pub has_ties : TableRule → Bool
has_ties table = list_any (λ (t : Transition). may_tie table.states table.variables table.neighbourhood table.symmetry t.inputs t.result) table.transitions

-- the slots of a transition with the cells that they take under an order
abbrev pub taken_under : TableRule → List ℕ → Transition → List ℕ → List SlotCell
taken_under table nine t g = zip t.inputs (cells_in_order table.neighbourhood nine g)

-- of two orders under which the transition fits, both give the neighbourhood one state
abbrev pub GiveOneState : TableRule → List ℕ → Transition → List ℕ → List ℕ → Type 0
GiveOneState table nine t g h = fits table.variables (taken_under table nine t g) ≡ true → fits table.variables (taken_under table nine t h) ≡ true
    → result_state t.result (taken_under table nine t g) ≡ result_state t.result (taken_under table nine t h)

-- so it is with each two orders of the symmetry: Golly gives no other state by this transition
abbrev pub GivesOneState : TableRule → List ℕ → Transition → Type 0
GivesOneState table nine t = AllByRecursion (λ g. AllByRecursion (GiveOneState table nine t g) (orders table.neighbourhood table.symmetry)) (orders table.neighbourhood table.symmetry)
