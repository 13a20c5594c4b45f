-- Slots that are too many for the cells that they may take. A set of slots is a number, whose lowest bit stands for the
-- first slot.
use Rattle.std.specs.Prelude.{ℕ, List, [], ◌∷◌, Bool, false, ◌&&◌, ◌||◌, ◌==◌, ◌+◌, ◌%◌, ◌/◌, nat_lt, nat_le, slice_index, true, ◌≡◌, ◌≤◌, length, drop, zip, map}
use Rattle.std.specs.List.{count_by}
use Rattle.ca_rule.specs.declared.table.slot.Slot.{Slot}
use Rattle.ca_rule.specs.TableNext.{States, SlotCell, admits, is_variable, take_one_cell}
use Rattle.ca_rule.specs.declared.table.slot.Slot.TheVariants.{Number, Variable}

-- where the slot is a variable: as many of the cells at the free places are this one as slots left are that variable
abbrev pub has_slot_room : List ℕ → List Slot → List ℕ → Slot → ℕ → Bool
has_slot_room nine left free (Number state) cell = true
has_slot_room nine left free (Variable v) cell = nat_le (count_by (is_variable v) left) (count_by (λ p. slice_index nine p == cell) free)

-- a slot may take the cell, beside those that have taken theirs
abbrev pub may_take : List States → List ℕ → List SlotCell → List Slot → List ℕ → Slot → ℕ → Bool
may_take variables nine taken left free s cell = admits variables s cell && (take_one_cell taken s cell && has_slot_room nine left free s cell)

-- one of the slots in the set may take the cell
abbrev pub one_takes : List States → List ℕ → List SlotCell → List Slot → List ℕ → List Slot → ℕ → ℕ → Bool
one_takes variables nine taken left free [] set cell = false
one_takes variables nine taken left free (s ∷ ss) set cell =
    (set % 2 == 1 && may_take variables nine taken left free s cell) || one_takes variables nine taken left free ss (set / 2) cell

-- how many of the slots are in the set
abbrev pub slots_in : List Slot → ℕ → ℕ
slots_in [] set = 0
slots_in (s ∷ ss) set = set % 2 + slots_in ss (set / 2)

-- the slots in the set are more than the cells at free places that one of them may take
abbrev pub are_crowded : List States → List ℕ → List SlotCell → List Slot → List ℕ → ℕ → Bool
are_crowded variables nine taken left free set =
    nat_lt (count_by (λ p. one_takes variables nine taken left free left set (slice_index nine p)) free) (slots_in left set)

-- some of the slots after those with places, which aren't more than the free places, are too many for the cells there
pub record HasCrowd (variables : List States) (nine : List ℕ) (slots : List Slot) (places free : List ℕ) : Type 0 where
  pub set : ℕ
  pub few : length (drop (length places) slots) ≤ length free
  pub crowded : are_crowded variables nine (zip slots (map (slice_index nine) places)) (drop (length places) slots) free set ≡ true
