-- How the names of variables are kept, and what fields stand for.
use Rattle.std.specs.Prelude.{◌≡◌, ℕ, ◌<◌, ◌≤◌, List, [], ◌∷◌, ◌++◌, Bool, true, false, Option, Some, None}
use Rattle.std.specs.Borrow.{Bor}
use Rattle.std.specs.HashMap.{get_by}
use Rattle.std.specs.List.{AllZip}
use Rattle.std.specs.Str.{bytes_eq}
use Rattle.ca_plane.specs.Prelude.{value}
use Rattle.ca_rule.specs.declared.table.{names.Names.Names, slot.Slot.Slot, statement_fault.StatementFault.StatementFault}
use Rattle.ca_rule.specs.declared.table.slot.Slot.TheVariants.{Number, Variable}
use Rattle.ca_rule.specs.declared.table.statement_fault.StatementFault.TheVariants.{State, Name, Unbound, Memory}
use Rattle.ca_rule.specs.{Digits.are_digits, TableLines.is_name, TableText.is_bound}

-- the number that is kept for a name
abbrev pub number_in : Names → List ℕ → Option ℕ
number_in names name = get_by (λ (n : Bor (List ℕ)). bytes_eq name n.now) names.numbers

-- a field stands for a state below the count, or for the variable whose number its name has
abbrev pub IsSlot : ℕ → (List ℕ → Option ℕ) → List ℕ → Slot → Type 0
IsSlot states numbers field (Number state) = (are_digits field ≡ true) × (state ≡ value field) × (state < states)
IsSlot states numbers field (Variable v) = (is_name field ≡ true) × (numbers field ≡ Some v)

-- a field stands for nothing
abbrev pub IsNoSlot : ℕ → (List ℕ → Option ℕ) → List ℕ → StatementFault → Type 0
IsNoSlot states numbers field State = (are_digits field ≡ true) × (states ≤ value field)
IsNoSlot states numbers field Name = (is_name field ≡ true) × (numbers field ≡ None)
IsNoSlot states numbers field fault = ⊥

-- after fields that stand for these slots comes one that stands for nothing
pub record HasNoSlot (states : ℕ) (numbers : List ℕ → Option ℕ) (fields : List (List ℕ)) (fault : StatementFault) : Type 0 where
  pub good : List (List ℕ)
  pub slots : List Slot
  pub field : List ℕ
  pub later : List (List ℕ)
  pub whole : fields ≡ good ++ field ∷ later
  pub stand : AllZip (IsSlot states numbers) good slots
  pub holds : IsNoSlot states numbers field fault

-- the fields stand for slots
abbrev pub HaveSlots : ℕ → (List ℕ → Option ℕ) → List (List ℕ) → Type 0
HaveSlots states numbers fields = (slots : List Slot) × AllZip (IsSlot states numbers) fields slots

-- one of the fields stands for nothing, or memory ran out, and they stand for slots
abbrev pub IsFaultAmong : ℕ → (List ℕ → Option ℕ) → List (List ℕ) → StatementFault → Type 0
IsFaultAmong states numbers fields Memory = HaveSlots states numbers fields
IsFaultAmong states numbers fields fault = HasNoSlot states numbers fields fault

-- the fields stand for the slots of a transition and its result, which is bound or isn't
pub record HaveResult (states : ℕ) (numbers : List ℕ → Option ℕ) (fields : List (List ℕ)) (bound : Bool) : Type 0 where
  pub inputs : List Slot
  pub result : Slot
  pub stand : AllZip (IsSlot states numbers) fields (inputs ++ result ∷ [])
  pub bound_is : is_bound result inputs ≡ bound

-- the same of the fields of a transition: the result may be unbound, and where memory ran out it is bound
abbrev pub IsFaultOfTransition : ℕ → (List ℕ → Option ℕ) → List (List ℕ) → StatementFault → Type 0
IsFaultOfTransition states numbers fields Unbound = HaveResult states numbers fields false
IsFaultOfTransition states numbers fields Memory = HaveResult states numbers fields true
IsFaultOfTransition states numbers fields fault = HasNoSlot states numbers fields fault

-- this many of the fields have been read
pub record AreSlots (states : ℕ) (numbers : List ℕ → Option ℕ) (fields left : List (List ℕ)) (slots : List Slot) : Type 0 where
  pub good : List (List ℕ)
  pub whole : fields ≡ good ++ left
  pub stand : AllZip (IsSlot states numbers) good slots
