-- The transitions of dead and live cells and of dying ones give each cell the next state of the rule.
use Rattle.std.proofs.Common.{◌≡◌, ℕ, zero, suc, ◌+◌, ◌-◌, ◌<◌, ◌≤◌, List, [], ◌∷◌, ◌++◌, length, map, filter, zip, Bool, true, false, not, ◌==◌, ◌&&◌, ◌||◌, nat_le, refl, sym, ap, subst, ◌∙◌, inl, inr, ◌⊎◌, lit≤, arith, if◌then◌else◌, slice_index, unwrap_or, Some, None, All, eq-eqb}
use Rattle.std.specs.List.{list_all, list_any, range_with_len, AllByRecursion}
use Rattle.std.proofs.Math.Bool.{or-true}
use Rattle.std.proofs.lemmas.Bool.{cases_Bool, and_parts, and_from, or_left, or_right, false≢true}
use Rattle.std.proofs.lemmas.Bool.Decides.{nat_tests}
use Rattle.std.proofs.lemmas.List.Folds.{list_any-append}
use Rattle.std.proofs.lemmas.List.Elements.{All-from_recursion}
use Rattle.ca_plane.specs.Prelude.{liveness, older}
use Rattle.ca_rule.specs.Prelude.{is_count, generations_next, generations_next_state, live_count, States, SlotCell, is_variable, admits, take_one_cell, fits, next_by, variable_states, orders}
use Rattle.ca_rule.specs.declared.{counts.Counts.Counts, table.slot.Slot.Slot}
use Rattle.ca_rule.specs.declared.table.neighbourhood.Neighbourhood.TheVariants.{Moore}
use Rattle.ca_rule.specs.declared.table.neighbourhood.Symmetry.TheVariants.{Identity}
use Rattle.ca_rule.specs.declared.table.slot.Slot.TheVariants.{Number, Variable}
use Rattle.ca_rule.specs.inner.TableDistinct.{are_distinct}
use Rattle.ca_rule.proofs.Distinct.{distinct-take}
use Rattle.ca_rule_files.specs.WrittenTables.{ring_of, neighbourhoods, changes}
use Rattle.ca_rule_files.proofs.WrittenTables.{AreBits, Written, written_transition}
use Rattle.ca_rule_files.proofs.WrittenNext.{inputs_of, spread, all-held, inputs-tell, next-given, IsOfBits, all-of-bits}
use Rattle.ca_rule_files.proofs.TransitionLines.{kept}
use Rattle.ca_rule_files.proofs.VariableLines.{among, listed_from, said_variables}

-- ---- the transitions

-- a live neighbour, or else the variable with this number, or a dead one in a file without variables
abbrev pub neighbour_slot : Bool → ℕ → ℕ → Slot
neighbour_slot lettered v cell = if cell == 0 then (if lettered then Variable v else Number 0) else Number 1

-- the slots of neighbours, with the variables from this one onwards
abbrev pub neighbour_slots : Bool → ℕ → List ℕ → List Slot
neighbour_slots lettered v [] = []
neighbour_slots lettered v (c ∷ cs) = neighbour_slot lettered v c ∷ neighbour_slots lettered (v + 1) cs

-- the transition of nine dead and live cells
abbrev pub live_written : Bool → List ℕ → ℕ → Written
live_written lettered nine result = record { centre = slice_index nine 4; ring = neighbour_slots lettered 0 (ring_of nine); result = result }

-- that of a dying cell
abbrev pub dying_written : ℕ → ℕ → Written
dying_written states state = record { centre = state; ring = map Variable (range_with_len 8 8); result = older states state }

-- ---- lists of tests

-- a cell of some states
abbrev pub AreBelow : ℕ → List ℕ → Type 0
AreBelow n cells = AllByRecursion (λ c. c < n) cells

both-tests : {X : Type 0} (p q : X → Bool) (xs : List X) → list_all p xs ≡ true → list_all q xs ≡ true → list_all (λ x. p x && q x) xs ≡ true
both-tests p q [] h k = refl
both-tests p q (x ∷ xs) h k =
    let a = and_parts (p x) (list_all p xs) h in
    let b = and_parts (q x) (list_all q xs) k in
    and_from (p x && q x) (list_all (λ x. p x && q x) xs) (and_from (p x) (q x) a.0 b.0) (both-tests p q xs a.1 b.1)

first-test : {X : Type 0} (p q : X → Bool) (xs : List X) → list_all (λ x. p x && q x) xs ≡ true → list_all p xs ≡ true
first-test p q [] h = refl
first-test p q (x ∷ xs) h =
    let a = and_parts (p x && q x) (list_all (λ x. p x && q x) xs) h in
    and_from (p x) (list_all p xs) (and_parts (p x) (q x) a.0).0 (first-test p q xs a.1)

-- ---- the states of the variables

passed-first : (b : Bool) (s : ℕ) (xs : List ℕ) (c : ℕ) → (s == c) ≡ false → list_any (λ s. s == c) (if b then s ∷ xs else xs) ≡ list_any (λ s. s == c) xs
passed-first true s xs c e = ap (λ v. v || list_any (λ s. s == c) xs) e
passed-first false s xs c e = refl

found-first : (b : Bool) (s : ℕ) (xs : List ℕ) (c : ℕ) → (s == c) ≡ true → list_any (λ s. s == c) xs ≡ false → list_any (λ s. s == c) (if b then s ∷ xs else xs) ≡ b
found-first true s xs c e none = ap (λ v. v || list_any (λ s. s == c) xs) e
found-first false s xs c e none = none

none-before : (p : ℕ → Bool) (from count c : ℕ) → c < from → list_any (λ s. s == c) (filter p (range_with_len from count)) ≡ false
none-before p from zero c low = refl
none-before p from (suc count) c low =
    let other : (from == c) ≡ false = grind (arith, nat_tests) in
    passed-first (p from) from (filter p (range_with_len (from + 1) count)) c other ∙ none-before p (from + 1) count c (omega arith)

in-filter : (p : ℕ → Bool) (from count c : ℕ) → from ≤ c → c < from + count → list_any (λ s. s == c) (filter p (range_with_len from count)) ≡ p c
in-filter p from zero c low high = absurd (omega arith)
in-filter p from (suc count) c low high = elim (cases_Bool (from == c)) [
  | inl t ↦
      let same : from ≡ c = grind (arith, nat_tests) in
      found-first (p from) from (filter p (range_with_len (from + 1) count)) c t (none-before p (from + 1) count c (omega arith)) ∙ ap p same
  | inr t ↦
      let more : from + 1 ≤ c = grind (arith, nat_tests) in
      passed-first (p from) from (filter p (range_with_len (from + 1) count)) c t ∙ in-filter p (from + 1) count c more (omega arith)
]

in-range : (from count c : ℕ) → from ≤ c → c < from + count → list_any (λ k. c == k) (range_with_len from count) ≡ true
in-range from zero c low high = absurd (omega arith)
in-range from (suc count) c low high = elim (cases_Bool (c == from)) [
  | inl t ↦ or_left (c == from) (list_any (λ k. c == k) (range_with_len (from + 1) count)) t
  | inr t ↦
      let more : from + 1 ≤ c = grind (arith, nat_tests) in
      or_right (c == from) (list_any (λ k. c == k) (range_with_len (from + 1) count)) (in-range (from + 1) count c more (omega arith))
]

before-range : (from count c : ℕ) → c < from → list_any (λ k. c == k) (range_with_len from count) ≡ false
before-range from zero c low = refl
before-range from (suc count) c low =
    let other : (c == from) ≡ false = grind (arith, nat_tests) in
    ap (λ v. v || list_any (λ k. c == k) (range_with_len (from + 1) count)) other ∙ before-range (from + 1) count c (omega arith)

below-two : (c : ℕ) → c < 2 → ((c == 0) || false) ≡ not (c == 1)
below-two zero low = refl
below-two (suc zero) low = refl
below-two (suc (suc c)) low = absurd (omega arith)

-- a list from 2 onwards, and 0: every state but 1
other-listed : (states c : ℕ) → 2 ≤ states → c < states → list_any (λ k. c == k) (range_with_len 2 (states - 2) ++ 0 ∷ []) ≡ not (c == 1)
other-listed states c low h =
    list_any-append (λ k. c == k) (range_with_len 2 (states - 2)) (0 ∷ []) ∙ elim (cases_Bool (nat_le 2 c)) [
      | inl t ↦
          let from : 2 ≤ c = grind (arith, nat_tests) in
          let no : (c == 1) ≡ false = grind (arith, nat_tests) in
          ap (λ v. v || ((c == 0) || false)) (in-range 2 (states - 2) c from (omega arith)) ∙ sym (ap not no)
      | inr t ↦
          let below : c < 2 = grind (arith, nat_tests) in
          ap (λ v. v || ((c == 0) || false)) (before-range 2 (states - 2) c below) ∙ below-two c below
    ]

-- a list from 1 onwards, and 0: every state
any-listed : (states c : ℕ) → 2 ≤ states → c < states → list_any (λ k. c == k) (range_with_len 1 (states - 1) ++ 0 ∷ []) ≡ true
any-listed states c low h =
    list_any-append (λ k. c == k) (range_with_len 1 (states - 1)) (0 ∷ []) ∙ elim (cases_Bool (nat_le 1 c)) [
      | inl t ↦ let from : 1 ≤ c = grind (arith, nat_tests) in ap (λ v. v || ((c == 0) || false)) (in-range 1 (states - 1) c from (omega arith))
      | inr t ↦
          let zero_state : (c == 0) ≡ true = grind (arith, nat_tests) in
          ap (λ v. list_any (λ k. c == k) (range_with_len 1 (states - 1)) || (v || false)) zero_state ∙ or-true (list_any (λ k. c == k) (range_with_len 1 (states - 1)))
    ]

liveness-low : (c : ℕ) → liveness c < 2
liveness-low c = grind (arith, nat_tests)

liveness-twice : (c : ℕ) → liveness (liveness c) ≡ liveness c
liveness-twice c = elim (cases_Bool (c == 1)) [ inl t ↦ ap (λ v. liveness (if v then 1 else 0)) t ∙ ap (λ v. if v then 1 else 0) (sym t) | inr t ↦ ap (λ v. liveness (if v then 1 else 0)) t ∙ ap (λ v. if v then 1 else 0) (sym t) ]

-- the neighbourhood of dead and live cells that a transition of a dead or live centre stands for
abbrev pub shown : List ℕ → List ℕ
shown nine =
    liveness (slice_index nine 0) ∷ liveness (slice_index nine 1) ∷ liveness (slice_index nine 2) ∷ liveness (slice_index nine 3) ∷ slice_index nine 4
    ∷ liveness (slice_index nine 5) ∷ liveness (slice_index nine 6) ∷ liveness (slice_index nine 7) ∷ liveness (slice_index nine 8) ∷ []

-- ---- which cells fit

module _ (states : ℕ) (low : 2 ≤ states) (high : states ≤ 256) where
  -- the states of the variables
  abbrev variables : Bool → List States
  variables lettered = map (λ (w : List ℕ × States). w.1) (said_variables states low high lettered)

  other-admits : (v c : ℕ) → v < 8 → c < states → admits (variables true) (Variable v) c ≡ not (c == 1)
  other-admits v c few h =
      let is : variable_states (variables true) v ≡ listed_from states low high 2 =
      among (λ v. variable_states (variables true) v ≡ listed_from states low high 2) 0 8 v (omega arith) few (refl, (refl, (refl, (refl, (refl, (refl, (refl, (refl, tt)))))))) in
      ap (list_any (λ s. s == c)) is ∙ in-filter (λ c. list_any (λ k. c == k) (range_with_len 2 (states - 2) ++ 0 ∷ [])) 0 states c (omega arith) (omega (arith, h)) ∙ other-listed states c low h

  any-admits : (v c : ℕ) → 8 ≤ v → v < 16 → c < states → admits (variables true) (Variable v) c ≡ true
  any-admits v c some few h =
      let is : variable_states (variables true) v ≡ listed_from states low high 1 =
      among (λ v. variable_states (variables true) v ≡ listed_from states low high 1) 8 8 v some (omega arith) (refl, (refl, (refl, (refl, (refl, (refl, (refl, (refl, tt)))))))) in
      ap (list_any (λ s. s == c)) is ∙ in-filter (λ c. list_any (λ k. c == k) (range_with_len 1 (states - 1) ++ 0 ∷ [])) 0 states c (omega arith) (omega (arith, h)) ∙ any-listed states c low h

  dead-admits : (c : ℕ) → c < 2 → (c == 0) ≡ (liveness c == 0)
  dead-admits zero h = refl
  dead-admits (suc zero) h = refl
  dead-admits (suc (suc c)) h = absurd (omega arith)

  -- a neighbour's slot admits the states that are live as it is
  slot-admits : (lettered : Bool) → (lettered ≡ false → states ≡ 2) → (v b c : ℕ) → v < 8 → b < 2 → c < states → admits (variables lettered) (neighbour_slot lettered v b) c ≡ (liveness c == b)
  slot-admits true two v zero c few bit h = other-admits v c few h ∙ elim (cases_Bool (c == 1)) [
    | inl t ↦ ap not t ∙ ap (λ x. (if x then 1 else 0) == 0) (sym t)
    | inr t ↦ ap not t ∙ ap (λ x. (if x then 1 else 0) == 0) (sym t)
  ]
  slot-admits false two v zero c few bit h = dead-admits c (subst (λ n. c < n) (two refl) h)
  slot-admits lettered two v (suc zero) c few bit h = elim (cases_Bool (c == 1)) [
    | inl t ↦ t ∙ ap (λ x. (if x then 1 else 0) == 1) (sym t)
    | inr t ↦ t ∙ ap (λ x. (if x then 1 else 0) == 1) (sym t)
  ]
  slot-admits lettered two v (suc (suc b)) c few bit h = absurd (omega arith)

  any-slots : (from count : ℕ) (cells : List ℕ) → 8 ≤ from → from + count ≤ 16 → AreBelow states cells → list_all (λ (t : SlotCell). admits (variables true) t.0 t.1) (zip (map Variable (range_with_len from count)) cells) ≡ true
  any-slots from zero cells some few below = refl
  any-slots from (suc count) [] some few below = refl
  any-slots from (suc count) (c ∷ cs) some few below =
      and_from (admits (variables true) (Variable from) c) (list_all (λ (t : SlotCell). admits (variables true) t.0 t.1) (zip (map Variable (range_with_len (from + 1) count)) cs))
      (any-admits from c some (omega arith) below.0) (any-slots (from + 1) count cs (omega arith) (omega arith) below.1)

  -- no variable comes twice
  slot-other : (lettered : Bool) (w v : ℕ) → w < v → is_variable w (if lettered then Variable v else Number 0) ≡ false
  slot-other true w v h = grind (arith, nat_tests)
  slot-other false w v h = refl

  none-lower : (lettered : Bool) (w v : ℕ) (bits : List ℕ) → w < v → list_any (is_variable w) (neighbour_slots lettered v bits) ≡ false
  none-lower lettered w v [] h = refl
  none-lower lettered w v (b ∷ bs) h =
      let later : list_any (is_variable w) (neighbour_slots lettered (v + 1) bs) ≡ false = none-lower lettered w (v + 1) bs (omega arith) in
      let one = λ (x : Bool). is_variable w (if x then (if lettered then Variable v else Number 0) else Number 1) || list_any (is_variable w) (neighbour_slots lettered (v + 1) bs) in
      elim (cases_Bool (b == 0)) [
        | inl t ↦ ap one t ∙ ap (λ x. x || list_any (is_variable w) (neighbour_slots lettered (v + 1) bs)) (slot-other lettered w v h) ∙ later
        | inr t ↦ ap one t ∙ later
      ]

  first-distinct : (lettered : Bool) (v : ℕ) (slots : List Slot) → list_any (is_variable v) slots ≡ false → are_distinct slots ≡ true → are_distinct ((if lettered then Variable v else Number 0) ∷ slots) ≡ true
  first-distinct true v slots none later = ap (λ x. not x && are_distinct slots) none ∙ later
  first-distinct false v slots none later = later

  distinct-slots : (lettered : Bool) (v : ℕ) (bits : List ℕ) → are_distinct (neighbour_slots lettered v bits) ≡ true
  distinct-slots lettered v [] = refl
  distinct-slots lettered v (b ∷ bs) =
      let later = distinct-slots lettered (v + 1) bs in
      let all = λ (x : Bool). are_distinct ((if x then (if lettered then Variable v else Number 0) else Number 1) ∷ neighbour_slots lettered (v + 1) bs) in
      elim (cases_Bool (b == 0)) [
        | inl t ↦ ap all t ∙ first-distinct lettered v (neighbour_slots lettered (v + 1) bs) (none-lower lettered v (v + 1) bs (omega arith)) later
        | inr t ↦ ap all t ∙ later
      ]

  -- where the file has variables, or is for two states
  module _ (lettered : Bool) (two : lettered ≡ false → states ≡ 2) where
    -- a slot with its cell
    abbrev admitted : SlotCell → Bool
    admitted t = admits (variables lettered) t.0 t.1

    slots-admit : (v : ℕ) (cells : List ℕ) → v + length cells ≤ 8 → AreBelow states cells → list_all admitted (zip (neighbour_slots lettered v (map liveness cells)) cells) ≡ true
    slots-admit v [] few all = refl
    slots-admit v (c ∷ cs) few all =
        let few_here : v < 8 = omega arith in
        let few_later : v + 1 + length cs ≤ 8 = omega arith in
        and_from (admits (variables lettered) (neighbour_slot lettered v (liveness c)) c) (list_all admitted (zip (neighbour_slots lettered (v + 1) (map liveness cs)) cs))
        (slot-admits lettered two v (liveness c) c few_here (liveness-low c) all.0 ∙ eq-eqb (liveness c) (liveness c) refl) (slots-admit (v + 1) cs few_later all.1)

    slots-only : (v : ℕ) (bits cells : List ℕ) → v + length bits ≤ 8 → length bits ≡ length cells → AreBits bits → AreBelow states cells
        → list_all admitted (zip (neighbour_slots lettered v bits) cells) ≡ true → map liveness cells ≡ bits
    slots-only v [] [] few same are all fit = refl
    slots-only v [] (c ∷ cs) few same are all fit = cc
    slots-only v (b ∷ bs) [] few same are all fit = cc
    slots-only v (b ∷ bs) (c ∷ cs) few same are all fit =
        let few_here : v < 8 = omega arith in
        let few_later : v + 1 + length bs ≤ 8 = omega arith in
        let same_later : length bs ≡ length cs = omega arith in
        let parts = and_parts (admits (variables lettered) (neighbour_slot lettered v b) c) (list_all admitted (zip (neighbour_slots lettered (v + 1) bs) cs)) fit in
        let test : (liveness c == b) ≡ true = sym (slot-admits lettered two v b c few_here are.0 all.0) ∙ parts.0 in
        let equal : liveness c ≡ b = grind (arith, nat_tests) in
        ap (λ x. x ∷ map liveness cs) equal ∙ ap (λ l. b ∷ l) (slots-only (v + 1) bs cs few_later same_later are.1 all.1 parts.1)

    -- ---- one transition

    -- the slots of a transition with the cells that they take
    abbrev taken : List ℕ → ℕ → List Slot → List SlotCell
    taken nine centre ring = zip (Number centre ∷ ring) (inputs_of nine)

    abbrev fits_nine : List ℕ → ℕ → List Slot → Bool
    fits_nine nine centre ring = fits (variables lettered) (taken nine centre ring)

    other-centre : (nine : List ℕ) (centre : ℕ) (ring : List Slot) → (slice_index nine 4 == centre) ≡ false → fits_nine nine centre ring ≡ false
    other-centre nine centre ring e =
        let all = taken nine centre ring in
        ap (λ v. (v && true) && list_all (λ (t : SlotCell). admits (variables lettered) t.0 t.1 && take_one_cell all t.0 t.1) (zip ring (ring_of nine))) e

    live-fits : (nine m : List ℕ) → AreBelow states (ring_of nine) → slice_index nine 4 ≡ slice_index m 4 → map liveness (ring_of nine) ≡ ring_of m → fits_nine nine (slice_index m 4) (neighbour_slots lettered 0 (ring_of m)) ≡ true
    live-fits nine m below centre same =
        let slots = Number (slice_index m 4) ∷ neighbour_slots lettered 0 (ring_of m) in
        let all = taken nine (slice_index m 4) (neighbour_slots lettered 0 (ring_of m)) in
        let test : (slice_index nine 4 == slice_index m 4) ≡ true = grind (arith, nat_tests) in
        let ring = subst (λ bits. list_all admitted (zip (neighbour_slots lettered 0 bits) (ring_of nine)) ≡ true) same (slots-admit 0 (ring_of nine) (lit≤ tt) below) in
        both-tests admitted (λ (t : SlotCell). take_one_cell all t.0 t.1) all (and_from (slice_index nine 4 == slice_index m 4) (list_all admitted (zip (neighbour_slots lettered 0 (ring_of m)) (ring_of nine))) test ring)
        (distinct-take slots (inputs_of nine) (distinct-slots lettered 0 (ring_of m)))

    live-only : (nine m : List ℕ) → AreBelow states (ring_of nine) → AreBits (ring_of m) → fits_nine nine (slice_index m 4) (neighbour_slots lettered 0 (ring_of m)) ≡ true
        → (slice_index nine 4 ≡ slice_index m 4) × (map liveness (ring_of nine) ≡ ring_of m)
    live-only nine m below are fit =
        let all = taken nine (slice_index m 4) (neighbour_slots lettered 0 (ring_of m)) in
        let parts = and_parts (slice_index nine 4 == slice_index m 4) (list_all admitted (zip (neighbour_slots lettered 0 (ring_of m)) (ring_of nine))) (first-test admitted (λ (t : SlotCell). take_one_cell all t.0 t.1) all fit) in
        let equal : slice_index nine 4 ≡ slice_index m 4 = let t = parts.0 in grind (arith, nat_tests) in
        (equal, slots-only 0 (ring_of m) (ring_of nine) (lit≤ tt) refl are below parts.1)

    dying-fits : lettered ≡ true → (nine : List ℕ) (state : ℕ) → AreBelow states (ring_of nine) → (slice_index nine 4 == state) ≡ true → fits_nine nine state (map Variable (range_with_len 8 8)) ≡ true
    dying-fits is nine state below test =
        let any = subst (λ v. list_all (λ (t : SlotCell). admits (variables v) t.0 t.1) (zip (map Variable (range_with_len 8 8)) (ring_of nine)) ≡ true) (sym is) (any-slots 8 8 (ring_of nine) (lit≤ tt) (lit≤ tt) below) in
        let all = taken nine state (map Variable (range_with_len 8 8)) in
        both-tests admitted (λ (t : SlotCell). take_one_cell all t.0 t.1) all
        (and_from (slice_index nine 4 == state) (list_all admitted (zip (map Variable (range_with_len 8 8)) (ring_of nine))) test any)
        (distinct-take (Number state ∷ map Variable (range_with_len 8 8)) (inputs_of nine) refl)

    -- ---- all transitions

    -- under a rule that goes by which neighbours are live, and under which dying cells age
    module _ (next : List ℕ → ℕ) (nine : List ℕ) (below : AreBelow states (inputs_of nine)) (shown_is : next (shown nine) ≡ next nine)
        (dying_is : 2 ≤ slice_index nine 4 → next nine ≡ older states (slice_index nine 4)) where
      -- what the transitions of `count` dying states give, starting at `from`
      abbrev dying_from : ℕ → ℕ → ℕ
      dying_from from count = next_by Moore (variables lettered) (orders Moore Identity) nine (map written_transition (map (dying_written states) (range_with_len from count)))

      -- what those of these neighbourhoods and then those of all dying states give
      abbrev live_then_dying : List (List ℕ) → ℕ
      live_then_dying ms = next_by Moore (variables lettered) (orders Moore Identity) nine (map written_transition (map (λ m. live_written lettered m (next m)) ms ++ map (dying_written states) (range_with_len 2 (states - 2))))

      dying-passed : (from count : ℕ) → slice_index nine 4 < from → dying_from from count ≡ slice_index nine 4
      dying-passed from zero h = refl
      dying-passed from (suc count) h =
          let other : (slice_index nine 4 == from) ≡ false = grind (arith, nat_tests) in
          ap (λ v. unwrap_or (if v then Some (older states from) else None) (dying_from (from + 1) count)) (other-centre nine from (map Variable (range_with_len 8 8)) other) ∙ dying-passed (from + 1) count (omega arith)

      dying-found : lettered ≡ true → (from count : ℕ) → from ≤ slice_index nine 4 → slice_index nine 4 < from + count → dying_from from count ≡ older states (slice_index nine 4)
      dying-found is from zero lower upper = absurd (omega arith)
      dying-found is from (suc count) lower upper = elim (cases_Bool (slice_index nine 4 == from)) [
        | inl t ↦
            let same : from ≡ slice_index nine 4 = grind (arith, nat_tests) in
            ap (λ v. unwrap_or (if v then Some (older states from) else None) (dying_from (from + 1) count)) (dying-fits is nine from below.1 t) ∙ ap (older states) same
        | inr t ↦
            let more : from + 1 ≤ slice_index nine 4 = grind (arith, nat_tests) in
            ap (λ v. unwrap_or (if v then Some (older states from) else None) (dying_from (from + 1) count)) (other-centre nine from (map Variable (range_with_len 8 8)) t) ∙ dying-found is (from + 1) count more (omega arith)
      ]

      first : (m : List ℕ) (ms : List (List ℕ)) → IsOfBits m → ((m ≡ shown nine) × (live_then_dying (m ∷ ms) ≡ next (shown nine))) ⊎ ((m ≡ shown nine → ⊥) × (live_then_dying (m ∷ ms) ≡ live_then_dying ms))
      first m ms is = elim (cases_Bool (fits_nine nine (slice_index m 4) (neighbour_slots lettered 0 (ring_of m)))) [
        | inl t ↦
            let only = live-only nine m below.1 is.1.1 t in
            let same : inputs_of m ≡ inputs_of (shown nine) = ap (λ c. c ∷ ring_of m) (sym only.0) ∙ ap (λ l. slice_index nine 4 ∷ l) (sym only.1) in
            let equal = inputs-tell m (shown nine) is.0 refl same in
            inl (equal, ap (λ v. unwrap_or (if v then Some (next m) else None) (live_then_dying ms)) t ∙ ap next equal)
        | inr t ↦ inr (
          λ same. false≢true (sym t ∙ live-fits nine m below.1 (ap (λ l. slice_index l 4) (sym same)) (ap ring_of (sym same))),
          ap (λ v. unwrap_or (if v then Some (next m) else None) (live_then_dying ms)) t,
        )
      ]

      all-passed : (ms : List (List ℕ)) → 2 ≤ slice_index nine 4 → AllByRecursion IsOfBits ms → live_then_dying ms ≡ live_then_dying []
      all-passed [] dying all = refl
      all-passed (m ∷ ms) dying all =
          let bit : slice_index m 4 < 2 = all.0.1.0 in
          let other : (slice_index nine 4 == slice_index m 4) ≡ false = grind (arith, nat_tests) in
          ap (λ v. unwrap_or (if v then Some (next m) else None) (live_then_dying ms)) (other-centre nine (slice_index m 4) (neighbour_slots lettered 0 (ring_of m)) other) ∙ all-passed ms dying all.1

      shown-bits : slice_index nine 4 < 2 → All (λ s. s < 2) (shown nine)
      shown-bits bit = All-from_recursion (λ s. s < 2) (shown nine) (
        liveness-low (slice_index nine 0),
        (
          liveness-low (slice_index nine 1),
          (
            liveness-low (slice_index nine 2),
            (
              liveness-low (slice_index nine 3),
              (
                bit,
                (liveness-low (slice_index nine 5), (liveness-low (slice_index nine 6), (liveness-low (slice_index nine 7), (liveness-low (slice_index nine 8), tt)))),
              ),
            ),
          ),
        ),
      )

      pub next-written : live_then_dying (filter (changes next) (neighbourhoods 512)) ≡ next nine
      next-written = elim (cases_Bool (nat_le 2 (slice_index nine 4))) [
        | inl t ↦
            let dying : 2 ≤ slice_index nine 4 = grind (arith, nat_tests) in
            all-passed (filter (changes next) (neighbourhoods 512)) dying (kept IsOfBits (changes next) (neighbourhoods 512) (all-of-bits 512))
            ∙ elim (cases_Bool lettered) [
              | inl is ↦ dying-found is 2 (states - 2) dying (omega (arith, below.0))
              | inr none ↦ absurd (omega (arith, two none, below.0))
            ]
            ∙ sym (dying_is dying)
        | inr t ↦
            let bit : slice_index nine 4 < 2 = grind (arith, nat_tests) in
            next-given next (shown nine) IsOfBits live_then_dying (dying-passed 2 (states - 2) bit) first (neighbourhoods 512) (all-of-bits 512) (inr (all-held (shown nine) refl (shown-bits bit))) ∙ shown_is
      ]

-- ---- the rules of the family

module _ (survival birth : Counts) (states : ℕ) (nine : List ℕ) where
  counts-shown : length nine ≡ 9 → live_count (shown nine) ≡ live_count nine
  counts-shown long =
      (λ t. liveness-twice (slice_index nine 0) t + liveness-twice (slice_index nine 1) t + liveness-twice (slice_index nine 2) t + liveness-twice (slice_index nine 3) t
      + liveness-twice (slice_index nine 5) t + liveness-twice (slice_index nine 6) t + liveness-twice (slice_index nine 7) t + liveness-twice (slice_index nine 8) t)
      ∙ sym (ap live_count (spread nine long))

  pub next-shown : length nine ≡ 9 → generations_next survival birth states (shown nine) ≡ generations_next survival birth states nine
  next-shown long = ap (generations_next_state survival birth states (slice_index nine 4)) (counts-shown long)

  pub dying-older : 2 ≤ slice_index nine 4 → generations_next survival birth states nine ≡ older states (slice_index nine 4)
  dying-older dying =
      let not_dead : (slice_index nine 4 == 0) ≡ false = grind (arith, nat_tests) in
      let not_live : (slice_index nine 4 == 1) ≡ false = grind (arith, nat_tests) in
      ap (λ v. if v then (if is_count birth (live_count nine) then 1 else 0) else (if (slice_index nine 4 == 1) && is_count survival (live_count nine) then 1 else older states (slice_index nine 4))) not_dead
      ∙ ap (λ v. if v && is_count survival (live_count nine) then 1 else older states (slice_index nine 4)) not_live
