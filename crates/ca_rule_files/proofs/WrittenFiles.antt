-- A file that is written has the table's name and states, and the next cells of its rule.
use Rattle.std.proofs.Common.{◌≡◌, ℕ, zero, suc, ◌+◌, ◌-◌, ◌<◌, ◌≤◌, List, [], ◌∷◌, ◌++◌, length, map, filter, Bool, true, false, ◌==◌, replicate, decimal, refl, sym, ap, subst, ◌∙◌, inl, inr, arith, All, zero-add, append_assoc, lit<, lit≤, if◌then◌else◌, slice_index, true≢false}
use Rattle.std.specs.List.{range_with_len, AllByRecursion}
use Rattle.std.proofs.lemmas.Bool.{cases_Bool}
use Rattle.std.proofs.lemmas.Bool.Decides.{nat_tests}
use Rattle.std.proofs.lemmas.Fmt.{decimal_digit}
use Rattle.std.proofs.lemmas.List.{map-append, append-nil}
use Rattle.std.proofs.lemmas.List.Elements.{All-replicate}
use Rattle.std.proofs.lemmas.List.FromFn.{map-range_with_len_more}
use Rattle.ca_plane.specs.Prelude.{liveness, older, text_of, Puts}
use Rattle.ca_rule.specs.Prelude.{is_count, generations_next, TableRule, table_next, IsTable, table_from}
use Rattle.ca_rule.specs.declared.{counts.Counts.Counts, table.slot.Slot.Slot}
use Rattle.ca_rule.specs.declared.table.slot.Slot.TheVariants.{Number, Variable}
use Rattle.ca_rule.proofs.GenerationsAlike.{liveness-below}
use Rattle.ca_rule_files.specs.Prelude.{IsTableName, WritesRule}
use Rattle.ca_rule_files.specs.RuleFiles.{generations_bytes}
use Rattle.ca_rule_files.specs.WrittenTables.{head_lines, ring_of, neighbour_byte, neighbour_bytes, transition_line, transition_lines, neighbourhoods, changes}
use Rattle.ca_rule_files.specs.GenerationsTables.{listed_states, variable_line, variable_lines, dying_line, dying_lines}
use Rattle.ca_rule_files.proofs.PutTexts.{text-both, put-more, all-append}
use Rattle.ca_rule_files.proofs.WrittenTables.{joined, joined-more, slot_text, Written, written_line, written_transition, settings_of, said_of, IsWritable, IsGood}
use Rattle.ca_rule_files.proofs.WrittenNext.{inputs_of, spread, IsOfBits, all-of-bits}
use Rattle.ca_rule_files.proofs.TransitionLines.{kept}
use Rattle.ca_rule_files.proofs.VariableLines.{said_variables, variables_of, letter-writable, is-written-table}
use Rattle.ca_rule_files.proofs.TransitionNext.{AreBelow, neighbour_slot, neighbour_slots, shown, live_written, dying_written, next-written, next-shown, dying-older}

-- ---- the lines of transitions are those of their slots

dead-text : (lettered : Bool) (v : ℕ) → slot_text (if lettered then Variable v else Number 0) ≡ (if lettered then 97 + v else 48) ∷ []
dead-text true v = refl
dead-text false v = decimal_digit 0 (omega arith)

neighbour-text : (lettered : Bool) (v c : ℕ) → slot_text (neighbour_slot lettered v c) ≡ neighbour_byte lettered (97 + v) c ∷ []
neighbour-text lettered v c =
    let slot = λ (x : Bool). slot_text (if x then (if lettered then Variable v else Number 0) else Number 1) in
    let byte = λ (x : Bool). (if x then (if lettered then 97 + v else 48) else 49) ∷ [] in
    elim (cases_Bool (c == 0)) [
      | inl t ↦ ap slot t ∙ dead-text lettered v ∙ ap byte (sym t)
      | inr t ↦ ap slot t ∙ decimal_digit 1 (omega arith) ∙ ap byte (sym t)
    ]

ring-text : (lettered : Bool) (v : ℕ) (cells last : List ℕ) → joined (map slot_text (neighbour_slots lettered v cells)) last ≡ neighbour_bytes lettered (97 + v) cells ++ last
ring-text lettered v [] last = refl
ring-text lettered v (c ∷ cs) last =
    let letter : 97 + (v + 1) ≡ 97 + v + 1 = omega arith in
    joined-more (slot_text (neighbour_slot lettered v c)) (map slot_text (neighbour_slots lettered (v + 1) cs)) last
    ∙ ap (λ f. f ++ 44 ∷ joined (map slot_text (neighbour_slots lettered (v + 1) cs)) last) (neighbour-text lettered v c)
    ∙ ap (λ l. neighbour_byte lettered (97 + v) c ∷ 44 ∷ l) (ring-text lettered (v + 1) cs last ∙ ap (λ b. neighbour_bytes lettered b cs ++ last) letter)

live-text : (lettered : Bool) (m : List ℕ) (result : ℕ) → written_line (live_written lettered m result) ≡ transition_line lettered m result
live-text lettered m result =
    joined-more (decimal (slice_index m 4)) (map slot_text (neighbour_slots lettered 0 (ring_of m))) (decimal result)
    ∙ ap (λ l. decimal (slice_index m 4) ++ 44 ∷ l) (ring-text lettered 0 (ring_of m) (decimal result))

live-texts : (lettered : Bool) (next : List ℕ → ℕ) (ms : List (List ℕ)) → map written_line (map (λ m. live_written lettered m (next m)) ms) ≡ map (λ m. transition_line lettered m (next m)) ms
live-texts lettered next [] = refl
live-texts lettered next (m ∷ ms) = ap (λ l. l ∷ map written_line (map (λ m. live_written lettered m (next m)) ms)) (live-text lettered m (next m)) ∙ ap (λ ls. transition_line lettered m (next m) ∷ ls) (live-texts lettered next ms)

dying-text : (states state : ℕ) → written_line (dying_written states state) ≡ dying_line states state
dying-text states state = joined-more (decimal state) (map slot_text (map Variable (range_with_len 8 8))) (decimal (older states state))

dying-texts : (states : ℕ) (ss : List ℕ) → map written_line (map (dying_written states) ss) ≡ map (dying_line states) ss
dying-texts states [] = refl
dying-texts states (s ∷ ss) = ap (λ l. l ∷ map written_line (map (dying_written states) ss)) (dying-text states s) ∙ ap (λ ls. dying_line states s ∷ ls) (dying-texts states ss)

-- ---- the transitions can be written

older-low : (states state : ℕ) → 2 ≤ states → older states state < states
older-low states state low = grind (arith, nat_tests)

module _ (states : ℕ) (low : 2 ≤ states) (high : states ≤ 256) where
  -- in a file with variables or without
  abbrev CanStand : Bool → Slot → Type 0
  CanStand lettered = IsWritable states low high (said_variables states low high lettered)

  abbrev IsGoodHere : Bool → Written → Type 0
  IsGoodHere lettered = IsGood states low high (said_variables states low high lettered)

  dead-good : (lettered : Bool) (v : ℕ) → v < 16 → CanStand lettered (if lettered then Variable v else Number 0)
  dead-good true v few = letter-writable states low high v few
  dead-good false v few = omega arith

  slots-good : (lettered : Bool) (v : ℕ) (cells : List ℕ) → v + length cells ≤ 16 → AllByRecursion (CanStand lettered) (neighbour_slots lettered v cells)
  slots-good lettered v [] few = tt
  slots-good lettered v (c ∷ cs) few =
      let here : v < 16 = omega arith in
      let later : v + 1 + length cs ≤ 16 = omega arith in
      let one : 1 < states = omega arith in (
        elim (cases_Bool (c == 0)) [
          | inl t ↦ subst (λ x. CanStand lettered (if x then (if lettered then Variable v else Number 0) else Number 1)) (sym t) (dead-good lettered v here)
          | inr t ↦ subst (λ x. CanStand lettered (if x then (if lettered then Variable v else Number 0) else Number 1)) (sym t) one
        ],
        slots-good lettered (v + 1) cs later,
      )

  any-good : (from count : ℕ) → from + count ≤ 16 → AllByRecursion (CanStand true) (map Variable (range_with_len from count))
  any-good from zero few = tt
  any-good from (suc count) few = (letter-writable states low high from (omega arith), any-good (from + 1) count (omega arith))

  all-live-good : (lettered : Bool) (next : List ℕ → ℕ) (ms : List (List ℕ)) → AllByRecursion (λ m. IsOfBits m × (next m < states)) ms → AllByRecursion (IsGoodHere lettered) (map (λ m. live_written lettered m (next m)) ms)
  all-live-good lettered next [] all = tt
  all-live-good lettered next (m ∷ ms) all =
      let bit = all.0.0.1.0 in
      (record { centre_low = omega (arith, bit); slots = slots-good lettered 0 (ring_of m) (lit≤ tt); eight = refl; result_low = all.0.1 }, all-live-good lettered next ms all.1)

  all-dying-good : (from count : ℕ) → from + count ≤ states → AllByRecursion (IsGoodHere true) (map (dying_written states) (range_with_len from count))
  all-dying-good from zero few = tt
  all-dying-good from (suc count) few = (
    record { centre_low = omega arith; slots = any-good 8 8 (lit≤ tt); eight = refl; result_low = older-low states from low },
    all-dying-good (from + 1) count (omega arith),
  )

  dying-good : (lettered : Bool) → (lettered ≡ false → states ≡ 2) → AllByRecursion (IsGoodHere lettered) (map (dying_written states) (range_with_len 2 (states - 2)))
  dying-good true two = all-dying-good 2 (states - 2) (omega arith)
  dying-good false two = subst (λ n. AllByRecursion (IsGoodHere false) (map (dying_written states) (range_with_len 2 (n - 2)))) (sym (two refl)) tt

-- ---- the table

-- a rule that a file with variables, or for two states, can write: it goes by which neighbours are live, and dying cells age
pub record IsFileRule (lettered : Bool) (states : ℕ) (next : List ℕ → ℕ) : Type 0 where
  pub two : lettered ≡ false → states ≡ 2
  pub closed : (nine : List ℕ) → length nine ≡ 9 → All (λ s. s < states) nine → next nine < states
  pub quiet : next (replicate 9 0) ≡ 0
  pub shown_is : (nine : List ℕ) → length nine ≡ 9 → All (λ s. s < states) nine → next (shown nine) ≡ next nine
  pub dying_is : (nine : List ℕ) → 2 ≤ slice_index nine 4 → slice_index nine 4 < states → next nine ≡ older states (slice_index nine 4)

module _ (states : ℕ) (low : 2 ≤ states) (high : states ≤ 256) (lettered : Bool) (next : List ℕ → ℕ) (rule : IsFileRule lettered states next) where
  abbrev changed : List (List ℕ)
  changed = filter (changes next) (neighbourhoods 512)

  -- the transitions that are written
  abbrev writtens : List Written
  writtens = map (λ m. live_written lettered m (next m)) changed ++ map (dying_written states) (range_with_len 2 (states - 2))

  inputs-closed : (ms : List (List ℕ)) → AllByRecursion IsOfBits ms → AllByRecursion (λ m. IsOfBits m × (next m < states)) ms
  inputs-closed [] all = tt
  inputs-closed (m ∷ ms) all =
      let bits = all.0.2 in
      ((all.0, rule.closed m all.0.0 (λ k d within. let bit = bits k d within in omega arith)), inputs-closed ms all.1)

  all-good : AllByRecursion (IsGoodHere states low high lettered) writtens
  all-good =
      all-append (IsGoodHere states low high lettered) (map (λ m. live_written lettered m (next m)) changed) (map (dying_written states) (range_with_len 2 (states - 2)))
      (all-live-good states low high lettered next changed (inputs-closed changed (kept IsOfBits (changes next) (neighbourhoods 512) (all-of-bits 512)))) (dying-good states low high lettered rule.two)

  lines-written : map written_line writtens ≡ transition_lines lettered next 512 ++ dying_lines states (states - 2)
  lines-written =
      map-append written_line (map (λ m. live_written lettered m (next m)) changed) (map (dying_written states) (range_with_len 2 (states - 2)))
      ∙ ap (λ ls. ls ++ map written_line (map (dying_written states) (range_with_len 2 (states - 2)))) (live-texts lettered next changed)
      ∙ ap (λ ls. transition_lines lettered next 512 ++ ls) (dying-texts states (range_with_len 2 (states - 2)))

  -- the table that is written under a name
  abbrev written : List ℕ → TableRule
  written name = table_from name (settings_of states) (said_of (said_variables states low high lettered) (map written_transition writtens))

  inputs-below : (nine : List ℕ) → length nine ≡ 9 → All (λ s. s < states) nine → AreBelow states (inputs_of nine)
  inputs-below nine long all =
      let cell : (k : ℕ) → k < 9 → slice_index nine k < states = λ k h. all k 0 (omega arith) in
      (cell 4 (lit< tt), (cell 1 (lit< tt), (cell 2 (lit< tt), (cell 5 (lit< tt), (cell 8 (lit< tt), (cell 7 (lit< tt), (cell 6 (lit< tt), (cell 3 (lit< tt), (cell 0 (lit< tt), tt)))))))))

  goes-on : (name nine : List ℕ) → length nine ≡ 9 → All (λ s. s < states) nine → table_next (written name) nine ≡ next nine
  goes-on name nine long all =
      let below = inputs-below nine long all in
      next-written states low high lettered rule.two next nine below (rule.shown_is nine long all) (λ dying. rule.dying_is nine dying below.0)

  nine-zeros : All (λ s. s < states) (replicate 9 0)
  nine-zeros = All-replicate (λ s. s < states) 9 0 (omega arith)

  abbrev whole_text : List ℕ → List ℕ
  whole_text name = ((text_of (head_lines name states) ++ text_of (variables_of states low high lettered)) ++ text_of (transition_lines lettered next 512)) ++ text_of (dying_lines states (states - 2))

  text-is : (name : List ℕ) → whole_text name ≡ text_of (head_lines name states ++ (variables_of states low high lettered ++ map written_line writtens))
  text-is name =
      let head = head_lines name states in
      let vars = variables_of states low high lettered in
      let live = transition_lines lettered next 512 in
      let dying = dying_lines states (states - 2) in
      append_assoc (text_of head ++ text_of vars) (text_of live) (text_of dying)
      ∙ append_assoc (text_of head) (text_of vars) (text_of live ++ text_of dying)
      ∙ ap (λ l. text_of head ++ (text_of vars ++ l)) (text-both live dying ∙ ap text_of (sym lines-written))
      ∙ ap (λ l. text_of head ++ l) (text-both vars (map written_line writtens))
      ∙ text-both head (vars ++ map written_line writtens)

  writes-file : (name file : List ℕ) → IsTableName name → file ≡ whole_text name → WritesRule name states next file
  writes-file name file is e = record {
    table = written name;
    is_table = subst (λ f. IsTable f (written name)) (sym (e ∙ text-is name)) (is-written-table states low high lettered name writtens is all-good);
    sound = record {
      low = low;
      high = high;
      closed = λ nine long all. subst (λ s. s < states) (sym (goes-on name nine long all)) (rule.closed nine long all);
      quiet = goes-on name (replicate 9 0) refl nine-zeros ∙ rule.quiet;
    };
    named = refl;
    states_are = refl;
    next_is = goes-on name;
  }

-- ---- the rules of the family

pub writes : (survival birth : Counts) (states : ℕ) (low : 2 ≤ states) (high : states ≤ 256) → is_count birth 0 ≡ false → (name file : List ℕ) → IsTableName name
    → file ≡ ((text_of (head_lines name states) ++ text_of (variable_lines states 16)) ++ text_of (transition_lines true (generations_next survival birth states) 512)) ++ text_of (dying_lines states (states - 2))
    → WritesRule name states (generations_next survival birth states) file
writes survival birth states low high stays_empty = writes-file states low high true (generations_next survival birth states) (record {
  two = λ e. absurd (true≢false e);
  closed = λ nine long all. grind (arith, nat_tests);
  quiet = ap (λ v. if v then 1 else 0) stays_empty;
  shown_is = λ nine long all. next-shown survival birth states nine long;
  dying_is = λ nine dying below. dying-older survival birth states nine dying;
})

-- ---- rules of two states

-- a rule of two states that leaves the empty plane empty
pub record IsOfTwoStates (next : List ℕ → ℕ) : Type 0 where
  pub closed : (nine : List ℕ) → length nine ≡ 9 → All (λ s. s < 2) nine → next nine < 2
  pub quiet : next (replicate 9 0) ≡ 0

two-shown : (nine : List ℕ) → length nine ≡ 9 → All (λ s. s < 2) nine → shown nine ≡ nine
two-shown nine long bits =
    let live : (k : ℕ) → k < 9 → liveness (slice_index nine k) ≡ slice_index nine k = λ k low. liveness-below (slice_index nine k) (bits k 0 (omega arith)) in
    (λ t. live 0 (lit< tt) t ∷ live 1 (lit< tt) t ∷ live 2 (lit< tt) t ∷ live 3 (lit< tt) t ∷ slice_index nine 4 ∷ live 5 (lit< tt) t ∷ live 6 (lit< tt) t ∷ live 7 (lit< tt) t ∷ live 8 (lit< tt) t ∷ [])
    ∙ sym (spread nine long)

pub writes-two : (next : List ℕ → ℕ) → IsOfTwoStates next → (name file : List ℕ) → IsTableName name → file ≡ text_of (head_lines name 2) ++ text_of (transition_lines false next 512) → WritesRule name 2 next file
writes-two next rule name file is e =
    let head = text_of (head_lines name 2) in
    let live = text_of (transition_lines false next 512) in
    writes-file 2 (lit≤ tt) (lit≤ tt) false next (record {
      two = λ none. refl;
      closed = rule.closed;
      quiet = rule.quiet;
      shown_is = λ nine long bits. ap next (two-shown nine long bits);
      dying_is = λ nine dying below. absurd (omega arith);
    }) name file is (e ∙ ap (λ l. l ++ live) (sym (append-nil head)) ∙ sym (append-nil ((head ++ []) ++ live)))

-- ---- one line more

pub variable-more : (states count : ℕ) (old now new : List ℕ) → Puts old now (text_of (variable_lines states count)) → Puts now new (variable_line states count ++ 10 ∷ []) → Puts old new (text_of (variable_lines states (count + 1)))
variable-more states count old now new = put-more old now new (variable_lines states count) (variable_lines states (count + 1)) (variable_line states count) (map-range_with_len_more (variable_line states) 0 count count (zero-add count))

pub dying-more : (states state : ℕ) (old now new : List ℕ) → 2 ≤ state → Puts old now (text_of (dying_lines states (state - 2))) → Puts now new (dying_line states state ++ 10 ∷ []) → Puts old new (text_of (dying_lines states (state + 1 - 2)))
dying-more states state old now new from =
    let one : state - 2 + 1 ≡ state + 1 - 2 = omega arith in
    put-more old now new (dying_lines states (state - 2)) (dying_lines states (state + 1 - 2)) (dying_line states state)
    (ap (dying_lines states) (sym one) ∙ map-range_with_len_more (dying_line states) 2 (state - 2) state (omega arith))

listed-more : (from count j : ℕ) → from + count ≡ j → listed_states from (suc count) ≡ listed_states from count ++ (decimal j ++ 44 ∷ [])
listed-more from zero j e =
    let same : from ≡ j = omega arith in
    append-nil (decimal from ++ 44 ∷ []) ∙ ap (λ k. decimal k ++ 44 ∷ []) same
listed-more from (suc count) j e =
    let moved : from + 1 + count ≡ j = omega arith in
    ap (λ l. (decimal from ++ 44 ∷ []) ++ l) (listed-more (from + 1) count j moved)
    ∙ sym (append_assoc (decimal from ++ 44 ∷ []) (listed_states (from + 1) count) (decimal j ++ 44 ∷ []))

pub state-more : (from state : ℕ) (old now new : List ℕ) → from ≤ state → Puts old now (listed_states from (state - from)) → Puts now new (decimal state ++ 44 ∷ []) → Puts old new (listed_states from (state + 1 - from))
state-more from state old now new low before put =
    let one : suc (state - from) ≡ state + 1 - from = omega arith in
    let sum : from + (state - from) ≡ state = omega arith in
    record {
      whole = put.whole ∙ ap (λ l. l ++ (decimal state ++ 44 ∷ [])) before.whole ∙ append_assoc old (listed_states from (state - from)) (decimal state ++ 44 ∷ [])
          ∙ ap (λ l. old ++ l) (sym (ap (listed_states from) (sym one) ∙ listed-more from (state - from) state sum));
    }

-- the four parts of the file of a Generations rule, put one after another, are its bytes
pub parts-put : (name : List ℕ) (states : ℕ) (next : List ℕ → ℕ) (none head variables live file : List ℕ) → none ≡ [] → Puts none head (text_of (head_lines name states))
    → Puts head variables (text_of (variable_lines states 16)) → Puts variables live (text_of (transition_lines true next 512))
    → Puts live file (text_of (dying_lines states (states - 2))) → file ≡ generations_bytes name states next
parts-put name states next none head variables live file empty to_head to_variables to_live to_dying =
    let first = to_head.whole ∙ ap (λ l. l ++ text_of (head_lines name states)) empty in
    let second = to_variables.whole ∙ ap (λ l. l ++ text_of (variable_lines states 16)) first in
    let third = to_live.whole ∙ ap (λ l. l ++ text_of (transition_lines true next 512)) second in
    to_dying.whole ∙ ap (λ l. l ++ text_of (dying_lines states (states - 2))) third
