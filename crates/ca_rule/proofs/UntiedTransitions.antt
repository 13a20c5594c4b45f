-- A transition without a tie gives a neighbourhood one state, under all orders under which it fits.
use Rattle.std.proofs.Common.{◌≡◌, ℕ, ◌+◌, ◌<◌, ◌≤◌, ◌≢◌, List, [], ◌∷◌, ◌++◌, length, nat_lt, nat_le, map, zip, Bool, true, false, not, ◌&&◌, ◌||◌, ◌==◌, slice_index, refl, sym, ap, ◌∙◌, subst, arith, inl, inr, eq-eqb, length-append}
use Rattle.std.specs.List.{All, AllByRecursion, list_all, list_any, count_by, range_with_len}
use Rattle.std.proofs.Math.ListN.{get_or-eq_default}
use Rattle.std.proofs.lemmas.List.{length-map}
use Rattle.std.proofs.lemmas.Bool.{cases_Bool, and_parts, false≢true}
use Rattle.std.proofs.lemmas.Bool.Decides.{nat_tests}
use Rattle.ca_rule.specs.declared.table.{slot.Slot.Slot, neighbourhood.Neighbourhood.Neighbourhood, neighbourhood.Symmetry.Symmetry}
use Rattle.ca_rule.specs.declared.table.slot.Slot.TheVariants.{Number, Variable}
use Rattle.ca_rule.specs.declared.table.neighbourhood.Neighbourhood.TheVariants.{VonNeumann, Moore, Hexagonal, OneDimensional}
use Rattle.ca_rule.specs.Prelude.{orders, places, ring, ring_size, forward_order, States, SlotCell, Transition, TableRule, admits, is_variable, take_one_cell, taken_cell, fits, result_state, cells_in_order, is_exchanged, exchanges_two, may_change, may_fit_both, two_may_fit, orders_may_fit, may_tie, has_ties, GivesOneState, IsTable, Settings, SaidStatements, StandsFor, LinesSay, NumberedLine, no_statements}
use Rattle.ca_rule.proofs.PermutedLists.{length-alike, count-cons, each-more}
use Rattle.ca_rule.proofs.SlotFits.{fits_halved}
use Rattle.ca_rule.proofs.SymmetryPlaces.{arranged-at, fit-unpermuted}
use Rattle.ca_rule.proofs.SortedOrders.{Positions, order-positions}
use Rattle.ca_rule.proofs.TableOrFault.{zip-length}
use Rattle.ca_rule.proofs.ExchangedStates.{any-range, count-two, taken-all, taken-admitted, taken-small, taken-none, exchanged-for}

module _ {X : Type 0} where
  each-both : (P Q : X → Type 0) (xs : List X) → AllByRecursion P xs → AllByRecursion Q xs → AllByRecursion (λ x. P x × Q x) xs
  each-both P Q [] p q = tt
  each-both P Q (x ∷ xs) p q = ((p.0, q.0), each-both P Q xs p.1 q.1)

  none-passes : (f : X → Bool) (xs : List X) → list_any f xs ≡ false → AllByRecursion (λ x. f x ≡ false) xs
  none-passes f [] e = tt
  none-passes f (x ∷ xs) e =
      elim (cases_Bool (f x)) [
        | inl h ↦ let k : true ≡ false = rw h at e in absurd (false≢true (sym k))
        | inr h ↦ (h, none-passes f xs (rw h at e))
      ]

module _ {X Y : Type 0} where
  none-passes_map : (f : Y → Bool) (k : X → Y) (xs : List X) → list_any f (map k xs) ≡ false → AllByRecursion (λ x. f (k x) ≡ false) xs
  none-passes_map f k [] e = tt
  none-passes_map f k (x ∷ xs) e =
      elim (cases_Bool (f (k x))) [
        | inl h ↦ let j : true ≡ false = rw h at e in absurd (false≢true (sym j))
        | inr h ↦ (h, none-passes_map f k xs (rw h at e))
      ]

counted-map : (f : ℕ → ℕ) (p : ℕ → Bool) (xs : List ℕ) → count_by p (map f xs) ≡ count_by (λ x. p (f x)) xs
counted-map f p [] = refl
counted-map f p (x ∷ xs) = omega (arith, count-cons p (f x) (map f xs), counted-map f p xs, count-cons (λ y. p (f y)) x xs)

each-small : (f : ℕ → ℕ) (m : ℕ) → ((p : ℕ) → f p < m) → (xs : List ℕ) → AllByRecursion (λ c. c < m) (map f xs)
each-small f m low [] = tt
each-small f m low (x ∷ xs) = (low x, each-small f m low xs)

-- cells at any places are states
index-small : (m : ℕ) (nine : List ℕ) → 0 < m → All (λ s. s < m) nine → (p : ℕ) → slice_index nine p < m
index-small m nine some all p =
    elim (cases_Bool (nat_lt p (length nine))) [
      | inl e ↦ let within : p < length nine = grind (arith, nat_tests) in all p 0 within
      | inr e ↦ let past : length nine ≤ p = grind (arith, nat_tests) in subst (λ c. c < m) (sym (get_or-eq_default nine 0 past)) some
    ]

-- two orders, at the places of their cells
module _ (states : ℕ) (variables : List States) (nine : List ℕ) (v x y : ℕ) (apart : x ≢ y) (small : (p : ℕ) → slice_index nine p < states) where
  change : (s t : Slot) (p q : ℕ) → admits variables s (slice_index nine p) ≡ true → (not (is_variable v s) || (slice_index nine p == x)) ≡ true
      → admits variables t (slice_index nine q) ≡ true → (not (is_variable v t) || (slice_index nine q == y)) ≡ true → (not (p == q) || may_change states variables v s t) ≡ true
  change s t p q fit_s one_s fit_t one_t =
      elim (cases_Bool (p == q)) [
        | inr e ↦ rw e refl
        | inl e ↦ let same : q ≡ p = grind (arith, nat_tests) in
            let fit_both : (admits variables s (slice_index nine p) && admits variables t (slice_index nine p)) ≡ true
            = rw (fit_s, subst (λ k. admits variables t (slice_index nine k) ≡ true) same fit_t) refl in
            let common = any-range (λ c. admits variables s c && admits variables t c) (slice_index nine p) 0 states (omega arith) (omega (arith, small p)) fit_both in
            let one_there : (not (is_variable v t) || (slice_index nine p == y)) ≡ true = subst (λ k. (not (is_variable v t) || (slice_index nine k == y)) ≡ true) same one_t in
            rw (e, common) (elim (cases_Bool (is_variable v s)) [
              | inr f ↦ rw f refl
              | inl f ↦ elim (cases_Bool (is_variable v t)) [
                | inr g ↦ rw (f, g) refl
                | inl g ↦ let is_x : (slice_index nine p == x) ≡ true = rw f at one_s in
                    let is_y : (slice_index nine p == y) ≡ true = rw g at one_there in
                    let one : x ≡ y = grind (arith, nat_tests) in absurd (apart one)
              ]
            ])
      ]

  abbrev Admit_at : List Slot → List ℕ → Type 0
  Admit_at slots ps = list_all (λ (t : SlotCell). admits variables t.0 t.1) (zip slots (map (slice_index nine) ps)) ≡ true

  abbrev Take_at : ℕ → List Slot → List ℕ → Type 0
  Take_at c slots ps = list_all (λ (t : SlotCell). not (is_variable v t.0) || (t.1 == c)) (zip slots (map (slice_index nine) ps)) ≡ true

  change-each : (s : Slot) (p : ℕ) → admits variables s (slice_index nine p) ≡ true → (not (is_variable v s) || (slice_index nine p == x)) ≡ true
      → (slots : List Slot) (qs : List ℕ) → Admit_at slots qs → Take_at y slots qs → list_all (λ (b : SlotCell). not (p == b.1) || may_change states variables v s b.0) (zip slots qs) ≡ true
  change-each s p fit_s one_s [] qs fit one = refl
  change-each s p fit_s one_s (t ∷ ts) [] fit one = refl
  change-each s p fit_s one_s (t ∷ ts) (q ∷ qs) fit one =
      let f = and_parts (admits variables t (slice_index nine q)) (list_all (λ (t : SlotCell). admits variables t.0 t.1) (zip ts (map (slice_index nine) qs))) fit in
      let o = and_parts (not (is_variable v t) || (slice_index nine q == y)) (list_all (λ (t : SlotCell). not (is_variable v t.0) || (t.1 == y)) (zip ts (map (slice_index nine) qs))) one in
      rw (change s t p q fit_s one_s f.0 o.0) (change-each s p fit_s one_s ts qs f.1 o.1)

  pub fit-both : (slots others : List Slot) (ps qs : List ℕ) → Admit_at slots ps → Take_at x slots ps → Admit_at others qs → Take_at y others qs
      → may_fit_both states variables v (zip slots ps) (zip others qs) ≡ true
  fit-both [] others ps qs fit_s one_s fit_t one_t = refl
  fit-both (s ∷ ss) others [] qs fit_s one_s fit_t one_t = refl
  fit-both (s ∷ ss) others (p ∷ ps) qs fit_s one_s fit_t one_t =
      let f = and_parts (admits variables s (slice_index nine p)) (list_all (λ (t : SlotCell). admits variables t.0 t.1) (zip ss (map (slice_index nine) ps))) fit_s in
      let o = and_parts (not (is_variable v s) || (slice_index nine p == x)) (list_all (λ (t : SlotCell). not (is_variable v t.0) || (t.1 == x)) (zip ss (map (slice_index nine) ps))) one_s in
      rw (change-each s p f.0 o.0 others qs fit_t one_t) (fit-both ss others ps qs f.1 o.1 fit_t one_t)

-- what holds where slots fit, of a variable that is one of them: all its slots take one cell, which it admits
record Takes (variables : List States) (v : ℕ) (slots : List Slot) (cells : List ℕ) : Type 0 where
  admit : list_all (λ (t : SlotCell). admits variables t.0 t.1) (zip slots cells) ≡ true
  one : list_all (λ (t : SlotCell). not (is_variable v t.0) || (t.1 == taken_cell v (zip slots cells))) (zip slots cells) ≡ true
  has : admits variables (Variable v) (taken_cell v (zip slots cells)) ≡ true

takes-of : (variables : List States) (v : ℕ) (slots : List Slot) (cells : List ℕ) → length cells ≡ length slots → list_any (is_variable v) slots ≡ true
    → fits variables (zip slots cells) ≡ true → Takes variables v slots cells
takes-of variables v slots cells long some fit =
    let halves = and_parts (list_all (λ (t : SlotCell). admits variables t.0 t.1) (zip slots cells)) (list_all (λ (t : SlotCell). take_one_cell (zip slots cells) t.0 t.1) (zip slots cells))
    (sym (fits_halved variables (zip slots cells)) ∙ fit) in
    record {
      admit = halves.0;
      one = taken-all v (zip slots cells) slots cells long some halves.1;
      has = taken-admitted v variables slots cells long some halves.0;
    }

-- two cells that a variable takes are one where they can't differ
equal-or : (variables : List States) (v : ℕ) (slots : List Slot) (cells others : List ℕ) → length cells ≡ length slots → length others ≡ length slots
    → fits variables (zip slots cells) ≡ true → fits variables (zip slots others) ≡ true
    → (Takes variables v slots cells → Takes variables v slots others → taken_cell v (zip slots cells) ≢ taken_cell v (zip slots others) → ⊥)
    → taken_cell v (zip slots cells) ≡ taken_cell v (zip slots others)
equal-or variables v slots cells others long more fit fit_other differ =
    elim (cases_Bool (list_any (is_variable v) slots)) [
      | inr none ↦ taken-none v slots cells none ∙ sym (taken-none v slots others none)
      | inl some ↦ elim (cases_Bool (taken_cell v (zip slots cells) == taken_cell v (zip slots others))) [
        | inl e ↦ grind (arith, nat_tests)
        | inr e ↦ absurd (differ (takes-of variables v slots cells long some fit) (takes-of variables v slots others more some fit_other)
            (λ same. false≢true (sym e ∙ eq-eqb (taken_cell v (zip slots cells)) (taken_cell v (zip slots others)) same)))
      ]
    ]

base-length : (h : Neighbourhood) → length (forward_order (ring_size h) 0) ≡ ring_size h
base-length VonNeumann = refl
base-length Moore = refl
base-length Hexagonal = refl
base-length OneDimensional = refl

none-fit : (states : ℕ) (variables : List States) (h : Neighbourhood) (s : Symmetry) (v : ℕ) (slots : List Slot) → orders_may_fit states variables h s v slots ≡ false
    → two_may_fit states variables v slots (map (places h) (orders h s)) ≡ false
none-fit states variables h s v slots e =
    sym (fit-unpermuted states variables h s v slots (λ same. false≢true (sym e ∙ ap (λ k. orders_may_fit states variables h k v slots) same))) ∙ e

each-one : {X : Type 0} (P : X → Type 0) → ((x : X) → P x) → (xs : List X) → AllByRecursion P xs
each-one P all [] = tt
each-one P all (x ∷ xs) = (all x, each-one P all xs)

module _ (states : ℕ) (variables : List States) (h : Neighbourhood) (nine : List ℕ) (some : 0 < states) (low : (p : ℕ) → slice_index nine p < states) where
  abbrev ring_cells : List ℕ → List ℕ
  ring_cells g = map (λ position. slice_index nine (slice_index (ring h) position)) g

  small-ring : (g : List ℕ) → AllByRecursion (λ c. c < states) (ring_cells g)
  small-ring g = each-small (λ position. slice_index nine (slice_index (ring h) position)) states (λ p. low (slice_index (ring h) p)) g

  alike-cells : (g k : List ℕ) (c : ℕ) → Positions h g → Positions h k → count_by (λ b. b == c) (ring_cells g) ≡ count_by (λ b. b == c) (ring_cells k)
  alike-cells g k c pg pk =
      let f : ℕ → ℕ = λ position. slice_index nine (slice_index (ring h) position) in
      counted-map f (λ b. b == c) g ∙ sym (pg.counts (λ x. f x == c)) ∙ pk.counts (λ x. f x == c) ∙ sym (counted-map f (λ b. b == c) k)

  long-ring : (g : List ℕ) → Positions h g → length (ring_cells g) ≡ ring_size h
  long-ring g pg = length-map g (λ position. slice_index nine (slice_index (ring h) position)) ∙ sym (length-alike (forward_order (ring_size h) 0) g pg) ∙ base-length h

  -- a variable that takes two cells exchanges them
  two-exchanged : (v : ℕ) (centre : Slot) (ss : List Slot) (g k : List ℕ) → length ss ≡ ring_size h → Positions h g → Positions h k
      → Takes variables v (centre ∷ ss) (cells_in_order h nine g) → Takes variables v (centre ∷ ss) (cells_in_order h nine k)
      → taken_cell v (zip (centre ∷ ss) (cells_in_order h nine g)) ≢ taken_cell v (zip (centre ∷ ss) (cells_in_order h nine k)) → exchanges_two states variables ss v ≡ true
  two-exchanged v centre ss g k long pg pk tg tk apart =
      let x : ℕ = taken_cell v (zip (centre ∷ ss) (cells_in_order h nine g)) in
      let y : ℕ = taken_cell v (zip (centre ∷ ss) (cells_in_order h nine k)) in
      let lg : length (ring_cells g) ≡ length ss = long-ring g pg ∙ sym long in
      let lk : length (ring_cells k) ≡ length ss = long-ring k pk ∙ sym long in
      let ag = and_parts (admits variables centre (slice_index nine 4)) (list_all (λ (t : SlotCell). admits variables t.0 t.1) (zip ss (ring_cells g))) tg.admit in
      let ak = and_parts (admits variables centre (slice_index nine 4)) (list_all (λ (t : SlotCell). admits variables t.0 t.1) (zip ss (ring_cells k))) tk.admit in
      let og = and_parts (not (is_variable v centre) || (slice_index nine 4 == x)) (list_all (λ (t : SlotCell). not (is_variable v t.0) || (t.1 == x)) (zip ss (ring_cells g))) tg.one in
      let ok = and_parts (not (is_variable v centre) || (slice_index nine 4 == y)) (list_all (λ (t : SlotCell). not (is_variable v t.0) || (t.1 == y)) (zip ss (ring_cells k))) tk.one in
      let ey = exchanged-for states variables v x y apart ss (ring_cells g) (ring_cells k) lg lk ag.1 ak.1 og.1 ok.1 (small-ring k) (alike-cells g k y pg pk) in
      let ex = exchanged-for states variables v y x (λ e. apart (sym e)) ss (ring_cells k) (ring_cells g) lk lg ak.1 ag.1 ok.1 og.1 (small-ring g) (alike-cells k g x pk pg) in
      let fx : is_exchanged states variables ss v x ≡ true = rw (tg.has, ex) refl in
      let fy : is_exchanged states variables ss v y ≡ true = rw (tk.has, ey) refl in
      let sx = taken-small v states (centre ∷ ss) (cells_in_order h nine g) some (low 4, small-ring g) in
      let sy = taken-small v states (centre ∷ ss) (cells_in_order h nine k) some (low 4, small-ring k) in
      two-passed (count_by (is_exchanged states variables ss v) (range_with_len 0 states))
      (count-two (is_exchanged states variables ss v) x y 0 states apart (omega arith) (omega arith) (omega (arith, sx)) (omega (arith, sy)) fx fy)
    where
      two-passed : (n : ℕ) → 2 ≤ n → nat_le 2 n ≡ true
      two-passed n e = grind (arith, nat_tests)

  -- and its slots may fit under both orders
  both-fit : (v : ℕ) (slots : List Slot) (g k : List ℕ) → Takes variables v slots (cells_in_order h nine g) → Takes variables v slots (cells_in_order h nine k)
      → taken_cell v (zip slots (cells_in_order h nine g)) ≢ taken_cell v (zip slots (cells_in_order h nine k))
      → may_fit_both states variables v (zip slots (places h g)) (zip slots (places h k)) ≡ true
  both-fit v slots g k tg tk apart =
      let x : ℕ = taken_cell v (zip slots (cells_in_order h nine g)) in
      let y : ℕ = taken_cell v (zip slots (cells_in_order h nine k)) in
      fit-both states variables nine v x y apart low slots slots (places h g) (places h k)
      (subst (λ l. list_all (λ (t : SlotCell). admits variables t.0 t.1) (zip slots l) ≡ true) (sym (arranged-at h nine g)) tg.admit)
      (subst (λ l. list_all (λ (t : SlotCell). not (is_variable v t.0) || (t.1 == x)) (zip slots l) ≡ true) (sym (arranged-at h nine g)) tg.one)
      (subst (λ l. list_all (λ (t : SlotCell). admits variables t.0 t.1) (zip slots l) ≡ true) (sym (arranged-at h nine k)) tk.admit)
      (subst (λ l. list_all (λ (t : SlotCell). not (is_variable v t.0) || (t.1 == y)) (zip slots l) ≡ true) (sym (arranged-at h nine k)) tk.one)

  -- under two orders with each position once, a variable takes one cell where two states aren't exchanged
  one-unexchanged : (v : ℕ) (centre : Slot) (ss : List Slot) (g k : List ℕ) → length ss ≡ ring_size h → Positions h g → Positions h k → exchanges_two states variables ss v ≡ false
      → fits variables (zip (centre ∷ ss) (cells_in_order h nine g)) ≡ true → fits variables (zip (centre ∷ ss) (cells_in_order h nine k)) ≡ true
      → taken_cell v (zip (centre ∷ ss) (cells_in_order h nine g)) ≡ taken_cell v (zip (centre ∷ ss) (cells_in_order h nine k))
  one-unexchanged v centre ss g k long pg pk none fit_g fit_k =
      equal-or variables v (centre ∷ ss) (cells_in_order h nine g) (cells_in_order h nine k) (omega (arith, long-ring g pg)) (omega (arith, long-ring k pk)) fit_g fit_k
      (λ tg tk apart. false≢true (sym none ∙ two-exchanged v centre ss g k long pg pk tg tk apart))

  -- and where the slots can't fit under both
  one-unfit : (v : ℕ) (centre : Slot) (ss : List Slot) (g k : List ℕ) → length ss ≡ ring_size h → Positions h g → Positions h k
      → may_fit_both states variables v (zip (centre ∷ ss) (places h g)) (zip (centre ∷ ss) (places h k)) ≡ false
      → fits variables (zip (centre ∷ ss) (cells_in_order h nine g)) ≡ true → fits variables (zip (centre ∷ ss) (cells_in_order h nine k)) ≡ true
      → taken_cell v (zip (centre ∷ ss) (cells_in_order h nine g)) ≡ taken_cell v (zip (centre ∷ ss) (cells_in_order h nine k))
  one-unfit v centre ss g k long pg pk none fit_g fit_k =
      equal-or variables v (centre ∷ ss) (cells_in_order h nine g) (cells_in_order h nine k) (omega (arith, long-ring g pg)) (omega (arith, long-ring k pk)) fit_g fit_k
      (λ tg tk apart. false≢true (sym none ∙ both-fit v (centre ∷ ss) g k tg tk apart))

  -- a transition of these slots and this result gives one state under both orders
  abbrev Alike_under : List Slot → Slot → List ℕ → List ℕ → Type 0
  Alike_under slots becomes g k = fits variables (zip slots (cells_in_order h nine g)) ≡ true → fits variables (zip slots (cells_in_order h nine k)) ≡ true
      → result_state becomes (zip slots (cells_in_order h nine g)) ≡ result_state becomes (zip slots (cells_in_order h nine k))

  abbrev Each_alike : List Slot → Slot → List (List ℕ) → Type 0
  Each_alike slots becomes gs = AllByRecursion (λ g. AllByRecursion (Alike_under slots becomes g) gs) gs

  -- of orders with each position once, where two states aren't exchanged, or the slots can't fit under any two
  unexchanged : (v : ℕ) (centre : Slot) (ss : List Slot) (gs : List (List ℕ)) → length ss ≡ ring_size h → AllByRecursion (Positions h) gs → exchanges_two states variables ss v ≡ false
      → Each_alike (centre ∷ ss) (Variable v) gs
  unexchanged v centre ss gs long all none =
      each-more (Positions h) (λ g. AllByRecursion (Alike_under (centre ∷ ss) (Variable v) g) gs)
      (λ g pg. each-more (Positions h) (Alike_under (centre ∷ ss) (Variable v) g) (λ k pk. one-unexchanged v centre ss g k long pg pk none) gs all) gs all

  unfit : (v : ℕ) (centre : Slot) (ss : List Slot) (gs : List (List ℕ)) → length ss ≡ ring_size h → AllByRecursion (Positions h) gs
      → two_may_fit states variables v (centre ∷ ss) (map (places h) gs) ≡ false → Each_alike (centre ∷ ss) (Variable v) gs
  unfit v centre ss gs long all none =
      let slots : List Slot = centre ∷ ss in
      let none_first = none-passes_map (λ p. list_any (λ q. may_fit_both states variables v (zip slots p) (zip slots q)) (map (places h) gs)) (places h) gs none in
      each-more (λ g. Positions h g × (list_any (λ q. may_fit_both states variables v (zip slots (places h g)) (zip slots q)) (map (places h) gs) ≡ false))
      (λ g. AllByRecursion (Alike_under slots (Variable v) g) gs)
      (λ g (pg : Positions h g × (list_any (λ q. may_fit_both states variables v (zip slots (places h g)) (zip slots q)) (map (places h) gs) ≡ false)).
      let none_second = none-passes_map (λ q. may_fit_both states variables v (zip slots (places h g)) (zip slots q)) (places h) gs pg.1 in
      each-more (λ k. Positions h k × (may_fit_both states variables v (zip slots (places h g)) (zip slots (places h k)) ≡ false)) (Alike_under slots (Variable v) g)
      (λ k (pk : Positions h k × (may_fit_both states variables v (zip slots (places h g)) (zip slots (places h k)) ≡ false)). one-unfit v centre ss g k long pg.0 pk.0 pk.1) gs
      (each-both (Positions h) (λ k. may_fit_both states variables v (zip slots (places h g)) (zip slots (places h k)) ≡ false) gs all none_second))
      gs (each-both (Positions h) (λ g. list_any (λ q. may_fit_both states variables v (zip slots (places h g)) (zip slots q)) (map (places h) gs) ≡ false) gs all none_first)

  -- without a tie
  untied : (s : Symmetry) (slots : List Slot) (becomes : Slot) → length slots ≡ ring_size h + 1 → may_tie states variables h s slots becomes ≡ false → Each_alike slots becomes (orders h s)
  untied s [] becomes long none = absurd (omega arith)
  untied s (centre ∷ ss) (Number n) long none =
      each-one (λ g. AllByRecursion (Alike_under (centre ∷ ss) (Number n) g) (orders h s)) (λ g. each-one (Alike_under (centre ∷ ss) (Number n) g) (λ k fit_g fit_k. refl) (orders h s)) (orders h s)
  untied s (centre ∷ ss) (Variable v) long none =
      elim (cases_Bool (is_variable v centre)) [
        | inl e ↦ each-one (λ g. AllByRecursion (Alike_under (centre ∷ ss) (Variable v) g) (orders h s))
            (λ g. each-one (Alike_under (centre ∷ ss) (Variable v) g) (λ k fit_g fit_k. rw e refl) (orders h s)) (orders h s)
        | inr e ↦ let more : (exchanges_two states variables ss v && orders_may_fit states variables h s v (centre ∷ ss)) ≡ false = rw e at none in
            elim (cases_Bool (exchanges_two states variables ss v)) [
              | inr f ↦ unexchanged v centre ss (orders h s) (omega arith) (order-positions h s) f
              | inl f ↦ unfit v centre ss (orders h s) (omega arith) (order-positions h s) (none-fit states variables h s v (centre ∷ ss) (rw f at more))
            ]
      ]

-- a transition has a slot for the centre and one for each cell of the ring
abbrev HasSlots : Neighbourhood → Transition → Type 0
HasSlots h t = length t.inputs ≡ ring_size h + 1

one-more : (P : Transition → Type 0) (ts : List Transition) (t : Transition) → AllByRecursion P ts → P t → AllByRecursion P (ts ++ t ∷ [])
one-more P [] t all here = (here, tt)
one-more P (u ∷ ts) t all here = (all.0, one-more P ts t all.1 here)

-- so it is with all that statements say
said-slots : (settings : Settings) (said : SaidStatements) (lines : List NumberedLine) (after : SaidStatements) → LinesSay settings said lines after
    → AllByRecursion (HasSlots settings.neighbourhood) said.transitions → AllByRecursion (HasSlots settings.neighbourhood) after.transitions
said-slots settings said [] after same all = subst (λ (a : SaidStatements). AllByRecursion (HasSlots settings.neighbourhood) a.transitions) same all
said-slots settings said (l ∷ ls) after say all =
    said-slots settings say.0 ls after say.2
    (elim say.1 [
      | inl v ↦ subst (λ (a : SaidStatements). AllByRecursion (HasSlots settings.neighbourhood) a.transitions) (sym v.after_is) all
      | inr t ↦ let slots : HasSlots settings.neighbourhood (record { inputs = t.inputs; result = t.result })
          = omega (arith, zip-length (StandsFor settings said) t.fields (t.inputs ++ t.result ∷ []) t.stand, t.spelled.count, length-append t.inputs (t.result ∷ [])) in
          subst (λ (a : SaidStatements). AllByRecursion (HasSlots settings.neighbourhood) a.transitions) (sym t.holds.1)
          (one-more (HasSlots settings.neighbourhood) said.transitions (record { inputs = t.inputs; result = t.result }) all slots)
    ])

read-slots : (bytes : List ℕ) (table : TableRule) → IsTable bytes table → AllByRecursion (HasSlots table.neighbourhood) table.transitions
read-slots bytes table read =
    subst (λ (t : TableRule). AllByRecursion (HasSlots t.neighbourhood) t.transitions) (sym read.table_is) (said-slots read.settings no_statements read.statements read.said read.say tt)

-- the transitions of a table without ties give one state each
pub one-state : (bytes : List ℕ) (table : TableRule) (nine : List ℕ) → IsTable bytes table → length nine ≡ 9 → All (λ s. s < table.states) nine
    → has_ties table ≡ false → AllByRecursion (GivesOneState table nine) table.transitions
one-state bytes table nine read long states none =
    let some : 0 < table.states = omega (arith, states 0 0 (omega arith)) in
    let low = index-small table.states nine some states in
    let tie : Transition → Bool = λ t. may_tie table.states table.variables table.neighbourhood table.symmetry t.inputs t.result in
    each-more (λ (t : Transition). HasSlots table.neighbourhood t × (tie t ≡ false)) (GivesOneState table nine)
    (λ t (both : HasSlots table.neighbourhood t × (tie t ≡ false)).
    untied table.states table.variables table.neighbourhood nine some low table.symmetry t.inputs t.result both.0 both.1) table.transitions
    (each-both (HasSlots table.neighbourhood) (λ (t : Transition). tie t ≡ false) table.transitions (read-slots bytes table read) (none-passes tie table.transitions none))
