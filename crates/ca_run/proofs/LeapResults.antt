-- What the tables of a leaper remember, as one list of results.
use Rattle.std.proofs.Common.{◌≡◌, ℕ, zero, suc, ◌+◌, ◌*◌, ◌/◌, ◌%◌, ◌<◌, ◌≤◌, List, [], ◌∷◌, ◌++◌, length, slice_get, filter_map, Contains, Option, Some, None, inl, inr, refl, sym, ap, subst, ◌∙◌, arith}
use Rattle.std.specs.List.{cons_option}
use Rattle.std.proofs.lemmas.List.{length-append}
use Rattle.std.proofs.lemmas.List.Elements.{Contains-append_left, Contains-append_right, Contains-append_cases}
use Rattle.lru.proofs.Splits.{Contains-head, Contains-tail, Contains-cons, Contains-nil}
use Rattle.ca_bricks.specs.declared.cell_rule.CellRule.{CellRule}
use Rattle.ca_quad.specs.declared.node.Node.{Node}
use Rattle.ca_memo.specs.declared.{key.Key.Key, page.Page.Page}
use Rattle.ca_memo.specs.declared.key.Key.TheVariants.{Page as OfPage, Single}
use Rattle.ca_run.specs.Prelude.{IsCentre, IsLeap, LeapResult, FullLeap, Centre, LeapOfFour, IsTrueResult}
use Rattle.ca_memo.specs.Prelude.{MemoView, HasPageKey, HasSlot, HasFullLeap, HasSingle, SlotsView, HasRecent}
use Rattle.ca_run.specs.inner.Tables.{slot_results, page_results, single_result, centre_result, leap_result, results_of, AreBounded, IsLeaper}

-- ---- lists

module _ {X Y : Type 0} (h : X → Option Y) where
  filter_map-cases : (xs : List X) (y : Y) → Contains (filter_map h xs) y → (x : X) × Contains xs x × (h x ≡ Some y)
  filter_map-cases [] y c = absurd (Contains-nil y c)
  filter_map-cases (x ∷ xs) y c = (elim (h x) as (λ o. h x ≡ o → Contains (cons_option o (filter_map h xs)) y → (z : X) × Contains (x ∷ xs) z × (h z ≡ Some y)) [
    | None ↦ λ e d. let on = filter_map-cases xs y d in (on.0, Contains-tail x xs on.0 on.1, on.2)
    | Some w ↦ λ e d. elim (Contains-cons w (filter_map h xs) y d) [
      | inl same ↦ (x, Contains-head x xs, e ∙ ap (λ v. Some v) same)
      | inr r ↦ let on = filter_map-cases xs y r in (on.0, Contains-tail x xs on.0 on.1, on.2)
    ]
  ]) refl c

  filter_map-there : (xs : List X) (x : X) (y : Y) → Contains xs x → h x ≡ Some y → Contains (filter_map h xs) y
  filter_map-there [] x y c e = absurd (Contains-nil x c)
  filter_map-there (z ∷ xs) x y c e = elim (Contains-cons z xs x c) [
    | inl same ↦ subst (λ o. Contains (cons_option o (filter_map h xs)) y) (sym (ap h same ∙ e)) (Contains-head y (filter_map h xs))
    | inr d ↦ let on = filter_map-there xs x y d e in (elim (h z) as (λ o. Contains (cons_option o (filter_map h xs)) y) [
      | None ↦ on
      | Some w ↦ Contains-tail w (filter_map h xs) y on
    ])
  ]

  filter_map-length : (xs : List X) → length (filter_map h xs) ≤ length xs
  filter_map-length [] = omega arith
  filter_map-length (x ∷ xs) = let on = filter_map-length xs in (elim (h x) as (λ o. length (cons_option o (filter_map h xs)) ≤ suc (length xs)) [
    | None ↦ omega arith
    | Some w ↦ omega arith
  ])

-- ---- results in slots and pages

slots_found : (room square : ℕ) (slots : List (Option ℕ)) (result : LeapResult) → Contains (slot_results room square slots) result
    → (i : ℕ) × (centre : ℕ) × (i < room) × (result ≡ FullLeap (square + i) centre) × (slice_get slots i ≡ Some (Some centre))
slots_found zero square slots result c = absurd (Contains-nil result c)
slots_found (suc room) square [] result c = absurd (Contains-nil result c)
slots_found (suc room) square (None ∷ slots) result c =
    let on = slots_found room (suc square) slots result c in
    let next : suc square + on.0 ≡ square + suc on.0 = omega arith in
    (suc on.0, on.1, omega (arith, on.2), on.3 ∙ ap (λ id. FullLeap id on.1) next, on.4)
slots_found (suc room) square (Some centre ∷ slots) result c = elim (Contains-cons (FullLeap square centre) (slot_results room (suc square) slots) result c) [
  | inl same ↦ let here : square ≡ square + 0 = omega arith in (0, centre, omega arith, sym same ∙ ap (λ id. FullLeap id centre) here, refl)
  | inr d ↦
      let on = slots_found room (suc square) slots result d in
      let next : suc square + on.0 ≡ square + suc on.0 = omega arith in
      (suc on.0, on.1, omega (arith, on.2), on.3 ∙ ap (λ id. FullLeap id on.1) next, on.4)
]

slots_there : (room square : ℕ) (slots : List (Option ℕ)) (i centre : ℕ) → i < room → slice_get slots i ≡ Some (Some centre) → Contains (slot_results room square slots) (FullLeap (square + i) centre)
slots_there zero square slots i centre lt e = let no : ⊥ = omega (arith, lt) in absurd no
slots_there (suc room) square [] zero centre lt e = let no : ⊥ = cc in absurd no
slots_there (suc room) square [] (suc i) centre lt e = let no : ⊥ = cc in absurd no
slots_there (suc room) square (None ∷ slots) zero centre lt e = let no : ⊥ = cc in absurd no
slots_there (suc room) square (Some other ∷ slots) zero centre lt e =
    let here : square ≡ square + 0 = omega arith in
    let same : other ≡ centre = cc in
    subst (λ id. Contains (FullLeap square other ∷ slot_results room (suc square) slots) (FullLeap id centre)) here
    (subst (λ c. Contains (FullLeap square other ∷ slot_results room (suc square) slots) (FullLeap square c)) same (Contains-head (FullLeap square other) (slot_results room (suc square) slots)))
slots_there (suc room) square (None ∷ slots) (suc i) centre lt e =
    let next : suc square + i ≡ square + suc i = omega arith in
    subst (λ id. Contains (slot_results room (suc square) slots) (FullLeap id centre)) next (slots_there room (suc square) slots i centre (omega (arith, lt)) e)
slots_there (suc room) square (Some other ∷ slots) (suc i) centre lt e =
    let next : suc square + i ≡ square + suc i = omega arith in
    Contains-tail (FullLeap square other) (slot_results room (suc square) slots) (FullLeap (square + suc i) centre)
    (subst (λ id. Contains (slot_results room (suc square) slots) (FullLeap id centre)) next (slots_there room (suc square) slots i centre (omega (arith, lt)) e))

slots_length : (room square : ℕ) (slots : List (Option ℕ)) → length (slot_results room square slots) ≤ room
slots_length zero square slots = omega arith
slots_length (suc room) square [] = omega arith
slots_length (suc room) square (None ∷ slots) = let on = slots_length room (suc square) slots in omega arith
slots_length (suc room) square (Some centre ∷ slots) = let on = slots_length room (suc square) slots in omega arith

-- a result in pages, from the page of a number onwards
record IsInPage (number : ℕ) (pages : List (Option Page)) (result : LeapResult) : Type 0 where
  pub square : ℕ
  pub centre : ℕ
  pub later : ℕ
  pub page : Page
  pub is : result ≡ FullLeap square centre
  pub page_number : square / 64 ≡ number + later
  pub is_page : slice_get pages later ≡ Some (Some page)
  pub slot : HasSlot page (square % 64) centre

in_page_of : (square number i : ℕ) → square ≡ 64 * number + i → i < 64 → (square / 64 ≡ number) × (square % 64 ≡ i)
in_page_of square number i e lt = (omega (arith, e, lt), omega (arith, e, lt))

later_page : (number : ℕ) (first : Option Page) (pages : List (Option Page)) (result : LeapResult) → IsInPage (suc number) pages result → IsInPage number (first ∷ pages) result
later_page number first pages result h = record {
  square = h.square;
  centre = h.centre;
  later = suc h.later;
  page = h.page;
  is = h.is;
  page_number = omega (arith, h.page_number);
  is_page = h.is_page;
  slot = h.slot;
}

pages_found : (number : ℕ) (pages : List (Option Page)) (result : LeapResult) → Contains (page_results number pages) result → IsInPage number pages result
pages_found number [] result c = absurd (Contains-nil result c)
pages_found number (None ∷ pages) result c = later_page number None pages result (pages_found (suc number) pages result c)
pages_found number (Some page ∷ pages) result c = elim (Contains-append_cases (slot_results 64 (64 * number) page.slots) (page_results (suc number) pages) result c) [
  | inl d ↦
      let on = slots_found 64 (64 * number) page.slots result d in
      let at = in_page_of (64 * number + on.0) number on.0 refl on.2 in
      record {
        square = 64 * number + on.0;
        centre = on.1;
        later = 0;
        page = page;
        is = on.3;
        page_number = omega (arith, at.0);
        is_page = refl;
        slot = subst (λ i. HasSlot page i on.1) (sym at.1) on.4;
      }
  | inr d ↦ later_page number (Some page) pages result (pages_found (suc number) pages result d)
]

pages_there : (number : ℕ) (pages : List (Option Page)) (later : ℕ) (page : Page) (i centre : ℕ) → i < 64 → slice_get pages later ≡ Some (Some page) → HasSlot page i centre
    → Contains (page_results number pages) (FullLeap (64 * (number + later) + i) centre)
pages_there number [] zero page i centre lt e s = let no : ⊥ = cc in absurd no
pages_there number [] (suc later) page i centre lt e s = let no : ⊥ = cc in absurd no
pages_there number (None ∷ pages) zero page i centre lt e s = let no : ⊥ = cc in absurd no
pages_there number (Some first ∷ pages) zero page i centre lt e s =
    let same : page ≡ first = cc in
    let here : 64 * number + i ≡ 64 * (number + 0) + i = omega arith in
    Contains-append_left (slot_results 64 (64 * number) first.slots) (page_results (suc number) pages) (FullLeap (64 * (number + 0) + i) centre)
    (subst (λ id. Contains (slot_results 64 (64 * number) first.slots) (FullLeap id centre)) here
    (slots_there 64 (64 * number) first.slots i centre lt (subst (λ p. HasSlot p i centre) same s)))
pages_there number (None ∷ pages) (suc later) page i centre lt e s =
    let next : 64 * (suc number + later) + i ≡ 64 * (number + suc later) + i = omega arith in
    subst (λ id. Contains (page_results (suc number) pages) (FullLeap id centre)) next (pages_there (suc number) pages later page i centre lt e s)
pages_there number (Some first ∷ pages) (suc later) page i centre lt e s =
    let next : 64 * (suc number + later) + i ≡ 64 * (number + suc later) + i = omega arith in
    Contains-append_right (slot_results 64 (64 * number) first.slots) (page_results (suc number) pages) (FullLeap (64 * (number + suc later) + i) centre)
    (subst (λ id. Contains (page_results (suc number) pages) (FullLeap id centre)) next (pages_there (suc number) pages later page i centre lt e s))

-- ---- how many there are

number_of : Key → ℕ
number_of (OfPage number) = number
number_of (Single square j) = 0

same_number : (m n : ℕ) → OfPage m ≡ OfPage n → m ≡ n
unfolding number_of
same_number m n e = ap number_of e

-- the entries without the key of one page: they have the keys of all other pages, and the same single results
without_page : (entries : List (Key × Option ℕ)) (n : ℕ) → HasPageKey entries n
    → (rest : List (Key × Option ℕ)) × (length entries ≡ suc (length rest)) × (filter_map single_result rest ≡ filter_map single_result entries)
    × ((m : ℕ) → (m ≡ n → ⊥) → HasPageKey entries m → HasPageKey rest m)
without_page [] n h = absurd (Contains-nil (OfPage n, h.0) h.1)
without_page (e ∷ entries) n h = elim (Contains-cons e entries (OfPage n, h.0) h.1) [
  | inl same ↦ (
    entries,
    omega arith,
    sym (ap (λ x. filter_map single_result (x ∷ entries)) same),
    λ m other there. elim (Contains-cons e entries (OfPage m, there.0) there.1) [
      | inl is ↦ absurd (other (same_number m n (ap (λ (x : Key × Option ℕ). x.0) (sym is ∙ same))))
      | inr d ↦ (there.0, d)
    ],
  )
  | inr d ↦
      let on = without_page entries n (h.0, d) in (
        e ∷ on.0,
        omega (arith, on.1),
        ap (cons_option (single_result e)) on.2,
        λ m other there. elim (Contains-cons e entries (OfPage m, there.0) there.1) [
          | inl is ↦ (there.0, subst (λ x. Contains (x ∷ on.0) (OfPage m, there.0)) (sym is) (Contains-head (OfPage m, there.0) on.0))
          | inr f ↦ let r = on.3 m other (there.0, f) in (r.0, Contains-tail e on.0 (OfPage m, r.0) r.1)
        ],
      )
]

-- at most 64 results for each entry, where each page has its key
entry_results : (number : ℕ) (pages : List (Option Page)) (entries : List (Key × Option ℕ)) → ((later : ℕ) (page : Page) → slice_get pages later ≡ Some (Some page) → HasPageKey entries (number + later))
    → length (page_results number pages) + length (filter_map single_result entries) ≤ 64 * length entries
entry_results number [] entries held = let singles = filter_map-length single_result entries in omega arith
entry_results number (None ∷ pages) entries held =
    entry_results (suc number) pages entries (λ later page e.
    let next : number + suc later ≡ suc number + later = omega arith in
    subst (HasPageKey entries) next (held (suc later) page e))
entry_results number (Some page ∷ pages) entries held =
    let here : number + 0 ≡ number = omega arith in
    let rest = without_page entries number (subst (HasPageKey entries) here (held 0 page refl)) in
    let on = entry_results (suc number) pages rest.0 (λ later other e.
    let next : number + suc later ≡ suc number + later = omega arith in
    rest.3 (suc number + later) (λ same. let no : ⊥ = omega (arith, same) in no) (subst (HasPageKey entries) next (held (suc later) other e))) in
    let few = slots_length 64 (64 * number) page.slots in
    let sum = length-append (slot_results 64 (64 * number) page.slots) (page_results (suc number) pages) in
    let singles = ap length rest.2 in
    let fewer = rest.1 in
    omega arith

pub results_most : (memo : MemoView) (centres : SlotsView (ℕ × ℕ)) (leaps : SlotsView (ℕ × ℕ × ℕ × ℕ)) (capacity : ℕ) → AreBounded memo centres leaps capacity → length (results_of memo centres leaps) ≤ 64 * capacity
results_most memo centres leaps capacity h =
    let singles = filter_map single_result memo.order.entries in
    let some = filter_map centre_result centres.slots in
    let others = filter_map leap_result leaps.slots in
    let entries = entry_results 0 memo.pages memo.order.entries (λ later page e. let same : later ≡ 0 + later = omega arith in subst (HasPageKey memo.order.entries) same (h.entries.held later page e)) in
    let a = length-append (page_results 0 memo.pages) (singles ++ (some ++ others)) in
    let b = length-append singles (some ++ others) in
    let c = length-append some others in
    let d = filter_map-length centre_result centres.slots in
    let f = filter_map-length leap_result leaps.slots in
    omega (arith, entries, a, b, c, d, f, h.within, h.entries.most, h.few_centres, h.few_leaps)

-- ---- that they are true

-- each result that is remembered at full leap is the centre of its square
abbrev pub AreFullLeaps : (List ℕ → ℕ) → List Node → MemoView → Type 0
AreFullLeaps next nodes memo = (id result_id : ℕ) → HasFullLeap memo id result_id → (k : ℕ) × IsCentre next nodes id k k result_id

-- and so is each single one
abbrev pub AreSingles : (List ℕ → ℕ) → List Node → MemoView → Type 0
AreSingles next nodes memo = (id j result_id : ℕ) → HasSingle memo id j result_id → (k : ℕ) × IsCentre next nodes id k j result_id

-- what a slot has for a square and a j is the square's centre after 2 ^ j generations
abbrev pub AreRecentCentres : (List ℕ → ℕ) → List Node → List (Option ((ℕ × ℕ) × ℕ)) → Type 0
AreRecentCentres next nodes slots = (id j result_id : ℕ) → HasRecent slots (id, j) result_id → (k : ℕ) × IsCentre next nodes id k j result_id

-- what a slot has for four squares is the one in their middle, as far ahead as a leap goes
abbrev pub AreRecentLeaps : (List ℕ → ℕ) → List Node → List (Option ((ℕ × ℕ × ℕ × ℕ) × ℕ)) → Type 0
AreRecentLeaps next nodes slots = (nw ne sw se result_id : ℕ) → HasRecent slots (nw, ne, sw, se) result_id → (k : ℕ) × IsLeap next nodes k nw ne sw se result_id

abbrev pub AreTrue : (List ℕ → ℕ) → List Node → List LeapResult → Type 0
AreTrue next nodes results = (result : LeapResult) → Contains results result → IsTrueResult next nodes result

module _ (next : List ℕ → ℕ) (nodes : List Node) where
  single_true : (entries : List (Key × Option ℕ)) → ((id j result_id : ℕ) → Contains entries (Single id j, Some result_id) → (k : ℕ) × IsCentre next nodes id k j result_id) → (entry : Key × Option ℕ) (result : LeapResult) → Contains entries entry → single_result entry ≡ Some result → IsTrueResult next nodes result
  single_true entries all (OfPage number, centre) result c e = let no : ⊥ = cc in absurd no
  single_true entries all (Single square j, None) result c e = let no : ⊥ = cc in absurd no
  single_true entries all (Single square j, Some centre) result c e = let same : Centre square j centre ≡ result = cc in subst (IsTrueResult next nodes) same (all square j centre c)

  centre_true : (slots : List (Option ((ℕ × ℕ) × ℕ))) → AreRecentCentres next nodes slots → (slot : Option ((ℕ × ℕ) × ℕ)) (result : LeapResult) → Contains slots slot → centre_result slot ≡ Some result → IsTrueResult next nodes result
  centre_true slots all None result c e = let no : ⊥ = cc in absurd no
  centre_true slots all (Some ((square, j), centre)) result c e = let same : Centre square j centre ≡ result = cc in subst (IsTrueResult next nodes) same (all square j centre c)

  leap_true : (slots : List (Option ((ℕ × ℕ × ℕ × ℕ) × ℕ))) → AreRecentLeaps next nodes slots → (slot : Option ((ℕ × ℕ × ℕ × ℕ) × ℕ)) (result : LeapResult) → Contains slots slot → leap_result slot ≡ Some result → IsTrueResult next nodes result
  leap_true slots all None result c e = let no : ⊥ = cc in absurd no
  leap_true slots all (Some ((nw, ne, sw, se), middle)) result c e = let same : LeapOfFour nw ne sw se middle ≡ result = cc in subst (IsTrueResult next nodes) same (all nw ne sw se middle c)

  module _ (memo : MemoView) (centres : SlotsView (ℕ × ℕ)) (leaps : SlotsView (ℕ × ℕ × ℕ × ℕ)) where
    abbrev in_pages : List LeapResult
    in_pages = page_results 0 memo.pages

    abbrev in_entries : List LeapResult
    in_entries = filter_map single_result memo.order.entries

    abbrev in_centres : List LeapResult
    in_centres = filter_map centre_result centres.slots

    abbrev in_leaps : List LeapResult
    in_leaps = filter_map leap_result leaps.slots

    -- what the tables remember is true, so each result of their list is
    pub are_true : AreFullLeaps next nodes memo → AreSingles next nodes memo → AreRecentCentres next nodes centres.slots → AreRecentLeaps next nodes leaps.slots → AreTrue next nodes (results_of memo centres leaps)
    are_true full singles some others result c = elim (Contains-append_cases in_pages (in_entries ++ (in_centres ++ in_leaps)) result c) [
      | inl d ↦
          let at = pages_found 0 memo.pages result d in
          let number : at.later ≡ at.square / 64 = omega (arith, at.page_number) in
          let is_page = subst (λ n. slice_get memo.pages n ≡ Some (Some at.page)) number at.is_page in
          subst (IsTrueResult next nodes) (sym at.is) (full at.square at.centre (at.page, is_page, at.slot))
      | inr d ↦ elim (Contains-append_cases in_entries (in_centres ++ in_leaps) result d) [
        | inl e ↦ let at = filter_map-cases single_result memo.order.entries result e in single_true memo.order.entries singles at.0 result at.1 at.2
        | inr e ↦ elim (Contains-append_cases in_centres in_leaps result e) [
          | inl f ↦ let at = filter_map-cases centre_result centres.slots result f in centre_true centres.slots some at.0 result at.1 at.2
          | inr f ↦ let at = filter_map-cases leap_result leaps.slots result f in leap_true leaps.slots others at.0 result at.1 at.2
        ]
      ]
    ]

    -- and the other way round
    pub full_leaps_of : AreTrue next nodes (results_of memo centres leaps) → AreFullLeaps next nodes memo
    full_leaps_of all id result_id f =
        let is : 64 * (0 + id / 64) + id % 64 ≡ id = omega arith in
        let there = pages_there 0 memo.pages (id / 64) f.0 (id % 64) result_id (omega arith) f.1 f.2 in
        all (FullLeap id result_id) (Contains-append_left in_pages (in_entries ++ (in_centres ++ in_leaps)) (FullLeap id result_id) (subst (λ n. Contains in_pages (FullLeap n result_id)) is there))

    pub singles_of : AreTrue next nodes (results_of memo centres leaps) → AreSingles next nodes memo
    singles_of all id j result_id c =
        let result = Centre id j result_id in
        all result (Contains-append_right in_pages (in_entries ++ (in_centres ++ in_leaps)) result
        (Contains-append_left in_entries (in_centres ++ in_leaps) result (filter_map-there single_result memo.order.entries (Single id j, Some result_id) result c refl)))

    pub centres_of : AreTrue next nodes (results_of memo centres leaps) → AreRecentCentres next nodes centres.slots
    centres_of all id j result_id c =
        let result = Centre id j result_id in
        all result (Contains-append_right in_pages (in_entries ++ (in_centres ++ in_leaps)) result
        (Contains-append_right in_entries (in_centres ++ in_leaps) result
        (Contains-append_left in_centres in_leaps result (filter_map-there centre_result centres.slots (Some ((id, j), result_id)) result c refl))))

    pub leaps_of : AreTrue next nodes (results_of memo centres leaps) → AreRecentLeaps next nodes leaps.slots
    leaps_of all nw ne sw se result_id c =
        let result = LeapOfFour nw ne sw se result_id in
        all result (Contains-append_right in_pages (in_entries ++ (in_centres ++ in_leaps)) result
        (Contains-append_right in_entries (in_centres ++ in_leaps) result
        (Contains-append_right in_centres in_leaps result (filter_map-there leap_result leaps.slots (Some ((nw, ne, sw, se), result_id)) result c refl))))

-- a leaper with other tables, where these are true and no more than may be
pub leaper_with : {next : List ℕ → ℕ} {S : Type 0} {nodes : List Node} {memo : MemoView} {centres : SlotsView (ℕ × ℕ)} {leaps : SlotsView (ℕ × ℕ × ℕ × ℕ)} {capacity : ℕ} {cell_rule : Option CellRule}
    → IsLeaper next S nodes memo centres leaps capacity cell_rule → (memo' : MemoView) (centres' : SlotsView (ℕ × ℕ)) (leaps' : SlotsView (ℕ × ℕ × ℕ × ℕ))
    → AreFullLeaps next nodes memo' → AreSingles next nodes memo' → AreRecentCentres next nodes centres'.slots → AreRecentLeaps next nodes leaps'.slots → AreBounded memo' centres' leaps' capacity
    → IsLeaper next S nodes memo' centres' leaps' capacity cell_rule
leaper_with h memo' centres' leaps' full singles some others bounded = record {
  rule = h.rule;
  squares = h.squares;
  remembers = record { true_results = are_true _ _ memo' centres' leaps' full singles some others; most = results_most memo' centres' leaps' _ bounded };
  bounded = bounded;
  by_cells = h.by_cells;
}
