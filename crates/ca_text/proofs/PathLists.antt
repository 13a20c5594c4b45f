-- Lists of paths, and where a path stands in one.
use Rattle.std.proofs.Common.{◌≡◌, ◌≢◌, ℕ, zero, suc, ◌<◌, ◌≤◌, ltb, Bool, true, false, not, ◌||◌, List, [], ◌∷◌, ◌++◌, map, filter, slice_get, position, is_some, option_map, Option, None, Some, MatchOption, refl, sym, ap, ◌∙◌, length, length-append, arith, inl, inr}
use Rattle.std.specs.List.{list_any, position_or_len}
use Rattle.std.specs.Str.{bytes_eq}
use Rattle.std.proofs.lemmas.Bool.{cases_Bool, false≢true, ltb-true, or_left, or_right}
use Rattle.std.proofs.lemmas.Option.{same_Some, none-some, slice_get-map, slice_get_cases, cond_some}
use Rattle.std.proofs.lemmas.Slice.Eq.{bytes_eq-Decides}
use Rattle.std.proofs.lemmas.List.{map-append, append-nil}
use Rattle.std.proofs.lemmas.List.Elements.{filter-append}
use Rattle.std.proofs.lemmas.List.Quantifiers.{position-Some}
use Rattle.indexmap.specs.IndexSet.{insert_key}
use Rattle.ca_text.specs.Prelude.{with_word, paths_once}

-- bytes are equal to themselves
pub bytes_eq_self : (xs : List ℕ) → bytes_eq xs xs ≡ true
bytes_eq_self xs = (bytes_eq-Decides xs xs).1 refl

-- a path that stands among these is one of them
pub there : (paths : List (List ℕ)) (path : List ℕ) (i : ℕ) → slice_get paths i ≡ Some path → list_any (bytes_eq path) paths ≡ true
there [] path i h = absurd (none-some path h)
there (p ∷ ps) path zero h =
    or_left (bytes_eq path p) (list_any (bytes_eq path) ps) (ap (bytes_eq path) (same_Some p path h) ∙ bytes_eq_self path)
there (p ∷ ps) path (suc i) h = or_right (bytes_eq path p) (list_any (bytes_eq path) ps) (there ps path i h)

-- and isn't put again
pub with_word_there : (paths : List (List ℕ)) (path : List ℕ) (i : ℕ) → slice_get paths i ≡ Some path → with_word paths path ≡ paths
with_word_there paths path i h = rw (there paths path i h) refl

-- a filter takes away what is equal to x
none_left : (p x : List ℕ) (es : List (List ℕ)) → bytes_eq p x ≡ true → filter (λ q. not (bytes_eq q x)) (with_word es p) ≡ filter (λ q. not (bytes_eq q x)) es
none_left p x es e =
    let gone : filter (λ q. not (bytes_eq q x)) (p ∷ []) ≡ [] = rw e refl in
    elim (cases_Bool (list_any (bytes_eq p) es)) [
      | inl here ↦ rw here refl
      | inr new ↦ rw new (filter-append (λ q. not (bytes_eq q x)) es (p ∷ []) ∙ ap (λ l. filter (λ q. not (bytes_eq q x)) es ++ l) gone ∙ append-nil (filter (λ q. not (bytes_eq q x)) es))
    ]

-- a path other than x is among these where it is among those other than x
kept_there : (p x : List ℕ) (es : List (List ℕ)) → bytes_eq p x ≡ false → list_any (bytes_eq p) (filter (λ q. not (bytes_eq q x)) es) ≡ list_any (bytes_eq p) es
kept_there p x [] e = refl
kept_there p x (q ∷ es) e =
    let later = kept_there p x es e in
    elim (cases_Bool (bytes_eq q x)) [
      | inl same ↦
          let other : bytes_eq p q ≡ false = ap (bytes_eq p) ((bytes_eq-Decides q x).0 same) ∙ e in
          rw (same, other) later
      | inr apart ↦ rw apart (ap (λ b. bytes_eq p q || b) later)
    ]

-- and is put after those other than x
put_after : (p x : List ℕ) (es : List (List ℕ)) → bytes_eq p x ≡ false → filter (λ q. not (bytes_eq q x)) (with_word es p) ≡ with_word (filter (λ q. not (bytes_eq q x)) es) p
put_after p x es e =
    let stays : filter (λ q. not (bytes_eq q x)) (p ∷ []) ≡ p ∷ [] = rw e refl in
    let same = kept_there p x es e in
    elim (cases_Bool (list_any (bytes_eq p) es)) [
      | inl here ↦ rw (same, here) refl
      | inr new ↦ rw (same, new) (filter-append (λ q. not (bytes_eq q x)) es (p ∷ []) ∙ ap (λ l. filter (λ q. not (bytes_eq q x)) es ++ l) stays)
    ]

-- a path equal to the first is there
with_first : (p x : List ℕ) (es : List (List ℕ)) → bytes_eq p x ≡ true → with_word (x ∷ es) p ≡ x ∷ es
with_first p x es e = rw e refl

-- any other is put after the first, as after the others
with_other : (p x : List ℕ) (es : List (List ℕ)) → bytes_eq p x ≡ false → with_word (x ∷ es) p ≡ x ∷ with_word es p
with_other p x es e = elim (cases_Bool (list_any (bytes_eq p) es)) [ inl here ↦ rw (e, here) refl | inr new ↦ rw (e, new) refl ]

-- each once, after one more path
pub paths_once-push : (ps : List (List ℕ)) (p : List ℕ) → paths_once (ps ++ p ∷ []) ≡ with_word (paths_once ps) p
paths_once-push [] p = refl
paths_once-push (x ∷ xs) p =
    let later = ap (λ l. x ∷ filter (λ q. not (bytes_eq q x)) l) (paths_once-push xs p) in
    elim (cases_Bool (bytes_eq p x)) [
      | inl e ↦ later ∙ ap (λ l. x ∷ l) (none_left p x (paths_once xs) e) ∙ sym (with_first p x (filter (λ q. not (bytes_eq q x)) (paths_once xs)) e)
      | inr e ↦ later ∙ ap (λ l. x ∷ l) (put_after p x (paths_once xs) e) ∙ sym (with_other p x (filter (λ q. not (bytes_eq q x)) (paths_once xs)) e)
    ]

-- paths keep their places where more come after them
pub stays_before : (paths more : List (List ℕ)) (i : ℕ) → i < length paths → slice_get (paths ++ more) i ≡ slice_get paths i
stays_before [] more i h = absurd (omega arith)
stays_before (p ∷ ps) more zero h = refl
stays_before (p ∷ ps) more (suc i) h = stays_before ps more i (omega arith)

-- the last one stands where the others end
pub stands_last : (texts : List (List ℕ)) (text : List ℕ) → slice_get (texts ++ text ∷ []) (length texts) ≡ Some text
stands_last [] text = refl
stands_last (t ∷ ts) text = stands_last ts text

-- the paths keep their places
pub kept_place : (paths : List (List ℕ)) (path : List ℕ) (i : ℕ) → i < length paths → slice_get (with_word paths path) i ≡ slice_get paths i
kept_place paths path i h = elim (cases_Bool (list_any (bytes_eq path) paths)) [ inl here ↦ rw here refl | inr new ↦ rw new (stays_before paths (path ∷ []) i h) ]

-- and are no fewer
pub no_fewer : (paths : List (List ℕ)) (path : List ℕ) → length paths ≤ length (with_word paths path)
no_fewer paths path = elim (cases_Bool (list_any (bytes_eq path) paths)) [ inl here ↦ rw here (omega arith) | inr new ↦ rw new (omega (arith, length-append paths (path ∷ []))) ]

module _ {K : Type 0} (items : K → List ℕ) (path : List ℕ) where
  -- a test of the items is a test of the keys
  pub any_items : (keys : List K) → list_any (bytes_eq path) (map items keys) ≡ list_any (λ k. bytes_eq path (items k)) keys
  any_items [] = refl
  any_items (k ∷ ks) = ap (λ b. bytes_eq path (items k) || b) (any_items ks)

  -- a place that a search gives is inside the list
  no_index : (keys : List K) (i : ℕ) → position (λ k. bytes_eq path (items k)) keys ≡ Some i → length keys ≤ i → ⊥
  no_index keys i e past =
      let n = position_or_len (λ k. bytes_eq path (items k)) keys in
      let h = cond_some (ltb n (length keys)) n i e in
      let inside : n < length keys = ltb-true n (length keys) h.0 in
      let here : n ≡ i = h.1 in
      omega arith

  -- where a search ends that looks for the path
  pub found_at : (keys : List K) (r : Option ℕ) → r ≡ position (λ k. bytes_eq path (items k)) keys → is_some r ≡ list_any (λ k. bytes_eq path (items k)) keys
      → MatchOption r ((i : ℕ) → slice_get (map items keys) i ≢ Some path) (λ i. slice_get (map items keys) i ≡ Some path)
  found_at keys None e found = λ i h. false≢true (found ∙ sym (any_items keys) ∙ there (map items keys) path i h)
  found_at keys (Some i) e found = elim (slice_get_cases keys i).1 [
    | inl here ↦
        let at = position-Some (λ k. bytes_eq path (items k)) keys i here.0 (sym e) in
        slice_get-map items keys i ∙ ap (option_map items) here.2 ∙ ap Some (sym ((bytes_eq-Decides path (items here.0)).0 (ap (λ k. bytes_eq path (items k)) (sym here.3) ∙ at.1)))
    | inr past ↦ absurd (no_index keys i (sym e) past.0)
  ]

  -- the items of keys, of which one is inserted
  pub items_insert_key : (eq : K → K → Bool) (keys : List K) (k : K) → items k ≡ path → ((j : K) → eq k j ≡ bytes_eq path (items j)) → map items (insert_key eq keys k) ≡ with_word (map items keys) path
  items_insert_key eq keys k e same =
      let tests : eq k ≡ (λ j. bytes_eq path (items j)) = λ i j. same j i in
      let found : list_any (eq k) keys ≡ list_any (bytes_eq path) (map items keys) = ap (λ t. list_any t keys) tests ∙ sym (any_items keys) in
      elim (cases_Bool (list_any (bytes_eq path) (map items keys))) [
        | inl here ↦ rw (found, here) refl
        | inr new ↦ rw (found, new) (map-append items keys (k ∷ []) ∙ ap (λ p. map items keys ++ p ∷ []) e)
      ]

  -- the item of the key at a place, which is equal to one with these items
  pub item_at : (keys : List K) (i : ℕ) (k j : K) → slice_get keys i ≡ Some k → bytes_eq (items j) (items k) ≡ true → items j ≡ path → slice_get (map items keys) i ≡ Some path
  item_at keys i k j here same e =
      slice_get-map items keys i ∙ ap (option_map items) here ∙ ap Some (sym ((bytes_eq-Decides (items j) (items k)).0 same) ∙ e)
