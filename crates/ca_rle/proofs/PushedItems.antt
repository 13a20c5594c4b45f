-- Items with one more after them: where they stand in the bytes, their rows, columns and cells, and how far they reach.
use Rattle.std.proofs.Common.{◌≡◌, ℕ, ◌+◌, ◌-◌, ◌<◌, ◌≤◌, max, Bool, not, cond, List, [], ◌∷◌, ◌++◌, length, reverse, drop, inl, inr, refl, sym, ap, subst, ◌∙◌, append_assoc, length-append, arith}
use Rattle.std.specs.Prelude.{if◌then◌else◌}
use Rattle.std.specs.List.{AllByRecursion, sum_by, after_last, suffix_len, prefix_len}
use Rattle.std.proofs.lemmas.Bool.{cases_Bool}
use Rattle.std.proofs.lemmas.List.{append-nil, drop_all, drop-append-le, reverse-append, length-reverse}
use Rattle.std.proofs.lemmas.List.Sums.{sum_by_push, prefix_len-le-length}
use Rattle.ca_plane.specs.declared.point.Point.{Point}
use Rattle.ca_rle.specs.declared.item.Item.{Item}
use Rattle.ca_rle.specs.Prelude.{IsCount, Run, ends_row, tag_state, greatest_state, row_count, columns_of, item_cells, picture_after}
use Rattle.ca_rle.specs.inner.Extent.{longest_of, live_count_of_item, live_count_of_items, greatest_of}

-- one more element at the end begins anew, or stands after what was there
after_last-push : {X : Type 0} (p : X → Bool) (xs : List X) (y : X) → after_last p (xs ++ y ∷ []) ≡ (if p y then [] else after_last p xs ++ y ∷ [])
after_last-push {X} p xs y =
    let before = suffix_len (λ x. not (p x)) xs in
    let within : before ≤ length xs = omega (arith, prefix_len-le-length (λ x. not (p x)) (reverse xs), length-reverse xs) in
    let whole : length (xs ++ y ∷ []) ≡ length xs + 1 = omega (arith, length-append xs (y ∷ [])) in
    let ends : suffix_len (λ x. not (p x)) (xs ++ y ∷ []) ≡ cond (not (p y)) (1 + before) 0 = ap (prefix_len (λ x. not (p x))) (reverse-append xs (y ∷ [])) in
    elim (cases_Bool (p y)) [
      | inl e ↦
          let none : cond (not (p y)) (1 + before) 0 ≡ 0 = rw e refl in
          drop_all _ (xs ++ y ∷ []) (omega (arith, ends, none)) ∙ rw e refl
      | inr e ↦
          let more : cond (not (p y)) (1 + before) 0 ≡ 1 + before = rw e refl in
          let start : length (xs ++ y ∷ []) - suffix_len (λ x. not (p x)) (xs ++ y ∷ []) ≡ length xs - before = omega (arith, ends, more) in
          ap (λ n. drop n (xs ++ y ∷ [])) start ∙ drop-append-le (length xs - before) xs (y ∷ []) (omega arith) ∙ rw e refl
    ]

-- the row after one more item
pub row_count-push : (is : List Item) (i : Item) → row_count (is ++ i ∷ []) ≡ row_count is + (if ends_row i.tag then i.count else 0)
row_count-push is i = sum_by_push (λ i. if ends_row i.tag then i.count else 0) is i

-- the column after one more item
pub columns_of-push : (is : List Item) (i : Item) → columns_of (is ++ i ∷ []) ≡ (if ends_row i.tag then 0 else columns_of is + i.count)
columns_of-push is i =
    let last = after_last-push (λ i. ends_row i.tag) is i in
    elim (cases_Bool (ends_row i.tag)) [
      | inl e ↦
          let none : after_last (λ i. ends_row i.tag) (is ++ i ∷ []) ≡ [] = last ∙ rw e refl in
          ap (sum_by (λ i. i.count)) none ∙ rw e refl
      | inr e ↦
          let more : after_last (λ i. ends_row i.tag) (is ++ i ∷ []) ≡ after_last (λ i. ends_row i.tag) is ++ i ∷ [] = last ∙ rw e refl in
          ap (sum_by (λ i. i.count)) more ∙ sum_by_push (λ i. i.count) (after_last (λ i. ends_row i.tag) is) i ∙ rw e refl
    ]

-- the cells of one more item stand after those of the others
pub picture_after-push : (corner : Point) (before is : List Item) (i : Item) → picture_after corner before (is ++ i ∷ []) ≡ picture_after corner before is ++ item_cells corner (before ++ is) i
picture_after-push corner before [] i = append-nil (item_cells corner before i) ∙ ap (λ b. item_cells corner b i) (sym (append-nil before))
picture_after-push corner before (j ∷ js) i =
    ap (λ p. item_cells corner before j ++ p) (picture_after-push corner (before ++ j ∷ []) js i)
    ∙ sym (append_assoc (item_cells corner before j) (picture_after corner (before ++ j ∷ []) js) (item_cells corner ((before ++ j ∷ []) ++ js) i))
    ∙ ap (λ b. (item_cells corner before j ++ picture_after corner (before ++ j ∷ []) js) ++ item_cells corner b i) (append_assoc before (j ∷ []) js)

-- the cells of two parts stand one after the other
pub picture_after-append : (corner : Point) (before is js : List Item) → picture_after corner before (is ++ js) ≡ picture_after corner before is ++ picture_after corner (before ++ is) js
picture_after-append corner before [] js = ap (λ b. picture_after corner b js) (sym (append-nil before))
picture_after-append corner before (i ∷ is) js =
    ap (λ p. item_cells corner before i ++ p) (picture_after-append corner (before ++ i ∷ []) is js)
    ∙ sym (append_assoc (item_cells corner before i) (picture_after corner (before ++ i ∷ []) is) (picture_after corner ((before ++ i ∷ []) ++ is) js))
    ∙ ap (λ b. (item_cells corner before i ++ picture_after corner (before ++ i ∷ []) is) ++ picture_after corner b js) (append_assoc before (i ∷ []) is)

-- the greatest count with one more item
pub longest_of-push : (is : List Item) (i : Item) → longest_of (is ++ i ∷ []) ≡ max (longest_of is) i.count
longest_of-push [] i = omega arith
longest_of-push (j ∷ js) i = let more = longest_of-push js i in omega (arith, more)

-- the greatest state of two lists of items
pub greatest_state-append : (is js : List Item) → greatest_state (is ++ js) ≡ max (greatest_state is) (greatest_state js)
greatest_state-append [] js = omega arith
greatest_state-append (i ∷ is) js = let more = greatest_state-append is js in omega (arith, more)

pub greatest_state-push : (is : List Item) (i : Item) → greatest_state (is ++ i ∷ []) ≡ max (greatest_state is) (tag_state i.tag)
greatest_state-push is i = let parts = greatest_state-append is (i ∷ []) in omega (arith, parts)

-- the greatest of some numbers of items, with one more item
pub greatest_of-push : (number : List Item → Item → ℕ) (before is : List Item) (i : Item) → greatest_of number before (is ++ i ∷ []) ≡ max (greatest_of number before is) (number (before ++ is) i)
greatest_of-push number before [] i =
    let same = ap (λ b. number b i) (append-nil before) in
    omega (arith, same)
greatest_of-push number before (j ∷ js) i =
    let more = greatest_of-push number (before ++ j ∷ []) js i in
    let same = ap (λ b. number b i) (append_assoc before (j ∷ []) js) in
    omega (arith, more, same)

-- the live cells with one more item
pub live_count_of_items-push : (is : List Item) (i : Item) → live_count_of_items (is ++ i ∷ []) ≡ live_count_of_items is + live_count_of_item i
live_count_of_items-push is i = sum_by_push live_count_of_item is i

-- ---- in the bytes

-- one more item stands after those of a run
pub Run-push : (bytes : List ℕ) (is : List Item) (i : Item) (middle end : List ℕ) → Run bytes is middle → Run middle (i ∷ []) end → Run bytes (is ++ i ∷ []) end
Run-push bytes [] i middle end done more = subst (λ b. Run b (i ∷ []) end) (sym done) more
Run-push bytes (j ∷ js) i middle end (front, later, item, run, e) more = (front, later, item, Run-push later js i middle end run more, e)

-- its count is not 0
count_low : (digits : List ℕ) (n : ℕ) → IsCount digits n → 0 < n
count_low [] n h = omega (arith, h)
count_low (d ∷ ds) n h = h.2

-- each count of a run is at least 1
pub counts_low : (bytes : List ℕ) (is : List Item) (end : List ℕ) → Run bytes is end → AllByRecursion (λ i. 0 < i.count) is
counts_low bytes [] end run = tt
counts_low bytes (i ∷ is) end (front, later, (before, digits, between, letters, v, c, w, e, spelled), run, whole) = (count_low digits i.count c, counts_low later is end run)
