-- Items that were read so far are the first of all items of the body.
use Rattle.std.proofs.Common.{◌≡◌, ℕ, ◌≤◌, List, [], ◌∷◌, ◌++◌, Some, refl, sym, ap, subst, ◌∙◌, arith}
use Rattle.std.proofs.lemmas.Bool.Decides.{nat_tests}
use Rattle.ca_rle.specs.declared.item.{Item.Item, Tag.Tag}
use Rattle.ca_rle.specs.Prelude.{tag_of, Run, IsEnd, Items, tag_state}
use Rattle.ca_rle.proofs.OneList.{item_or_end, one_item, one_list}

-- the items after those that were read spell what is left
pub items_left : (bytes rest : List ℕ) (all some : List Item) → Items bytes all → Run bytes some rest → (others : List Item) × Items rest others × (all ≡ some ++ others)
items_left bytes rest all [] items done = (all, subst (λ b. Items b all) done items, refl)
items_left bytes rest [] (j ∷ js) (last, run, end) (front, more, item, later, e) = absurd (item_or_end bytes front more j (subst IsEnd (sym run) end) item e)
items_left bytes rest (i ∷ is) (j ∷ js) (last, (a, m, p, later, d), end) (b, n, q, run, e) =
    let same = one_item a b m n i j p q (sym d ∙ e) in
    let left = items_left n rest is js (last, subst (λ l. Run l is last) same.1 later, end) run in
    (left.0, left.1, ap (λ (k : Item). k ∷ is) same.0 ∙ ap (λ l. j ∷ l) left.2)

-- at an end all were read
pub items_done : (bytes rest : List ℕ) (all some : List Item) → Items bytes all → Run bytes some rest → IsEnd rest → all ≡ some
items_done bytes rest all some items run end = one_list bytes all some items (rest, run, end)

-- no state is above 255
pub state_low : (letters : List ℕ) (t : Tag) → tag_of letters ≡ Some t → tag_state t ≤ 255
state_low [] t e = absurd cc
state_low (b ∷ []) t e = grind (arith, nat_tests)
state_low (p ∷ b ∷ []) t e = grind (arith, nat_tests)
state_low (p ∷ b ∷ c ∷ bs) t e = absurd cc

pub item_state_low : (bytes : List ℕ) (i : Item) (more : List ℕ) → Run bytes (i ∷ []) more → tag_state i.tag ≤ 255
item_state_low bytes i more (front, later, (before, digits, between, letters, v, c, w, e, spelled), same, whole) = state_low letters i.tag e
