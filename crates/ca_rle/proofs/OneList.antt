-- Bytes spell one list of items at most.
use Rattle.std.proofs.Common.{◌≡◌, ℕ, List, [], ◌∷◌, ◌++◌, refl, sym, ap, subst, ◌∙◌}
use Rattle.std.proofs.lemmas.Option.{some_pair_parts, none-some}
use Rattle.ca_rle.specs.declared.item.Item.{Item}
use Rattle.ca_rle.specs.Prelude.{IsItem, Run, IsEnd, Items}
use Rattle.ca_rle.proofs.ItemAt.{item_at, item_at_is, no_item_at_end}

-- no item stands where a pattern ends
pub item_or_end : (bytes front more : List ℕ) (i : Item) → IsEnd bytes → IsItem front i → bytes ≡ front ++ more → ⊥
item_or_end bytes front more i end item e = none-some (i, more) (sym (no_item_at_end bytes end) ∙ ap item_at e ∙ item_at_is front more i item)

-- two items at the front of the same bytes are one, and so is what stands after them
pub one_item : (a b m n : List ℕ) (i j : Item) → IsItem a i → IsItem b j → a ++ m ≡ b ++ n → (i ≡ j) × (m ≡ n)
one_item a b m n i j p q e = some_pair_parts i j m n (sym (item_at_is a m i p) ∙ ap item_at e ∙ item_at_is b n j q)

pub one_list : (bytes : List ℕ) (is js : List Item) → Items bytes is → Items bytes js → is ≡ js
one_list bytes [] [] p q = refl
one_list bytes [] (j ∷ js) (rest, run, end) (last, (front, more, item, later, e), done) = absurd (item_or_end bytes front more j (subst IsEnd (sym run) end) item e)
one_list bytes (i ∷ is) [] (last, (front, more, item, later, e), done) (rest, run, end) = absurd (item_or_end bytes front more i (subst IsEnd (sym run) end) item e)
one_list bytes (i ∷ is) (j ∷ js) (rest, (a, m, p, later, d), end) (last, (b, n, q, run, e), done) =
    let same = one_item a b m n i j p q (sym d ∙ e) in
    rw (same.0, one_list m is js (rest, later, end) (last, subst (λ (l : List ℕ). Run l js last) (sym same.1) run, done))
