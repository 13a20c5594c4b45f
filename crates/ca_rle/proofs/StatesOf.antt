-- The states of tidy items are those of the cells that they show.
use Rattle.std.proofs.Common.{◌≡◌, ℕ, zero, suc, ◌<◌, ◌≤◌, List, [], ◌∷◌, ◌++◌, inl, inr, subst, sym, arith}
use Rattle.std.specs.List.{All}
use Rattle.std.proofs.lemmas.Bool.{cases_eq}
use Rattle.std.proofs.lemmas.List.Elements.{All-head, All-tail}
use Rattle.ca_plane.specs.declared.point.Point.{Point}
use Rattle.ca_plane.specs.Prelude.{Picture, IsPicture}
use Rattle.ca_rle.specs.declared.item.Item.{Item}
use Rattle.ca_rle.specs.Prelude.{tag_state, run_of, place_after, item_cells, picture_after, picture_of_items, AreTidy, HaveStates}
use Rattle.ca_rle.proofs.Gaps.{nonzero}

-- what holds of all holds of those after
all_after : {X : Type 0} (P : X → Type 0) (xs ys : List X) → All P (xs ++ ys) → All P ys
all_after P [] ys all = all
all_after P (x ∷ xs) ys all = all_after P xs ys (All-tail P x (xs ++ ys) all)

-- what holds of the cells of a run's picture holds of its state
run_state : (P : ℕ → Type 0) (s n : ℕ) (at : Point) (rest : Picture) → 0 < n → All (λ e. P e.1) (run_of s at n ++ rest) → P s
run_state P s zero at rest some all = absurd (omega arith)
run_state P s (suc n) at rest some all = All-head (λ (e : Point × ℕ). P e.1) _ _ all

-- and so of the state of each live item
item_state : (P : ℕ → Type 0) (corner : Point) (before : List Item) (i : Item) (rest : Picture) → 0 < i.count → All (λ e. P e.1) (item_cells corner before i ++ rest) → 0 < tag_state i.tag → P (tag_state i.tag)
item_state P corner before i rest some all live =
    run_state P (tag_state i.tag) i.count (place_after corner before) rest some (rw (nonzero (tag_state i.tag) live) at all)

items_states : (n : ℕ) (corner : Point) (before is : List Item) → AreTidy is → All (λ e. (e.1 ≤ 255) × (e.1 < n)) (picture_after corner before is) → HaveStates n is
items_states n corner before [] tidy all = tt
items_states n corner before (i ∷ is) tidy all =
    let some : 0 < i.count = first_count i is tidy in
    let rest = picture_after corner (before ++ i ∷ []) is in
    let here = item_state (λ s. (s ≤ 255) × (s < n)) corner before i rest some all in
    ((low here, λ live. (here live).1), items_states n corner (before ++ i ∷ []) is (later i is tidy) (all_after (λ (e : Point × ℕ). (e.1 ≤ 255) × (e.1 < n)) (item_cells corner before i) rest all))
  where
    first_count : (i : Item) (is : List Item) → AreTidy (i ∷ is) → 0 < i.count
    first_count i [] tidy = tidy.0
    first_count i (j ∷ js) tidy = tidy.0

    later : (i : Item) (is : List Item) → AreTidy (i ∷ is) → AreTidy is
    later i [] tidy = tt
    later i (j ∷ js) tidy = tidy.3

    low : (0 < tag_state i.tag → (tag_state i.tag ≤ 255) × (tag_state i.tag < n)) → tag_state i.tag ≤ 255
    low here = elim (cases_eq (tag_state i.tag) 0) [ inl e ↦ omega (arith, e) | inr e ↦ (here (omega (arith, e))).0 ]

-- tidy items whose picture has states from 1 to 255 below a number have states below it
pub have_states : (n : ℕ) (corner : Point) (p : Picture) (is : List Item) → AreTidy is → picture_of_items corner is ≡ p → IsPicture p → All (λ e. e.1 < n) p → HaveStates n is
have_states n corner p is tidy shown states below =
    items_states n corner [] is tidy (subst (λ (q : Picture). All (λ e. (e.1 ≤ 255) × (e.1 < n)) q) (sym shown) (λ k d l. ((states k d l).1, below k d l)))
