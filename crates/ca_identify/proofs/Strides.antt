-- Strides: what the plane at the end of one shows of the generations within it.
use Rattle.std.proofs.Common.{◌≡◌, ◌≢◌, ℕ, zero, suc, ◌+◌, ◌-◌, ◌≤◌, ◌<◌, List, [], ◌∷◌, ◌++◌, length, take, Some, slice_get, inl, inr, refl, sym, subst, ap, ap₂, ◌∙◌, arith}
use Rattle.std.specs.Prelude.{ℤ, neg_ℤ, ◌+ℤ◌, ◌-ℤ◌, replicate}
use Rattle.std.proofs.lemmas.Int.{ints}
use Rattle.std.proofs.lemmas.Option.{none-some, same_Some}
use Rattle.ca_plane.specs.Prelude.{Picture, shifted, cells_after, IsAfter, longest_period}
use Rattle.ca_plane.specs.Plane as plane
use Rattle.ca_plane.proofs.Shifts.{cell-shifted}
use Rattle.ca_quad.specs.declared.{node.Node.Node, tree.Tree.Tree}
use Rattle.ca_quad.specs.Prelude.{shifted_cells, IsSoundStore, Grows, cell, HoldsAll}
use Rattle.ca_plane.proofs.Numbers.{below_or_not}
use Rattle.ca_quad.proofs.Trims.{trees_stay}
use Rattle.ca_plane.proofs.After.{after_same, after_seen, after_again, after_dead}
use Rattle.ca_steps.proofs.Returning.{settles_alike}
use Rattle.ca_identify.specs.declared.identification.{stage.First.First, stage.Stage.Stage}
use Rattle.ca_identify.specs.declared.identification.stage.Stage.TheVariants.{Empty, Back, Other}
use Rattle.ca_identify.specs.inner.Stages.{AreMoved, AreMovedNowhere, IsStage, AreOtherUpTo, IsEarly, AreEarly}
use Rattle.ca_evolution.specs.Prelude.{CanGoOn}
use Rattle.ca_pattern.specs.Prelude.{IsLaterTree, HasLive}
use Rattle.ca_identify.proofs.Identities.{picture_moved, picture_nowhere}
use Rattle.ca_pattern.proofs.Searches.{search_within}
use Rattle.ca_identify.proofs.Stages.{first_stays}
use Rattle.ca_pattern.proofs.Starts.{start_near}

module _ (next : List ℕ → ℕ) (p : ℤ → ℤ → ℕ) where
  -- where the first cells are there again, moved, so are the planes that follow them
  pub moved_on : (m k : ℕ) (dx dy : ℤ) → AreMoved p (cells_after next p m) dx dy → AreMoved (cells_after next p k) (cells_after next p (m + k)) dx dy
  moved_on m k dx dy moved x y =
      let back : (u v : ℤ) → shifted_cells p dx dy u v ≡ p (neg_ℤ dx +ℤ u) (neg_ℤ dy +ℤ v) = λ u v. ap₂ p (omega (arith, ints)) (omega (arith, ints)) in
      let there : cells_after next p k (neg_ℤ dx +ℤ x) (neg_ℤ dy +ℤ y) ≡ cells_after next p k (x -ℤ dx) (y -ℤ dy) = ap₂ (cells_after next p k) (omega (arith, ints)) (omega (arith, ints)) in
      sym (after_again next p m k x y)
      ∙ after_same next (cells_after next p m) (shifted_cells p dx dy) k moved x y
      ∙ after_same next (shifted_cells p dx dy) (λ u v. p (neg_ℤ dx +ℤ u) (neg_ℤ dy +ℤ v)) k back x y
      ∙ after_seen next p (neg_ℤ dx) (neg_ℤ dy) k x y
      ∙ there

  module _ (quiet : next (replicate 9 0) ≡ 0) where
    -- a plane that is live was live some generations before
    lived : (m k : ℕ) → HasLive (cells_after next p (m + k)) → HasLive (cells_after next p m)
    lived m k live =
        elim (search_within (cells_after next p m) (λ _ _. 0) k live.0 live.1) [
          | inl none ↦ absurd (live.2 (sym (after_again next p m k live.0 live.1) ∙ after_dead next (cells_after next p m) quiet k live.0 live.1 none))
          | inr found ↦ found
        ]

    -- where the plane after `end` generations is live, and is none of the planes from number `end - last` onwards,
    -- below `end - n`, moved, then none up to `last` was dead or the first one, moved, if none up to n was
    pub stride_others : (n end last : ℕ) → last ≤ end → AreOtherUpTo next p n → HasLive (cells_after next p end)
        → ((j : ℕ) → j < end - n → end - last ≤ j → AreMovedNowhere (cells_after next p j) (cells_after next p end)) → AreOtherUpTo next p last
    stride_others n end last short others live nowhere = λ m some within.
        let sum : end ≡ m + (end - m) = omega (arith, within, short) in
        elim (below_or_not n m) [
          | inr early ↦ others m some early
          | inl late ↦ (
            lived m (end - m) (subst (λ k. HasLive (cells_after next p k)) sum live),
            λ dx dy moved. nowhere (end - m) (omega (arith, late, within, short)) (omega (arith, within)) dx dy
                (subst (λ k. AreMoved (cells_after next p (end - m)) (cells_after next p k) dx dy) (sym sum) (moved_on m (end - m) dx dy moved)),
          )
        ]

  -- where a plane is an earlier one, moved, and the first one isn't there again after as many generations, it never is
  pub never_again : (cells settled : Picture) → ((x y : ℤ) → plane.cell cells x y ≡ p x y) → (j end : ℕ) → j ≤ end → ((x y : ℤ) → plane.cell settled x y ≡ cells_after next p j x y)
      → (u v : ℤ) → AreMoved (cells_after next p j) (cells_after next p end) u v → AreMovedNowhere p (cells_after next p (end - j)) → (m : ℕ) → 1 ≤ m → AreMovedNowhere p (cells_after next p m)
  never_again cells settled shows j end within shown u v moved nowhere m some dx dy back =
      let q = end - j in
      let sum : j + q ≡ end = omega (arith, within) in
      let there : IsAfter next cells j settled = λ x y. after_same next (plane.cell cells) p j shows x y ∙ sym (shown x y) in
      let goes : (x y : ℤ) → cells_after next p (j + q) x y ≡ shifted_cells (cells_after next p j) u v x y = subst (λ k. AreMoved (cells_after next p j) (cells_after next p k) u v) (sym sum) moved in
      let again : IsAfter next settled q (shifted settled u v) = λ x y.
      after_same next (plane.cell settled) (cells_after next p j) q shown x y ∙ after_again next p j q x y ∙ goes x y ∙ sym (shown (x -ℤ u) (y -ℤ v)) ∙ sym (cell-shifted settled u v x y) in
      picture_nowhere next p cells shows q nowhere u v (settles_alike next cells settled m j q u v (some, dx, dy, picture_moved next p cells shows m dx dy back) there again)

-- ---- the first planes

-- what holds of each element by its place, with one more at the end
pushed_at : {X : Type 0} (P : ℕ → X → Type 0) (xs : List X) (x : X) → ((k : ℕ) (y : X) → slice_get xs k ≡ Some y → P k y) → P (length xs) x → (k : ℕ) (y : X) → slice_get (xs ++ x ∷ []) k ≡ Some y → P k y
pushed_at P [] x all here zero y is = subst (P 0) (same_Some x y is) here
pushed_at P [] x all here (suc k) y is = absurd (none-some y is)
pushed_at P (e ∷ xs) x all here zero y is = all zero y is
pushed_at P (e ∷ xs) x all here (suc k) y is = pushed_at (λ i z. P (suc i) z) xs x (λ i z at. all (suc i) z at) here k y is

-- one plane more
pub one_more_early : (next : List ℕ → ℕ) (p : ℤ → ℤ → ℕ) (nodes : List Node) (planes : List First) (plane : First) → AreEarly next p nodes planes → IsEarly next p nodes (length planes) plane
    → AreEarly next p nodes (planes ++ plane ∷ [])
one_more_early next p nodes planes plane all here = pushed_at (IsEarly next p nodes) planes plane all here

-- they stay what they are
pub early_stays : (next : List ℕ → ℕ) (p : ℤ → ℤ → ℕ) (old new : List Node) → IsSoundStore old → Grows old new → (planes : List First) → AreEarly next p old planes → AreEarly next p new planes
early_stays next p old new sound grows planes are = λ k plane at.
    let is = are k plane at in
    record {
      is_first = first_stays old new sound grows plane is.is_first;
      shows = λ x y. trees_stay old new sound grows plane.tree is.is_first.start.is_tree x y ∙ is.shows x y;
    }

-- ---- elements of lists by their places

-- each place has one
pub element_at : {X : Type 0} (xs : List X) (k : ℕ) → k < length xs → (y : X) × (slice_get xs k ≡ Some y)
element_at [] k less = absurd (omega (arith, less))
element_at (x ∷ xs) zero less = (x, refl)
element_at (x ∷ xs) (suc k) less = element_at xs k (omega (arith, less))

-- those of a first part are the list's, before its end
pub part_at : {X : Type 0} (xs : List X) (n k : ℕ) (y : X) → slice_get (take n xs) k ≡ Some y → (slice_get xs k ≡ Some y) × (k < n)
part_at xs zero k y is = absurd (none-some y is)
part_at [] (suc n) k y is = absurd (none-some y is)
part_at (x ∷ xs) (suc n) zero y is = (is, omega arith)
part_at (x ∷ xs) (suc n) (suc k) y is = let rest = part_at xs n k y is in (rest.0, let less = rest.1 in omega (arith, less))

-- and those before its end are its own
pub at_part : {X : Type 0} (xs : List X) (n k : ℕ) (y : X) → k < n → slice_get xs k ≡ Some y → slice_get (take n xs) k ≡ Some y
at_part xs zero k y less is = absurd (omega (arith, less))
at_part [] (suc n) k y less is = is
at_part (x ∷ xs) (suc n) zero y less is = is
at_part (x ∷ xs) (suc n) (suc k) y less is = at_part xs n k y (omega (arith, less)) is

-- ---- the tree at a stride's end

-- later cells that the first ones are moved onto by no vector, over cells that are the same
pub nowhere_as : (p q f g : ℤ → ℤ → ℕ) → ((x y : ℤ) → p x y ≡ f x y) → ((x y : ℤ) → q x y ≡ g x y) → AreMovedNowhere p q → AreMovedNowhere f g
nowhere_as p q f g first later nowhere = λ dx dy moved. nowhere dx dy (λ x y. later x y ∙ moved x y ∙ sym (first (x -ℤ dx) (y -ℤ dy)))

-- or by one
pub moved_as : (p q f g : ℤ → ℤ → ℕ) → ((x y : ℤ) → p x y ≡ f x y) → ((x y : ℤ) → q x y ≡ g x y) → (dx dy : ℤ) → AreMoved p q dx dy → AreMoved f g dx dy
moved_as p q f g first later dx dy moved = λ x y. sym (later x y) ∙ moved x y ∙ first (x -ℤ dx) (y -ℤ dy)

-- a live plane, over cells that are the same
pub live_as : (p q : ℤ → ℤ → ℕ) → ((x y : ℤ) → p x y ≡ q x y) → HasLive p → HasLive q
live_as p q same live = (live.0, live.1, λ none. live.2 (same live.0 live.1 ∙ none))

module _ (next : List ℕ → ℕ) (p : ℤ → ℤ → ℕ) (n end : ℕ) (within : n ≤ end) (nodes : List Node) (now : Tree) (is : IsLaterTree next p n nodes now) where
  -- what follows in as many generations as are left
  on_to_end : (x y : ℤ) → cells_after next (cell nodes now) (end - n) x y ≡ cells_after next p end x y
  on_to_end x y =
      let sum : n + (end - n) ≡ end = omega (arith, within) in
      after_same next (cell nodes now) (cells_after next p n) (end - n) is.shows x y ∙ after_again next p n (end - n) x y ∙ ap (λ k. cells_after next p k x y) sum

  -- so far its plane can be taken on
  pub stride_can_go : next (replicate 9 0) ≡ 0 → HoldsAll 62 p → end ≤ longest_period → CanGoOn next nodes now (end - n)
  stride_can_go quiet holds few = record {
    is_tree = is.near.is_tree;
    low = is.low;
    trimmed = is.trimmed;
    few = omega (arith, few);
    near = λ x y out. on_to_end x y ∙ start_near next p end quiet holds (omega (arith, few)) x y out;
  }

  -- and the tree that it comes to is that of the end
  pub stride_tree : (new : List Node) (tree : Tree) → IsLaterTree next (cell nodes now) (end - n) new tree → IsLaterTree next p end new tree
  stride_tree new tree later = record { near = later.near; low = later.low; trimmed = later.trimmed; shows = λ x y. later.shows x y ∙ on_to_end x y }

-- live cells that show no return are the first ones moved nowhere
pub not_back : (first later : ℤ → ℤ → ℕ) (stage : Stage) → IsStage first later stage → HasLive later → ((dx dy : ℤ) → stage ≢ Back dx dy) → AreMovedNowhere first later
not_back first later Empty dead live none = absurd (live.2 (dead live.0 live.1))
not_back first later (Back dx dy) moved live none = absurd (none dx dy refl)
not_back first later Other other live none = other.1
