-- The smallest box round the cells of items, as it grows by one item after another.
use Rattle.std.proofs.Common.{◌≡◌, ◌≢◌, ℕ, zero, suc, ◌+◌, ◌-◌, ◌<◌, ◌≤◌, ℤ, pos, ◌+ℤ◌, ◌≤ℤ◌, true, ◌&&◌, ◌==◌, ◌++◌, map, Option, Some, None, ◌⊎◌, inl, inr, refl, sym, subst, ◌∙◌, arith}
use Rattle.std.specs.Prelude.{int_lt}
use Rattle.std.specs.List.{range_with_len}
use Rattle.std.specs.Int.{int_min, int_max}
use Rattle.std.specs.Ordering.{int_eq}
use Rattle.std.proofs.lemmas.Bool.{cases_Bool, cases_cond, cases_eq, eqb-false, eqb-true, false≢true}
use Rattle.std.proofs.lemmas.Int.{ints, clamps}
use Rattle.std.proofs.lemmas.List.{append-nil}
use Rattle.std.proofs.lemmas.List.Elements.{All-contains, All-from_recursion}
use Rattle.ca_plane.specs.declared.point.{Point.Point, Bounds.Bounds}
use Rattle.ca_plane.specs.Prelude.{IsInBox, IsLeastBox, Picture, IsPicture, cell}
use Rattle.ca_plane.proofs.Pictures.{Contains-cell}
use Rattle.ca_plane.proofs.Rising.{place-itself}
use Rattle.ca_rle.specs.declared.item.Item.{Item}
use Rattle.ca_rle.specs.Prelude.{tag_state, run_of}
use Rattle.ca_rle.specs.inner.Boxes.{AreBounds}
use Rattle.ca_rle.specs.inner.Extent.{cells_from}
use Rattle.ca_rle.proofs.CellRuns.{all_run}
use Rattle.ca_rle.proofs.Runs.{cell-after-zero, cell-front}

-- ---- a box with a run

-- the smallest box with a run as well, from a point up to the one with this x
abbrev pub IsBoxWithRun : Point → ℤ → Option Bounds → Bounds → Type 0
IsBoxWithRun first last None new = (new.x0 ≡ first.x) × (new.y0 ≡ first.y) × (new.x1 ≡ last) × (new.y1 ≡ first.y)
IsBoxWithRun first last (Some old) new =
    (new.x0 ≡ int_min old.x0 first.x) × (new.y0 ≡ int_min old.y0 first.y) × (new.x1 ≡ int_max old.x1 last) × (new.y1 ≡ int_max old.y1 first.y)

-- the bounds with the cells of an item that begins at a point, where it has any
pub record AreBoundsWith (at : Point) (item : Item) (old new : Option Bounds) : Type 0 where
  pub dead : tag_state item.tag ≡ 0 → new ≡ old
  pub live : tag_state item.tag ≢ 0 → (box : Bounds) × (new ≡ Some box) × IsBoxWithRun at (at.x +ℤ pos (item.count - 1)) old box

-- ---- cells of two pictures

-- a live cell of the first stays live
live_first : (p r : Picture) (x y : ℤ) → cell p x y ≢ 0 → cell (p ++ r) x y ≢ 0
live_first p r x y live z = live (sym (cell-front p r x y live) ∙ z)

-- and one of the second does
live_second : (p r : Picture) (x y : ℤ) → IsPicture p → cell r x y ≢ 0 → cell (p ++ r) x y ≢ 0
live_second p r x y states live z =
    elim (cases_eq (cell p x y) 0) [
      | inl e ↦ live (sym (cell-after-zero p r x y states e) ∙ z)
      | inr h ↦ live_first p r x y h z
    ]

-- there is no other
live_parts : (p r : Picture) (x y : ℤ) → IsPicture p → cell (p ++ r) x y ≢ 0 → (cell p x y ≢ 0) ⊎ (cell r x y ≢ 0)
live_parts p r x y states live =
    elim (cases_eq (cell p x y) 0) [
      | inl e ↦ inr (λ z. live (cell-after-zero p r x y states e ∙ z))
      | inr h ↦ inl h
    ]

-- ---- runs

-- one cell of a run
abbrev run_cell : ℕ → Point → ℕ → Point × ℕ
run_cell state at k = (record { y = at.y; x = at.x +ℤ pos k }, state)

-- where the cells of a run are
run_place : (state : ℕ) (at : Point) (n : ℕ) (x y : ℤ) → cell (run_of state at n) x y ≢ 0 → (y ≡ at.y) × (at.x ≤ℤ x) × (x ≤ℤ (at.x +ℤ pos (n - 1)))
run_place state at n x y live =
    All-contains (λ e. (e.0.y ≡ at.y) × (at.x ≤ℤ e.0.x) × (e.0.x ≤ℤ (at.x +ℤ pos (n - 1)))) (run_of state at n) _
    (All-from_recursion (λ e. (e.0.y ≡ at.y) × (at.x ≤ℤ e.0.x) × (e.0.x ≤ℤ (at.x +ℤ pos (n - 1)))) (run_of state at n) (all_run (λ e. (e.0.y ≡ at.y) × (at.x ≤ℤ e.0.x) × (e.0.x ≤ℤ (at.x +ℤ pos (n - 1)))) (run_cell state at) 0 n (λ k low. (refl, omega (arith, ints), omega (arith, ints, low)))))
    (Contains-cell (run_of state at n) x y live)

-- each of them has the run's state
run_from : (state : ℕ) (at : Point) (a n k : ℕ) → a ≤ k → k < a + n → cell (map (run_cell state at) (range_with_len a n)) (at.x +ℤ pos k) at.y ≡ state
run_from state at a zero k low high = absurd (omega (arith, low, high))
run_from state at a (suc n) k low high =
    elim (cases_Bool (int_eq at.y at.y && int_eq (at.x +ℤ pos k) (at.x +ℤ pos a))) [
      | inl t ↦ rw t refl
      | inr t ↦
          let apart : k ≢ a = λ same. false≢true (sym t ∙ subst (λ j. (int_eq at.y at.y && int_eq (at.x +ℤ pos j) (at.x +ℤ pos a)) ≡ true) (sym same) (place-itself (record { y = at.y; x = at.x +ℤ pos a }))) in
          rw t (run_from state at (a + 1) n k (omega (arith, low, apart)) (omega (arith, high)))
    ]

run_live : (state : ℕ) (at : Point) (n k : ℕ) → 0 < state → k < n → cell (run_of state at n) (at.x +ℤ pos k) at.y ≢ 0
run_live state at n k live below z = omega (arith, live, run_from state at 0 n k (omega arith) (omega (arith, below)), z)

-- ---- boxes

-- the lesser of two numbers is one of them
cases_int_min : (a b r : ℤ) → r ≡ int_min a b → (r ≡ a) ⊎ (r ≡ b)
cases_int_min a b r e = elim (cases_cond (int_lt b a) b a r e) [ inl h ↦ inr h | inr h ↦ inl h ]

-- and the greater
cases_int_max : (a b r : ℤ) → r ≡ int_max a b → (r ≡ a) ⊎ (r ≡ b)
cases_int_max a b r e = cases_cond (int_lt b a) a b r e

-- what was in the box stays in it
in_box-grown : (old new : Bounds) (at : Point) (last x y : ℤ) → IsBoxWithRun at last (Some old) new → IsInBox old x y → IsInBox new x y
in_box-grown old new at last x y (x0, y0, x1, y1) (left, right, top, bottom) =
    (omega (arith, ints, clamps, x0, left), omega (arith, ints, clamps, x1, right), omega (arith, ints, clamps, y0, top), omega (arith, ints, clamps, y1, bottom))

-- and the run is in it
in_box-run : (old new : Bounds) (at : Point) (last x y : ℤ) → IsBoxWithRun at last (Some old) new → (y ≡ at.y) × (at.x ≤ℤ x) × (x ≤ℤ last) → IsInBox new x y
in_box-run old new at last x y (x0, y0, x1, y1) (row, first, end) =
    (omega (arith, ints, clamps, x0, first), omega (arith, ints, clamps, x1, end), omega (arith, ints, clamps, y0, row), omega (arith, ints, clamps, y1, row))

module _ (p : Picture) (state : ℕ) (at : Point) (n : ℕ) (states : IsPicture p) (live : 0 < state) (some : 0 < n) where
  first_live : cell (p ++ run_of state at n) at.x at.y ≢ 0
  first_live =
      let start : (at.x +ℤ pos 0) ≡ at.x = omega (arith, ints) in
      subst (λ (x : ℤ). cell (p ++ run_of state at n) x at.y ≢ 0) start (live_second p (run_of state at n) _ _ states (run_live state at n 0 live some))

  last_live : cell (p ++ run_of state at n) (at.x +ℤ pos (n - 1)) at.y ≢ 0
  last_live = live_second p (run_of state at n) _ _ states (run_live state at n (n - 1) live (omega (arith, some)))

  box_left : (old : Bounds) (new : ℤ) → (new ≡ old.x0) ⊎ (new ≡ at.x) → IsLeastBox p old → (y : ℤ) × (cell (p ++ run_of state at n) new y ≢ 0)
  box_left old new (inl e) was = (was.left.0, subst (λ (x : ℤ). cell (p ++ run_of state at n) x was.left.0 ≢ 0) (sym e) (live_first p _ _ _ was.left.1))
  box_left old new (inr e) was = (at.y, subst (λ (x : ℤ). cell (p ++ run_of state at n) x at.y ≢ 0) (sym e) first_live)

  box_right : (old : Bounds) (new : ℤ) → (new ≡ old.x1) ⊎ (new ≡ at.x +ℤ pos (n - 1)) → IsLeastBox p old → (y : ℤ) × (cell (p ++ run_of state at n) new y ≢ 0)
  box_right old new (inl e) was = (was.right.0, subst (λ (x : ℤ). cell (p ++ run_of state at n) x was.right.0 ≢ 0) (sym e) (live_first p _ _ _ was.right.1))
  box_right old new (inr e) was = (at.y, subst (λ (x : ℤ). cell (p ++ run_of state at n) x at.y ≢ 0) (sym e) last_live)

  box_top : (old : Bounds) (new : ℤ) → (new ≡ old.y0) ⊎ (new ≡ at.y) → IsLeastBox p old → (x : ℤ) × (cell (p ++ run_of state at n) x new ≢ 0)
  box_top old new (inl e) was = (was.top.0, subst (λ (y : ℤ). cell (p ++ run_of state at n) was.top.0 y ≢ 0) (sym e) (live_first p _ _ _ was.top.1))
  box_top old new (inr e) was = (at.x, subst (λ (y : ℤ). cell (p ++ run_of state at n) at.x y ≢ 0) (sym e) first_live)

  box_bottom : (old : Bounds) (new : ℤ) → (new ≡ old.y1) ⊎ (new ≡ at.y) → IsLeastBox p old → (x : ℤ) × (cell (p ++ run_of state at n) x new ≢ 0)
  box_bottom old new (inl e) was = (was.bottom.0, subst (λ (y : ℤ). cell (p ++ run_of state at n) was.bottom.0 y ≢ 0) (sym e) (live_first p _ _ _ was.bottom.1))
  box_bottom old new (inr e) was = (at.x, subst (λ (y : ℤ). cell (p ++ run_of state at n) at.x y ≢ 0) (sym e) first_live)

  -- the smallest box with a run after the picture
  least_with : (old : Option Bounds) (box : Bounds) → AreBounds p old → IsBoxWithRun at (at.x +ℤ pos (n - 1)) old box → IsLeastBox (p ++ run_of state at n) box
  least_with None box dead (x0, y0, x1, y1) = record {
    all = λ x y here. elim (live_parts p (run_of state at n) x y states here) [
      | inl was ↦ absurd (dead (x, y, was))
      | inr of_run ↦
          let (row, first, end) = run_place state at n x y of_run in
          (omega (arith, ints, x0, first), omega (arith, ints, x1, end), omega (arith, ints, y0, row), omega (arith, ints, y1, row))
    ];
    left = (at.y, subst (λ (x : ℤ). cell (p ++ run_of state at n) x at.y ≢ 0) (sym x0) first_live);
    right = (at.y, subst (λ (x : ℤ). cell (p ++ run_of state at n) x at.y ≢ 0) (sym x1) last_live);
    top = (at.x, subst (λ (y : ℤ). cell (p ++ run_of state at n) at.x y ≢ 0) (sym y0) first_live);
    bottom = (at.x, subst (λ (y : ℤ). cell (p ++ run_of state at n) at.x y ≢ 0) (sym y1) first_live);
  }
  least_with (Some old) box was grown = record {
    all = λ x y here. elim (live_parts p (run_of state at n) x y states here) [
      | inl before ↦ in_box-grown old box at _ x y grown (was.all x y before)
      | inr of_run ↦ in_box-run old box at _ x y grown (run_place state at n x y of_run)
    ];
    left = box_left old box.x0 (cases_int_min _ _ _ grown.0) was;
    right = box_right old box.x1 (cases_int_max _ _ _ grown.2) was;
    top = box_top old box.y0 (cases_int_min _ _ _ grown.1) was;
    bottom = box_bottom old box.y1 (cases_int_max _ _ _ grown.3) was;
  }

-- ---- items

-- the bounds with the cells of one more item
pub cells_bounds : (p : Picture) (at : Point) (i : Item) (old new : Option Bounds) → IsPicture p → AreBounds p old → AreBoundsWith at i old new → 0 < i.count → AreBounds (p ++ cells_from at i) new
cells_bounds p at i old new states bounds grown some =
    elim (cases_Bool (tag_state i.tag == 0)) [
      | inl e ↦
          let same : new ≡ old = grown.dead (eqb-true (tag_state i.tag) 0 e) in
          rw (e, same) (subst (λ (q : Picture). AreBounds q old) (sym (append-nil p)) bounds)
      | inr e ↦
          let (box, is, with_run) = grown.live (eqb-false (tag_state i.tag) 0 e) in
          let live = eqb-false (tag_state i.tag) 0 e in
          rw (e, is) (least_with p (tag_state i.tag) at i.count states (omega (arith, live)) some old box bounds with_run)
    ]
