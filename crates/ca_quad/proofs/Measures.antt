-- What is found out of a square from its cells, or from the same of its parts.
use Rattle.std.proofs.Common.{◌≡◌, ℕ, suc, ◌+◌, ◌-◌, ◌≤◌, ◌^◌, inl, inr, ◌==◌, cond, Some, Option, List, length, refl, sym, ap, subst, ◌∙◌, arith}
use Rattle.std.proofs.lemmas.Bool.{cases_Bool, eqb-true}
use Rattle.std.proofs.Math.Nat.{two-pow-succ}
use Rattle.ca_quad.specs.declared.{node.Node.Node, store.extent.Extent.Extent}
use Rattle.ca_quad.specs.declared.square.Square.TheVariants.{Four, Parts}
use Rattle.ca_quad.specs.Prelude.{AreSquareBoxes, square_of, level, level_of, IsOf, one_cell, cell_of, HasParts, IsSoundStore, Grows, square_value, IsIn}
use Rattle.ca_quad.specs.inner.Extent.{IsSquareExtent}
use Rattle.ca_quad.specs.inner.Measure.{EndsWithin, IsJoined, IsMeasureOf, AreMeasures}
use Rattle.ca_quad.proofs.Cells.{dot_ends, cell_ends, cells_stay, of_stays}
use Rattle.ca_quad.proofs.Walks.{four_show, parts_show}

module _ {V : Type 0} (is : (ℕ → ℕ → ℕ) → ℕ → V → Type 0) (nodes : List Node) (id : ℕ) where
  -- from four cells
  pub measure_four : (nw ne sw se : ℕ) → Four nw ne sw se ≡ square_of nodes id → (a b c d all : V) → is (one_cell nw) 1 a → is (one_cell ne) 1 b → is (one_cell sw) 1 c → is (one_cell se) 1 d
      → IsJoined is 1 a b c d all → IsMeasureOf is nodes id all
  measure_four nw ne sw se e a b c d all f g h i joined k of =
      let one : k ≡ 1 = sym of.is_level ∙ ap level (sym e) in
      let ends : (state : ℕ) → EndsWithin 1 (one_cell state) = λ state. dot_ends state 1 (omega arith) in
      rw (four_show nodes id k of nw ne sw se e, one) (joined (one_cell nw) (one_cell ne) (one_cell sw) (one_cell se) (ends nw) (ends ne) (ends sw) (ends se) f g h i)

  -- from four parts
  pub measure_parts : (m nw ne sw se : ℕ) → Parts m nw ne sw se ≡ square_of nodes id → HasParts nodes (length nodes) m nw ne sw se → (side : ℕ) → side ≡ 2 ^ (m - 1)
      → (a b c d all : V) → IsMeasureOf is nodes nw a → IsMeasureOf is nodes ne b → IsMeasureOf is nodes sw c → IsMeasureOf is nodes se d
      → IsJoined is side a b c d all → IsMeasureOf is nodes id all
  measure_parts m nw ne sw se e whole side half a b c d all f g h i joined k of =
      let some : 1 ≤ m = omega (arith, whole.least) in
      let same : k ≡ m = sym of.is_level ∙ ap level (sym e) in
      let next : suc (m - 1) ≡ k = omega arith in
      let part = cell_of nodes (m - 1) in
      let ends = cell_ends nodes (m - 1) in
      let both : 2 ^ k ≡ 2 ^ (m - 1) + 2 ^ (m - 1) = ap (λ k. 2 ^ k) (sym next) ∙ two-pow-succ (m - 1) in
      let all_joined : IsJoined is (2 ^ (m - 1)) a b c d all = subst (λ n. IsJoined is n a b c d all) half joined in
      rw (parts_show nodes id k of m nw ne sw se some e, both)
      (all_joined (part nw) (part ne) (part sw) (part se) (ends nw) (ends ne) (ends sw) (ends se) (f (m - 1) whole.is_nw) (g (m - 1) whole.is_ne) (h (m - 1) whole.is_sw) (i (m - 1) whole.is_se))

-- when the store grows, what was measured stays true
module _ {V : Type 0} (is : (ℕ → ℕ → ℕ) → ℕ → V → Type 0) (old new : List Node) (sound : IsSoundStore old) (grows : Grows old new) where
  measure_stays : (id : ℕ) (value : V) → IsIn old id → IsMeasureOf is old id value → IsMeasureOf is new id value
  measure_stays id value before of level now =
      let was : IsOf old id (level_of old id) = record { before = before; is_level = refl } in
      let same : level_of old id ≡ level = sym (of_stays old new sound grows id (level_of old id) was).is_level ∙ now.is_level in
      let was_level : IsOf old id level = subst (IsOf old id) same was in
      subst (λ cells. is cells (2 ^ level) value) (sym (cells_stay old new sound grows level id was_level)) (of level was_level)

  pub measures_stay : (values : List (ℕ × V)) → AreMeasures is old values → AreMeasures is new values
  measures_stay values are id value h =
      let one = are id value h in
      (omega (arith, one.0, grows.longer), measure_stays id value one.0 one.1)

-- and so do the boxes of squares
pub boxes_stay : (old new : List Node) → IsSoundStore old → Grows old new → (boxes : List (ℕ × Option Extent)) → AreSquareBoxes old boxes → AreSquareBoxes new boxes
boxes_stay old new sound grows = measures_stay (λ cells side found. IsSquareExtent cells side side found) old new sound grows

some_same : {V : Type 0} {v w : V} → Some v ≡ Some w → v ≡ w
some_same e = cc

-- with one value more, each value is still what it should be
module _ {V : Type 0} (Is : ℕ → V → Type 0) (old new : List (ℕ × V)) (id : ℕ) (value : V) (before : (other : ℕ) (w : V) → square_value old other ≡ Some w → Is other w)
    (is : Is id value) (put : (other : ℕ) → square_value new other ≡ cond (id == other) (Some value) (square_value old other)) where
  pub one_more : (other : ℕ) (w : V) → square_value new other ≡ Some w → Is other w
  one_more other w h =
      elim (cases_Bool (id == other)) [
        | inl e ↦
            let f : cond (id == other) (Some value) (square_value old other) ≡ Some value = rw e refl in
            let g : value ≡ w = some_same (sym f ∙ (sym (put other) ∙ h)) in
            subst (λ (v : V). Is other v) g (subst (λ n. Is n value) (eqb-true id other e) is)
        | inr e ↦
            let f : cond (id == other) (Some value) (square_value old other) ≡ square_value old other = rw e refl in
            before other w (sym f ∙ (sym (put other) ∙ h))
      ]
