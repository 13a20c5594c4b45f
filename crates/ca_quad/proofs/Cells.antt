-- Cells of squares: where they end, that they stay, and that they tell the square.
use Rattle.std.proofs.Common.{◌≡◌, ℕ, zero, suc, ◌+◌, ◌-◌, ◌<◌, ◌≤◌, ◌^◌, inl, inr, true, false, ◌==◌, List, length, nat_lt, refl, sym, ap, subst, ◌∙◌, arith}
use Rattle.std.proofs.lemmas.Bool.{cases_Bool}
use Rattle.std.proofs.lemmas.Bool.Decides.{nat_tests}
use Rattle.std.proofs.Math.Nat.{two-pow-succ}
use Rattle.ca_quad.specs.declared.{node.Node.Node, square.Square.Square}
use Rattle.ca_quad.specs.declared.square.Square.TheVariants.{Four, Parts}
use Rattle.ca_quad.specs.Prelude.{square_of, level, IsOf, one_cell, joined_cells, cells_in, cell_of, IsSoundStore, Grows}
use Rattle.ca_quad.specs.inner.Measure.{EndsWithin}
use Rattle.ca_quad.specs.inner.Whole.{IsWhole}
use Rattle.ca_quad.proofs.Growth.{square_stays}
use Rattle.ca_plane.proofs.Numbers.{below_or_not}
use Rattle.ca_quad.proofs.Views.{square_whole, known_by_square}

-- the quarter in which a cell lies
module _ (side : ℕ) (nw ne sw se : ℕ → ℕ → ℕ) (x y : ℕ) where
  pub in_nw : x < side → y < side → joined_cells side nw ne sw se x y ≡ nw x y
  in_nw h k =
      let e : nat_lt x side ≡ true = grind (arith, nat_tests) in
      let f : nat_lt y side ≡ true = grind (arith, nat_tests) in
      rw (e, f) refl

  pub in_ne : side ≤ x → y < side → joined_cells side nw ne sw se x y ≡ ne (x - side) y
  in_ne h k =
      let e : nat_lt x side ≡ false = grind (arith, nat_tests) in
      let f : nat_lt y side ≡ true = grind (arith, nat_tests) in
      rw (e, f) refl

  pub in_sw : x < side → side ≤ y → joined_cells side nw ne sw se x y ≡ sw x (y - side)
  in_sw h k =
      let e : nat_lt x side ≡ true = grind (arith, nat_tests) in
      let f : nat_lt y side ≡ false = grind (arith, nat_tests) in
      rw (e, f) refl

  pub in_se : side ≤ x → side ≤ y → joined_cells side nw ne sw se x y ≡ se (x - side) (y - side)
  in_se h k =
      let e : nat_lt x side ≡ false = grind (arith, nat_tests) in
      let f : nat_lt y side ≡ false = grind (arith, nat_tests) in
      rw (e, f) refl

-- and where it is counted from the corner of its quarter
module _ (side : ℕ) (nw ne sw se : ℕ → ℕ → ℕ) (x y : ℕ) where
  pub at_nw : x < side → y < side → joined_cells side nw ne sw se x y ≡ nw x y
  at_nw = in_nw side nw ne sw se x y

  from_side : (n : ℕ) → side + n - side ≡ n
  from_side n = omega arith

  pub at_ne : y < side → joined_cells side nw ne sw se (side + x) y ≡ ne x y
  at_ne k = in_ne side nw ne sw se (side + x) y (omega arith) k ∙ ap (λ n. ne n y) (from_side x)

  pub at_sw : x < side → joined_cells side nw ne sw se x (side + y) ≡ sw x y
  at_sw h = in_sw side nw ne sw se x (side + y) h (omega arith) ∙ ap (sw x) (from_side y)

  pub at_se : joined_cells side nw ne sw se (side + x) (side + y) ≡ se x y
  at_se = in_se side nw ne sw se (side + x) (side + y) (omega arith) (omega arith) ∙ rw (from_side x, from_side y) refl

pub dot_ends : (state side : ℕ) → 1 ≤ side → EndsWithin side (one_cell state)
dot_ends state side h x y (inl p) = let e : (x == 0) ≡ false = grind (arith, nat_tests) in rw e refl
dot_ends state side h x y (inr p) =
    let e : (y == 0) ≡ false = grind (arith, nat_tests) in
    elim (cases_Bool (x == 0)) [ inl f ↦ rw (f, e) refl | inr f ↦ rw f refl ]

pub is_under : (a b : ℕ) → nat_lt a b ≡ true → a < b
is_under a b e = grind (arith, nat_tests)

pub is_over : (a b : ℕ) → nat_lt a b ≡ false → b ≤ a
is_over a b e = grind (arith, nat_tests)

pub together_ends : (side : ℕ) (nw ne sw se : ℕ → ℕ → ℕ) → EndsWithin side nw → EndsWithin side ne → EndsWithin side sw → EndsWithin side se → EndsWithin (side + side) (joined_cells side nw ne sw se)
together_ends side nw ne sw se a b c d x y h =
    elim (cases_Bool (nat_lt y side)) [
      | inl e ↦
          let p = is_under y side e in
          elim (cases_Bool (nat_lt x side)) [
            | inl f ↦ let q = is_under x side f in absurd (elim h [ inl i ↦ omega arith | inr i ↦ omega arith ])
            | inr f ↦ rw (e, f) (b (x - side) y (elim h [ inl i ↦ inl (omega arith) | inr i ↦ inr (omega arith) ]))
          ]
      | inr e ↦
          let p = is_over y side e in
          elim (cases_Bool (nat_lt x side)) [
            | inl f ↦
                let q = is_under x side f in
                rw (e, f) (c x (y - side) (elim h [ inl i ↦ absurd (omega arith) | inr i ↦ inr (omega arith) ]))
            | inr f ↦
                let q = is_over x side f in
                rw (e, f) (d (x - side) (y - side) (elim h [ inl i ↦ inl (omega arith) | inr i ↦ inr (omega arith) ]))
          ]
    ]

square_ends : (part : ℕ → ℕ → ℕ → ℕ) (side : ℕ) → 1 ≤ side → ((id : ℕ) → EndsWithin side (part id)) → (s : Square) → EndsWithin (side + side) (cells_in part s side)
square_ends part side h ends (Four nw ne sw se) = together_ends side (one_cell nw) (one_cell ne) (one_cell sw) (one_cell se) (dot_ends nw side h) (dot_ends ne side h) (dot_ends sw side h) (dot_ends se side h)
square_ends part side h ends (Parts k nw ne sw se) = together_ends side (part nw) (part ne) (part sw) (part se) (ends nw) (ends ne) (ends sw) (ends se)

pub one_up : (k : ℕ) → 1 ≤ 2 ^ k
one_up zero = omega arith
one_up (suc k) = omega (arith, one_up k, two-pow-succ k)

-- a side is twice that of the level below
pub twice : (k : ℕ) → 1 ≤ k → 2 ^ k ≡ 2 ^ (k - 1) + 2 ^ (k - 1)
twice k some = let next : suc (k - 1) ≡ k = omega arith in ap (λ n. 2 ^ n) (sym next) ∙ two-pow-succ (k - 1)

pub cell_ends : (nodes : List Node) (k id : ℕ) → EndsWithin (2 ^ k) (cell_of nodes k id)
cell_ends nodes zero id = λ x y h. refl
cell_ends nodes (suc k) id =
    rw two-pow-succ (square_ends (cell_of nodes k) (2 ^ k) (one_up k) (cell_ends nodes k) (square_of nodes id))

-- the cells of an old square stay
module _ (old new : List Node) (sound : IsSoundStore old) (grows : Grows old new) where
  stays_in : (k : ℕ) → ((id : ℕ) → IsOf old id k → cell_of new k id ≡ cell_of old k id) → (s : Square) → level s ≡ suc k → IsWhole old (length old) s
      → cells_in (cell_of new k) s (2 ^ k) ≡ cells_in (cell_of old k) s (2 ^ k)
  stays_in k same (Four nw ne sw se) e w = refl
  stays_in k same (Parts m nw ne sw se) e w =
      let lower : m - 1 ≡ k = omega arith in
      let a = same nw (subst (IsOf old nw) lower w.is_nw) in
      let b = same ne (subst (IsOf old ne) lower w.is_ne) in
      let c = same sw (subst (IsOf old sw) lower w.is_sw) in
      let d = same se (subst (IsOf old se) lower w.is_se) in
      cc

  pub cells_stay : (k id : ℕ) → IsOf old id k → cell_of new k id ≡ cell_of old k id
  cells_stay zero id h = refl
  cells_stay (suc k) id h =
      rw (square_stays (length old) old new grows.kept id h.before)
      (stays_in k (cells_stay k) (square_of old id) h.is_level (square_whole old sound id h.before))

  -- and so does its level
  pub of_stays : (id k : ℕ) → IsOf old id k → IsOf new id k
  of_stays id k h = record {
    before = omega (arith, h.before, grows.longer);
    is_level = ap level (square_stays (length old) old new grows.kept id h.before) ∙ h.is_level;
  }

-- squares that lie together in the same way are the same, quarter by quarter
module _ (side : ℕ) (a b c d e f g h : ℕ → ℕ → ℕ) (same : (x y : ℕ) → joined_cells side a b c d x y ≡ joined_cells side e f g h x y) where
  pub same_nw : EndsWithin side a → EndsWithin side e → (x y : ℕ) → a x y ≡ e x y
  same_nw p q x y =
      elim (below_or_not x side) [
        | inl i ↦ elim (below_or_not y side) [
          | inl j ↦ sym (at_nw side a b c d x y i j) ∙ (same x y ∙ at_nw side e f g h x y i j)
          | inr j ↦ p x y (inr j) ∙ sym (q x y (inr j))
        ]
        | inr i ↦ p x y (inl i) ∙ sym (q x y (inl i))
      ]

  pub same_ne : EndsWithin side b → EndsWithin side f → (x y : ℕ) → b x y ≡ f x y
  same_ne p q x y =
      elim (below_or_not y side) [
        | inl j ↦ sym (at_ne side a b c d x y j) ∙ (same (side + x) y ∙ at_ne side e f g h x y j)
        | inr j ↦ p x y (inr j) ∙ sym (q x y (inr j))
      ]

  pub same_sw : EndsWithin side c → EndsWithin side g → (x y : ℕ) → c x y ≡ g x y
  same_sw p q x y =
      elim (below_or_not x side) [
        | inl i ↦ sym (at_sw side a b c d x y i) ∙ (same x (side + y) ∙ at_sw side e f g h x y i)
        | inr i ↦ p x y (inl i) ∙ sym (q x y (inl i))
      ]

  pub same_se : (x y : ℕ) → d x y ≡ h x y
  same_se x y = sym (at_se side a b c d x y) ∙ (same (side + x) (side + y) ∙ at_se side e f g h x y)

same_four : (a b c d e f g h : ℕ) → ((x y : ℕ) → joined_cells 1 (one_cell a) (one_cell b) (one_cell c) (one_cell d) x y ≡ joined_cells 1 (one_cell e) (one_cell f) (one_cell g) (one_cell h) x y) → Four a b c d ≡ Four e f g h
same_four a b c d e f g h same =
    let p : a ≡ e = same 0 0 in
    let q : b ≡ f = same 1 0 in
    let r : c ≡ g = same 0 1 in
    let s : d ≡ h = same 1 1 in
    cc

-- no square is of level 0
pub no_level : (nodes : List Node) (places : ℕ) (s : Square) → level s ≡ 0 → IsWhole nodes places s → ⊥
no_level nodes places (Four nw ne sw se) e w = omega arith
no_level nodes places (Parts k nw ne sw se) e w = omega arith

lowest : (k : ℕ) → 1 ≡ suc k → k ≡ 0
lowest k e = omega arith

-- in one store the cells tell the square
module _ (nodes : List Node) (sound : IsSoundStore nodes) where
  same_square : (k : ℕ) → ((a b : ℕ) → IsOf nodes a k → IsOf nodes b k → ((x y : ℕ) → cell_of nodes k a x y ≡ cell_of nodes k b x y) → a ≡ b)
      → (s t : Square) → level s ≡ suc k → level t ≡ suc k → IsWhole nodes (length nodes) s → IsWhole nodes (length nodes) t
      → ((x y : ℕ) → cells_in (cell_of nodes k) s (2 ^ k) x y ≡ cells_in (cell_of nodes k) t (2 ^ k) x y) → s ≡ t
  same_square k ids (Four nw ne sw se) (Four a b c d) i j v w same =
      let one : 2 ^ k ≡ 1 = ap (λ n. 2 ^ n) (lowest k i) in
      same_four nw ne sw se a b c d
      (subst (λ n. (x y : ℕ) → joined_cells n (one_cell nw) (one_cell ne) (one_cell sw) (one_cell se) x y ≡ joined_cells n (one_cell a) (one_cell b) (one_cell c) (one_cell d) x y) one same)
  same_square k ids (Four nw ne sw se) (Parts m a b c d) i j v w same = absurd (omega arith)
  same_square k ids (Parts m a b c d) (Four nw ne sw se) i j v w same = absurd (omega arith)
  same_square k ids (Parts m nw ne sw se) (Parts n a b c d) i j v w same =
      let p : m - 1 ≡ k = omega arith in
      let q : n - 1 ≡ k = omega arith in
      let part = cell_of nodes k in
      let ends = cell_ends nodes k in
      let e = ids nw a (subst (IsOf nodes nw) p v.is_nw) (subst (IsOf nodes a) q w.is_nw) (same_nw (2 ^ k) (part nw) (part ne) (part sw) (part se) (part a) (part b) (part c) (part d) same (ends nw) (ends a)) in
      let f = ids ne b (subst (IsOf nodes ne) p v.is_ne) (subst (IsOf nodes b) q w.is_ne) (same_ne (2 ^ k) (part nw) (part ne) (part sw) (part se) (part a) (part b) (part c) (part d) same (ends ne) (ends b)) in
      let g = ids sw c (subst (IsOf nodes sw) p v.is_sw) (subst (IsOf nodes c) q w.is_sw) (same_sw (2 ^ k) (part nw) (part ne) (part sw) (part se) (part a) (part b) (part c) (part d) same (ends sw) (ends c)) in
      let h = ids se d (subst (IsOf nodes se) p v.is_se) (subst (IsOf nodes d) q w.is_se) (same_se (2 ^ k) (part nw) (part ne) (part sw) (part se) (part a) (part b) (part c) (part d) same) in
      let l : m ≡ n = omega arith in
      cc

  pub same_cells : (k a b : ℕ) → IsOf nodes a k → IsOf nodes b k → ((x y : ℕ) → cell_of nodes k a x y ≡ cell_of nodes k b x y) → a ≡ b
  same_cells zero a b h i same = absurd (no_level nodes (length nodes) (square_of nodes a) h.is_level (square_whole nodes sound a h.before))
  same_cells (suc k) a b h i same =
      known_by_square nodes sound a b h.before i.before
      (same_square k (same_cells k) (square_of nodes a) (square_of nodes b) h.is_level i.is_level (square_whole nodes sound a h.before) (square_whole nodes sound b i.before) same)
