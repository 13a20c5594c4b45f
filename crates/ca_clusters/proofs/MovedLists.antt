-- Lists of cells of which one is the other, moved.
use Rattle.std.proofs.Common.{◌≡◌, ◌≢◌, ℕ, ◌+◌, ◌<◌, ◌≤◌, [], ◌∷◌, ◌++◌, length, get_or, below_more, sym, refl, ap, ◌∙◌, append_assoc, arith, inl, inr, Ordering, Less, Equal, Greater}
use Rattle.std.specs.Prelude.{ℤ, ◌+ℤ◌}
use Rattle.std.proofs.lemmas.Bool.{cases_eq}
use Rattle.std.proofs.lemmas.Int.{ints}
use Rattle.std.proofs.lemmas.List.{ext_get_or, get_or-map}
use Rattle.std.proofs.Math.ListN.{length-map}
use Rattle.std.proofs.lemmas.List.Elements.{All-contains}
use Rattle.ca_plane.specs.declared.point.Point.{Point}
use Rattle.ca_plane.specs.Prelude.{Picture, cell, IsSame, IsLive, shifted, point_cmp, IsInPlane, IsSparse}
use Rattle.ca_plane.proofs.Pictures.{Contains-cell, cell-listed, point_cmp_exact, point-same}
use Rattle.ca_plane.proofs.Rising.{entry-same}
use Rattle.ca_plane.proofs.Shifts.{IsSparse-shifted}
use Rattle.ca_plane.proofs.CommonCells.{DifferAt-end, DifferAt-less, DifferAt-greater, DifferAt-states}
use Rattle.ca_steps.proofs.Vectors.{live-moved}
use Rattle.ca_clusters.specs.declared.shift.Shift.{Shift}
use Rattle.ca_clusters.specs.inner.Shifts.{IsShift}

-- ---- cell by cell

-- the cell, moved
abbrev pub moved_cell : Point × ℕ → ℤ → ℤ → Point × ℕ
moved_cell e dx dy = (record { y = e.0.y +ℤ dy; x = e.0.x +ℤ dx }, e.1)

-- each cell before this place of the second list is the one of the first list at the same place, moved
abbrev pub AreMovedBefore : Picture → Picture → ℤ → ℤ → ℕ → Type 0
AreMovedBefore p q dx dy n = (k : ℕ) → k < n → (d : Point × ℕ) → get_or q k d ≡ moved_cell (get_or p k d) dx dy

-- a cell with the same state at the point that is moved is the one that is moved
pub moved_cell_from_shift : (e f : Point × ℕ) (s : Shift) → IsShift e.0 f.0 s → e.1 ≡ f.1 → f ≡ moved_cell e s.dx s.dy
moved_cell_from_shift e f s shift state = entry-same f (moved_cell e s.dx s.dy) (point-same f.0 (moved_cell e s.dx s.dy).0 shift.down shift.across) (sym state)

-- and back
pub shift_from_moved_cell : (e f : Point × ℕ) (s : Shift) → f ≡ moved_cell e s.dx s.dy → IsShift e.0 f.0 s × (e.1 ≡ f.1)
shift_from_moved_cell e f s is =
    (record { across = ap (λ (g : Point × ℕ). g.0.x) is; down = ap (λ (g : Point × ℕ). g.0.y) is }, sym (ap (λ (g : Point × ℕ). g.1) is))

-- one more cell
pub AreMovedBefore-more : (p q : Picture) (dx dy : ℤ) (n : ℕ) (e f : Point × ℕ) → ((d : Point × ℕ) → e ≡ get_or p n d) → ((d : Point × ℕ) → f ≡ get_or q n d)
    → f ≡ moved_cell e dx dy → AreMovedBefore p q dx dy n → AreMovedBefore p q dx dy (n + 1)
AreMovedBefore-more p q dx dy n e f one other is before =
    below_more (λ k. (d : Point × ℕ) → get_or q k d ≡ moved_cell (get_or p k d) dx dy) n before
    (λ d. sym (other d) ∙ is ∙ ap (λ g. moved_cell g dx dy) (one d))

-- all of them
pub shifted_from_all : (p q : Picture) (dx dy : ℤ) → length p ≡ length q → AreMovedBefore p q dx dy (length p) → q ≡ shifted p dx dy
shifted_from_all [] [] dx dy long all = refl
shifted_from_all (e ∷ es) [] dx dy long all = absurd (omega arith)
shifted_from_all p (f ∷ fs) dx dy long all =
    ext_get_or f (f ∷ fs) (shifted p dx dy) (sym long ∙ sym (length-map p (λ (e : Point × ℕ). moved_cell e dx dy))) (λ i low. all i (omega arith) f ∙ sym (get_or-map (λ e. moved_cell e dx dy) p i f f (omega arith)))

-- in a list that is moved, each cell is
pub moved_cell-at : (p q : Picture) (dx dy : ℤ) (n : ℕ) (e f : Point × ℕ) → n < length p → ((d : Point × ℕ) → e ≡ get_or p n d) → ((d : Point × ℕ) → f ≡ get_or q n d)
    → q ≡ shifted p dx dy → f ≡ moved_cell e dx dy
moved_cell-at p q dx dy n e f low one other is =
    other f ∙ ap (λ (l : Picture). get_or l n f) is ∙ get_or-map (λ g. moved_cell g dx dy) p n f f low ∙ ap (λ g. moved_cell g dx dy) (sym (one f))

-- ---- planes that show the same cells

-- what is left of two sparse planes after the cells that both begin with is the same, where they show the same cells
same_rest : (p q xs u t : Picture) → IsSparse p → IsSparse q → IsSame p q → p ≡ xs ++ u → q ≡ xs ++ t → u ≡ t
same_rest p q xs [] [] sparse sparse' same one two = refl
same_rest p q xs (e ∷ u) [] sparse sparse' same one two = absurd (DifferAt-end p q xs u [] e sparse one two refl (same e.0.x e.0.y))
same_rest p q xs [] (f ∷ t) sparse sparse' same one two = absurd (DifferAt-end q p xs t [] f sparse' two one refl (sym (same f.0.x f.0.y)))
same_rest p q xs (e ∷ u) (f ∷ t) sparse sparse' same one two =
    by_order (λ is. same_rest p q (xs ++ e ∷ []) u t sparse sparse' same (one ∙ sym (append_assoc xs (e ∷ []) u)) (two ∙ ap (λ (g : Point × ℕ). xs ++ g ∷ t) (sym is) ∙ sym (append_assoc xs (e ∷ []) t))) (point_cmp e.0 f.0) refl
  where
    by_order : (e ≡ f → u ≡ t) → (o : Ordering) → point_cmp e.0 f.0 ≡ o → e ∷ u ≡ f ∷ t
    by_order rest Less less = absurd (DifferAt-less p q xs u (f ∷ t) t e f sparse sparse' one two refl less (same e.0.x e.0.y))
    by_order rest Greater greater = absurd (DifferAt-greater p q xs u (f ∷ t) t e f sparse sparse' one two refl greater (same f.0.x f.0.y))
    by_order rest Equal tied =
        elim (cases_eq e.1 f.1) [
          | inr apart ↦ absurd (DifferAt-states p q xs u (f ∷ t) t e f sparse sparse' one two refl tied apart (same e.0.x e.0.y))
          | inl state ↦
              let is : e ≡ f = entry-same e f (point_cmp_exact e.0 f.0 tied) state in
              let more : u ≡ t = rest is in
              cc
        ]

-- a sparse plane that shows the cells of another one, moved, has its list, moved
pub shifted_from_same : (p q : Picture) (dx dy : ℤ) → IsSparse p → IsSparse q → IsSame q (shifted p dx dy) → q ≡ shifted p dx dy
shifted_from_same p q dx dy sparse sparse' same =
    same_rest q (shifted p dx dy) [] q (shifted p dx dy) sparse'
    (IsSparse-shifted p dx dy sparse (λ k d l.
    let e = get_or p k d in
    let low : 1 ≤ e.1 = (sparse.states k d l).0 in
    let shown : cell p e.0.x e.0.y ≡ e.1 = cell-listed p sparse k d l in
    let live : cell q (e.0.x +ℤ dx) (e.0.y +ℤ dy) ≢ 0 = live-moved p q dx dy e.0.x e.0.y same (λ z. let none : e.1 ≡ 0 = sym shown ∙ z in omega arith) in
    All-contains (λ e. IsInPlane e.0) q _ sparse'.places (Contains-cell q (e.0.x +ℤ dx) (e.0.y +ℤ dy) live)))
    same refl refl

-- and is as long
pub length_from_same : (p q : Picture) (dx dy : ℤ) → IsSparse p → IsSparse q → IsSame q (shifted p dx dy) → length p ≡ length q
length_from_same p q dx dy sparse sparse' same =
    sym (ap length (shifted_from_same p q dx dy sparse sparse' same) ∙ length-map p (λ (e : Point × ℕ). moved_cell e dx dy))

-- the vector between the first cells is the only one that moves a list onto another one
pub shifted_by_first : (p q : Picture) (dx dy : ℤ) (e f : Point × ℕ) (s : Shift) → 0 < length p → ((d : Point × ℕ) → e ≡ get_or p 0 d) → ((d : Point × ℕ) → f ≡ get_or q 0 d)
    → IsShift e.0 f.0 s → q ≡ shifted p dx dy → q ≡ shifted p s.dx s.dy
shifted_by_first p q dx dy e f s some one other shift is =
    let at : f ≡ moved_cell e dx dy = moved_cell-at p q dx dy 0 e f some one other is in
    let across : f.0.x ≡ e.0.x +ℤ dx = ap (λ (g : Point × ℕ). g.0.x) at in
    let down : f.0.y ≡ e.0.y +ℤ dy = ap (λ (g : Point × ℕ). g.0.y) at in
    let same_across : dx ≡ s.dx = omega (arith, ints, across, shift.across) in
    let same_down : dy ≡ s.dy = omega (arith, ints, down, shift.down) in
    is ∙ ap (λ d. shifted p d dy) same_across ∙ ap (λ d. shifted p s.dx d) same_down
