-- The order of listed cells, and cells that are found by their rows.
use Rattle.std.proofs.Common.{◌≡◌, ◌≢◌, ℕ, ◌<◌, ◌≤◌, length, get_or, map, Bool, true, false, sym, ap, ◌∙◌, subst, inl, inr, ◌⊎◌, arith, Less}
use Rattle.std.specs.Prelude.{ℤ, pos, ◌<ℤ◌, ◌≤ℤ◌}
use Rattle.std.proofs.lemmas.Int.{ints}
use Rattle.std.proofs.lemmas.Bool.{cases_eq}
use Rattle.std.proofs.lemmas.Bool.Decides.{leb_tells}
use Rattle.std.proofs.lemmas.List.{get_or-map, length-map}
use Rattle.std.proofs.lemmas.List.Elements.{at_from_Contains}
use Rattle.std.proofs.lemmas.Map.Keys.{Less-from_sorted}
use Rattle.ca_plane.specs.declared.point.Point.{Point}
use Rattle.ca_plane.specs.Prelude.{Picture, cell, point_cmp, IsSparse}
use Rattle.ca_plane.proofs.Pictures.{IsListed, IsListed-all, Contains-cell}
use Rattle.ca_parts.specs.inner.Rows.{IsRising, IsBefore, comes_before, lies_in_row, IsFirstFrom}

-- of two numbers one is less, or they are the same
pub three_ways : (a b : ℤ) → (a <ℤ b) ⊎ ((a ≡ b) ⊎ (b <ℤ a))
three_ways a b = grind (arith, ints)

-- of two numbers the first is below the other or not
pub below_or_not : (a b : ℕ) → (a < b) ⊎ (b ≤ a)
below_or_not a b = elim (leb_tells b a) [ inl e ↦ inr e.1 | inr e ↦ inl e.1 ]

-- no test both holds and fails
pub true_and_false : (b : Bool) → b ≡ true → b ≡ false → ⊥
true_and_false b h k = cc

-- the test says what the order says
pub before_from_true : (at : Point) (x y : ℤ) → comes_before at x y ≡ true → IsBefore at.x at.y x y
before_from_true at x y h = grind (arith, ints)

pub true_from_before : (at : Point) (x y : ℤ) → IsBefore at.x at.y x y → comes_before at x y ≡ true
true_from_before at x y h = grind (arith, ints)

pub in_row_from_true : (at : Point) (east row : ℤ) → lies_in_row at east row ≡ true → (at.y ≡ row) × (at.x ≤ℤ east)
in_row_from_true at east row h = (grind (arith, ints), grind (arith, ints))

pub true_from_in_row : (at : Point) (east row : ℤ) → at.y ≡ row → at.x ≤ℤ east → lies_in_row at east row ≡ true
true_from_in_row at east row e h = grind (arith, ints)

-- the order of points says the same
pub before_from_Less : (p q : Point) → point_cmp p q ≡ Less → IsBefore p.x p.y q.x q.y
before_from_Less p q less = grind (arith, ints)

pub Less_from_before : (p q : Point) → IsBefore p.x p.y q.x q.y → point_cmp p q ≡ Less
Less_from_before p q before = grind (arith, ints)

pub before-trans : (a b c d e f : ℤ) → IsBefore a b c d → IsBefore c d e f → IsBefore a b e f
before-trans a b c d e f one two = grind (arith, ints)

-- no place is read before itself
pub not_itself : (x y : ℤ) → IsBefore x y x y → ⊥
not_itself x y before = omega (arith, ints)

-- of rising cells an earlier one is read before a later one
pub rising_less : (p : Picture) (i j : ℕ) (d : Point × ℕ) → IsRising p → i < j → j < length p → IsBefore (get_or p i d).0.x (get_or p i d).0.y (get_or p j d).0.x (get_or p j d).0.y
rising_less p i j d rising low high =
    let within : i < length p = omega arith in
    let less = Less-from_sorted point_cmp (map (λ (e : Point × ℕ). e.0) p) i j d.0 rising low (omega (arith, length-map p (λ (e : Point × ℕ). e.0))) in
    let at_i = get_or-map (λ (e : Point × ℕ). e.0) p i d d.0 within in
    let at_j = get_or-map (λ (e : Point × ℕ). e.0) p j d d.0 high in
    before_from_Less _ _ (subst (λ (q : Point). point_cmp (get_or p i d).0 q ≡ Less) at_j (subst (λ (q : Point). point_cmp q (get_or (map (λ (e : Point × ℕ). e.0) p) j d.0) ≡ Less) at_i less))

-- and where a cell is read before a place, so are those up to it
pub rising_before : (p : Picture) (i j : ℕ) (d : Point × ℕ) (x y : ℤ) → IsRising p → i ≤ j → j < length p → IsBefore (get_or p j d).0.x (get_or p j d).0.y x y → IsBefore (get_or p i d).0.x (get_or p i d).0.y x y
rising_before p i j d x y rising low high before =
    elim (cases_eq i j) [
      | inl same ↦ subst (λ (k : ℕ). IsBefore (get_or p k d).0.x (get_or p k d).0.y x y) (sym same) before
      | inr other ↦ before-trans _ _ _ _ _ _ (rising_less p i j d rising (omega arith) high) before
    ]

-- what isn't read before a place of its row lies there or further east
pub not_before-east : (u v x y : ℤ) → (IsBefore u v x y → ⊥) → v ≡ y → x ≤ℤ u
not_before-east u v x y not e =
    elim (three_ways u x) [ inl less ↦ absurd (not (inr (e, less))) | inr more ↦ grind (arith, ints) ]

-- where a cell is read no later than (x, y), but not before an earlier place of its row, it lies in this row
in_row : (a b x y west : ℤ) → (a ≡ x) × (b ≡ y) ⊎ IsBefore a b x y → (IsBefore a b west y → ⊥) → (b ≡ y) × (a ≤ℤ x)
in_row a b x y west (inl same) not = (same.1, omega (arith, ints))
in_row a b x y west (inr (inl above)) not = absurd (not (inl above))
in_row a b x y west (inr (inr along)) not = (along.0, omega (arith, ints))

-- where the first cell from a column on lies in the row, a cell is live there
pub live_between : (p : Picture) (west east row : ℤ) (i : ℕ) (d : Point × ℕ) → IsSparse p → IsFirstFrom p west row i → i < length p → lies_in_row (get_or p i d).0 east row ≡ true → (x : ℤ) × (west ≤ℤ x) × (x ≤ℤ east) × (cell p x row ≢ 0)
live_between p west east row i d sparse first within h =
    let there = in_row_from_true (get_or p i d).0 east row h in
    let listed : IsListed p (get_or p i d) = IsListed-all p sparse i d within in
    let low : 1 ≤ (get_or p i d).1 = listed.low in (
      (get_or p i d).0.x,
      not_before-east _ _ west row (first.from i d (omega arith) within) there.0,
      there.1,
      λ z.
          let none : (get_or p i d).1 ≡ 0 = sym listed.shown ∙ ap (cell p (get_or p i d).0.x) there.0 ∙ z in omega arith,
    )

-- where the listed cell of a place is in the row from a column on, so is the first from there on
found_between : (p : Picture) (west x row : ℤ) (i k : ℕ) (d : Point × ℕ) → IsSparse p → IsFirstFrom p west row i → west ≤ℤ x → k < length p → (get_or p k d).0 ≡ record { y = row; x = x } → (i < length p) × ((get_or p i d).0.y ≡ row) × ((get_or p i d).0.x ≤ℤ x)
found_between p west x row i k d sparse first east within is =
    let at_x : (get_or p k d).0.x ≡ x = ap (λ (q : Point). q.x) is in
    let at_y : (get_or p k d).0.y ≡ row = ap (λ (q : Point). q.y) is in
    elim (below_or_not k i) [
      | inl early ↦ absurd (let before = first.before k d early in omega (arith, ints, before, at_x, at_y, east))
      | inr late ↦
          let here : i < length p = omega arith in
          let order : ((get_or p i d).0.x ≡ x) × ((get_or p i d).0.y ≡ row) ⊎ IsBefore (get_or p i d).0.x (get_or p i d).0.y x row = elim (cases_eq i k) [
            | inl same ↦ inl (ap (λ (j : ℕ). (get_or p j d).0.x) same ∙ at_x, ap (λ (j : ℕ). (get_or p j d).0.y) same ∙ at_y)
            | inr other ↦
                let before = rising_less p i k d sparse.rising (omega arith) within in
                inr (subst (λ (v : ℤ). IsBefore (get_or p i d).0.x (get_or p i d).0.y x v) at_y (subst (λ (u : ℤ). IsBefore (get_or p i d).0.x (get_or p i d).0.y u (get_or p k d).0.y) at_x before))
          ] in
          let there = in_row _ _ x row west order (first.from i d (omega arith) here) in
          (here, there.0, there.1)
    ]

-- and where it doesn't, none is
pub dead_between : (p : Picture) (west east row : ℤ) (i : ℕ) (d : Point × ℕ) → IsSparse p → IsFirstFrom p west row i → (i < length p → lies_in_row (get_or p i d).0 east row ≡ false) → (x : ℤ) → west ≤ℤ x → x ≤ℤ east → cell p x row ≡ 0
dead_between p west east row i d sparse first h x low high =
    elim (cases_eq (cell p x row) 0) [
      | inl dead ↦ dead
      | inr live ↦
          let (k, within, is) = at_from_Contains p _ (Contains-cell p x row live) in
          let found = found_between p west x row i k d sparse first low within (ap (λ (e : Point × ℕ). e.0) (is d)) in
          absurd (true_and_false _ (true_from_in_row (get_or p i d).0 east row found.1 (omega (arith, ints, found.2, high))) (h found.0))
    ]

-- nor where no cell is listed from there on
pub dead_beyond : (p : Picture) (west east row : ℤ) (i : ℕ) → IsSparse p → IsFirstFrom p west row i → i ≡ length p → (x : ℤ) → west ≤ℤ x → x ≤ℤ east → cell p x row ≡ 0
dead_beyond p west east row i sparse first end =
    let origin : Point = record { y = pos 0; x = pos 0 } in
    dead_between p west east row i (origin, 0) sparse first (λ h. absurd (omega arith))
