-- Squares of the plane, and those of a tree.
use Rattle.std.proofs.Common.{◌≡◌, ℕ, suc, zero, ◌+◌, ◌-◌, ◌*◌, ◌/◌, ◌<◌, ◌≤◌, ◌^◌, ◌⊎◌, ◌↔◌, inl, inr, Bool, true, false, not, ◌==◌, nat_lt, min, ℤ, pos, negsuc, ◌+ℤ◌, ◌-ℤ◌, ◌<ℤ◌, ◌≤ℤ◌, List, refl, sym, ap, ap₂, subst, ◌∙◌, arith}
use Rattle.std.proofs.lemmas.Bool.{cases_Bool, true≢false}
use Rattle.std.proofs.lemmas.Bool.Decides.{nat_tests}
use Rattle.std.proofs.lemmas.Int.{ints}
use Rattle.std.proofs.lemmas.Nat.{mul-le, pow-add}
use Rattle.std.proofs.Math.Nat.{div-eq_of_lt, div-mul-le_self, add-mul, pow-le-pow_right, two-pow-succ}
use Rattle.ca_quad.specs.declared.{node.Node.Node, tree.Tree.Tree}
use Rattle.ca_quad.specs.Prelude.{cell_of, cell}
use Rattle.ca_plane.specs.Prelude.{from_corner}
use Rattle.ca_plane.proofs.Numbers.{below_or_not}
use Rattle.ca_quad.proofs.Edges.{IsOff, outside_x, outside_y}
use Rattle.ca_draw.specs.Prelude.{strip_of, IsBlankSquare, has_live}
use Rattle.ca_draw.specs.inner.Blanks.{IsBlankIn}
use Rattle.ca_draw.proofs.Strips.{strip_shift}
use Rattle.ca_draw.proofs.Lives.{blank_there, none_there}

-- what lies in a strip from 0 onwards isn't below 0
from_0 : (k : ℕ) (w : ℤ) (u : ℕ) → strip_of k w ≡ pos u → (m : ℕ) × (w ≡ pos m) × (m / 2 ^ k ≡ u)
from_0 k (pos m) u e =
    let f : pos (m / 2 ^ k) ≡ pos u = e in
    (m, refl, omega (arith, ints))
from_0 k (negsuc m) u e =
    let f : negsuc (m / 2 ^ k) ≡ pos u = e in
    absurd (omega (arith, ints))

-- what lies in a strip beyond a square lies beyond it
off_strip : (k n : ℕ) (w : ℤ) → IsOff n (strip_of k w) → IsOff (n * 2 ^ k) w
off_strip k n (pos m) (inl h) =
    let f : pos (m / 2 ^ k) <ℤ pos 0 = h in
    absurd (omega (arith, ints))
off_strip k n (pos m) (inr h) =
    let f : pos n ≤ℤ pos (m / 2 ^ k) = h in
    let g : n ≤ m / 2 ^ k = omega (arith, ints) in
    let e : n * 2 ^ k ≤ m / 2 ^ k * 2 ^ k = mul-le n (2 ^ k) (m / 2 ^ k) (2 ^ k) g (omega arith) in
    let low = div-mul-le_self m (2 ^ k) in
    inr (omega (arith, ints))
off_strip k n (negsuc m) h = inl (omega (arith, ints))

pub off_or_not : (n : ℕ) (w : ℤ) → IsOff n w ⊎ ((pos 0 ≤ℤ w) × (w <ℤ pos n))
off_or_not n (pos m) = elim (below_or_not m n) [ inl h ↦ inr (omega (arith, ints), omega (arith, ints)) | inr h ↦ inl (inr (omega (arith, ints))) ]
off_or_not n (negsuc m) = inl (inl (omega (arith, ints)))

no_quotient : (q a m : ℕ) → q ≤ a → m < 2 ^ q → m / 2 ^ a ≡ 0
no_quotient q a m h i =
    let e : 2 ^ q ≤ 2 ^ a = pow-le-pow_right {n = 2} (omega arith) {i = q} {j = a} h in
    div-eq_of_lt (omega arith)

-- near the middle the strips of all larger scales are the same
same_strip : (q a b : ℕ) → q ≤ a → q ≤ b → (x : ℤ) → pos 0 ≤ℤ (x +ℤ pos (2 ^ q)) → (x +ℤ pos (2 ^ q)) <ℤ pos (2 ^ q + 2 ^ q) → strip_of a x ≡ strip_of b x
same_strip q a b h i (pos m) j k = ap pos (no_quotient q a m h (omega (arith, ints)) ∙ sym (no_quotient q b m i (omega (arith, ints))))
same_strip q a b h i (negsuc m) j k = ap negsuc (no_quotient q a m h (omega (arith, ints)) ∙ sym (no_quotient q b m i (omega (arith, ints))))

not_zero : (s : ℕ) → not (s == 0) ≡ nat_lt 0 s
not_zero zero = refl
not_zero (suc s) = grind (arith, nat_tests)

-- two squares that are blank together
same_live : (cells : ℤ → ℤ → ℕ) (a b : ℕ) (column row : ℤ) → (IsBlankSquare cells a column row → IsBlankSquare cells b column row) → (IsBlankSquare cells b column row → IsBlankSquare cells a column row)
    → has_live cells a column row ≡ has_live cells b column row
same_live cells a b column row f g =
    elim (cases_Bool (has_live cells a column row)) [
      | inl e ↦ elim (cases_Bool (has_live cells b column row)) [
        | inl h ↦ e ∙ sym h
        | inr h ↦ none_there cells a column row (g (blank_there cells b column row h)) ∙ sym h
      ]
      | inr e ↦ e ∙ sym (none_there cells b column row (f (blank_there cells a column row e)))
    ]

module _ (nodes : List Node) (tree : Tree) (some : 1 ≤ tree.level) where
  abbrev quarter : ℕ
  quarter = tree.level - 1

  -- larger squares than the tree's quarters show no more than these
  larger : (a b : ℕ) (column row : ℤ) → quarter ≤ a → quarter ≤ b → IsBlankSquare (cell nodes tree) a column row → IsBlankSquare (cell nodes tree) b column row
  larger a b column row h i blank x y in_b =
      elim (off_or_not (2 ^ quarter + 2 ^ quarter) (x +ℤ pos (2 ^ quarter))) [
        | inl off ↦ outside_x nodes tree (2 ^ quarter) some refl x y off
        | inr j ↦ elim (off_or_not (2 ^ quarter + 2 ^ quarter) (y +ℤ pos (2 ^ quarter))) [
          | inl off ↦ outside_y nodes tree (2 ^ quarter) some refl x y off
          | inr k ↦
              blank x y
              (record {
                is_column = same_strip quarter a b h i x j.0 j.1 ∙ in_b.is_column;
                is_row = same_strip quarter a b h i y k.0 k.1 ∙ in_b.is_row;
              })
        ]
      ]

  pub at_most_quarter : (scale : ℕ) (column row : ℤ) → has_live (cell nodes tree) scale column row ≡ has_live (cell nodes tree) (min scale quarter) column row
  at_most_quarter scale column row =
      elim (below_or_not scale quarter) [
        | inl h ↦ let e : min scale quarter ≡ scale = omega arith in rw e refl
        | inr h ↦
            let e : min scale quarter ≡ quarter = omega arith in
            rw e
            (same_live (cell nodes tree) scale quarter column row (larger scale quarter column row h (omega arith)) (larger quarter scale column row (omega arith) h))
      ]

  module _ (scale half : ℕ) (whole : half * 2 ^ scale ≡ 2 ^ quarter) where
    -- a strip, counted from the tree's edge
    moved : (x : ℤ) → strip_of scale (x +ℤ pos (2 ^ quarter)) ≡ strip_of scale x +ℤ pos half
    moved x = subst (λ n. strip_of scale (x +ℤ pos n) ≡ strip_of scale x +ℤ pos half) whole (strip_shift scale half x)

    sides : (half + half) * 2 ^ scale ≡ 2 ^ quarter + 2 ^ quarter
    sides = add-mul half half (2 ^ scale) ∙ ap (λ n. n + n) whole

    off : (x c : ℤ) → strip_of scale x ≡ c → IsOff (half + half) (c +ℤ pos half) → IsOff (2 ^ quarter + 2 ^ quarter) (x +ℤ pos (2 ^ quarter))
    off x c e h =
        subst (λ n. IsOff n (x +ℤ pos (2 ^ quarter))) sides
        (off_strip scale (half + half) (x +ℤ pos (2 ^ quarter)) (subst (IsOff (half + half)) (sym (moved x ∙ ap (λ s. s +ℤ pos half) e)) h))

    pub none_in_column : (column row : ℤ) → IsOff (half + half) (column +ℤ pos half) → has_live (cell nodes tree) scale column row ≡ false
    none_in_column column row h =
        none_there (cell nodes tree) scale column row
        (λ x y i. outside_x nodes tree (2 ^ quarter) some refl x y (off x column i.is_column h))

    pub none_in_row : (column row : ℤ) → IsOff (half + half) (row +ℤ pos half) → has_live (cell nodes tree) scale column row ≡ false
    none_in_row column row h =
        none_there (cell nodes tree) scale column row
        (λ x y i. outside_y nodes tree (2 ^ quarter) some refl x y (off y row i.is_row h))

    -- the place of a square in the tree
    module _ (column row : ℤ) (u v : ℕ) (at_u : column +ℤ pos half ≡ pos u) (at_v : row +ℤ pos half ≡ pos v) where
      strip_in : (m w : ℕ) (c : ℤ) → c +ℤ pos half ≡ pos w → m / 2 ^ scale ≡ w → strip_of scale (pos m -ℤ pos (2 ^ quarter)) ≡ c
      strip_in m w c e f =
          let x = pos m -ℤ pos (2 ^ quarter) in
          let back : x +ℤ pos (2 ^ quarter) ≡ pos m = omega (arith, ints) in
          let g : pos (m / 2 ^ scale) ≡ strip_of scale x +ℤ pos half = sym (ap (strip_of scale) back) ∙ moved x in
          omega (arith, ints)

      to_blank_in : IsBlankSquare (cell nodes tree) scale column row → IsBlankIn (cell_of nodes tree.level tree.root) scale u v
      to_blank_in blank m n e f =
          let x = pos m -ℤ pos (2 ^ quarter) in
          let y = pos n -ℤ pos (2 ^ quarter) in
          let back_x : x +ℤ pos (2 ^ quarter) ≡ pos m = omega (arith, ints) in
          let back_y : y +ℤ pos (2 ^ quarter) ≡ pos n = omega (arith, ints) in
          sym (ap₂ (from_corner (cell_of nodes tree.level tree.root)) back_x back_y)
          ∙ blank x y (record { is_column = strip_in m u column at_u e; is_row = strip_in n v row at_v f })

      from_blank_in : IsBlankIn (cell_of nodes tree.level tree.root) scale u v → IsBlankSquare (cell nodes tree) scale column row
      from_blank_in blank x y h =
          let a = from_0 scale (x +ℤ pos (2 ^ quarter)) u (moved x ∙ (ap (λ s. s +ℤ pos half) h.is_column ∙ at_u)) in
          let b = from_0 scale (y +ℤ pos (2 ^ quarter)) v (moved y ∙ (ap (λ s. s +ℤ pos half) h.is_row ∙ at_v)) in
          ap₂ (from_corner (cell_of nodes tree.level tree.root)) a.1 b.1 ∙ blank a.0 b.0 a.2 b.2

      pub live_in_tree : (blank : Bool) → (blank ≡ true) ↔ IsBlankIn (cell_of nodes tree.level tree.root) scale u v → not blank ≡ has_live (cell nodes tree) scale column row
      live_in_tree true h = sym (none_there (cell nodes tree) scale column row (from_blank_in (h.0 refl)))
      live_in_tree false h =
          elim (cases_Bool (has_live (cell nodes tree) scale column row)) [
            | inl e ↦ sym e
            | inr e ↦ absurd (true≢false (sym (h.1 (to_blank_in (blank_there (cell nodes tree) scale column row e)))))
          ]

  -- what a walk from the tree finds tells whether a cell of the square is live
  module _ (scale s : ℕ) (column row : ℤ) (e : s ≡ min scale quarter) where
    at_s : has_live (cell nodes tree) s column row ≡ has_live (cell nodes tree) scale column row
    at_s = ap (λ k. has_live (cell nodes tree) k column row) e ∙ sym (at_most_quarter scale column row)

    pub by_cell : (state : ℕ) → s ≡ 0 → state ≡ cell nodes tree column row → not (state == 0) ≡ has_live (cell nodes tree) scale column row
    by_cell state z is = not_zero state ∙ (ap (nat_lt 0) is ∙ (ap (λ k. has_live (cell nodes tree) k column row) (sym z) ∙ at_s))

    module _ (half : ℕ) (is_half : half ≡ 2 ^ (quarter - s)) where
      parts : half * 2 ^ s ≡ 2 ^ quarter
      parts =
          let f : quarter ≡ (quarter - s) + s = omega arith in
          ap (λ n. n * 2 ^ s) is_half ∙ (sym (pow-add 2 (quarter - s) s) ∙ ap (λ k. 2 ^ k) (sym f))

      pub by_column : IsOff (half + half) (column +ℤ pos half) → false ≡ has_live (cell nodes tree) scale column row
      by_column h = sym (none_in_column s half parts column row h) ∙ at_s

      pub by_row : IsOff (half + half) (row +ℤ pos half) → false ≡ has_live (cell nodes tree) scale column row
      by_row h = sym (none_in_row s half parts column row h) ∙ at_s

      pub by_part : (u v : ℕ) → column +ℤ pos half ≡ pos u → row +ℤ pos half ≡ pos v → (blank : Bool) → (blank ≡ true) ↔ IsBlankIn (cell_of nodes tree.level tree.root) s u v
          → not blank ≡ has_live (cell nodes tree) scale column row
      by_part u v i j blank b = live_in_tree s half parts column row u v i j blank b ∙ at_s

-- 2^(level - s) squares lie beside each other in a tree
pub across_tree : (level s half n : ℕ) → 1 ≤ level → s ≤ level - 1 → half ≡ 2 ^ (level - 1 - s) → n < half + half → n < 2 ^ (level - s)
across_tree level s half n some low e h =
    let f : level - s ≡ suc (level - 1 - s) = omega arith in
    let g : 2 ^ (level - s) ≡ half + half = ap (λ k. 2 ^ k) f ∙ (two-pow-succ (level - 1 - s) ∙ ap (λ m. m + m) (sym e)) in
    omega arith
