-- Rings of empty cells change nothing on the plane.
use Rattle.std.proofs.Common.{◌==◌, if◌then◌else◌, ◌≡◌, ℕ, suc, ◌+◌, ◌-◌, ◌<◌, ◌≤◌, ◌^◌, ◌⊎◌, inl, inr, ℤ, pos, negsuc, ◌+ℤ◌, ◌<ℤ◌, List, refl, sym, ap, subst, ◌∙◌, arith}
use Rattle.std.proofs.lemmas.Int.{ints}
use Rattle.std.proofs.Math.Nat.{two-pow-succ}
use Rattle.ca_quad.specs.declared.{node.Node.Node, tree.Tree.Tree}
use Rattle.ca_quad.specs.Prelude.{joined_cells, cell_of, cell}
use Rattle.ca_plane.specs.Prelude.{from_corner}
use Rattle.ca_quad.specs.inner.Ring.{no_cells, with_ring, IsOut, IsRinged}
use Rattle.ca_plane.proofs.Numbers.{below_or_not}
use Rattle.ca_quad.specs.inner.Measure.{EndsWithin}
use Rattle.ca_quad.proofs.Cells.{in_nw, in_ne, in_sw, in_se, cell_ends}

-- a place inside, or out of the middle
in_or_out : (s n : ℕ) → ((s ≤ n) × (n < s + s + s)) ⊎ IsOut s n
in_or_out s n =
    elim (below_or_not n s) [
      | inl h ↦ inr (inl h)
      | inr h ↦ elim (below_or_not n (s + s + s)) [ inl i ↦ inl (h, i) | inr i ↦ inr (inr i) ]
    ]

-- the cells of a square of sixteen parts, row by row in each quarter
abbrev pub sixteen : ℕ → (ℕ → ℕ → ℕ → ℕ) → ℕ → ℕ → ℕ
sixteen s f =
    joined_cells (s + s) (joined_cells s (f 0) (f 1) (f 2) (f 3)) (joined_cells s (f 4) (f 5) (f 6) (f 7)) (joined_cells s (f 8) (f 9) (f 10) (f 11)) (joined_cells s (f 12) (f 13) (f 14) (f 15))

-- its middle is four of the parts
pub inside_sixteen : (s : ℕ) (f : ℕ → ℕ → ℕ → ℕ) (x y : ℕ) → x < s + s → y < s + s → sixteen s f (s + x) (s + y) ≡ joined_cells s (f 3) (f 6) (f 9) (f 12) x y
inside_sixteen s f x y h k =
    let nw = joined_cells s (f 0) (f 1) (f 2) (f 3) in
    let ne = joined_cells s (f 4) (f 5) (f 6) (f 7) in
    let sw = joined_cells s (f 8) (f 9) (f 10) (f 11) in
    let se = joined_cells s (f 12) (f 13) (f 14) (f 15) in
    elim (below_or_not y s) [
      | inl j ↦
          let v : s + y - s ≡ y = omega arith in
          elim (below_or_not x s) [
            | inl i ↦
                let u : s + x - s ≡ x = omega arith in
                in_nw (s + s) nw ne sw se (s + x) (s + y) (omega arith) (omega arith)
                ∙ (in_se s (f 0) (f 1) (f 2) (f 3) (s + x) (s + y) (omega arith) (omega arith) ∙ (rw (u, v) refl ∙ sym (in_nw s (f 3) (f 6) (f 9) (f 12) x y i j)))
            | inr i ↦
                let u : s + x - (s + s) ≡ x - s = omega arith in
                in_ne (s + s) nw ne sw se (s + x) (s + y) (omega arith) (omega arith)
                ∙ (in_sw s (f 4) (f 5) (f 6) (f 7) (s + x - (s + s)) (s + y) (omega arith) (omega arith) ∙ (rw (u, v) refl ∙ sym (in_ne s (f 3) (f 6) (f 9) (f 12) x y i j)))
          ]
      | inr j ↦
          let v : s + y - (s + s) ≡ y - s = omega arith in
          elim (below_or_not x s) [
            | inl i ↦
                let u : s + x - s ≡ x = omega arith in
                in_sw (s + s) nw ne sw se (s + x) (s + y) (omega arith) (omega arith)
                ∙ (in_ne s (f 8) (f 9) (f 10) (f 11) (s + x) (s + y - (s + s)) (omega arith) (omega arith) ∙ (rw (u, v) refl ∙ sym (in_sw s (f 3) (f 6) (f 9) (f 12) x y i j)))
            | inr i ↦
                let u : s + x - (s + s) ≡ x - s = omega arith in
                in_se (s + s) nw ne sw se (s + x) (s + y) (omega arith) (omega arith)
                ∙ (in_nw s (f 12) (f 13) (f 14) (f 15) (s + x - (s + s)) (s + y - (s + s)) (omega arith) (omega arith) ∙ (rw (u, v) refl ∙ sym (in_se s (f 3) (f 6) (f 9) (f 12) x y i j)))
          ]
    ]

module _ (s : ℕ) (a b c d : ℕ → ℕ → ℕ) (x y : ℕ) where
  -- the four quarters of a with_ring square
  quarter_a : x < s + s → y < s + s → with_ring s a b c d x y ≡ joined_cells s no_cells no_cells no_cells a x y
  quarter_a = in_nw (s + s) (joined_cells s no_cells no_cells no_cells a) (joined_cells s no_cells no_cells b no_cells) (joined_cells s no_cells c no_cells no_cells) (joined_cells s d no_cells no_cells no_cells) x y

  quarter_b : s + s ≤ x → y < s + s → with_ring s a b c d x y ≡ joined_cells s no_cells no_cells b no_cells (x - (s + s)) y
  quarter_b = in_ne (s + s) (joined_cells s no_cells no_cells no_cells a) (joined_cells s no_cells no_cells b no_cells) (joined_cells s no_cells c no_cells no_cells) (joined_cells s d no_cells no_cells no_cells) x y

  quarter_c : x < s + s → s + s ≤ y → with_ring s a b c d x y ≡ joined_cells s no_cells c no_cells no_cells x (y - (s + s))
  quarter_c = in_sw (s + s) (joined_cells s no_cells no_cells no_cells a) (joined_cells s no_cells no_cells b no_cells) (joined_cells s no_cells c no_cells no_cells) (joined_cells s d no_cells no_cells no_cells) x y

  quarter_d : s + s ≤ x → s + s ≤ y → with_ring s a b c d x y ≡ joined_cells s d no_cells no_cells no_cells (x - (s + s)) (y - (s + s))
  quarter_d = in_se (s + s) (joined_cells s no_cells no_cells no_cells a) (joined_cells s no_cells no_cells b no_cells) (joined_cells s no_cells c no_cells no_cells) (joined_cells s d no_cells no_cells no_cells) x y

  -- all but one part of each quarter is empty
  empty_a : (x < s) ⊎ (y < s) → joined_cells s no_cells no_cells no_cells a x y ≡ 0
  empty_a h =
      elim (below_or_not y s) [
        | inl j ↦ elim (below_or_not x s) [ inl i ↦ in_nw s no_cells no_cells no_cells a x y i j | inr i ↦ in_ne s no_cells no_cells no_cells a x y i j ]
        | inr j ↦ elim (below_or_not x s) [ inl i ↦ in_sw s no_cells no_cells no_cells a x y i j | inr i ↦ absurd (elim h [ inl p ↦ omega arith | inr p ↦ omega arith ]) ]
      ]

  empty_b : (s ≤ x) ⊎ (y < s) → joined_cells s no_cells no_cells b no_cells x y ≡ 0
  empty_b h =
      elim (below_or_not y s) [
        | inl j ↦ elim (below_or_not x s) [ inl i ↦ in_nw s no_cells no_cells b no_cells x y i j | inr i ↦ in_ne s no_cells no_cells b no_cells x y i j ]
        | inr j ↦ elim (below_or_not x s) [ inl i ↦ absurd (elim h [ inl p ↦ omega arith | inr p ↦ omega arith ]) | inr i ↦ in_se s no_cells no_cells b no_cells x y i j ]
      ]

  empty_c : (x < s) ⊎ (s ≤ y) → joined_cells s no_cells c no_cells no_cells x y ≡ 0
  empty_c h =
      elim (below_or_not y s) [
        | inl j ↦ elim (below_or_not x s) [ inl i ↦ in_nw s no_cells c no_cells no_cells x y i j | inr i ↦ absurd (elim h [ inl p ↦ omega arith | inr p ↦ omega arith ]) ]
        | inr j ↦ elim (below_or_not x s) [ inl i ↦ in_sw s no_cells c no_cells no_cells x y i j | inr i ↦ in_se s no_cells c no_cells no_cells x y i j ]
      ]

  empty_d : (s ≤ x) ⊎ (s ≤ y) → joined_cells s d no_cells no_cells no_cells x y ≡ 0
  empty_d h =
      elim (below_or_not y s) [
        | inl j ↦ elim (below_or_not x s) [ inl i ↦ absurd (elim h [ inl p ↦ omega arith | inr p ↦ omega arith ]) | inr i ↦ in_ne s d no_cells no_cells no_cells x y i j ]
        | inr j ↦ elim (below_or_not x s) [ inl i ↦ in_sw s d no_cells no_cells no_cells x y i j | inr i ↦ in_se s d no_cells no_cells no_cells x y i j ]
      ]

module _ (s : ℕ) (a b c d : ℕ → ℕ → ℕ) where
  ring_empty : (x y : ℕ) → IsOut s x ⊎ IsOut s y → with_ring s a b c d x y ≡ 0
  ring_empty x y h =
      elim (below_or_not y (s + s)) [
        | inl j ↦ elim (below_or_not x (s + s)) [
          | inl i ↦ quarter_a s a b c d x y i j ∙ empty_a s a b c d x y (elim h [
            | inl o ↦ elim o [ inl p ↦ inl p | inr p ↦ absurd (omega arith) ]
            | inr o ↦ elim o [ inl p ↦ inr p | inr p ↦ absurd (omega arith) ]
          ])
          | inr i ↦ quarter_b s a b c d x y i j ∙ empty_b s a b c d (x - (s + s)) y (elim h [
            | inl o ↦ elim o [ inl p ↦ absurd (omega arith) | inr p ↦ inl (omega arith) ]
            | inr o ↦ elim o [ inl p ↦ inr p | inr p ↦ absurd (omega arith) ]
          ])
        ]
        | inr j ↦ elim (below_or_not x (s + s)) [
          | inl i ↦ quarter_c s a b c d x y i j ∙ empty_c s a b c d x (y - (s + s)) (elim h [
            | inl o ↦ elim o [ inl p ↦ inl p | inr p ↦ absurd (omega arith) ]
            | inr o ↦ elim o [ inl p ↦ absurd (omega arith) | inr p ↦ inr (omega arith) ]
          ])
          | inr i ↦ quarter_d s a b c d x y i j ∙ empty_d s a b c d (x - (s + s)) (y - (s + s)) (elim h [
            | inl o ↦ elim o [ inl p ↦ absurd (omega arith) | inr p ↦ inl (omega arith) ]
            | inr o ↦ elim o [ inl p ↦ absurd (omega arith) | inr p ↦ inr (omega arith) ]
          ])
        ]
      ]

  -- four squares with a ring are with_ring
  pub is_ringed : IsRinged s (joined_cells s a b c d) (with_ring s a b c d)
  is_ringed = record { inside = λ x y. inside_sixteen s (λ n. if n == 3 then a else (if n == 6 then b else (if n == 9 then c else (if n == 12 then d else no_cells)))) x y; ring = ring_empty }

-- two squares with a ring round the same cells are the same
pub ringed_once : (s : ℕ) (small p q : ℕ → ℕ → ℕ) → IsRinged s small p → IsRinged s small q → (x y : ℕ) → p x y ≡ q x y
ringed_once s small p q h k x y =
    elim (in_or_out s x) [
      | inl i ↦ elim (in_or_out s y) [
        | inl j ↦
            let e : s + (x - s) ≡ x = omega arith in
            let f : s + (y - s) ≡ y = omega arith in
            subst (λ n. p n y ≡ q n y) e
            (subst (λ n. p (s + (x - s)) n ≡ q (s + (x - s)) n) f
            (h.inside (x - s) (y - s) (omega arith) (omega arith) ∙ sym (k.inside (x - s) (y - s) (omega arith) (omega arith))))
        | inr o ↦ h.ring x y (inr o) ∙ sym (k.ring x y (inr o))
      ]
      | inr o ↦ h.ring x y (inl o) ∙ sym (k.ring x y (inl o))
    ]

module _ (s : ℕ) (small big : ℕ → ℕ → ℕ) (h : IsRinged s small big) (ends : EndsWithin (s + s) small) where
  before_x : (u v : ℤ) → u <ℤ pos s → from_corner big u v ≡ 0
  before_x (pos x) (pos y) i = h.ring x y (inl (inl (omega (arith, ints))))
  before_x (pos x) (negsuc y) i = refl
  before_x (negsuc x) (pos y) i = refl
  before_x (negsuc x) (negsuc y) i = refl

  before_y : (u v : ℤ) → v <ℤ pos s → from_corner big u v ≡ 0
  before_y (pos x) (pos y) i = h.ring x y (inr (inl (omega (arith, ints))))
  before_y (pos x) (negsuc y) i = refl
  before_y (negsuc x) (pos y) i = refl
  before_y (negsuc x) (negsuc y) i = refl

  shifted : (x y : ℕ) → big (x + s) (y + s) ≡ small x y
  shifted x y =
      elim (below_or_not x (s + s)) [
        | inl i ↦ elim (below_or_not y (s + s)) [
          | inl j ↦
              let e : s + x ≡ x + s = omega arith in
              let f : s + y ≡ y + s = omega arith in
              subst (λ n. big n (y + s) ≡ small x y) e (subst (λ n. big (s + x) n ≡ small x y) f (h.inside x y i j))
          | inr j ↦ h.ring (x + s) (y + s) (inr (inr (omega arith))) ∙ sym (ends x y (inr j))
        ]
        | inr i ↦ h.ring (x + s) (y + s) (inl (inr (omega arith))) ∙ sym (ends x y (inl i))
      ]

  -- the larger square shows the same cells, a ring's width further in
  pub same_plane : (u v : ℤ) → from_corner big (u +ℤ pos s) (v +ℤ pos s) ≡ from_corner small u v
  same_plane (pos x) (pos y) = shifted x y
  same_plane (pos x) (negsuc y) = before_y (pos x +ℤ pos s) (negsuc y +ℤ pos s) (omega (arith, ints))
  same_plane (negsuc x) (pos y) = before_x (negsuc x +ℤ pos s) (pos y +ℤ pos s) (omega (arith, ints))
  same_plane (negsuc x) (negsuc y) = before_x (negsuc x +ℤ pos s) (negsuc y +ℤ pos s) (omega (arith, ints))

-- a tree with a ring round it shows the same plane
pub ring_keeps : (p q : List Node) (small big : Tree) → 1 ≤ small.level → big.level ≡ suc small.level
    → IsRinged (2 ^ (small.level - 1)) (cell_of p small.level small.root) (cell_of q (suc small.level) big.root) → (x y : ℤ) → cell q big x y ≡ cell p small x y
ring_keeps p q small big some e h x y =
    let s = 2 ^ (small.level - 1) in
    let next : suc (small.level - 1) ≡ small.level = omega arith in
    let back : suc small.level - 1 ≡ small.level = omega arith in
    let side : 2 ^ small.level ≡ s + s = ap (λ n. 2 ^ n) (sym next) ∙ two-pow-succ (small.level - 1) in
    let wide : 2 ^ (suc small.level - 1) ≡ s + s = ap (λ n. 2 ^ n) back ∙ side in
    let u : x +ℤ pos (s + s) ≡ (x +ℤ pos s) +ℤ pos s = omega (arith, ints) in
    let v : y +ℤ pos (s + s) ≡ (y +ℤ pos s) +ℤ pos s = omega (arith, ints) in
    let ends : EndsWithin (s + s) (cell_of p small.level small.root) = subst (λ n. EndsWithin n (cell_of p small.level small.root)) side (cell_ends p small.level small.root) in
    let keeps = same_plane s (cell_of p small.level small.root) (cell_of q (suc small.level) big.root) h ends (x +ℤ pos s) (y +ℤ pos s) in
    subst (λ l. from_corner (cell_of q l big.root) (x +ℤ pos (2 ^ (l - 1))) (y +ℤ pos (2 ^ (l - 1))) ≡ cell p small x y) (sym e)
    (subst (λ n. from_corner (cell_of q (suc small.level) big.root) (x +ℤ pos n) (y +ℤ pos n) ≡ cell p small x y) (sym wide)
    (subst (λ n. from_corner (cell_of q (suc small.level) big.root) n (y +ℤ pos (s + s)) ≡ cell p small x y) (sym u)
    (subst (λ n. from_corner (cell_of q (suc small.level) big.root) ((x +ℤ pos s) +ℤ pos s) n ≡ cell p small x y) (sym v) keeps)))
