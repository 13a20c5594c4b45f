-- A square of a square that is blank, and the quarter in which it lies.
use Rattle.std.proofs.Common.{◌≡◌, ℕ, suc, ◌+◌, ◌-◌, ◌*◌, ◌/◌, ◌<◌, ◌≤◌, ◌^◌, ◌↔◌, inl, inr, List, sym, ap, ◌∙◌, arith}
use Rattle.std.proofs.lemmas.Nat.{pow_pos, mul-le}
use Rattle.std.proofs.Math.Nat.{div-eq_of_lt, div-mul-le_self, lt-div-mul-add, add-mul-div_right}
use Rattle.ca_quad.specs.declared.node.Node.{Node}
use Rattle.ca_quad.specs.Prelude.{joined_cells, cell_of, IsEmpty}
use Rattle.ca_plane.proofs.Numbers.{below_or_not}
use Rattle.ca_quad.proofs.Cells.{in_nw, in_ne, in_sw, in_se, at_ne, at_sw, at_se, cell_ends}
use Rattle.ca_draw.specs.inner.Blanks.{IsBlankIn}
use Rattle.ca_draw.proofs.Strips.{over}

-- the whole square
pub blank_whole : (nodes : List Node) (k id : ℕ) → IsEmpty (cell_of nodes k id) ↔ IsBlankIn (cell_of nodes k id) k 0 0
blank_whole nodes k id = (
  λ h x y e f. h x y,
  λ h x y.
      elim (below_or_not x (2 ^ k)) [
        | inl i ↦ elim (below_or_not y (2 ^ k)) [
          | inl j ↦ h x y (div-eq_of_lt i) (div-eq_of_lt j)
          | inr j ↦ cell_ends nodes k id x y (inr j)
        ]
        | inr i ↦ cell_ends nodes k id x y (inl i)
      ],
)

-- numbers in the strips before the middle, and after it
module _ (k half x c : ℕ) (is : x / 2 ^ k ≡ c) where
  near : c < half → x < half * 2 ^ k
  near h =
      let low : x < x / 2 ^ k * 2 ^ k + 2 ^ k = lt-div-mul-add (pow_pos k) in
      let e : suc c * 2 ^ k ≤ half * 2 ^ k = mul-le (suc c) (2 ^ k) half (2 ^ k) (omega arith) (omega arith) in
      let f : x / 2 ^ k * 2 ^ k ≡ c * 2 ^ k = ap (λ n. n * 2 ^ k) is in
      omega arith

  far : half ≤ c → half * 2 ^ k ≤ x
  far h =
      let e : half * 2 ^ k ≤ c * 2 ^ k = mul-le half (2 ^ k) c (2 ^ k) h (omega arith) in
      let f : x / 2 ^ k * 2 ^ k ≡ c * 2 ^ k = ap (λ n. n * 2 ^ k) is in
      omega (arith, div-mul-le_self x (2 ^ k))

  rest : half ≤ c → (x - half * 2 ^ k) / 2 ^ k ≡ c - half
  rest h =
      let e = over (2 ^ k) (pow_pos k) x half (far h) in
      omega arith

-- and from the middle onwards
beyond : (k half x c : ℕ) → x / 2 ^ k ≡ c - half → half ≤ c → (half * 2 ^ k + x) / 2 ^ k ≡ c
beyond k half x c is h =
    let e : (x + half * 2 ^ k) / 2 ^ k ≡ x / 2 ^ k + half = add-mul-div_right x half (pow_pos k) in
    ap (λ n. n / 2 ^ k) (omega arith) ∙ (e ∙ omega arith)

-- a square in four that lie together is one of one of these
module _ (k half : ℕ) (nw ne sw se : ℕ → ℕ → ℕ) (column row : ℕ) where
  abbrev four : ℕ → ℕ → ℕ
  four = joined_cells (half * 2 ^ k) nw ne sw se

  pub blank_nw : column < half → row < half → IsBlankIn nw k column row ↔ IsBlankIn four k column row
  blank_nw h i = (
    λ b x y e f. in_nw (half * 2 ^ k) nw ne sw se x y (near k half x column e h) (near k half y row f i) ∙ b x y e f,
    λ b x y e f. sym (in_nw (half * 2 ^ k) nw ne sw se x y (near k half x column e h) (near k half y row f i)) ∙ b x y e f,
  )

  pub blank_ne : half ≤ column → row < half → IsBlankIn ne k (column - half) row ↔ IsBlankIn four k column row
  blank_ne h i = (
    λ b x y e f. in_ne (half * 2 ^ k) nw ne sw se x y (far k half x column e h) (near k half y row f i) ∙ b (x - half * 2 ^ k) y (rest k half x column e h) f,
    λ b x y e f. sym (at_ne (half * 2 ^ k) nw ne sw se x y (near k half y row f i)) ∙ b (half * 2 ^ k + x) y (beyond k half x column e h) f,
  )

  pub blank_sw : column < half → half ≤ row → IsBlankIn sw k column (row - half) ↔ IsBlankIn four k column row
  blank_sw h i = (
    λ b x y e f. in_sw (half * 2 ^ k) nw ne sw se x y (near k half x column e h) (far k half y row f i) ∙ b x (y - half * 2 ^ k) e (rest k half y row f i),
    λ b x y e f. sym (at_sw (half * 2 ^ k) nw ne sw se x y (near k half x column e h)) ∙ b x (half * 2 ^ k + y) e (beyond k half y row f i),
  )

  pub blank_se : half ≤ column → half ≤ row → IsBlankIn se k (column - half) (row - half) ↔ IsBlankIn four k column row
  blank_se h i = (
    λ b x y e f. in_se (half * 2 ^ k) nw ne sw se x y (far k half x column e h) (far k half y row f i) ∙ b (x - half * 2 ^ k) (y - half * 2 ^ k) (rest k half x column e h) (rest k half y row f i),
    λ b x y e f. sym (at_se (half * 2 ^ k) nw ne sw se x y) ∙ b (half * 2 ^ k + x) (half * 2 ^ k + y) (beyond k half x column e h) (beyond k half y row f i),
  )
