-- The part in which a square of a larger square lies.
use Rattle.std.proofs.Common.{◌≡◌, ℕ, suc, ◌+◌, ◌-◌, ◌*◌, ◌<◌, ◌≤◌, ◌^◌, ◌↔◌, Bool, true, List, [], ◌∷◌, length, get_or, sym, ap, subst, ◌∙◌, arith}
use Rattle.std.proofs.lemmas.Nat.{pow-add}
use Rattle.std.proofs.Math.Nat.{two-pow-succ}
use Rattle.ca_quad.specs.declared.node.Node.{Node}
use Rattle.ca_quad.specs.Prelude.{IsOf, joined_cells, cell_of, IsEmpty, AreQuarters}
use Rattle.ca_quad.proofs.Cuts.{quarters_at}
use Rattle.ca_draw.specs.declared.squares.PartPlace.{PartPlace}
use Rattle.ca_draw.specs.inner.Blanks.{IsBlankIn, LiesInPart}
use Rattle.ca_draw.proofs.Blanks.{blank_whole, blank_nw, blank_ne, blank_sw, blank_se}

-- the parts that a call gives of a square
pub parts_of : (nodes : List Node) (id level : ℕ) (quarters : List ℕ) (d0 d1 d2 d3 : ℕ) → 1 ≤ level → IsOf nodes id level → length quarters ≡ 4
    → ((m : ℕ) → IsOf nodes id (suc m) → AreQuarters nodes id m quarters)
    → AreQuarters nodes id (level - 1) (get_or quarters 0 d0 ∷ get_or quarters 1 d1 ∷ get_or quarters 2 d2 ∷ get_or quarters 3 d3 ∷ [])
parts_of nodes id level quarters d0 d1 d2 d3 some is four are =
    let next : level ≡ suc (level - 1) = omega arith in
    quarters_at nodes id (level - 1) quarters d0 d1 d2 d3 four (are (level - 1) (subst (IsOf nodes id) next is))

module _ (nodes : List Node) (id scale column row half level nw ne sw se : ℕ) (q : AreQuarters nodes id (level - 1) (nw ∷ ne ∷ sw ∷ se ∷ []))
    (low : scale < level) (is_half : half ≡ 2 ^ (level - scale - 1)) (column_in : column < 2 ^ (level - scale)) (row_in : row < 2 ^ (level - scale)) where
  abbrev m : ℕ
  m = level - 1

  whole : 2 ^ m ≡ half * 2 ^ scale
  whole =
      let e : m ≡ (level - scale - 1) + scale = omega arith in
      ap (λ k. 2 ^ k) e ∙ pow-add 2 (level - scale - 1) scale ∙ ap (λ n. n * 2 ^ scale) (sym is_half)

  double : 2 ^ (level - scale) ≡ half + half
  double =
      let e : level - scale ≡ suc (level - scale - 1) = omega arith in
      ap (λ k. 2 ^ k) e ∙ two-pow-succ (level - scale - 1) ∙ ap (λ n. n + n) (sym is_half)

  across : half ≡ 2 ^ (m - scale)
  across =
      let e : level - scale - 1 ≡ m - scale = omega arith in
      is_half ∙ ap (λ k. 2 ^ k) e

  abbrev four : ℕ → ℕ → ℕ
  four = joined_cells (half * 2 ^ scale) (cell_of nodes m nw) (cell_of nodes m ne) (cell_of nodes m sw) (cell_of nodes m se)

  same : (x y : ℕ) → cell_of nodes (suc m) id x y ≡ four x y
  same x y = q.has_cells x y ∙ ap (λ n. joined_cells n (cell_of nodes m nw) (cell_of nodes m ne) (cell_of nodes m sw) (cell_of nodes m se) x y) whole

  lies : (part c r : ℕ) → IsOf nodes part m → c < half → r < half → IsBlankIn (cell_of nodes m part) scale c r ↔ IsBlankIn four scale column row
      → LiesInPart nodes id m scale column row (record { id = part; column = c; row = r })
  lies part c r is i j b = record {
    is_square = is;
    column_in = subst (λ n. c < n) across i;
    row_in = subst (λ n. r < n) across j;
    blank = (λ blank x y k l. same x y ∙ b.0 blank x y k l, λ blank. b.1 (λ x y k l. sym (same x y) ∙ blank x y k l));
  }

  pub lies_nw : column < half → row < half → LiesInPart nodes id m scale column row (record { id = nw; column = column; row = row })
  lies_nw i j =
      lies nw column row q.is_nw i j (blank_nw scale half (cell_of nodes m nw) (cell_of nodes m ne) (cell_of nodes m sw) (cell_of nodes m se) column row i j)

  pub lies_ne : half ≤ column → row < half → LiesInPart nodes id m scale column row (record { id = ne; column = column - half; row = row })
  lies_ne i j =
      lies ne (column - half) row q.is_ne (omega (arith, double)) j
      (blank_ne scale half (cell_of nodes m nw) (cell_of nodes m ne) (cell_of nodes m sw) (cell_of nodes m se) column row i j)

  pub lies_sw : column < half → half ≤ row → LiesInPart nodes id m scale column row (record { id = sw; column = column; row = row - half })
  lies_sw i j =
      lies sw column (row - half) q.is_sw i (omega (arith, double))
      (blank_sw scale half (cell_of nodes m nw) (cell_of nodes m ne) (cell_of nodes m sw) (cell_of nodes m se) column row i j)

  pub lies_se : half ≤ column → half ≤ row → LiesInPart nodes id m scale column row (record { id = se; column = column - half; row = row - half })
  lies_se i j =
      lies se (column - half) (row - half) q.is_se (omega (arith, double)) (omega (arith, double))
      (blank_se scale half (cell_of nodes m nw) (cell_of nodes m ne) (cell_of nodes m sw) (cell_of nodes m se) column row i j)

-- a square that is one square
pub whole_blank : (nodes : List Node) (id level scale column row : ℕ) → level ≡ scale → column < 2 ^ (level - scale) → row < 2 ^ (level - scale)
    → (r : Bool) → (r ≡ true) ↔ IsEmpty (cell_of nodes level id) → (r ≡ true) ↔ IsBlankIn (cell_of nodes level id) scale column row
whole_blank nodes id level scale column row same i j r b =
    let none : level - scale ≡ 0 = omega arith in
    let one : 2 ^ (level - scale) ≡ 1 = ap (λ k. 2 ^ k) none in
    let c : column ≡ 0 = omega arith in
    let d : row ≡ 0 = omega arith in
    let e = blank_whole nodes level id in
    rw (c, d, sym same) (λ t. e.0 (b.0 t), λ k. b.1 (e.1 k))

-- one that lies in a part
pub part_blank : (nodes : List Node) (id level scale column row : ℕ) (part : PartPlace) → 1 ≤ level → LiesInPart nodes id (level - 1) scale column row part
    → (r : Bool) → (r ≡ true) ↔ IsBlankIn (cell_of nodes (level - 1) part.id) scale part.column part.row → (r ≡ true) ↔ IsBlankIn (cell_of nodes level id) scale column row
part_blank nodes id level scale column row part some lies r b =
    let next : suc (level - 1) ≡ level = omega arith in
    let e = lies.blank in
    subst (λ n. (r ≡ true) ↔ IsBlankIn (cell_of nodes n id) scale column row) next (λ t. e.0 (b.0 t), λ g. b.1 (e.1 g))
