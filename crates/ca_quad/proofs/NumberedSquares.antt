-- What a number tells of its square: how many cells are live, and the greatest state.
use Rattle.std.proofs.Common.{◌≡◌, ◌≢◌, ℕ, ◌+◌, ◌-◌, ◌*◌, ◌<◌, ◌≤◌, ◌^◌, inl, inr, false, max, ◌==◌, List, length, refl, sym, ap, subst, ◌∙◌, arith}
use Rattle.std.specs.Prelude.{count_ones}
use Rattle.std.specs.Int.Count.{ones-ones}
use Rattle.std.proofs.lemmas.Bool.{cases_eq}
use Rattle.std.proofs.lemmas.Bool.Decides.{nat_tests}
use Rattle.std.proofs.lemmas.Nat.{ones_cat, ones-le}
use Rattle.std.proofs.Math.Nat.{mul-le-mul}
use Rattle.ca_quad.specs.declared.named.IdForm.TheVariants.{Cells2}
use Rattle.ca_quad.specs.declared.node.Node.{Node}
use Rattle.ca_quad.specs.declared.node.Node.TheVariants.{Block}
use Rattle.ca_quad.specs.declared.square.Square.TheVariants.{Parts}
use Rattle.ca_quad.specs.Prelude.{cells2, cells4, digit, node_square, shown_cells4, square_named, square_of, level, one_cell, joined_cells, IsSoundStore, HasParts, IsIn}
use Rattle.ca_quad.specs.inner.Whole.{IsWhole}
use Rattle.ca_quad.specs.inner.Population.{cell_population, population, IsPopulationIn, IsCountOf}
use Rattle.ca_quad.specs.inner.Greatest.{IsGreatest, IsGreatestOf}
use Rattle.ca_quad.specs.inner.Numbered.{AreFourDigits, IsNumberOfNode}
use Rattle.ca_quad.proofs.Greatest.{greatest_dot, greatest_joined}
use Rattle.ca_quad.proofs.Cells.{one_up}
use Rattle.ca_quad.proofs.Measures.{measure_four, measure_parts}
use Rattle.ca_quad.proofs.Population.{count_joined, live_least}
use Rattle.ca_quad.proofs.Views.{named_cells2, named_cells4, among_cells4, square_whole}
use Rattle.ca_quad.proofs.Walks.{four_show}

-- a number's four digits of this base
digits16 : (n : ℕ) → n < 65536 → AreFourDigits 4 n (digit 16 n 0) (digit 16 n 1) (digit 16 n 2) (digit 16 n 3)
digits16 n low = record { first = omega arith; second = omega arith; third = omega arith; is = omega arith }

digits65536 : (n : ℕ) → n < 2 ^ 64 → AreFourDigits 16 n (digit 65536 n 0) (digit 65536 n 1) (digit 65536 n 2) (digit 65536 n 3)
digits65536 n low = record { first = omega arith; second = omega arith; third = omega arith; is = omega arith }

-- what holds of the squares of four cells, and of each square whose parts it holds of, holds of every square that has a number
module _ (nodes : List Node) (sound : IsSoundStore nodes) (Is : ℕ → ℕ → Type 0) (of_cells : (id n : ℕ) → n < 16 → square_of nodes id ≡ square_named nodes (Cells2 n) → Is id n)
    (of_parts : (id m nw ne sw se : ℕ) → Parts m nw ne sw se ≡ square_of nodes id → HasParts nodes (length nodes) m nw ne sw se
    → (k n a b c d : ℕ) → k ≡ 4 ^ (m - 1) → AreFourDigits k n a b c d → n < 2 ^ 64 → Is nw a → Is ne b → Is sw c → Is se d → Is id n) where
  of_cells2 : (n : ℕ) → n < 16 → Is (cells2 n) n
  of_cells2 n low = of_cells (cells2 n) n low (ap (square_named nodes) (named_cells2 n low))

  whole_parts : (id m nw ne sw se : ℕ) → IsIn nodes id → square_of nodes id ≡ Parts m nw ne sw se → HasParts nodes (length nodes) m nw ne sw se
  whole_parts id m nw ne sw se known e = subst (IsWhole nodes (length nodes)) e (square_whole nodes sound id known)

  of_sixteen : (id n : ℕ) → IsIn nodes id → n < 65536 → square_of nodes id ≡ shown_cells4 n → Is id n
  of_sixteen id n known low e =
      of_parts id 2 (cells2 (digit 16 n 0)) (cells2 (digit 16 n 1)) (cells2 (digit 16 n 2)) (cells2 (digit 16 n 3)) (sym e)
      (whole_parts id 2 (cells2 (digit 16 n 0)) (cells2 (digit 16 n 1)) (cells2 (digit 16 n 2)) (cells2 (digit 16 n 3)) known e)
      4 n (digit 16 n 0) (digit 16 n 1) (digit 16 n 2) (digit 16 n 3) refl (digits16 n low) (omega arith)
      (of_cells2 (digit 16 n 0) (omega arith)) (of_cells2 (digit 16 n 1) (omega arith)) (of_cells2 (digit 16 n 2) (omega arith)) (of_cells2 (digit 16 n 3) (omega arith))

  of_cells4 : (n : ℕ) → n < 65536 → Is (cells4 n) n
  of_cells4 n low = of_sixteen (cells4 n) n (among_cells4 nodes (length nodes) n low).before low (ap (square_named nodes) (named_cells4 n low))

  of_sixty_four : (id n : ℕ) → IsIn nodes id → n < 2 ^ 64 → square_of nodes id ≡ node_square (Block n) → Is id n
  of_sixty_four id n known low e =
      of_parts id 3 (cells4 (digit 65536 n 0)) (cells4 (digit 65536 n 1)) (cells4 (digit 65536 n 2)) (cells4 (digit 65536 n 3)) (sym e)
      (whole_parts id 3 (cells4 (digit 65536 n 0)) (cells4 (digit 65536 n 1)) (cells4 (digit 65536 n 2)) (cells4 (digit 65536 n 3)) known e)
      16 n (digit 65536 n 0) (digit 65536 n 1) (digit 65536 n 2) (digit 65536 n 3) refl (digits65536 n low) low
      (of_cells4 (digit 65536 n 0) (omega arith)) (of_cells4 (digit 65536 n 1) (omega arith)) (of_cells4 (digit 65536 n 2) (omega arith)) (of_cells4 (digit 65536 n 3) (omega arith))

  pub of_number : (id n : ℕ) → IsIn nodes id → IsNumberOfNode nodes id n → Is id n
  of_number id n known (inl h) = of_cells id n h.0 h.1
  of_number id n known (inr (inl h)) = of_sixteen id n known h.0 h.1
  of_number id n known (inr (inr h)) = of_sixty_four id n known h.0 h.1

-- ---- how many cells are live

-- the set digits of a number are those of its parts
ones_four : (k n a b c d : ℕ) → AreFourDigits k n a b c d → count_ones n ≡ count_ones a + count_ones b + (count_ones c + count_ones d)
ones_four k n a b c d h =
    let p = ones_cat k ((d * 2 ^ k + c) * 2 ^ k + b) a h.first in
    let q = ones_cat k (d * 2 ^ k + c) b h.second in
    let r = ones_cat k d c h.third in
    ap count_ones h.is ∙ omega (arith, p, q, r)

-- a digit of base 2 counts itself
ones_digit : (n : ℕ) → n < 2 → count_ones n ≡ cell_population n
ones_digit n low =
    elim (cases_eq n 0) [
      | inl z ↦ let no_cells : count_ones 0 ≤ 0 = ones-le 0 0 (omega arith) in rw z (omega (arith, no_cells))
      | inr z ↦ let one : count_ones 1 ≡ 1 = ones-ones 1 in let e : n ≡ 1 = omega arith in rw e one
    ]

count_cells : (nodes : List Node) (id n : ℕ) → n < 16 → square_of nodes id ≡ square_named nodes (Cells2 n) → IsCountOf nodes id (count_ones n)
count_cells nodes id n low e k h =
    let a = digit 2 n 0 in
    let b = digit 2 n 1 in
    let c = digit 2 n 2 in
    let d = digit 2 n 3 in
    let one : k ≡ 1 = sym h.is_level ∙ ap level e in
    let sum : count_ones n ≡ count_ones a + count_ones b + (count_ones c + count_ones d) = ones_four 1 n a b c d (record { first = omega arith; second = omega arith; third = omega arith; is = omega arith }) in
    let all : population (joined_cells 1 (one_cell a) (one_cell b) (one_cell c) (one_cell d)) 2 ≡ cell_population a + cell_population b + (cell_population c + cell_population d) = omega arith in
    let least : count_ones n ≤ 4 = ones-le 4 n low in
    rw (four_show nodes id k h a b c d (sym e), one)
    (omega (arith, sum, all, least, ones_digit a (omega arith), ones_digit b (omega arith), ones_digit c (omega arith), ones_digit d (omega arith)))

-- the set digits of a square's number are its live cells
pub count_of_number : (nodes : List Node) → IsSoundStore nodes → (id n : ℕ) → IsIn nodes id → IsNumberOfNode nodes id n → IsCountOf nodes id (count_ones n)
count_of_number nodes sound =
    of_number nodes sound (λ id n. IsCountOf nodes id (count_ones n)) (count_cells nodes)
    (λ id m nw ne sw se e whole k n a b c d size digits low p q r s.
    measure_parts IsPopulationIn nodes id m nw ne sw se e whole (2 ^ (m - 1)) refl (count_ones a) (count_ones b) (count_ones c) (count_ones d) (count_ones n) p q r s
    (count_joined (2 ^ (m - 1)) (count_ones a) (count_ones b) (count_ones c) (count_ones d) (count_ones n) (omega (arith, ones_four k n a b c d digits, ones-le 64 n low))))

-- ---- the greatest state

live_one : (n : ℕ) → n ≢ 0 → cell_population n ≡ 1
live_one n h = let e : (n == 0) ≡ false = grind (arith, nat_tests) in rw e refl

still_live : (k n : ℕ) → 1 ≤ n → 1 ≤ n * 2 ^ k
still_live k n h = let up : 1 * 1 ≤ n * 2 ^ k = mul-le-mul h (one_up k) in omega (arith, up)

-- a number is 0 where its four digits are
live_four : (k n a b c d : ℕ) → AreFourDigits k n a b c d → cell_population n ≡ max (max (cell_population a) (cell_population b)) (max (cell_population c) (cell_population d))
live_four k n a b c d h =
    let m = d * 2 ^ k + c in
    let l = m * 2 ^ k + b in
    elim (cases_eq d 0) [
      | inr z ↦
          let up : 1 ≤ m * 2 ^ k = still_live k m (omega (arith, still_live k d (omega arith))) in
          let top : 1 ≤ l * 2 ^ k = still_live k l (omega (arith, up)) in
          omega (arith, live_one d z, live_one n (omega (arith, h.is, top)), live_least a, live_least b, live_least c)
      | inl zd ↦ elim (cases_eq c 0) [
        | inr z ↦
            let up : 1 ≤ m * 2 ^ k = still_live k m (omega arith) in
            let top : 1 ≤ l * 2 ^ k = still_live k l (omega (arith, up)) in
            omega (arith, live_one c z, live_one n (omega (arith, h.is, top)), live_least a, live_least b, live_least d)
        | inl zc ↦ elim (cases_eq b 0) [
          | inr z ↦
              let top : 1 ≤ l * 2 ^ k = still_live k l (omega arith) in
              omega (arith, live_one b z, live_one n (omega (arith, h.is, top)), live_least a, live_least c, live_least d)
          | inl zb ↦
              let same : n ≡ a = h.is ∙ rw (zd, zc, zb) (omega arith) in
              let no_cells : cell_population 0 ≡ 0 = refl in
              rw (zd, zc, zb, same) (omega (arith, no_cells))
        ]
      ]
    ]

-- a digit of base 2 is its own greatest state
live_digit : (n : ℕ) → n < 2 → cell_population n ≡ n
live_digit n low = elim (cases_eq n 0) [ inl z ↦ rw z refl | inr z ↦ omega (arith, live_one n z, low) ]

greatest_cells : (nodes : List Node) (id n : ℕ) → n < 16 → square_of nodes id ≡ square_named nodes (Cells2 n) → IsGreatestOf nodes id (cell_population n)
greatest_cells nodes id n low e =
    let a = digit 2 n 0 in
    let b = digit 2 n 1 in
    let c = digit 2 n 2 in
    let d = digit 2 n 3 in
    let all : cell_population n ≡ max (max (cell_population a) (cell_population b)) (max (cell_population c) (cell_population d)) = live_four 1 n a b c d (record { first = omega arith; second = omega arith; third = omega arith; is = omega arith }) in
    measure_four (λ cells side s. IsGreatest cells s) nodes id a b c d (sym e) a b c d (cell_population n) (greatest_dot a) (greatest_dot b) (greatest_dot c) (greatest_dot d)
    (greatest_joined 1 a b c d (cell_population n) (omega (arith, all, live_digit a (omega arith), live_digit b (omega arith), live_digit c (omega arith), live_digit d (omega arith))))

-- it is 1 where the square's number isn't 0
pub greatest_of_number : (nodes : List Node) → IsSoundStore nodes → (id n : ℕ) → IsIn nodes id → IsNumberOfNode nodes id n → IsGreatestOf nodes id (cell_population n)
greatest_of_number nodes sound =
    of_number nodes sound (λ id n. IsGreatestOf nodes id (cell_population n)) (greatest_cells nodes)
    (λ id m nw ne sw se e whole k n a b c d size digits low p q r s.
    measure_parts (λ cells side s. IsGreatest cells s) nodes id m nw ne sw se e whole (2 ^ (m - 1)) refl (cell_population a) (cell_population b) (cell_population c) (cell_population d) (cell_population n) p q r s
    (greatest_joined (2 ^ (m - 1)) (cell_population a) (cell_population b) (cell_population c) (cell_population d) (cell_population n) (live_four k n a b c d digits)))
