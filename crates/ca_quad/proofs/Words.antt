-- Squares of two states whose cells are bits.
use Rattle.std.proofs.Common.{◌≡◌, ℕ, zero, suc, ◌+◌, ◌-◌, ◌*◌, ◌/◌, ◌%◌, ◌<◌, ◌^◌, inl, inr, Result, Ok, Err, IfOk, List, length, nat_lt, sym, ap, subst, ◌∙◌, arith}
use Rattle.std.specs.Int.{bit_at}
use Rattle.std.proofs.Math.Nat.{two-pow-succ, pow-succ'}
use Rattle.std.proofs.lemmas.Bool.{cases_Bool}
use Rattle.std.proofs.lemmas.Nat.Bits.{bit_at_above, bit_at_cat_low, bit_at_cat_high}
use Rattle.ca_quad.specs.declared.named.IdForm.TheVariants.{Cells2}
use Rattle.ca_quad.specs.declared.node.Node.{Node}
use Rattle.ca_quad.specs.declared.node.Node.TheVariants.{Block}
use Rattle.ca_quad.specs.declared.square.Square.TheVariants.{Parts}
use Rattle.ca_quad.specs.Prelude.{digit, node_square, square_named, square_of, level, IsOf, one_cell, joined_cells, cell_of, IsSoundStore, HasParts, IsIn, ShowsSquare}
use Rattle.ca_plane.specs.Prelude.{word_cells}
use Rattle.ca_quad.specs.inner.Bits.{place}
use Rattle.ca_quad.specs.inner.Numbered.{AreFourDigits, IsNumberOfNode}
use Rattle.ca_quad.specs.inner.Measure.{EndsWithin}
use Rattle.ca_quad.proofs.Cells.{cell_ends, is_under, is_over}
use Rattle.ca_plane.proofs.Numbers.{below_or_not}
use Rattle.ca_quad.proofs.NumberedSquares.{of_number}
use Rattle.ca_quad.proofs.Walks.{four_show, parts_show}

-- the bits of a number are those of its four digits
module _ (k n a b c d : ℕ) (are : AreFourDigits k n a b c d) (i : ℕ) where
  next_bit : (high low : ℕ) → low < 2 ^ k → (j : ℕ) → bit_at (high * 2 ^ k + low) (k + j) ≡ bit_at high j
  next_bit high low h j = let e : k + j - k ≡ j = omega arith in bit_at_cat_high high k low (k + j) h (omega arith) ∙ ap (bit_at high) e

  first_bit : i < k → bit_at a i ≡ bit_at n i
  first_bit h = sym (ap (λ m. bit_at m i) are.is ∙ bit_at_cat_low ((d * 2 ^ k + c) * 2 ^ k + b) k a i h)

  second_bit : i < k → bit_at b i ≡ bit_at n (k + i)
  second_bit h = sym (ap (λ m. bit_at m (k + i)) are.is ∙ next_bit ((d * 2 ^ k + c) * 2 ^ k + b) a are.first i ∙ bit_at_cat_low (d * 2 ^ k + c) k b i h)

  third_bit : i < k → bit_at c i ≡ bit_at n (2 * k + i)
  third_bit h =
      let e : 2 * k + i ≡ k + (k + i) = omega arith in
      sym (ap (bit_at n) e ∙ ap (λ m. bit_at m (k + (k + i))) are.is ∙ next_bit ((d * 2 ^ k + c) * 2 ^ k + b) a are.first (k + i)
      ∙ next_bit (d * 2 ^ k + c) b are.second i ∙ bit_at_cat_low d k c i h)

  fourth_bit : bit_at d i ≡ bit_at n (3 * k + i)
  fourth_bit =
      let e : 3 * k + i ≡ k + (k + (k + i)) = omega arith in
      sym (ap (bit_at n) e ∙ ap (λ m. bit_at m (k + (k + (k + i)))) are.is ∙ next_bit ((d * 2 ^ k + c) * 2 ^ k + b) a are.first (k + (k + i))
      ∙ next_bit (d * 2 ^ k + c) b are.second (k + i) ∙ next_bit d c are.third i)

-- the cells of a square of this level are the bits of a number
abbrev AreBits : ℕ → ℕ → (ℕ → ℕ → ℕ) → Type 0
AreBits k n cells = (x y : ℕ) → x < 2 ^ k → y < 2 ^ k → cells x y ≡ bit_at n (place k x y)

place_low : (k x y : ℕ) → x < 2 ^ k → y < 2 ^ k → place k x y < 4 ^ k
place_low zero x y h i = omega arith
place_low (suc k) x y h i =
    let side = two-pow-succ k in
    let size = pow-succ' 4 k in
    elim (cases_Bool (nat_lt y (2 ^ k))) [
      | inl e ↦
          let q = is_under y (2 ^ k) e in
          elim (cases_Bool (nat_lt x (2 ^ k))) [
            | inl f ↦ rw (e, f) (omega (arith, size, place_low k x y (is_under x (2 ^ k) f) q))
            | inr f ↦ rw (e, f) (omega (arith, size, place_low k (x - 2 ^ k) y (omega (arith, is_over x (2 ^ k) f)) q))
          ]
      | inr e ↦
          let q : y - 2 ^ k < 2 ^ k = omega (arith, is_over y (2 ^ k) e) in
          elim (cases_Bool (nat_lt x (2 ^ k))) [
            | inl f ↦ rw (e, f) (omega (arith, size, place_low k x (y - 2 ^ k) (is_under x (2 ^ k) f) q))
            | inr f ↦ rw (e, f) (omega (arith, size, place_low k (x - 2 ^ k) (y - 2 ^ k) (omega (arith, is_over x (2 ^ k) f)) q))
          ]
    ]

-- four squares whose cells are the bits of a number's digits
bits_together : (k n a b c d : ℕ) → AreFourDigits (4 ^ k) n a b c d → (nw ne sw se : ℕ → ℕ → ℕ) → AreBits k a nw → AreBits k b ne → AreBits k c sw → AreBits k d se
    → AreBits (suc k) n (joined_cells (2 ^ k) nw ne sw se)
bits_together k n a b c d are nw ne sw se p q r s x y h i =
    let side = two-pow-succ k in
    let m = 4 ^ k in
    elim (cases_Bool (nat_lt y (2 ^ k))) [
      | inl e ↦
          let v = is_under y (2 ^ k) e in
          elim (cases_Bool (nat_lt x (2 ^ k))) [
            | inl f ↦
                let u = is_under x (2 ^ k) f in
                rw (e, f) (p x y u v ∙ first_bit m n a b c d are (place k x y) (place_low k x y u v))
            | inr f ↦
                let u : x - 2 ^ k < 2 ^ k = omega (arith, is_over x (2 ^ k) f) in
                rw (e, f) (q (x - 2 ^ k) y u v ∙ second_bit m n a b c d are (place k (x - 2 ^ k) y) (place_low k (x - 2 ^ k) y u v))
          ]
      | inr e ↦
          let v : y - 2 ^ k < 2 ^ k = omega (arith, is_over y (2 ^ k) e) in
          elim (cases_Bool (nat_lt x (2 ^ k))) [
            | inl f ↦
                let u = is_under x (2 ^ k) f in
                rw (e, f) (r x (y - 2 ^ k) u v ∙ third_bit m n a b c d are (place k x (y - 2 ^ k)) (place_low k x (y - 2 ^ k) u v))
            | inr f ↦
                let u : x - 2 ^ k < 2 ^ k = omega (arith, is_over x (2 ^ k) f) in
                rw (e, f) (s (x - 2 ^ k) (y - 2 ^ k) u v ∙ fourth_bit m n a b c d are (place k (x - 2 ^ k) (y - 2 ^ k)))
          ]
    ]

-- the cells of an id's square
abbrev IsBits : List Node → ℕ → ℕ → Type 0
IsBits nodes id n = (k : ℕ) → IsOf nodes id k → AreBits k n (cell_of nodes k id)

dot_bits : (n : ℕ) → n < 2 → AreBits 0 n (one_cell n)
dot_bits n low zero zero h i = let e : n ≡ n / 1 % 2 = omega arith in e
dot_bits n low (suc x) y h i = absurd (omega arith)
dot_bits n low zero (suc y) h i = absurd (omega arith)

bits_of_cells : (nodes : List Node) (id n : ℕ) → n < 16 → square_of nodes id ≡ square_named nodes (Cells2 n) → IsBits nodes id n
bits_of_cells nodes id n low e k h =
    let a = digit 2 n 0 in
    let b = digit 2 n 1 in
    let c = digit 2 n 2 in
    let d = digit 2 n 3 in
    let one : 1 ≡ k = sym (sym h.is_level ∙ ap level e) in
    subst (λ j. AreBits j n (cell_of nodes k id)) one
    (rw (four_show nodes id k h a b c d (sym e))
    (bits_together 0 n a b c d (record { first = omega arith; second = omega arith; third = omega arith; is = omega arith }) (one_cell a) (one_cell b) (one_cell c) (one_cell d)
    (dot_bits a (omega arith)) (dot_bits b (omega arith)) (dot_bits c (omega arith)) (dot_bits d (omega arith))))

bits_of_parts : (nodes : List Node) (id m nw ne sw se : ℕ) → Parts m nw ne sw se ≡ square_of nodes id → HasParts nodes (length nodes) m nw ne sw se
    → (k n a b c d : ℕ) → k ≡ 4 ^ (m - 1) → AreFourDigits k n a b c d → n < 2 ^ 64 → IsBits nodes nw a → IsBits nodes ne b → IsBits nodes sw c → IsBits nodes se d → IsBits nodes id n
bits_of_parts nodes id m nw ne sw se e whole k n a b c d size are low p q r s l h =
    let j = m - 1 in
    let same : suc j ≡ l = omega (arith, whole.least, sym h.is_level ∙ ap level (sym e)) in
    subst (λ i. AreBits i n (cell_of nodes l id)) same
    (rw (parts_show nodes id l h m nw ne sw se (omega (arith, whole.least)) e)
    (bits_together j n a b c d (subst (λ i. AreFourDigits i n a b c d) size are) (cell_of nodes j nw) (cell_of nodes j ne) (cell_of nodes j sw) (cell_of nodes j se)
    (p j whole.is_nw) (q j whole.is_ne) (r j whole.is_sw) (s j whole.is_se)))

-- a square's number has its cells as bits
number_bits : (nodes : List Node) → IsSoundStore nodes → (id n : ℕ) → IsIn nodes id → IsNumberOfNode nodes id n → IsBits nodes id n
number_bits nodes sound = of_number nodes sound (IsBits nodes) (bits_of_cells nodes) (bits_of_parts nodes)

-- cells that are the bits of a word in row order are the cells of the word
pub are_word_cells : (word : ℕ) (cells : ℕ → ℕ → ℕ) → word < 2 ^ 64 → EndsWithin 8 cells → ((x y : ℕ) → x < 8 → y < 8 → cells x y ≡ bit_at word (8 * y + x)) → (x y : ℕ) → cells x y ≡ word_cells word x y
are_word_cells word cells low ends same x y =
    elim (cases_Bool (nat_lt x 8)) [
      | inr e ↦ rw e (ends x y (inl (is_over x 8 e)))
      | inl e ↦
          let h = is_under x 8 e in
          rw e (elim (below_or_not y 8) [ inl i ↦ same x y h i | inr i ↦ ends x y (inr i) ∙ sym (bit_at_above word 64 (8 * y + x) low (omega arith)) ])
    ]

-- a square of level 3 whose number is a block of the word's cells shows them
module _ (nodes : List Node) (sound : IsSoundStore nodes) (block word : ℕ) (fits : word < 2 ^ 64) (same : (x y : ℕ) → x < 8 → y < 8 → bit_at block (place 3 x y) ≡ bit_at word (8 * y + x)) where
  pub is_word : (id : ℕ) → IsOf nodes id 3 → IsNumberOfNode nodes id block → (x y : ℕ) → cell_of nodes 3 id x y ≡ word_cells word x y
  is_word id is number =
      are_word_cells word (cell_of nodes 3 id) fits (cell_ends nodes 3 id) (λ x y h i. number_bits nodes sound id block is.before number 3 is x y h i ∙ same x y h i)

  pub shows_word : {E : Type 0} (r : Result ℕ E) → block < 2 ^ 64 → IfOk r (IsIn nodes) → IfOk r (λ id. square_of nodes id ≡ node_square (Block block)) → IfOk r (λ id. ShowsSquare nodes id 3 (word_cells word))
  shows_word (Ok id) low known e =
      let is : IsOf nodes id 3 = record { before = known; is_level = ap level e } in
      record { is_square = is; has_cells = is_word id is (inr (inr (low, e))) }
  shows_word (Err e) low known f = tt
