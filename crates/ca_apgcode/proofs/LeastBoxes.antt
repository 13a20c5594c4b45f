-- The smallest box round columns of cells.
use Rattle.std.proofs.Common.{◌≡◌, ℕ, zero, suc, ◌+◌, ◌-◌, ◌%◌, ◌^◌, ◌<◌, ◌≤◌, List, [], ◌∷◌, length, get_or, take, Some, refl, sym, ap, subst, ◌∙◌, inl, inr, arith}
use Rattle.std.specs.Int.{bit_at, trailing_zeros, w64}
use Rattle.std.specs.List.{slice_get}
use Rattle.std.proofs.lemmas.Bool.{cases_lt}
use Rattle.std.proofs.lemmas.List.{get_or_past}
use Rattle.std.proofs.lemmas.Nat.Bits.{bit_at-trailing_zeros, bit_at_lowest, bit_at-zero}
use Rattle.std.proofs.lemmas.Option.{get_or_from_slice_get, slice_get_within}
use Rattle.ca_apgcode.specs.Prelude.{GridCells, cell, IsLeastOf}

-- a last column without cells is taken off
pub popped : (old : List ℕ) (n : ℕ) → length old ≡ suc n → get_or old n 0 ≡ 0 → (x : ℕ) → get_or (take n old) x 0 ≡ get_or old x 0
popped [] n size dead x = absurd (omega (arith, size))
popped (a ∷ []) zero size dead zero = sym dead
popped (a ∷ []) zero size dead (suc x) = refl
popped (a ∷ []) (suc n) size dead x = absurd (omega (arith, size))
popped (a ∷ b ∷ l) zero size dead x = absurd (omega (arith, size))
popped (a ∷ b ∷ l) (suc n) size dead zero = refl
popped (a ∷ b ∷ l) (suc n) size dead (suc x) = popped (b ∷ l) n (omega (arith, size)) dead x

-- the last of columns, which has no cells
pub record EndsDead (items : List ℕ) : Type 0 where
  pub some : 0 < length items
  pub last : get_or items (length items - 1) 0 ≡ 0

pub ends_dead : (items : List ℕ) (last : ℕ) → slice_get items (length items - 1) ≡ Some last → last ≡ 0 → EndsDead items
ends_dead items last there dead = record {
  some = omega (arith, slice_get_within items (length items - 1) last there);
  last = get_or_from_slice_get items (length items - 1) last 0 there ∙ dead;
}

pub popped_same : (items new : List ℕ) → EndsDead items → new ≡ take (length items - 1) items → (x : ℕ) → get_or new x 0 ≡ get_or items x 0
popped_same items new ends is x =
    let size : length items ≡ suc (length items - 1) = omega (arith, ends.some) in
    ap (λ l. get_or l x 0) is ∙ popped items (length items - 1) size ends.last x

-- a number that isn't 0 has a digit 1
some_bit : (n : ℕ) → 0 < n → n < 2 ^ 40 → (y : ℕ) × (bit_at n y ≡ 1)
some_bit n some low =
    let small : n < 2 ^ 64 = omega (arith, low) in
    (trailing_zeros w64 n, (bit_at-trailing_zeros w64 n some small).1)

odd_bit : (n : ℕ) → n % 2 ≡ 1 → bit_at n 0 ≡ 1
odd_bit n odd = bit_at_lowest n ∙ odd

-- columns that begin with a live column and row have a smallest box
pub IsLeastOf-columns : (columns cut : List ℕ) (h : ℕ) → length cut ≤ 40 → ((x : ℕ) → get_or cut x 0 ≡ get_or columns x 0) → ((n : ℕ) → length cut ≡ n + 1 → 0 < get_or cut n 0) → ((x : ℕ) → get_or columns x 0 < 2 ^ 40) → 0 < get_or cut 0 0 → (x : ℕ) → get_or cut x 0 % 2 ≡ 1 → h ≤ 40 → ((x : ℕ) → get_or cut x 0 < 2 ^ h) → (0 < h → (x : ℕ) × (bit_at (get_or cut x 0) (h - 1) ≡ 1)) → IsLeastOf columns (record { height = h; columns = cut })
IsLeastOf-columns columns cut h narrow same ends low first x odd short all last =
    let some : 0 < length cut = elim (cases_lt 0 (length cut)) [
      | inl has ↦ has
      | inr none ↦ absurd (omega (arith, first, get_or_past cut 0 0 none))
    ] in
    let high : 0 < h = elim (cases_lt 0 h) [
      | inl has ↦ has
      | inr none ↦
          let flat : h ≡ 0 = omega (arith, none) in
          let one : get_or cut 0 0 < 1 = subst (λ k. get_or cut 0 0 < 2 ^ k) flat (all 0) in
          absurd (omega (arith, first, one))
    ] in
    let fits = λ (k : ℕ). subst (λ n. n < 2 ^ 40) (sym (same k)) (low k) in
    record {
      is_grid = record { width = narrow; height = short; rows = all };
      is_least = record {
        west = some_bit (get_or cut 0 0) first (fits 0);
        east = some_bit (get_or cut (length cut - 1) 0) (ends (length cut - 1) (omega (arith, some))) (fits (length cut - 1));
        north = (x, odd_bit (get_or cut x 0) odd);
        south = last high;
      };
      same = same;
    }

-- a smallest box begins with a live column and row
pub IsLeastOf-west : (columns cut : List ℕ) (grid : GridCells) → ((x : ℕ) → get_or cut x 0 ≡ get_or columns x 0) → IsLeastOf columns grid → 0 < get_or cut 0 0
IsLeastOf-west columns cut grid same least =
    let west = least.is_least.west in
    elim (cases_lt 0 (get_or cut 0 0)) [
      | inl has ↦ has
      | inr none ↦
          let dead : get_or grid.columns 0 0 ≡ 0 = least.same 0 ∙ (sym (same 0) ∙ (let e : get_or cut 0 0 ≡ 0 = omega (arith, none) in e)) in
          let zero_bit : cell grid 0 west.0 ≡ 0 = ap (λ n. bit_at n west.0) dead ∙ bit_at-zero west.0 in
          absurd (omega (arith, zero_bit, west.1))
    ]

pub IsLeastOf-north : (columns cut : List ℕ) (grid : GridCells) → ((x : ℕ) → get_or cut x 0 ≡ get_or columns x 0) → IsLeastOf columns grid → (x : ℕ) × (x < length cut) × (get_or cut x 0 % 2 ≡ 1)
IsLeastOf-north columns cut grid same least =
    let north = least.is_least.north in
    let odd : get_or cut north.0 0 % 2 ≡ 1 = ap (λ n. n % 2) (same north.0 ∙ sym (least.same north.0)) ∙ (sym (bit_at_lowest (get_or grid.columns north.0 0)) ∙ north.1) in (
      north.0,
      elim (cases_lt north.0 (length cut)) [
        | inl within ↦ within
        | inr past ↦ let none : get_or cut north.0 0 ≡ 0 = get_or_past cut north.0 0 past in absurd (omega (arith, odd, none))
      ],
      odd,
    )
