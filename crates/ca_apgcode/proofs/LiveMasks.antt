-- Columns and rows of a box with live cells, as masks.
use Rattle.std.proofs.Common.{◌≡◌, ℕ, zero, suc, ◌+◌, ◌-◌, ◌*◌, ◌^◌, ◌<◌, ◌≤◌, ◌↔◌, Bool, true, false, IsTrue, length, get_or, refl, sym, ap, subst, ◌∙◌, inl, inr, arith}
use Rattle.std.specs.Prelude.{bit_or}
use Rattle.std.specs.Int.{bit_at}
use mir.Val.{bool_byte}
use Rattle.std.proofs.lemmas.Bool.{cases_lt, cases_eq, false≢true}
use Rattle.std.proofs.lemmas.Nat.{pow_pos, or_lt}
use Rattle.std.proofs.Math.Nat.{pow-suc}
use Rattle.std.proofs.lemmas.Nat.Bits.{bit_at-lt, bit_at_or, bit_at-zero}
use Rattle.ca_apgcode.specs.Prelude.{GridCells, cell}
use Rattle.ca_apgcode.specs.inner.Sides.{IsOfFiveBefore, AreLiveBefore}
use Rattle.ca_apgcode.proofs.MaskBits.{bit_first, bit_later}
use Rattle.ca_apgcode.proofs.PlaneBoxes.{east_dead}

-- ---- columns

-- the mask has the last columns, whose first is this one
pub record ShowsFrom (grid : GridCells) (end first mask : ℕ) : Type 0 where
  pub within : first ≤ length grid.columns
  pub low : mask < 2 ^ (length grid.columns - first)
  pub all : (k y : ℕ) → IsOfFiveBefore end y → cell grid (first + k) y ≡ 1 → bit_at mask k ≡ 1
  pub some : (k : ℕ) → bit_at mask k ≡ 1 → (y : ℕ) × IsOfFiveBefore end y × (cell grid (first + k) y ≡ 1)

pub ShowsFrom-none : (grid : GridCells) (end : ℕ) → ShowsFrom grid end (length grid.columns) 0
ShowsFrom-none grid end = record {
  within = omega arith;
  low = pow_pos (length grid.columns - length grid.columns);
  all = λ k y of_five live. let none = east_dead grid (length grid.columns + k) y (omega arith) in absurd (omega (arith, live, none));
  some = λ k one. let none = bit_at-zero k in absurd (omega (arith, one, none));
}

-- one column more, in front of them
pub ShowsFrom-more : (grid : GridCells) (end first mask b : ℕ) → b < 2 → (b ≡ 1) ↔ ((y : ℕ) × (cell grid first y ≡ 1) × IsOfFiveBefore end y) → ShowsFrom grid end (suc first) mask → ShowsFrom grid end first (2 * mask + b)
ShowsFrom-more grid end first mask b bit is shows = record {
  within = let within = shows.within in omega (arith, within);
  low =
      let size : length grid.columns - first ≡ suc (length grid.columns - suc first) = let within = shows.within in omega (arith, within) in
      let low = shows.low in
      subst (λ k. 2 * mask + b < 2 ^ k) (sym size) (subst (λ n. 2 * mask + b < n) (sym (pow-suc 2 (length grid.columns - suc first))) (omega (arith, low, bit)));
  all = all;
  some = some;
}
  where
    here : first + 0 ≡ first
    here = omega arith

    later : (k : ℕ) → first + suc k ≡ suc first + k
    later k = omega arith

    all : (k y : ℕ) → IsOfFiveBefore end y → cell grid (first + k) y ≡ 1 → bit_at (2 * mask + b) k ≡ 1
    all zero y of_five live = bit_first mask b bit ∙ is.1 (y, subst (λ x. cell grid x y ≡ 1) here live, of_five)
    all (suc k) y of_five live = bit_later mask b k bit ∙ shows.all k y of_five (subst (λ x. cell grid x y ≡ 1) (later k) live)

    some : (k : ℕ) → bit_at (2 * mask + b) k ≡ 1 → (y : ℕ) × IsOfFiveBefore end y × (cell grid (first + k) y ≡ 1)
    some zero one =
        let at = is.0 (sym (bit_first mask b bit) ∙ one) in
        (at.0, at.2, subst (λ x. cell grid x at.0 ≡ 1) (sym here) at.1)
    some (suc k) one =
        let at = shows.some k (sym (bit_later mask b k bit) ∙ one) in
        (at.0, at.1, subst (λ x. cell grid x at.0 ≡ 1) (sym (later k)) at.2)

-- all of them
pub AreLiveBefore-all : (grid : GridCells) (end mask : ℕ) → ShowsFrom grid end 0 mask → AreLiveBefore (cell grid) end mask
AreLiveBefore-all grid end mask shows = record {
  all = λ x y of_five live. shows.all x y of_five (subst (λ k. cell grid k y ≡ 1) (sym (plain x)) live);
  some = λ x one. let at = shows.some x one in (at.0, at.1, subst (λ k. cell grid k at.0 ≡ 1) (plain x) at.2);
}
  where
    plain : (x : ℕ) → 0 + x ≡ x
    plain x = omega arith

-- a column that shares a bit with the five has a live cell in the five rows
shares_live : (grid : GridCells) (end first column rows : ℕ) (test : Bool) → column ≡ get_or grid.columns first 0 → ((y : ℕ) → (bit_at rows y ≡ 1) ↔ IsOfFiveBefore end y)
    → IsTrue test ↔ ((y : ℕ) × (bit_at column y ≡ 1) × (bit_at rows y ≡ 1)) → IsTrue test ↔ ((y : ℕ) × (cell grid first y ≡ 1) × IsOfFiveBefore end y)
shares_live grid end first column rows test is five share = (
  (λ t. let at = share.0 t in (at.0, sym (ap (λ n. bit_at n at.0) is) ∙ at.1, (five at.0).0 at.2)),
  (λ at. share.1 (at.0, ap (λ n. bit_at n at.0) is ∙ at.1, (five at.0).1 at.2)),
)

-- the bit of a test
bit_of_test : (P : Type 0) (test : Bool) → IsTrue test ↔ P → (bool_byte test < 2) × ((bool_byte test ≡ 1) ↔ P)
bit_of_test P true is = (omega arith, ((λ e. is.0 refl), (λ p. refl)))
bit_of_test P false is = (omega arith, ((λ e. absurd (omega (arith, e))), (λ p. absurd (false≢true (is.1 p)))))

-- the step of a loop over the columns from the east
pub ShowsFrom-next : (grid : GridCells) (end n column rows mask b : ℕ) (test : Bool) → n < length grid.columns → column ≡ get_or grid.columns (length grid.columns - 1 - n) 0 → ((y : ℕ) → (bit_at rows y ≡ 1) ↔ IsOfFiveBefore end y)
    → IsTrue test ↔ ((y : ℕ) × (bit_at column y ≡ 1) × (bit_at rows y ≡ 1)) → b ≡ bool_byte test → ShowsFrom grid end (length grid.columns - n) mask → ShowsFrom grid end (length grid.columns - (n + 1)) (2 * mask + b)
ShowsFrom-next grid end n column rows mask b test within is five share bit shows =
    let first = length grid.columns - (n + 1) in
    let place : length grid.columns - 1 - n ≡ first = omega arith in
    let next : length grid.columns - n ≡ suc first = omega (arith, within) in
    let live = bit_of_test ((y : ℕ) × (cell grid first y ≡ 1) × IsOfFiveBefore end y) test (shares_live grid end first column rows test (is ∙ ap (λ k. get_or grid.columns k 0) place) five share) in
    subst (λ k. ShowsFrom grid end first (2 * mask + k)) (sym bit) (ShowsFrom-more grid end first mask (bool_byte test) live.0 live.1 (subst (λ k. ShowsFrom grid end k mask) next shows))

-- ---- rows

-- the mask has the rows with a live cell in the columns from one up to another
pub record ShowsBetween (grid : GridCells) (first x mask : ℕ) : Type 0 where
  pub low : mask < 2 ^ grid.height
  pub all : (y k : ℕ) → first ≤ k → k < x → cell grid k y ≡ 1 → bit_at mask y ≡ 1
  pub some : (y : ℕ) → bit_at mask y ≡ 1 → (k : ℕ) × (first ≤ k) × (k < x) × (cell grid k y ≡ 1)

pub ShowsBetween-none : (grid : GridCells) (first : ℕ) → ShowsBetween grid first first 0
ShowsBetween-none grid first = record {
  low = pow_pos grid.height;
  all = λ y k from below live. absurd (omega (arith, from, below));
  some = λ y one. let none = bit_at-zero y in absurd (omega (arith, one, none));
}

-- one column more
pub ShowsBetween-more : (grid : GridCells) (first x mask column : ℕ) → first ≤ x → column ≡ get_or grid.columns x 0 → column < 2 ^ grid.height → ShowsBetween grid first x mask → ShowsBetween grid first (x + 1) (bit_or mask column)
ShowsBetween-more grid first x mask column from is fits shows = record {
  low = or_lt grid.height mask column shows.low fits;
  all = λ y k least below live.
      let both = bit_at_or mask column y in
      let a = bit_at-lt mask y in
      let b = bit_at-lt column y in
      elim (cases_eq k x) [
        | inl same ↦
            let here : bit_at column y ≡ 1 = ap (λ n. bit_at n y) is ∙ subst (λ i. cell grid i y ≡ 1) same live in
            omega (arith, both, here, a)
        | inr other ↦
            let before = shows.all y k least (omega (arith, below, other)) live in
            omega (arith, both, before, b)
      ];
  some = λ y one. elim (cases_eq (bit_at column y) 1) [
    | inl here ↦ (x, from, omega arith, sym (ap (λ n. bit_at n y) is) ∙ here)
    | inr other ↦
        let both = bit_at_or mask column y in
        let a = bit_at-lt mask y in
        let b = bit_at-lt column y in
        let at = shows.some y (omega (arith, both, one, other, a, b)) in
        (at.0, at.1, let below = at.2 in omega (arith, below), at.3)
  ];
}

-- all columns before one
pub AreLiveBefore-rows : (grid : GridCells) (end first x mask : ℕ) → first ≡ end - 5 → ((k y : ℕ) → k < end → x ≤ k → cell grid k y ≡ 0) → x ≤ end → ShowsBetween grid first x mask → AreLiveBefore (λ y k. cell grid k y) end mask
AreLiveBefore-rows grid end first x mask is_first past within shows = record {
  all = λ y k of_five live.
      let low = of_five.low in
      let high = of_five.high in
      elim (cases_lt k x) [
        | inl below ↦ shows.all y k (omega (arith, is_first, low)) below live
        | inr from ↦ let none = past k y high from in absurd (omega (arith, live, none))
      ];
  some = λ y one.
      let at = shows.some y one in
      let from = at.1 in
      let below = at.2 in
      (at.0, record { low = omega (arith, from, is_first); high = omega (arith, below, within) }, at.3);
}
