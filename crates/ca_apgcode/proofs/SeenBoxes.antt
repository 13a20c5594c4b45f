-- Boxes that are seen from one of their sides.
use Rattle.std.proofs.Common.{◌≡◌, ℕ, ◌+◌, ◌-◌, ◌*◌, ◌^◌, ◌<◌, length, sym, ap, subst, ◌∙◌, inl, inr, arith}
use Rattle.std.specs.Int.{bit_at}
use Rattle.std.proofs.lemmas.Bool.{cases_lt}
use Rattle.std.proofs.lemmas.Nat.Bits.{bit_at_above}
use Rattle.ca_apgcode.specs.Prelude.{GridCells, cell}
use Rattle.ca_apgcode.specs.inner.Turned.{IsMirrored, IsFlipped, IsTransposed}
use Rattle.ca_apgcode.specs.inner.Sides.{IsSeenFrom, seen_width, seen_height, AreLiveBefore, IsStripMask}
use Rattle.ca_apgcode.specs.declared.sides.Side.{Side}
use Rattle.ca_apgcode.specs.declared.sides.Side.TheVariants.{North, South, West, East}
use Rattle.ca_apgcode.proofs.PlaneBoxes.{east_dead}
use Rattle.ca_apgcode.proofs.TurnedBoxes.{south_dead}

-- ---- how large they are

pub width_seen : (side : Side) (grid seen : GridCells) → IsSeenFrom side grid seen → length seen.columns ≡ seen_width side grid
width_seen North grid seen is = ap (λ (g : GridCells). length g.columns) is
width_seen South grid seen is = is.width
width_seen West grid seen is = is.width
width_seen East grid seen is = is.2.width ∙ is.1.height

pub height_seen : (side : Side) (grid seen : GridCells) → IsSeenFrom side grid seen → seen.height ≡ seen_height side grid
height_seen North grid seen is = ap (λ (g : GridCells). g.height) is
height_seen South grid seen is = is.height
height_seen West grid seen is = is.height
height_seen East grid seen is = is.2.height ∙ is.1.width

-- ---- masks of their strips

module _ (grid : GridCells) (k : ℕ) (mask : ℕ) where
  -- rows from the north
  pub north_mask : AreLiveBefore (cell grid) (5 * k + 5) mask → IsStripMask (cell grid) (5 * k) mask
  north_mask live = record {
    all = λ x v few lives. live.all x (5 * k + v) (record { low = omega (arith); high = omega (arith, few) }) lives;
    some = λ x one.
        let at = live.some x one in
        let low = at.1.low in
        let high = at.1.high in
        let place : 5 * k + (at.0 - 5 * k) ≡ at.0 = omega (arith, low) in
        (at.0 - 5 * k, omega (arith, high, low), subst (λ y. cell grid x y ≡ 1) (sym place) at.2);
  }

  -- columns from the west
  pub west_mask : (seen : GridCells) → IsTransposed grid seen → AreLiveBefore (λ y x. cell grid x y) (5 * k + 5) mask → IsStripMask (cell seen) (5 * k) mask
  west_mask seen is live = record {
    all = λ y v few lives. live.all y (5 * k + v) (record { low = omega (arith); high = omega (arith, few) }) (sym (is.cells y (5 * k + v)) ∙ lives);
    some = λ y one.
        let at = live.some y one in
        let low = at.1.low in
        let high = at.1.high in
        let place : 5 * k + (at.0 - 5 * k) ≡ at.0 = omega (arith, low) in
        (at.0 - 5 * k, omega (arith, high, low), is.cells y (5 * k + (at.0 - 5 * k)) ∙ subst (λ x. cell grid x y ≡ 1) (sym place) at.2);
  }

  -- rows from the south
  pub south_mask : (seen : GridCells) → IsFlipped grid seen → 5 * k < grid.height → AreLiveBefore (cell grid) (grid.height - 5 * k) mask → IsStripMask (cell seen) (5 * k) mask
  south_mask seen is within live = record {
    all = λ x v few lives. elim (cases_lt (5 * k + v) grid.height) [
      | inl inside ↦ live.all x (grid.height - 1 - (5 * k + v)) (record { low = omega (arith, few, inside); high = omega (arith, within) }) (sym (is.cells x (5 * k + v) inside) ∙ lives)
      | inr past ↦
          let height : seen.height ≡ grid.height = is.height in
          let dead = south_dead seen is.is_grid x (5 * k + v) (omega (arith, past, height)) in
          absurd (omega (arith, dead, lives))
    ];
    some = λ x one.
        let at = live.some x one in
        let low = at.1.low in
        let high = at.1.high in
        let y = grid.height - 1 - at.0 in
        let place : 5 * k + (y - 5 * k) ≡ y = omega (arith, high) in
        let back : grid.height - 1 - y ≡ at.0 = omega (arith, high) in
        (y - 5 * k, omega (arith, high, low), ap (cell seen x) place ∙ (is.cells x y (omega (arith, within)) ∙ (ap (cell grid x) back ∙ at.2)));
  }

  -- columns from the east
  pub east_mask : (mirrored seen : GridCells) → IsMirrored grid mirrored → IsTransposed mirrored seen → 5 * k < length grid.columns → AreLiveBefore (λ y x. cell grid x y) (length grid.columns - 5 * k) mask → IsStripMask (cell seen) (5 * k) mask
  east_mask mirrored seen is turned within live = record {
    all = λ y v few lives. elim (cases_lt (5 * k + v) (length grid.columns)) [
      | inl inside ↦
          live.all y (length grid.columns - 1 - (5 * k + v)) (record { low = omega (arith, few, inside); high = omega (arith, within) })
          (sym (turned.cells y (5 * k + v) ∙ is.cells (5 * k + v) y inside) ∙ lives)
      | inr past ↦
          let width : length mirrored.columns ≡ length grid.columns = is.width in
          let dead = turned.cells y (5 * k + v) ∙ east_dead mirrored (5 * k + v) y (omega (arith, past, width)) in
          absurd (omega (arith, dead, lives))
    ];
    some = λ y one.
        let at = live.some y one in
        let low = at.1.low in
        let high = at.1.high in
        let x = length grid.columns - 1 - at.0 in
        let place : 5 * k + (x - 5 * k) ≡ x = omega (arith, high) in
        let back : length grid.columns - 1 - x ≡ at.0 = omega (arith, high) in
        (x - 5 * k, omega (arith, high, low), ap (cell seen y) place ∙ (turned.cells y x ∙ (is.cells x y (omega (arith, within)) ∙ (ap (λ i. cell grid i y) back ∙ at.2))));
  }

-- a strip with east and west exchanged
pub mirrored_mask : (seen mirrored : GridCells) (y mask turned : ℕ) → IsMirrored seen mirrored → turned < 2 ^ length seen.columns → ((x : ℕ) → x < length seen.columns → bit_at turned x ≡ bit_at mask (length seen.columns - 1 - x))
    → IsStripMask (cell seen) y mask → IsStripMask (cell mirrored) y turned
mirrored_mask seen mirrored y mask turned is low bits masks = record {
  all = λ x v few lives. elim (cases_lt x (length seen.columns)) [
    | inl inside ↦ bits x inside ∙ masks.all (length seen.columns - 1 - x) v few (sym (is.cells x (y + v) inside) ∙ lives)
    | inr past ↦
        let width : length mirrored.columns ≡ length seen.columns = is.width in
        let dead = east_dead mirrored x (y + v) (omega (arith, past, width)) in
        absurd (omega (arith, dead, lives))
  ];
  some = λ x one. elim (cases_lt x (length seen.columns)) [
    | inl inside ↦
        let at = masks.some (length seen.columns - 1 - x) (sym (bits x inside) ∙ one) in
        (at.0, at.1, is.cells x (y + at.0) inside ∙ at.2)
    | inr past ↦ let none = bit_at_above turned (length seen.columns) x low past in absurd (omega (arith, none, one))
  ];
}
