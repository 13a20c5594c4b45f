-- A line of cells that is taken.
use Rattle.std.proofs.Common.{◌≡◌, ℕ, ◌+◌, ◌<◌, ◌≤◌, ℤ, List, cond, Some, refl, sym, subst, arith}
use Rattle.std.proofs.lemmas.Int.{ints}
use Rattle.ca_plane.specs.declared.{point.Point.Point, bit_plane.CellWord.CellWord}
use Rattle.ca_plane.specs.Prelude.{bit_cell, AddsRun, IsInRange, most_cells}
use Rattle.ca_import.specs.declared.reading.Reading.{Reading}
use Rattle.ca_import.specs.Prelude.{LiveCell, Row, south, next_row, is_live_in_row, is_live_in_line, live_count, IsRowInRange, HasPlace, IsLineInRange}
use Rattle.ca_import.specs.inner.Reading.{IsRowPlace, IsPlace, IsReady, Takes}
use Rattle.ca_import.proofs.DrawnRows.{one_cell}

-- one live cell
pub cell_taken : (at : Point) (old : Reading) (new : List CellWord) → IsReady old → IsInRange at → old.count < most_cells → AddsRun at 1 old.cells new
    → Takes (LiveCell at) old (record { cells = new; place = old.place; count = old.count + 1; rule = old.rule })
cell_taken at old new ready within few run = record {
  good = record { placed = tt; within = within; few = omega (arith, few) };
  place = refl;
  count = refl;
  rule = refl;
  cells = one_cell at old.cells new run;
  ready = record { place = ready.place; few = omega (arith, few) };
}

-- a row
module _ (at : Point) (cells : List ℕ) (old : Reading) (new : List CellWord) (count : ℕ) (here : old.place ≡ Some at) (ready : IsReady old) (within : IsRowInRange at cells) where
  place_is : IsRowPlace at
  place_is = subst IsPlace here ready.place

  place_next : IsRowPlace (south at)
  place_next =
      let is = place_is in
      let last = within.south in
      record { west = is.west; east = is.east; north = let north = is.north in omega (arith, ints, north); south = omega (arith, ints, last) }

  pub row_taken : count ≡ live_count (Row cells) → old.count + count ≤ most_cells
      → ((x y : ℤ) → bit_cell new x y ≡ cond (is_live_in_row at cells x y) 1 (bit_cell old.cells x y))
      → Takes (Row cells) old (record { cells = new; place = Some (south at); count = old.count + count; rule = old.rule })
  row_taken counted few drawn = record {
    good = record {
      placed = subst (HasPlace (Row cells)) (sym here) tt;
      within = subst (IsLineInRange (Row cells)) (sym here) within;
      few = subst (λ n. old.count + n ≤ most_cells) counted few;
    };
    place = subst (λ p. Some (south at) ≡ next_row (Row cells) p) (sym here) refl;
    count = subst (λ n. old.count + count ≡ old.count + n) counted refl;
    rule = refl;
    cells = λ x y. subst (λ p. bit_cell new x y ≡ cond (is_live_in_line (Row cells) p x y) 1 (bit_cell old.cells x y)) (sym here) (drawn x y);
    ready = record { place = place_next; few = few };
  }
