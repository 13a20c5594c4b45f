-- The live cells of good lines are in range, and so are those of an apgcode.
use Rattle.std.proofs.Common.{◌≡◌, ◌≢◌, ℕ, ◌+◌, ℤ, pos, negsuc, neg_ℤ, ◌+ℤ◌, ◌≤ℤ◌, ◌<ℤ◌, List, [], ◌∷◌, length, get_or, true, ◌&&◌, cond, Option, None, Some, inl, inr, refl, sym, ap, subst, ◌∙◌, arith}
use Rattle.std.proofs.lemmas.Int.{ints}
use Rattle.std.proofs.lemmas.Bool.{or_cases, and_parts, true≢false, cases_Bool, cases_eq}
use Rattle.std.proofs.lemmas.Nat.Bits.{bit_at-lt}
use Rattle.ca_plane.specs.declared.point.Point.{Point}
use Rattle.ca_plane.specs.Prelude.{lines_of, range, IsInRange, from_corner}
use Rattle.ca_plane.proofs.Pictures.{place-from_true}
use Rattle.ca_apgcode.specs.Prelude.{GridCells, cell, IsCode}
use Rattle.ca_apgcode.proofs.Codes.{live_column, live_row}
use Rattle.ca_rule.specs.declared.bs_rule.BsRule.{BsRule}
use Rattle.ca_import.specs.declared.format.{ImportFormat.ImportFormat, LineFormat.LineFormat}
use Rattle.ca_import.specs.declared.format.ImportFormat.TheVariants.{Lines, Apgcode}
use Rattle.ca_import.specs.declared.format.LineFormat.TheVariants.{Life106, Life105, Plaintext}
use Rattle.ca_import.specs.Prelude.{CellLine, Nothing, LiveCell, Row, Corner, Rule, is_live_byte, is_at, east, is_live_in_row, is_live_in_line, is_live_in, next_row, live_count, IsRowInRange}
use Rattle.ca_import.specs.Prelude.{IsLineInRange, first_row, LinesSay, LinesHold, HoldsIn, IsImport}
use Rattle.ca_import.specs.inner.Reading.{IsRowPlace, IsPlace}

-- a cell of a row lies in the row
record IsInRow (at : Point) (long : ℕ) (x y : ℤ) : Type 0 where
  row : y ≡ at.y
  west : at.x ≤ℤ x
  east : x <ℤ (at.x +ℤ pos long)

live_in_row : (at : Point) (cells : List ℕ) (x y : ℤ) → is_live_in_row at cells x y ≡ true → IsInRow at (length cells) x y
live_in_row at [] x y e = absurd (true≢false (sym e))
live_in_row at (b ∷ bs) x y e = elim (or_cases (is_live_byte b && is_at at x y) (is_live_in_row (east at) bs x y) e) [
  | inl here ↦
      let place = place-from_true x y at (and_parts (is_live_byte b) (is_at at x y) here).1 in
      let x_is = place.1 in
      record { row = place.0; west = omega (arith, ints, x_is); east = omega (arith, ints, x_is) }
  | inr later ↦
      let is = live_in_row (east at) bs x y later in
      let low = is.west in
      let high = is.east in
      record { row = is.row; west = omega (arith, ints, low); east = omega (arith, ints, high) }
]

row_in_range : (at : Point) (cells : List ℕ) (x y : ℤ) → IsRowPlace at → IsRowInRange at cells → IsInRow at (length cells) x y → IsInRange (record { y = y; x = x })
row_in_range at cells x y place within is =
    let low = is.west in
    let high = is.east in
    let row = is.row in
    let west = place.west in
    let north = place.north in
    let most = within.east in
    let last = within.south in
    (omega (arith, ints, low, west), omega (arith, ints, high, most), omega (arith, ints, row, north), omega (arith, ints, row, last))

-- a live cell of a line that is in range is in range
line_in_range : (s : CellLine) (place : Option Point) (x y : ℤ) → IsPlace place → IsLineInRange s place → is_live_in_line s place x y ≡ true → IsInRange (record { y = y; x = x })
line_in_range Nothing place x y ready within e = absurd (true≢false (sym e))
line_in_range (LiveCell at) place x y ready within e =
    let is = place-from_true x y at e in
    (subst (λ n. neg_ℤ (pos range) ≤ℤ n) (sym is.1) within.0, subst (λ n. n <ℤ pos range) (sym is.1) within.1, subst (λ n. neg_ℤ (pos range) ≤ℤ n) (sym is.0) within.2, subst (λ n. n <ℤ pos range) (sym is.0) within.3)
line_in_range (Row cells) None x y ready within e = absurd (true≢false (sym e))
line_in_range (Row cells) (Some at) x y ready within e = row_in_range at cells x y ready within (live_in_row at cells x y e)
line_in_range (Corner at) place x y ready within e = absurd (true≢false (sym e))
line_in_range (Rule rule) place x y ready within e = absurd (true≢false (sym e))

-- and the next row begins at a place
place_after_line : (s : CellLine) (place : Option Point) → IsPlace place → IsLineInRange s place → IsPlace (next_row s place)
place_after_line Nothing place ready within = ready
place_after_line (LiveCell at) place ready within = ready
place_after_line (Row cells) None ready within = tt
place_after_line (Row cells) (Some at) ready within =
    let last = within.south in
    let north = ready.north in
    record { west = ready.west; east = ready.east; north = omega (arith, ints, north); south = omega (arith, ints, last) }
place_after_line (Corner at) place ready within =
    let south = within.3 in
    record { west = within.0; east = within.1; north = within.2; south = omega (arith, ints, south) }
place_after_line (Rule rule) place ready within = ready

lines_in_range : (format : LineFormat) (place : Option Point) (count : ℕ) (lines : List (List ℕ)) (said : List CellLine) (x y : ℤ) → IsPlace place → LinesSay format place count lines said → is_live_in place said x y ≡ true → IsInRange (record { y = y; x = x })
lines_in_range format place count [] [] x y ready h e = absurd (true≢false (sym e))
lines_in_range format place count [] (s ∷ said) x y ready h e = absurd h
lines_in_range format place count (l ∷ ls) [] x y ready h e = absurd h
lines_in_range format place count (l ∷ ls) (s ∷ said) x y ready h e =
    let good = h.1 in
    elim (or_cases (is_live_in_line s place x y) (is_live_in (next_row s place) said x y) e) [
      | inl here ↦ line_in_range s place x y ready good.within here
      | inr later ↦ lines_in_range format (next_row s place) (count + live_count s) ls said x y (place_after_line s place ready good.within) h.2 later
    ]

first_place : (format : LineFormat) → IsPlace (first_row format)
first_place Life106 = tt
first_place Life105 = tt
first_place Plaintext = record { west = omega (arith, ints); east = omega (arith, ints); north = omega (arith, ints); south = omega (arith, ints) }

good_in_range : (format : LineFormat) (bytes : List ℕ) (cells : ℤ → ℤ → ℕ) (rule : Option BsRule) → LinesHold format bytes cells rule → (x y : ℤ) → cells x y ≢ 0 → IsInRange (record { y = y; x = x })
good_in_range format bytes cells rule h x y live = elim (cases_Bool (is_live_in (first_row format) h.said x y)) [
  | inl e ↦ lines_in_range format (first_row format) 0 (lines_of bytes) h.said x y (first_place format) h.say e
  | inr e ↦ absurd (live (h.cells_are x y ∙ ap (λ b. cond b 1 0) e))
]

-- a box is at most 40 by 40
code_in_range : (box : GridCells) (text : List ℕ) → IsCode box text → (x y : ℤ) → from_corner (cell box) x y ≢ 0 → IsInRange (record { y = y; x = x })
code_in_range box text code (pos x) (pos y) live = elim (cases_eq (cell box x y) 0) [
  | inl none ↦ absurd (live none)
  | inr some ↦
      let one : cell box x y ≡ 1 = omega (arith, bit_at-lt (get_or box.columns x 0) y, some) in
      let east = live_column box x y one in
      let south = live_row box x y code.is_grid one in
      let wide = code.is_grid.width in
      let high = code.is_grid.height in
      (omega (arith, ints), omega (arith, ints, east, wide), omega (arith, ints), omega (arith, ints, south, high))
]
code_in_range box text code (pos x) (negsuc y) live = absurd (live refl)
code_in_range box text code (negsuc x) y live = absurd (live refl)

held_in_range : (format : ImportFormat) (bytes : List ℕ) (cells : ℤ → ℤ → ℕ) (rule : Option BsRule) → HoldsIn format bytes cells rule → (x y : ℤ) → cells x y ≢ 0 → IsInRange (record { y = y; x = x })
held_in_range (Lines format) bytes cells rule h x y live = good_in_range format bytes cells rule h x y live
held_in_range Apgcode bytes cells rule h x y live = code_in_range h.box h.text h.is_code x y (λ e. live (h.cells_are x y ∙ e))

-- of an import every live cell is in range
pub import_in_range : (bytes : List ℕ) (cells : ℤ → ℤ → ℕ) (rule : Option BsRule) → IsImport bytes cells rule → (x y : ℤ) → cells x y ≢ 0 → IsInRange (record { y = y; x = x })
import_in_range bytes cells rule h x y live = held_in_range h.format bytes cells rule h.holds x y live
