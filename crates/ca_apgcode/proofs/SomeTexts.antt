-- Cells in a box have a representation.
use Rattle.std.proofs.Common.{◌≡◌, ℕ, zero, suc, ◌+◌, ◌*◌, ◌/◌, ◌%◌, ◌^◌, ◌≤◌, ◌==◌, if◌then◌else◌, List, [], ◌∷◌, ◌++◌, length, get_or, refl, subst, arith}
use Rattle.std.proofs.lemmas.List.{get_or_past}
use Rattle.ca_apgcode.specs.Prelude.{GridCells, IsGrid, cell, IsRepresentation, five_cells, step_text}
use Rattle.ca_apgcode.specs.inner.Puts.{PutsStrip}
use Rattle.ca_apgcode.proofs.Columns.{five_bits, five_dead}
use Rattle.ca_apgcode.proofs.Steps.{BeginsStrip, BeginsStrip-none, BeginsStrip-more, BeginsStrip-all}
use Rattle.ca_apgcode.proofs.Strips.{BeginsStrips, BeginsStrips-none, BeginsStrips-more}

-- the first columns of a strip have a text
record SomeColumns (cells : ℕ → ℕ → ℕ) (y x : ℕ) (old : List ℕ) : Type 0 where
  gap : ℕ
  text : List ℕ
  begins : BeginsStrip cells y x gap old text

some_columns : (cells : ℕ → ℕ → ℕ) (y x : ℕ) (old : List ℕ) → x ≤ 40 → ((k : ℕ) → five_cells cells k y ≤ 31) → SomeColumns cells y x old
some_columns cells y zero old narrow low = record { gap = 0; text = old; begins = BeginsStrip-none cells y old }
some_columns cells y (suc x) old narrow low =
    let before = some_columns cells y x old (omega (arith, narrow)) low in
    let column = five_cells cells x y in
    let next = if column == 0 then before.gap + 1 else 0 in
    let more = if column == 0 then [] else step_text (record { gap = before.gap; column = column }) in
    let one : x + 1 ≡ suc x = omega arith in
    record {
      gap = next;
      text = before.text ++ more;
      begins = subst (λ k. BeginsStrip cells y k next old (before.text ++ more)) one
          (BeginsStrip-more cells y x before.gap column next old before.text (before.text ++ more) refl (low x) (omega (arith, narrow, before.begins.width)) refl (record { whole = refl }) before.begins);
    }

-- the first strips of a box have a text
record SomeStrips (cells : ℕ → ℕ → ℕ) (count : ℕ) : Type 0 where
  text : List ℕ
  begins : BeginsStrips cells count text

some_strips : (cells : ℕ → ℕ → ℕ) (width count : ℕ) → width ≤ 40 → ((x y : ℕ) → five_cells cells x y ≤ 31) → ((x y : ℕ) → width ≤ x → five_cells cells x y ≡ 0) → SomeStrips cells count
some_strips cells width zero narrow low east = record { text = []; begins = BeginsStrips-none cells [] refl }
some_strips cells width (suc count) narrow low east =
    let before = some_strips cells width count narrow low east in
    let now = before.text ++ (if count == 0 then [] else 122 ∷ []) in
    let columns = some_columns cells (5 * count) width now narrow (λ k. low k (5 * count)) in
    let puts : PutsStrip cells (5 * count) now columns.text = BeginsStrip-all cells (5 * count) width columns.gap now columns.text (λ k past. east k (5 * count) past) columns.begins in
    let one : count + 1 ≡ suc count = omega arith in
    record {
      text = columns.text;
      begins = subst (λ n. BeginsStrips cells n columns.text) one (BeginsStrips-more cells count before.text now columns.text (record { whole = refl }) puts before.begins);
    }

-- a box of cells has one
pub some_text : (grid : GridCells) → IsGrid grid → (text : List ℕ) × IsRepresentation (cell grid) grid.height text
some_text grid is_grid =
    let count = (grid.height + 4) / 5 in
    let all = some_strips (cell grid) (length grid.columns) count is_grid.width
    (λ x y. subst (λ n. n ≤ 31) (five_bits (get_or grid.columns x 0) y) (let e : get_or grid.columns x 0 / 2 ^ y % 32 ≤ 31 = omega arith in e))
    (λ x y past. five_dead grid x y (get_or_past grid.columns x 0 past)) in (
      all.text,
      record {
        strips = all.begins.strips;
        count = all.begins.many;
        each = λ i below. all.begins.each i (omega (arith, below, all.begins.many));
        whole = all.begins.whole;
      },
    )
