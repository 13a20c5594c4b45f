-- RLE files that were read, their cells kept in one form or another.
use Rattle.std.proofs.Common.{◌≡◌, ℕ, ◌≤◌, ◌<◌, ◌^◌, List, refl, sym, ap, subst, arith}
use Rattle.std.specs.Prelude.{ℤ}
use Rattle.ca_plane.specs.Prelude.{Picture, cell}
use Rattle.ca_plane.specs.declared.point.Point.{Point}
use Rattle.ca_rle.specs.declared.rle_text.RleText.{RleText}
use Rattle.ca_rle.specs.Prelude.{IsRleText, RleFile, IsRleFile, IsWithinLimits, HasFileParts, picture_of_items}
use Rattle.ca_rule.specs.Prelude.{RuleValue, states_of}
use Rattle.ca_macro.specs.Prelude.{AreInRange}
use Rattle.ca_pattern.specs.declared.format.Format.TheVariants.{Rle}
use Rattle.ca_pattern.specs.Prelude.{format_of, MeansAs, IsReadableAs, HoldsPattern, HasLargeState}
use Rattle.ca_pattern.proofs.FilesRead.{in_format, shown_in_range}

module _ (bytes : List ℕ) (file : RleFile) (f : ℤ → ℤ → ℕ) (rule_text : List ℕ) (generation : ℕ) (rle : format_of bytes ≡ Rle) (is_file : IsRleFile bytes file) (within : IsWithinLimits file) (parts : HasFileParts file f rule_text generation) where
  -- the file's picture
  abbrev pub picture : Picture
  picture = picture_of_items file.corner file.items

  pub holds : HoldsPattern bytes picture rule_text generation
  holds = record {
    readable = in_format (λ t. IsReadableAs t bytes) bytes Rle rle (file, is_file, within);
    means = in_format (λ t. MeansAs t bytes picture rule_text generation) bytes Rle rle (file, is_file, refl, parts.rule_text_is, parts.generation_is);
  }

  pub in_range : AreInRange f
  in_range = shown_in_range f picture parts.cells_are within.0.cells

-- ---- a text that was judged

module _ (bytes : List ℕ) (text : RleText) (is : IsRleText bytes text) where
  -- the text's picture
  abbrev pub text_picture : Picture
  text_picture = picture_of_items text.corner is.file.items

  abbrev pub text_parts : HasFileParts is.file (cell (picture_of_items text.corner is.file.items)) is.file.rule_text text.generation
  text_parts = record {
    cells_are = λ x y. ap (λ (at : Point). cell (picture_of_items at is.file.items) x y) is.corner;
    states = is.states;
    rule_text_is = refl;
    generation_is = is.generation;
    low_generation = subst (λ (n : ℕ). n < 2 ^ 63) (sym is.generation) is.low_generation;
    is_word = is.is_word;
  }

  pub text_holds : format_of bytes ≡ Rle → HoldsPattern bytes (picture_of_items is.file.corner is.file.items) is.file.rule_text text.generation
  text_holds rle = holds bytes is.file (cell text_picture) is.file.rule_text text.generation rle is.is_file is.within text_parts

  -- and one of its states is large under a rule with no more states than the greatest
  pub text_large : (rule : RuleValue) → 0 < states_of rule → states_of rule ≤ text.greatest → HasLargeState rule (cell (picture_of_items is.file.corner is.file.items))
  text_large rule some high =
      let (x, y, shown) = is.greatest (omega (arith, some, high)) in
      (x, y, omega (arith, shown, high))
