-- The live cells of a file that reads are in range.
use Rattle.std.proofs.Common.{ℕ, List, sym, ap, subst, ◌∙◌}
use Rattle.ca_plane.specs.Prelude.{Picture, cell}
use Rattle.ca_rle.specs.Shown as rle_shown
use Rattle.ca_rle.proofs.OneFile as rle_file
use Rattle.ca_macro.specs.Prelude.{AreInRange}
use Rattle.ca_macro.specs.Shown as macrocell_shown
use Rattle.ca_macro.proofs.OneMeaning as macrocell
use Rattle.ca_macro.proofs.Ranges.{cells_in_range}
use Rattle.ca_pattern.specs.declared.format.Format.{Format}
use Rattle.ca_pattern.specs.declared.format.Format.TheVariants.{Rle, Mc}
use Rattle.ca_pattern.specs.Prelude.{format_of, MeansAs, IsReadableAs, HoldsPattern}

-- the cells of a text that reads are in range
pub read_in_range : (format : Format) (text : List ℕ) (cells : Picture) (rule_text : List ℕ) (generation : ℕ) → IsReadableAs format text → MeansAs format text cells rule_text generation → AreInRange (cell cells)
read_in_range Rle text cells rule_text generation (file, is, within) (other, is_too, shown, named, timed) =
    let same = rle_file.one_file text other file is_too is in
    subst (λ p. AreInRange (cell p)) (sym (shown ∙ ap (λ f. rle_shown.picture_of_items f.corner f.items) same))
    (cells_in_range (rle_shown.picture_of_items file.corner file.items) within.0.cells)
read_in_range Mc text cells rule_text generation (file, is, within) (other, is_too, shown, named, timed) =
    let same = macrocell.one_file text other file is_too is in
    subst (λ p. AreInRange (cell p)) (sym (shown ∙ ap (λ f. macrocell_shown.picture_of_nodes f.nodes) same)) (cells_in_range (macrocell_shown.picture_of_nodes file.nodes) within)

pub file_in_range : (bytes : List ℕ) (cells : Picture) (rule_text : List ℕ) (generation : ℕ) → HoldsPattern bytes cells rule_text generation → AreInRange (cell cells)
file_in_range bytes cells rule_text generation holds = read_in_range (format_of bytes) bytes cells rule_text generation holds.readable holds.means
