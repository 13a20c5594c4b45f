-- Texts that are read and the patterns that they hold, and planes that can be written as texts.
use Rattle.std.specs.Prelude.{◌≡◌, ℕ, ◌<◌, ◌≤◌, ℤ, List, length}
use Rattle.std.specs.List.{All}
use Rattle.ca_plane.specs.Prelude.{IsWord, bit_cell, Picture, IsPicture, cell, IsSparse, IsInRange, generation_limit, most_cells}
use Rattle.ca_rle.specs.declared.pattern.{PackedCells.PackedCells, Pattern.Pattern}
use Rattle.ca_rle.specs.declared.pattern.PackedCells.TheVariants.{Words, States}
use Rattle.ca_rle.specs.{File.RleFile, File.IsRleFile, Limits.IsRleWithinRange, Limits.IsWithinLimits, Shown.picture_of_items, Tidy.IsTidyRle}

-- cells, a rule text and a generation are the file's; its picture has states from 1 to 255, the generation is below the
-- limit, and the rule text is a word
pub record HasFileParts (file : RleFile) (cells : ℤ → ℤ → ℕ) (rule_text : List ℕ) (generation : ℕ) : Type 0 where
  pub cells_are : (x y : ℤ) → cells x y ≡ cell (picture_of_items file.corner file.items) x y
  pub states : IsPicture (picture_of_items file.corner file.items)
  pub rule_text_is : rule_text ≡ file.rule_text
  pub generation_is : generation ≡ file.generation
  pub low_generation : generation < generation_limit
  pub is_word : IsWord rule_text

-- the pattern has the file's parts, and its plane is sparse
abbrev pub IsRlePattern : RleFile → Pattern → Type 0
IsRlePattern file pattern = HasFileParts file (cell pattern.cells) pattern.rule_text.items pattern.generation × IsSparse pattern.cells

-- the state of a cell of packed cells
abbrev pub packed_cell : PackedCells → ℤ → ℤ → ℕ
packed_cell (Words plane) x y = bit_cell plane x y
packed_cell (States plane) x y = cell plane x y

-- words where no state is above 1, else a sparse plane
abbrev pub ArePacked : ℕ → PackedCells → Type 0
ArePacked greatest (Words plane) = greatest ≤ 1
ArePacked greatest (States plane) = (1 < greatest) × IsSparse plane

-- the text is a file that passes no limit
abbrev pub IsReadableRle : List ℕ → Type 0
IsReadableRle bytes = (file : RleFile) × IsRleFile bytes file × IsWithinLimits file

-- it is one, and this is its pattern
abbrev pub HoldsRlePattern : List ℕ → Pattern → Type 0
HoldsRlePattern bytes pattern = (file : RleFile) × IsRleFile bytes file × IsWithinLimits file × IsRlePattern file pattern

-- a plane can be written with this rule text and generation, under a rule of this many states
pub record IsWritableRle (cells : Picture) (rule_text : List ℕ) (generation states : ℕ) : Type 0 where
  pub range : All (λ e. IsInRange e.0) cells
  pub low_states : All (λ e. e.1 < states) cells
  pub is_word : IsWord rule_text
  pub low_generation : generation < generation_limit

-- the text is a file whose cells are in range, and it means the plane, its cells one by one in their order, this rule
-- text and this generation
abbrev pub IsRleOf : List ℕ → Picture → List ℕ → ℕ → Type 0
IsRleOf text cells rule_text generation =
    (file : RleFile) × IsRleFile text file × IsRleWithinRange file × (picture_of_items file.corner file.items ≡ cells)
    × (file.rule_text ≡ rule_text) × (file.generation ≡ generation)

-- what is written of a plane: its tidy text, which means it, and which the reader takes where the plane has at most
-- 16777216 live cells
pub record IsWrittenRle (text : List ℕ) (cells : Picture) (rule_text : List ℕ) (generation states : ℕ) : Type 0 where
  pub tidy : IsTidyRle text cells rule_text generation states
  pub means : IsRleOf text cells rule_text generation
  pub limits : length cells ≤ most_cells → (file : RleFile) → IsRleFile text file → IsWithinLimits file
