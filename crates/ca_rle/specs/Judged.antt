-- Texts that are described by their items, without a plane of their cells.
use Rattle.std.specs.Prelude.{◌≡◌, ◌≢◌, ℕ, ◌<◌, ◌≤◌, ℤ, List, unwrap_or, MatchOption}
use Rattle.std.specs.Option.{option_copied}
use Rattle.ca_plane.specs.Prelude.{IsWord, default_rule, generation_limit, IsPicture, IsLive, cell, IsLeastBox, HasPopulation}
use Rattle.ca_rle.specs.declared.rle_text.RleText.{RleText}
use Rattle.ca_rle.specs.{File.RleFile, File.IsRleFile, Items.Items, Limits.IsWithinLimits, Shown.picture_of_items}

-- the bytes are a file that passes no limit, and this is reported of it: its rule text, generation, corner and items,
-- the number of its live cells, the smallest box round them, and the greatest of their states
pub record IsRleText (bytes : List ℕ) (text : RleText) : Type 0 where
  pub file : RleFile
  pub is_file : IsRleFile bytes file
  pub within : IsWithinLimits file
  pub items : Items text.body.now file.items
  pub corner : text.corner ≡ file.corner
  pub rule_text : unwrap_or (option_copied text.rule) default_rule ≡ file.rule_text
  pub is_word : IsWord file.rule_text
  pub generation : text.generation ≡ file.generation
  pub low_generation : file.generation < generation_limit
  pub states : IsPicture (picture_of_items file.corner file.items)
  pub population : HasPopulation (cell (picture_of_items file.corner file.items)) text.cells
  pub bounds : MatchOption text.bounds (IsLive (picture_of_items file.corner file.items) → ⊥) (IsLeastBox (picture_of_items file.corner file.items))
  pub most : (x y : ℤ) → cell (picture_of_items file.corner file.items) x y ≤ text.greatest
  pub greatest : text.greatest ≢ 0 → (x : ℤ) × (y : ℤ) × (cell (picture_of_items file.corner file.items) x y ≡ text.greatest)
