-- How a tidy text is put together: its frame, the items of a plane from cell to cell, and the lines from item to item.
use Rattle.std.specs.Prelude.{◌≡◌, ℕ, ◌+◌, ◌<◌, ◌≤◌, ℤ, pos, ◌+ℤ◌, List, [], ◌∷◌, ◌++◌, length, ◌==◌, ◌⊎◌, if◌then◌else◌}
use Rattle.std.specs.List.{flat_map, concat}
use Rattle.ca_plane.specs.declared.point.Point.{Point}
use Rattle.ca_rle.specs.declared.item.{Item.Item, Tag.Tag}
use Rattle.ca_rle.specs.declared.item.Tag.TheVariants.{Cell, RowEnd}
use Rattle.ca_rle.specs.{File.line_with_lf, Tidy.AreLines}

-- `count` of a tag, as items; none where `count` is 0
abbrev pub some_of : Tag → ℕ → List Item
some_of tag count = if count == 0 then [] else record { count = count; tag = tag } ∷ []

-- a gap leads from one place to a later one: row ends, which go to the left side, and then dead cells
pub record IsItemGap (left : ℤ) (from to : Point) (gap : List Item) : Type 0 where
  pub rows : ℕ
  pub columns : ℕ
  pub below : to.y ≡ from.y +ℤ pos rows
  pub right : to.x ≡ (if rows == 0 then from.x else left) +ℤ pos columns
  pub gap_is : gap ≡ some_of RowEnd rows ++ some_of (Cell 0) columns

-- a piece is put after a text whose last line has `filled` characters, on a new line where it would pass 70
abbrev pub IsPlaced : List ℕ → ℕ → List ℕ → List ℕ → ℕ → Type 0
IsPlaced old filled piece new now_filled =
    ((filled + length piece ≤ 70) × (new ≡ old ++ piece) × (now_filled ≡ filled + length piece))
    ⊎ ((70 < filled + length piece) × (new ≡ old ++ 10 ∷ piece) × (now_filled ≡ length piece))

-- new is old with the pieces after it, in lines of at most 70 characters
pub record PutsLines (old new : List ℕ) (pieces : List (List ℕ)) : Type 0 where
  pub lines : List (List (List ℕ))
  pub whole : flat_map (λ line. line) lines ≡ pieces
  pub lines_are : AreLines lines
  pub spelled : new ≡ old ++ flat_map (λ line. line_with_lf (concat line)) lines

-- no line is open yet, or one is, which has a piece, and the lines are lines with it
abbrev pub IsOpen : List (List (List ℕ)) → List (List ℕ) → Type 0
IsOpen closed last = ((closed ≡ []) × (last ≡ [])) ⊎ ((0 < length last) × AreLines (closed ++ last ∷ []))

-- pieces stand after a text in lines, of which the last isn't ended yet and has `filled` characters
pub record IsLaid (start text : List ℕ) (filled : ℕ) (pieces : List (List ℕ)) : Type 0 where
  pub closed : List (List (List ℕ))
  pub open_line : List (List ℕ)
  pub lines_are : IsOpen closed open_line
  pub whole : flat_map (λ line. line) closed ++ open_line ≡ pieces
  pub filled_is : filled ≡ length (concat open_line)
  pub short : filled ≤ 70
  pub spelled : text ≡ start ++ (flat_map (λ line. line_with_lf (concat line)) closed ++ concat open_line)
