-- The smallest box round the live cells of a square, counted from its corner.
use Rattle.std.specs.Prelude.{◌≢◌, ℕ, ◌-◌, ◌<◌, ◌≤◌, nat_lt, if◌then◌else◌, Option, MatchOption}
use Rattle.ca_quad.specs.declared.store.extent.Extent.{Extent}
use Rattle.ca_quad.specs.Trees.{IsEmpty}

-- two squares that lie side by side, of which the western one has this many columns
abbrev pub box_of_two : ℕ → (ℕ → ℕ → ℕ) → (ℕ → ℕ → ℕ) → ℕ → ℕ → ℕ
box_of_two side west east x y = if nat_lt x side then west x y else east (x - side) y

-- x and y change places
abbrev pub transposed : (ℕ → ℕ → ℕ) → ℕ → ℕ → ℕ
transposed cells x y = cells y x

-- the smallest box round the live cells, which lie in `columns` columns and `rows` rows: one lies on each of its sides
pub record IsExtent (cells : ℕ → ℕ → ℕ) (columns rows : ℕ) (box : Extent) : Type 0 where
  pub all : (x y : ℕ) → cells x y ≢ 0 → (box.left ≤ x) × (x ≤ box.right) × (box.top ≤ y) × (y ≤ box.bottom)
  pub left : (y : ℕ) × (cells box.left y ≢ 0)
  pub right : (y : ℕ) × (cells box.right y ≢ 0)
  pub top : (x : ℕ) × (cells x box.top ≢ 0)
  pub bottom : (x : ℕ) × (cells x box.bottom ≢ 0)
  pub is_right : box.right < columns
  pub is_bottom : box.bottom < rows

-- the box lies in a square of this side
abbrev pub FitsSide : ℕ → Extent → Type 0
FitsSide side box = (box.left < side) × (box.top < side) × (box.right < side) × (box.bottom < side)

-- the smallest box round the live cells, where there are any
abbrev pub IsSquareExtent : (ℕ → ℕ → ℕ) → ℕ → ℕ → Option Extent → Type 0
IsSquareExtent cells columns rows found = MatchOption found (IsEmpty cells) (IsExtent cells columns rows)
