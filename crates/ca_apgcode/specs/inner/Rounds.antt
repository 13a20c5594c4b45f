-- The least of a text and those of a grid in its orientations, one after the other.
use Rattle.std.specs.Prelude.{◌≡◌, ◌⊎◌, ℕ, ℤ, List}
use Rattle.ca_apgcode.specs.{Order.Precedes, Objects.IsBoxRound, Objects.IsTextOf, inner.Least.lesser}
use Rattle.ca_apgcode.specs.declared.rounds.Turn.{Turn}

-- the text is that of these cells or the one before, whichever comes first
pub record IsLesserWith (cells : ℤ → ℤ → ℕ) (before now : List ℕ) : Type 0 where
  pub text : List ℕ
  pub is_text : IsTextOf cells text
  pub least : now ≡ lesser text before

-- a turn whose grid is the smallest box of these cells: the least text is that of these cells or the least one before,
-- whichever comes first
pub record IsNextTurn (cells : ℤ → ℤ → ℕ) (before : List ℕ) (turn : Turn) : Type 0 where
  pub box : IsBoxRound cells turn.grid
  pub lesser : IsLesserWith cells before turn.least.items

-- the text is the first one or one of these, and none of them comes before it
pub record IsLeastWith (IsOne : List ℕ → Type 0) (first least : List ℕ) : Type 0 where
  pub is_one : (least ≡ first) ⊎ IsOne least
  pub not_after : Precedes first least → ⊥
  pub is_first : (text : List ℕ) → IsOne text → Precedes text least → ⊥
