-- Tables of results that may drop any (our own).
use Rattle.std.specs.Prelude.{ℕ, List, Option, Some}
use Rattle.std.specs.List.{Contains}

-- the slots, each with a key and the square that is its result, or with nothing, and how many there may be
pub record SlotsView (Key : Type 0) : Type 0 where
  pub slots : List (Option (Key × ℕ))
  pub most : ℕ

-- a slot has the square as the result of a key
abbrev pub HasRecent : {Key : Type 0} → List (Option (Key × ℕ)) → Key → ℕ → Type 0
HasRecent slots key square = Contains slots (Some (key, square))
