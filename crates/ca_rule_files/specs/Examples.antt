-- Texts and cells of the laws and the worked examples.
use Rattle.std.specs.Prelude.{◌≡◌, ℕ, ◌<◌, List, length, All, codes}
use Rattle.ca_rule.specs.Prelude.{counts_of, bs_next}
use Rattle.ca_rule.specs.declared.hood.Hood.TheVariants.{Moore}
use Rattle.ca_rule_files.specs.{Isotropic.has_kind, Isotropic.isotropic_next, Kinds.cells}

-- nine cells, each dead or live
pub record AreNineCells (nine : List ℕ) : Type 0 where
  pub nine_cells : length nine ≡ 9
  pub two_states : All (λ s. s < 2) nine

-- the two lists have the same kinds
abbrev pub HaveSameKinds : List ℕ → List ℕ → Type 0
HaveSameKinds some other = (nine : List ℕ) → AreNineCells nine → has_kind some nine ≡ has_kind other nine

-- the next cell under an isotropic rule of these birth and survival kinds, of nine cells in three rows from the north
abbrev pub isotropic_cell : List ℕ → List ℕ → List ℕ → ℕ
isotropic_cell birth survival picture = isotropic_next birth survival (cells picture)

-- and under a B/S rule of these birth and survival digits, over all eight neighbours
abbrev pub counted_next : List ℕ → List ℕ → List ℕ → ℕ
counted_next birth survival nine = bs_next Moore (counts_of birth) (counts_of survival) nine

-- the characters of Life's MAP string
abbrev pub life_characters : List ℕ
life_characters = codes "ARYXfhZofugWaH7oaIDogBZofuhogOiAaIDogIAAgAAWaH7oaIDogGiA6ICAAIAAaIDogIAAgACAAIAAAAAAAA"
