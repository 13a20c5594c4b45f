-- Small patterns on which the definitions are tried.
use Rattle.std.specs.Prelude.{ℕ, pos, List, [], ◌∷◌, codes}
use Rattle.ca_plane.specs.Prelude.{Picture}
use Rattle.ca_rule.specs.Prelude.{counts_of, bs_next}
use Rattle.ca_rule.specs.declared.hood.Hood.TheVariants.{Moore}

-- the next state under Conway's Life, `B3/S23`
abbrev pub life : List ℕ → ℕ
life = bs_next Moore (counts_of (codes "3")) (counts_of (codes "23"))

-- three cells in a row, from (0, 0) to the right
abbrev pub blinker : Picture
blinker = (record { y = pos 0; x = pos 0 }, 1) ∷ (record { y = pos 0; x = pos 1 }, 1) ∷ (record { y = pos 0; x = pos 2 }, 1) ∷ []

-- two rows of two cells, from (0, 0) to the right and down
abbrev pub block : Picture
block =
    (record { y = pos 0; x = pos 0 }, 1) ∷ (record { y = pos 0; x = pos 1 }, 1)
    ∷ (record { y = pos 1; x = pos 0 }, 1) ∷ (record { y = pos 1; x = pos 1 }, 1) ∷ []
