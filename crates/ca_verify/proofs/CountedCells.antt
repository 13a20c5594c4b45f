-- Whether an empty picture has few cells.
use Rattle.std.proofs.Common.{◌≡◌, ◌≢◌, List, [], ◌∷◌, length, refl, sym, arith, rules}
use Rattle.std.specs.List.{AllByRecursion}
use Rattle.ca_plane.specs.declared.point.Point.{Point}
use Rattle.ca_plane.specs.Prelude.{cell, AreLivePlaces, HasFewCells, HasTooManyCells}

-- no cell of an empty picture is live
none_live : AreLivePlaces (cell []) []
none_live = record { once = search rules; live = tt; all = λ x y live. absurd (live refl) }

-- so they are few,
pub few_none : HasFewCells (cell [])
few_none = (0, ([], none_live, refl), omega arith)

-- and not too many
pub none_many : HasTooManyCells (cell []) → ⊥
none_many (count, (places, are, long), many) = no places are.live (sym long)
  where
    no : (ps : List Point) → AllByRecursion (λ p. cell [] p.x p.y ≢ 0) ps → length ps ≡ count → ⊥
    no [] live same = let nothing : count ≡ 0 = sym same in omega (arith, nothing, many)
    no (p ∷ ps) live same = live.0 refl
