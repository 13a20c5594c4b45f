-- The counts of B/S rules as masks, and which neighbours are counted (ca_plane's Moore rules and countings).
use Rattle.std.specs.Prelude.{ℕ, ◌+◌, ◌*◌, List, [], ◌∷◌, Bool, Option, Some, None, if◌then◌else◌}
use Rattle.ca_plane.specs.declared.counting.{Counting.Counting, Neighbourhood.Neighbourhood}
use Rattle.ca_plane.specs.declared.counting.Neighbourhood.TheVariants as counted
use Rattle.ca_rule.specs.declared.{counts.Counts.Counts, hood.Hood.Hood}
use Rattle.ca_rule.specs.declared.hood.Hood.TheVariants.{Moore, VonNeumann, Hex}

-- a mask whose bits, the lowest first, are 1 where these are true
abbrev pub mask_of : List Bool → ℕ
mask_of [] = 0
mask_of (held ∷ more) = (if held then 1 else 0) + 2 * mask_of more

-- the masks of the birth counts and of the survival counts, where all eight neighbours are counted; else there are none
abbrev pub masks_by_hood : Hood → Counts → Counts → Option (ℕ × ℕ)
masks_by_hood Moore birth survival = Some (mask_of birth.holds, mask_of survival.holds)
masks_by_hood VonNeumann birth survival = None
masks_by_hood Hex birth survival = None

-- the neighbourhood that is counted
abbrev pub neighbourhood_of : Hood → Neighbourhood
neighbourhood_of Moore = counted.Moore
neighbourhood_of VonNeumann = counted.VonNeumann
neighbourhood_of Hex = counted.Hexagonal

-- the same masks, whichever neighbours are counted, and these
abbrev pub counting_by_hood : Hood → Counts → Counts → Counting
counting_by_hood hood birth survival =
    record { neighbourhood = neighbourhood_of hood; birth = mask_of birth.holds; survival = mask_of survival.holds }
