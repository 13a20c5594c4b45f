-- How an RLE text is read: what stands after its header, and the corner as the reader keeps it.
use Rattle.std.specs.Prelude.{◌≡◌, ℕ, List, [], ◌∷◌, Some, ◌⊎◌}
use Rattle.ca_plane.specs.declared.point.Point.{Point}
use Rattle.ca_plane.specs.Prelude.{nearest_u64, IsInPlane, IsInRange}
use Rattle.ca_rle.specs.declared.{fault.RleFault.RleFault, item.Item.Item}
use Rattle.ca_rle.specs.{Items.Run, File.RleFile, Faults.item_fault}

-- the item as the code keeps it: its count is at most 2^64 - 1
abbrev pub with_capped_count : Item → Item
with_capped_count item = record { count = nearest_u64 item.count; tag = item.tag }

-- an item stands at the front, before these bytes, and this is kept of it
abbrev pub IsItemAtFront : List ℕ → Item → List ℕ → Type 0
IsItemAtFront bytes item more = (whole : Item) × Run bytes (whole ∷ []) more × (item ≡ with_capped_count whole)

-- the reader keeps the corner itself, or, where that is out of range, some place in the plane that is out of range too
abbrev pub KeepsCorner : Point → Point → Type 0
KeepsCorner corner place = IsInPlane place × ((place ≡ corner) ⊎ ((IsInRange corner → ⊥) × (IsInRange place → ⊥)))

-- a file with this corner and these items, of which no more is said
abbrev pub bare_file : Point → List Item → RleFile
bare_file corner items = record { corner = corner; generation = 0; rule_text = []; items = items }

-- these bytes stand after good items, and begin with a bad item or end
abbrev pub HasBadUnitAt : List ℕ → RleFault → List ℕ → Type 0
HasBadUnitAt body fault bad = (items : List Item) × Run body items bad × (item_fault bad ≡ Some fault)

-- an item with this fault stands after good items, or the bytes end
abbrev pub HasBadUnit : List ℕ → RleFault → Type 0
HasBadUnit body fault = (bad : List ℕ) × HasBadUnitAt body fault bad
