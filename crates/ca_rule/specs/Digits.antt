-- The number of states that digits write, in rule texts and in rule files.
use Rattle.std.specs.Prelude.{ℕ, List, length, Bool, ◌&&◌, nat_le, Option, Some, None, if◌then◌else◌}
use Rattle.std.specs.List.{list_all}
use Rattle.ca_plane.specs.Prelude.{is_digit, value}

-- one or more digits
abbrev pub are_digits : List ℕ → Bool
are_digits bytes = nat_le 1 (length bytes) && list_all is_digit bytes

-- the number of states that they write: from 2 to 256 (Golly Help, RuleLoader; leading zeros are our own)
abbrev pub state_count : List ℕ → Option ℕ
state_count bytes = if are_digits bytes && (nat_le 2 (value bytes) && nat_le (value bytes) 256) then Some (value bytes) else None
