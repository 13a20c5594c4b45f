-- The limits of planes, pattern files, runs and claims, and the rule of a file that names none (our own, except that rule: Golly Help, File
-- Formats).
use Rattle.std.specs.Prelude.{ℕ, ◌-◌, ◌^◌, ℤ, pos, neg_ℤ, ◌≤ℤ◌, ◌<ℤ◌, List, codes}
use Rattle.ca_plane.specs.declared.point.Point.{Point}

-- how far from 0 a coordinate of a plane's cells may be
abbrev pub reach : ℤ
reach = pos (2 ^ 62)

-- coordinates of live cells in a file are from -2^60 to 2^60 - 1
abbrev pub range : ℕ
range = 2 ^ 60

-- both coordinates are in range
abbrev pub IsInRange : Point → Type 0
IsInRange p = (neg_ℤ (pos range) ≤ℤ p.x) × (p.x <ℤ pos range) × (neg_ℤ (pos range) ≤ℤ p.y) × (p.y <ℤ pos range)

-- the most live cells that are handled one by one: 16777216
abbrev pub most_cells : ℕ
most_cells = 2 ^ 24

-- the longest count of a file's item
abbrev pub longest_count : ℕ
longest_count = 2 ^ 62

-- generations are below 2^63
abbrev pub generation_limit : ℕ
generation_limit = 2 ^ 63

-- the most generations by which a plane goes on at once, and that a claim may name
abbrev pub most_generations : ℕ
most_generations = 2 ^ 60

-- the longest period of a claim
abbrev pub longest_period : ℕ
longest_period = 2 ^ 32 - 1

-- the greatest shift of a claim in one direction
abbrev pub greatest_shift : ℕ
greatest_shift = 2 ^ 60

-- the most entries of a memo: 16777216
abbrev pub most_memo : ℕ
most_memo = 2 ^ 24

-- the rule text of a file that names no rule
abbrev pub default_rule : List ℕ
default_rule = codes "B3/S23"
