-- The first of two texts.
use Rattle.std.specs.Prelude.{ℕ, List, if◌then◌else◌}
use Rattle.std.specs.Ordering.{is_lt}
use Rattle.ca_apgcode.specs.Order.{representation_cmp}

-- the first of two texts, and the second where they are one
abbrev pub lesser : List ℕ → List ℕ → List ℕ
lesser one other = if is_lt (representation_cmp one other) then one else other
