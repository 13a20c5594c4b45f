-- How much a caller may allow.
use Rattle.std.specs.Prelude.{◌≤◌}
use Rattle.ca_plane.specs.Prelude.{most_memo}
use Rattle.ca_pattern.specs.declared.limits.Limits.{Limits}

-- the memo has an entry at least, and no more than it may have; any work may be allowed
pub record AreGoodLimits (limits : Limits) : Type 0 where
  pub least : 1 ≤ limits.memo
  pub most : limits.memo ≤ most_memo
