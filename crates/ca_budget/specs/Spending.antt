-- Units of work that are counted (our own).
use Rattle.std.specs.Prelude.{◌≡◌, ℕ, ◌≤◌, Result, IfErr}
use Rattle.ca_budget.specs.declared.fault.LeapFault.{LeapFault}
use Rattle.ca_budget.specs.declared.fault.LeapFault.TheVariants.{Work}

-- how many units of work are used up, and how many may be; a unit is the centre of a square, or the square in the middle of
-- four, that wasn't remembered; a brick of a plane that is stepped, one generation later; a square that is made of such
-- bricks; or up to 4096 squares of a store out of which a tree is copied
pub record Spent : Type 0 where
  pub used : ℕ
  pub limit : ℕ

-- the limit is the same, and no unit is given back
pub record Spends (old new : Spent) : Type 0 where
  pub limit : new.limit ≡ old.limit
  pub rises : old.used ≤ new.used

-- want of work is reported only where all that may be used is
abbrev pub EndsAtLimit : {T : Type 0} → Spent → Result T LeapFault → Type 0
EndsAtLimit spent result = IfErr result (λ fault. fault ≡ Work → spent.used ≡ spent.limit)
