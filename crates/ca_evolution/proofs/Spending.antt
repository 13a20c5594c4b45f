-- How what calls take of a leaper's work adds up.
use Rattle.std.proofs.Common.{◌≡◌, ℕ, ◌+◌, ◌<◌, ◌^◌, ap, arith}
use Rattle.ca_run.specs.Prelude.{LeaperView, Costs}
use Rattle.ca_budget.specs.Prelude.{Spent}
use Rattle.ca_evolution.specs.Prelude.{Takes}

-- and then nothing
pub takes_before : (old : ℕ) (mid new : Spent) (runs level n : ℕ) → new ≡ mid → Takes old mid.used runs level n → Takes old new.used runs level n
takes_before old mid new runs level n same takes d less =
    let used : new.used ≡ mid.used = ap (λ (s : Spent). s.used) same in
    let most = takes d less in
    omega (arith, used, most)

-- one run
pub takes_one : {Rule : Type 0} (old new : LeaperView Rule) (level n : ℕ) → ((d : ℕ) → n < 2 ^ d → Costs Rule old new (14 ^ (level + d + 2)) 1048576) → Takes old.spent.used new.spent.used 1 level n
takes_one old new level n costs d less =
    let most = (costs d less).most in
    omega (arith, most)
