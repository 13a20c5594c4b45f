-- Work that is done, in one step or more.
use Rattle.std.proofs.Common.{refl, ◌∙◌, arith}
use Rattle.ca_budget.specs.Prelude.{Spent, Spends}

-- work is done, and then more
pub spends_again : {old mid new : Spent} → Spends old mid → Spends mid new → Spends old new
spends_again g h = record { limit = h.limit ∙ g.limit; rises = omega (arith, g.rises, h.rises) }

-- nothing is done
pub spends_same : (spent : Spent) → Spends spent spent
spends_same spent = record { limit = refl; rises = omega arith }
