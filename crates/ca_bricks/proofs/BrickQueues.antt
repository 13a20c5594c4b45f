-- Lists of bricks that wake.
use Rattle.std.proofs.Common.{ℕ, List}
use Rattle.ca_bricks.specs.Prelude.{QueueGrows}

-- a list grows by no brick, and in two steps
pub grows_by_none : (across count : ℕ) (list : List ℕ) → QueueGrows across count list list
grows_by_none across count list = record { not_in = λ t not_in. not_in; all = λ all. all }

pub grows_again : (across count : ℕ) (a b c : List ℕ) → QueueGrows across count a b → QueueGrows across count b c → QueueGrows across count a c
grows_again across count a b c h k = record { not_in = λ t not_in. h.not_in t (k.not_in t not_in); all = λ all. k.all (h.all all) }
