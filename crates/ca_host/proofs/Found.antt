-- What is known of what a look gave.
use Rattle.std.proofs.Common.{◌≡◌, Option, Some, MatchOption}

pub at_some : {A : Type 0} (P : Type 0) (o : Option A) (Q : A → Type 0) (x : A) → o ≡ Some x → MatchOption o P Q → Q x
at_some P o Q x found at = rw found at at
