-- Texts that are put one after another.
use Rattle.std.proofs.Common.{ℕ, List, ◌++◌, ap, ◌∙◌, append_assoc}
use Rattle.std.specs.Prelude.{Result, Ok, Err, OnOk}
use Rattle.ca_plane.specs.Prelude.{Puts}

-- a text was put, and where a call succeeds, it puts another after it
pub puts_then : {T E : Type 0} (r : Result T E) (a b c x y : List ℕ) → Puts a b x → OnOk r (Puts b c y) → OnOk r (Puts a c (x ++ y))
puts_then (Ok t) a b c x y p q = record { whole = q.whole ∙ ap (λ l. l ++ y) p.whole ∙ append_assoc a x y }
puts_then (Err e) a b c x y p q = q
