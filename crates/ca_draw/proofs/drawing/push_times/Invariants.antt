use Rattle.std.proofs.Common.{[], ◌∷◌}
use Rattle.ca_plane.specs.Prelude.{Puts}
use Rattle.ca_draw.specs.Prelude.{repeated}
use Rattle.ca_draw.proofs.drawing.push_times.Given as goal

-- the byte follows the text, `counter` times
abbrev pub invariant-times : goal.invariant-times
invariant-times l = Puts l.fn.out.items l.out.items (repeated l.counter (l.byte ∷ []))
