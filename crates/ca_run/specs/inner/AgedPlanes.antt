-- Planes of the bits of states (our own).
use Rattle.std.specs.Prelude.{ℕ}
use Rattle.ca_plane.specs.Prelude.{liveness}
use Rattle.ca_run.specs.declared.leaper.aged_plane.AgedPlane.{AgedPlane}
use Rattle.ca_run.specs.declared.leaper.aged_plane.AgedPlane.TheVariants.{Live, Dying}
use Rattle.ca_bricks.specs.Prelude.{dying_digit}

-- the bit of a state in a plane of a grid of cells that age
abbrev pub aged_bit : AgedPlane → ℕ → ℕ
aged_bit Live state = liveness state
aged_bit (Dying states digit) state = dying_digit states digit state
