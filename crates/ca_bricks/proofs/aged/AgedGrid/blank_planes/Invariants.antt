use Rattle.std.proofs.Common.{◌≡◌, ℕ, length, get_or, []}
use Rattle.std.specs.List.{All}
use Rattle.ca_bricks.specs.Prelude.{IsBeside, IsBlank}
use Rattle.ca_bricks.proofs.aged.AgedGrid.blank_planes.Given as goal

-- the planes so far
abbrev pub invariant-digits : goal.invariant-digits
invariant-digits l = record {
  beside : All (IsBeside l.self.live) l.dying.items;
  blank : All (λ grid. (t : ℕ) → IsBlank (get_or grid.bricks.items t [])) l.dying.items;
  size : length l.dying.items ≡ l.counter;
}
