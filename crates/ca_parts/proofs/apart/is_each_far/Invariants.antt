use Rattle.std.specs.Prelude.{◌+ℤ◌}
use Rattle.std.specs.List.{AllWithin}
use Rattle.ca_parts.specs.inner.Apart.{IsNearLive}
use Rattle.ca_parts.proofs.apart.is_each_far.Given as goal

-- the cells so far, moved, are far from the others
abbrev pub invariant-cells : goal.invariant-cells
invariant-cells l = AllWithin (λ e. IsNearLive l.others (e.0.x +ℤ l.way.dx) (e.0.y +ℤ l.way.dy) → ⊥) l.cells 0 l.at-index
