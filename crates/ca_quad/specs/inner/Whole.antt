-- What every square of a store has.
use Rattle.std.specs.Prelude.{ℕ, List}
use Rattle.ca_quad.specs.declared.{node.Node.Node, square.Square.Square}
use Rattle.ca_quad.specs.declared.square.Square.TheVariants.{Four, Parts}
use Rattle.ca_quad.specs.Sound.{HasParts}

-- its parts are squares too, one level lower
abbrev pub IsWhole : List Node → ℕ → Square → Type 0
IsWhole nodes places (Four nw ne sw se) = Unit {0}
IsWhole nodes places (Parts level nw ne sw se) = HasParts nodes places level nw ne sw se
