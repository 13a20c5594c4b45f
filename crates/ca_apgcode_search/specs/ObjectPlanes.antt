-- Objects by their planes over one period.
use Rattle.std.specs.Prelude.{◌≡◌, ℕ, ◌≤◌}
use Rattle.ca_text.specs.declared.kind.Kind.{Kind}
use Rattle.ca_text.specs.declared.kind.Kind.TheVariants.{Still, Oscillator, Spaceship}

-- it is a still life, an oscillator or a spaceship with so many phases
abbrev pub IsObjectOf : Kind → ℕ → Type 0
IsObjectOf Still count = count ≡ 1
IsObjectOf (Oscillator period) count = (1 ≤ count) × (count ≡ period)
IsObjectOf (Spaceship period dx dy) count = (1 ≤ count) × (count ≡ period)
IsObjectOf kind count = ⊥
