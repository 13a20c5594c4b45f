-- Elements of a list of which something holds.
use Rattle.std.specs.Prelude.{List, [], ◌∷◌, ◌⊎◌}

-- this holds of some element
abbrev pub SomeOf : {X : Type 0} → (X → Type 0) → List X → Type 0
SomeOf Holds [] = ⊥
SomeOf Holds (x ∷ xs) = Holds x ⊎ SomeOf Holds xs
