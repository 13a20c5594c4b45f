-- The first element of a list of which something holds (our own).
use Rattle.std.specs.Prelude.{List, [], ◌∷◌, ◌⊎◌}

-- this is bad of one element, and those before it are good
abbrev pub FirstBad : {X : Type 0} → (X → Type 0) → (X → Type 0) → List X → Type 0
FirstBad Good Bad [] = ⊥
FirstBad Good Bad (x ∷ xs) = Bad x ⊎ (Good x × FirstBad Good Bad xs)
