-- How many of a kind a text has.
use Rattle.std.specs.Prelude.{◌≡◌, ℕ, List}

-- each text has one of these at most
abbrev pub HasAtMostOne : {X : Type 0} → (List ℕ → X → Type 0) → Type 0
HasAtMostOne {X} Has = (text : List ℕ) (x y : X) → Has text x → Has text y → x ≡ y

-- a text that has one of these has none of those
abbrev pub NeverHasBoth : {X Y : Type 0} → (List ℕ → X → Type 0) → (List ℕ → Y → Type 0) → Type 0
NeverHasBoth {X} {Y} Has AlsoHas = (text : List ℕ) (x : X) (y : Y) → Has text x → AlsoHas text y → ⊥
