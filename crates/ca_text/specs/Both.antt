-- What holds of both of a claim's patterns, or of one of them (our own).
use Rattle.std.specs.Prelude.{◌⊎◌}
use Rattle.ca_text.specs.declared.both.Both.{Both}

-- one thing for both
abbrev pub twice : {X : Type 0} → X → Both X
twice x = record { first = x; second = x }

-- f of both
abbrev pub map_both : {X Y : Type 0} → (X → Y) → Both X → Both Y
map_both f both = record { first = f both.first; second = f both.second }

-- this holds of both
abbrev pub HoldsOfBoth : {X : Type 0} → (X → Type 0) → Both X → Type 0
HoldsOfBoth Holds both = Holds both.first × Holds both.second

-- it holds of one of them
abbrev pub HoldsOfEither : {X : Type 0} → (X → Type 0) → Both X → Type 0
HoldsOfEither Holds both = Holds both.first ⊎ Holds both.second

-- one of them is the first that is bad: the first is, or it is good and the second is bad
abbrev pub FirstBadOfBoth : {X : Type 0} → (Good Bad : X → Type 0) → Both X → Type 0
FirstBadOfBoth Good Bad both = Bad both.first ⊎ (Good both.first × Bad both.second)

-- the first belongs to the first, and the second to the second
abbrev pub ZipBoth : {X Y : Type 0} → (X → Y → Type 0) → Both X → Both Y → Type 0
ZipBoth Belongs xs ys = Belongs xs.first ys.first × Belongs xs.second ys.second
