use Rattle.std.proofs.Common.{ℕ, ℤ, ◌-◌, ◌⊎◌, drop}
use Rattle.ca_quad.specs.inner.Drawn.{AreReady, IsLiveIn}
use Rattle.ca_quad.proofs.store.Store.halves_of.Given as goal

-- the halves have all live cells, but for those of squares that are still to come
abbrev pub invariant-squares : goal.invariant-squares
invariant-squares l =
    ((x y : ℤ) → IsLiveIn l.self l.squares x y → (IsLiveIn l.self l.halves.north.items x y ⊎ IsLiveIn l.self l.halves.south.items x y) ⊎ IsLiveIn l.self (drop l.square-index l.squares) x y)
    × ((all : ℤ → ℤ → ℕ) → AreReady l.self all l.level l.squares → AreReady l.self all (l.level - 1) l.halves.north.items × AreReady l.self all (l.level - 1) l.halves.south.items)
