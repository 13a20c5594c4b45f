-- Pictures that have no part in one another's next cells, and those that come back (our own). A rule is given by the next
-- state of nine cells.
use Rattle.std.specs.Prelude.{◌≡◌, ◌≢◌, ℕ, ◌<◌, ◌≤◌, ℤ, ◌⊎◌, List, replicate}
use Rattle.std.specs.List.{AllPairs, sum_by}
use Rattle.ca_plane.specs.Prelude.{Picture, cell, around, after, IsAfter, shifted, IsWithin}

-- no window of three by three cells sees live cells of both
abbrev pub AreApart : (f g : ℤ → ℤ → ℕ) → Type 0
AreApart f g = (x y : ℤ) → (around f x y ≡ replicate 9 0) ⊎ (around g x y ≡ replicate 9 0)

-- no live cell of one lies within n of a live cell of the other
abbrev pub AreFurther : ℕ → (f g : ℤ → ℤ → ℕ) → Type 0
AreFurther n f g = (x y u v : ℤ) → f x y ≢ 0 → g u v ≢ 0 → IsWithin n x y u v → ⊥

-- after each number of generations below n the two pictures are apart, when each of them goes on alone
abbrev pub AreApartBefore : (List ℕ → ℕ) → ℕ → Picture → Picture → Type 0
AreApartBefore next n p q = (m : ℕ) → m < n → AreApart (after next p m) (after next q m)

-- so they are after each number of generations, 0 too
abbrev pub NeverMeet : (List ℕ → ℕ) → Picture → Picture → Type 0
NeverMeet next p q = (n : ℕ) → AreApart (after next p n) (after next q n)

-- the state at (x, y) of pictures together: the sum of their states there, of which one at most isn't 0 where they are apart
abbrev pub together : List Picture → ℤ → ℤ → ℕ
together parts x y = sum_by (λ p. cell p x y) parts

-- the cells are those of these pictures together, of which each two are apart
pub record FallsInto (cells : ℤ → ℤ → ℕ) (parts : List Picture) : Type 0 where
  pub apart : AllPairs (λ p q. AreApart (cell p) (cell q)) parts
  pub whole : (x y : ℤ) → cells x y ≡ together parts x y

-- after some generations, at least one, the picture is there again, moved by some vector or none: alone, a live one is a
-- still life, an oscillator or a spaceship
abbrev pub ComesBack : (List ℕ → ℕ) → Picture → Type 0
ComesBack next p = (n : ℕ) × (1 ≤ n) × (dx : ℤ) × (dy : ℤ) × IsAfter next p n (shifted p dx dy)

-- e comes back, and n generations later it is p
pub record IsEarlier (next : List ℕ → ℕ) (n : ℕ) (e p : Picture) : Type 0 where
  pub back : ComesBack next e
  pub later : IsAfter next e n p

-- e comes back, and from some generation on p is what e is then: what p is in the long run, as of now
pub record IsEnd (next : List ℕ → ℕ) (p e : Picture) : Type 0 where
  pub back : ComesBack next e
  pub alike : (n : ℕ) × ((x y : ℤ) → after next p n x y ≡ after next e n x y)

-- where p is live, q has the same state
abbrev pub LiesIn : Picture → Picture → Type 0
LiesIn p q = (x y : ℤ) → cell p x y ≢ 0 → cell p x y ≡ cell q x y
