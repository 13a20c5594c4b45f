-- What a plane consists of, once it has settled (our own).
use Rattle.std.specs.Prelude.{◌≡◌, ℕ, ◌<◌, ℤ, List}
use Rattle.std.specs.List.{All, AllPairs, Any}
use Rattle.ca_plane.specs.Prelude.{Picture, IsLive, cells_after}
use Rattle.ca_parts.specs.Parts.{NeverMeet, together, ComesBack, LiesIn}

-- the cells are those of these parts together. Each part is live and comes back, and no two of them ever meet
pub record IsDivision (next : List ℕ → ℕ) (cells : ℤ → ℤ → ℕ) (parts : List Picture) : Type 0 where
  pub live : All IsLive parts
  pub back : All (ComesBack next) parts
  pub apart : AllPairs (NeverMeet next) parts
  pub whole : (x y : ℤ) → cells x y ≡ together parts x y

-- these cells have a division: the empty plane has that into no parts. It is meant of rules under which nothing is born where nothing is
-- live, as all laws of it are
abbrev pub IsSettled : (List ℕ → ℕ) → (ℤ → ℤ → ℕ) → Type 0
IsSettled next cells = (parts : List Picture) × IsDivision next cells parts

-- each part of the one division lies in a part of the other
abbrev pub IsFiner : List Picture → List Picture → Type 0
IsFiner fine coarse = All (λ p. Any (LiesIn p) coarse) fine

-- each of these parts lies in a part of every division of the cells, as where there is no part or no division
abbrev pub IsFinerThanAll : (List ℕ → ℕ) → (ℤ → ℤ → ℕ) → List Picture → Type 0
IsFinerThanAll next cells parts = (others : List Picture) → IsDivision next cells others → IsFiner parts others

-- a division that is finer than every division of these cells
pub record IsFinest (next : List ℕ → ℕ) (cells : ℤ → ℤ → ℕ) (parts : List Picture) : Type 0 where
  pub division : IsDivision next cells parts
  pub finest : IsFinerThanAll next cells parts

-- after n generations the plane is settled, and after fewer it isn't
pub record IsFirstSettled (next : List ℕ → ℕ) (cells : ℤ → ℤ → ℕ) (n : ℕ) : Type 0 where
  pub settled : IsSettled next (cells_after next cells n)
  pub first : (m : ℕ) → m < n → IsSettled next (cells_after next cells m) → ⊥
