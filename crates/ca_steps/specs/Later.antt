-- Pictures over the generations: which cells a later cell depends on, and when a picture is back (our own).
use Rattle.std.specs.Prelude.{◌≡◌, ℕ, ◌≤◌, ℤ, List}
use Rattle.ca_plane.specs.Prelude.{Picture, cell, shifted, IsAfter, IsWithin}

-- the two pictures show the same cells at all places within n of (x, y)
abbrev pub AgreeWithin : ℕ → ℤ → ℤ → Picture → Picture → Type 0
AgreeWithin n x y p q = (u v : ℤ) → IsWithin n x y u v → cell p u v ≡ cell q u v

-- n is at least 1, and a time at which the picture is again in its place
abbrev pub IsBackInPlace : (List ℕ → ℕ) → Picture → ℕ → Type 0
IsBackInPlace next cells n = (1 ≤ n) × IsAfter next cells n cells

-- n is at least 1, and a time at which the picture is there again, moved by some vector
abbrev pub IsBackAnywhere : (List ℕ → ℕ) → Picture → ℕ → Type 0
IsBackAnywhere next cells n = (1 ≤ n) × (dx : ℤ) × (dy : ℤ) × IsAfter next cells n (shifted cells dx dy)

-- m is one of the times, and none of them is before it
pub record IsLeast (IsTime : ℕ → Type 0) (m : ℕ) : Type 0 where
  pub one : IsTime m
  pub least : (n : ℕ) → IsTime n → m ≤ n
