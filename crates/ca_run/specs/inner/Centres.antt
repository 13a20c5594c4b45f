-- Centres that are computed on words (our own).
use Rattle.std.specs.Prelude.{◌≡◌, ℕ, suc, ◌≤◌, ◌^◌, ℤ, ◌+ℤ◌, List}
use Rattle.ca_plane.specs.Prelude.{cells_after}
use Rattle.ca_quad.specs.declared.node.Node.{Node}
use Rattle.ca_quad.specs.Prelude.{IsOf}
use Rattle.ca_run.specs.declared.leaper.lanes.CentreWords.{CentreWords}
use Rattle.ca_run.specs.declared.leaper.lanes.CentreWords.TheVariants.{One, Four}
use Rattle.ca_run.specs.inner.Shown.{ShowsAt}
use Rattle.ca_bricks.specs.Prelude.{side, WordSquareShows, WordShows}

-- a square of level k + 2, whose centre after 2 ^ j generations is known from its own cells
pub record HasCentre (nodes : List Node) (id k j : ℕ) : Type 0 where
  pub is_square : IsOf nodes id (suc (suc k))
  pub in_time : j ≤ k

-- the words are as many as a square of level k + 1 has, and show the plane from (a, b) onwards
abbrev pub CentreShows : CentreWords → ℕ → (ℤ → ℤ → ℕ) → ℤ → ℤ → Type 0
CentreShows (One word) k p a b = (k ≡ 2) × WordShows word p a b
CentreShows (Four words) k p a b = (k ≡ 3) × WordSquareShows words p a b

-- whatever plane the square shows, the words show what it is 2 ^ j generations later, a quarter of the side further in
abbrev pub ShowsCentre : (List ℕ → ℕ) → List Node → ℕ → ℕ → ℕ → CentreWords → Type 0
ShowsCentre next nodes id k j words = (p : ℤ → ℤ → ℕ) (a b : ℤ) → ShowsAt nodes id (suc (suc k)) p a b
    → CentreShows words k (cells_after next p (2 ^ j)) (a +ℤ side k) (b +ℤ side k)
