-- Grids whose margin is dead: it is a cell less after a generation.
use Rattle.std.proofs.Common.{◌≡◌, ℕ, suc, ◌+◌, ◌*◌, ◌≤◌, inl, inr, ◌⊎◌, List, sym, ◌∙◌, arith}
use Rattle.std.specs.Prelude.{ℤ, pos, ◌+ℤ◌, ◌<ℤ◌, ◌≤ℤ◌, replicate}
use Rattle.std.proofs.lemmas.Int.{ints}
use Rattle.ca_plane.specs.Prelude.{cells_after}
use Rattle.ca_bricks.specs.declared.grid.BrickGrid.{BrickGrid}
use Rattle.ca_bricks.specs.Prelude.{HasMargin, GridShows}
use Rattle.ca_plane.proofs.After.{after_dead}

-- a place beside one near an end lies a cell further from it at most
near_end : (long m c : ℕ) (a x u : ℤ) → u ≤ℤ (x +ℤ pos 1) → x ≤ℤ (u +ℤ pos 1) → (x <ℤ (a +ℤ pos (long + m))) ⊎ ((a +ℤ pos c) ≤ℤ (x +ℤ pos (long + m)))
    → (u <ℤ (a +ℤ pos (long + suc m))) ⊎ ((a +ℤ pos c) ≤ℤ (u +ℤ pos (long + suc m)))
near_end long m c a x u near far (inl e) = inl (omega (arith, ints, near, e))
near_end long m c a x u near far (inr e) = inr (omega (arith, ints, far, e))

-- and one nearer to an end than another is near it
nearer_end : (long m k c : ℕ) (a x : ℤ) → k ≤ m → (x <ℤ (a +ℤ pos (long + k))) ⊎ ((a +ℤ pos c) ≤ℤ (x +ℤ pos (long + k)))
    → (x <ℤ (a +ℤ pos (long + m))) ⊎ ((a +ℤ pos c) ≤ℤ (x +ℤ pos (long + m)))
nearer_end long m k c a x h (inl e) = inl (omega (arith, ints, h, e))
nearer_end long m k c a x h (inr e) = inr (omega (arith, ints, h, e))

pub margin_less : (m k across down : ℕ) (p : ℤ → ℤ → ℕ) (a b : ℤ) → k ≤ m → HasMargin m across down p a b → HasMargin k across down p a b
margin_less m k across down p a b h dies x y (inl e) = dies x y (inl (nearer_end 64 m k (64 * across) a x h e))
margin_less m k across down p a b h dies x y (inr e) = dies x y (inr (nearer_end 16 m k (16 * down) b y h e))

-- a generation later the margin is a cell less
pub margin_shrinks : (next : List ℕ → ℕ) → next (replicate 9 0) ≡ 0 → (m across down : ℕ) (p : ℤ → ℤ → ℕ) (a b : ℤ) → HasMargin (suc m) across down p a b → HasMargin m across down (cells_after next p 1) a b
margin_shrinks next quiet m across down p a b dies x y out =
    after_dead next p quiet 1 x y (λ u v within.
    let ux : u ≤ℤ (x +ℤ pos 1) = omega (arith, ints, within) in
    let xu : x ≤ℤ (u +ℤ pos 1) = omega (arith, ints, within) in
    let vy : v ≤ℤ (y +ℤ pos 1) = omega (arith, ints, within) in
    let yv : y ≤ℤ (v +ℤ pos 1) = omega (arith, ints, within) in
    dies u v (elim out [ inl e ↦ inl (near_end 64 m (64 * across) a x u ux xu e) | inr e ↦ inr (near_end 16 m (16 * down) b y v vy yv e) ]))

-- a grid shows whatever plane has the same cells
pub grid_as : (grid : BrickGrid) (m : ℕ) (p q : ℤ → ℤ → ℕ) → ((x y : ℤ) → p x y ≡ q x y) → GridShows grid m p → GridShows grid m q
grid_as grid m p q same shows = record {
  is_grid = shows.is_grid;
  bricks = λ t h. record { looks = λ x y i j. (shows.bricks t h).looks x y i j ∙ same _ _ };
  margin = λ x y out. sym (same x y) ∙ shows.margin x y out;
}

-- with a smaller margin too
pub grid_less : (grid : BrickGrid) (m k : ℕ) (p : ℤ → ℤ → ℕ) → k ≤ m → GridShows grid m p → GridShows grid k p
grid_less grid m k p h shows = record {
  is_grid = shows.is_grid;
  bricks = shows.bricks;
  margin = margin_less m k grid.across grid.down p grid.x grid.y h shows.margin;
}
