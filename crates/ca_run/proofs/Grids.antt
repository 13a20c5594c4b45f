-- Trees made of bricks.
use Rattle.std.proofs.Common.{◌≡◌, ℕ, suc, ◌+◌, ◌-◌, ◌≤◌, ◌^◌, inl, inr, List, subst, ◌∙◌, arith}
use Rattle.std.specs.Prelude.{ℤ, pos, neg_ℤ, ◌+ℤ◌}
use Rattle.std.proofs.lemmas.Int.{ints}
use Rattle.std.proofs.Math.Pow.{pow_mono}
use Rattle.ca_quad.specs.declared.{node.Node.Node, tree.Tree.Tree}
use Rattle.ca_quad.specs.Prelude.{cell}
use Rattle.ca_bricks.specs.declared.grid.{BrickGrid.BrickGrid, WordPlace.WordPlace}
use Rattle.ca_run.specs.inner.Shown.{ShowsAt}
use Rattle.ca_bricks.specs.Prelude.{eight, HasMargin, IsAligned, IsInPlace, IsNearGrid, LiesWithin}
use Rattle.ca_run.specs.inner.Beyond.{DiesBeyond}
use Rattle.ca_run.proofs.ShownPlanes.{at_from}
use Rattle.ca_run.proofs.Trees.{tree_at}
use Rattle.ca_bricks.proofs.Grids.{dies_beyond}

-- beyond a way within which all bricks lie all is dead
pub grid_dies : (grid : BrickGrid) (m : ℕ) (p : ℤ → ℤ → ℕ) → HasMargin m grid.across grid.down p grid.x grid.y → (way : ℕ) → LiesWithin way grid → DiesBeyond way p
grid_dies grid m p margin way within x y (inl (inl h)) = dies_beyond grid m p margin x y (inl (omega (arith, ints, h, within.west)))
grid_dies grid m p margin way within x y (inl (inr h)) = dies_beyond grid m p margin x y (inr (inl (omega (arith, ints, h, within.east))))
grid_dies grid m p margin way within x y (inr (inl h)) = dies_beyond grid m p margin x y (inr (inr (inl (omega (arith, ints, h, within.north)))))
grid_dies grid m p margin way within x y (inr (inr h)) = dies_beyond grid m p margin x y (inr (inr (inr (omega (arith, ints, h, within.south)))))

-- the square from the corner of a tree onwards is the root of a tree with the plane's cells
pub grid_cells : (nodes : List Node) (root power : ℕ) (grid : BrickGrid) (m : ℕ) (p : ℤ → ℤ → ℕ) (i j : ℤ) (tree : Tree) → 6 ≤ power → HasMargin m grid.across grid.down p grid.x grid.y → LiesWithin (2 ^ power) grid
    → grid.x +ℤ eight i ≡ neg_ℤ (pos (2 ^ power)) → grid.y +ℤ eight j ≡ neg_ℤ (pos (2 ^ power)) → ShowsAt nodes root (suc (suc (suc (power - 2)))) p (grid.x +ℤ eight i) (grid.y +ℤ eight j)
    → tree.root ≡ root → tree.level ≡ power + 1 → (x y : ℤ) → cell nodes tree x y ≡ p x y
grid_cells nodes root power grid m p i j tree least margin within e f shows g h =
    let up : suc (suc (suc (power - 2))) ≡ suc power = omega (arith, least) in
    let level : tree.level ≡ suc power = omega (arith, h) in
    tree_at nodes root power p (subst (λ k. ShowsAt nodes root k p (neg_ℤ (pos (2 ^ power))) (neg_ℤ (pos (2 ^ power)))) up (at_from nodes root _ p _ _ _ _ e f shows))
    (grid_dies grid m p margin (2 ^ power) within) tree g level

-- that corner, and the words of the tree, lie near the grid's first word
pub corner_near : (grid : BrickGrid) (power : ℕ) (at : WordPlace) → power ≤ 62 → LiesWithin (2 ^ power) grid → grid.x +ℤ eight at.i ≡ neg_ℤ (pos (2 ^ power)) → grid.y +ℤ eight at.j ≡ neg_ℤ (pos (2 ^ power))
    → IsNearGrid (2 ^ (power - 2)) at
corner_near grid power at most within e f =
    let way : 2 ^ power ≤ 2 ^ 62 = pow_mono most in
    let fewer : power - 2 ≤ 60 = omega (arith, most) in
    let words : 2 ^ (power - 2) ≤ 2 ^ 60 = pow_mono fewer in
    record {
      west = omega (arith, ints, e, way, within.east);
      north = omega (arith, ints, f, way, within.south);
      east = omega (arith, ints, e, words, within.west);
      south = omega (arith, ints, f, words, within.north);
    }

-- a grid in the same place lies within the same way, and is aligned too
pub within_place : (a b : BrickGrid) (way : ℕ) → IsInPlace a b → LiesWithin way a → LiesWithin way b
within_place a b way place within = record {
  west = rw place.x within.west;
  north = rw place.y within.north;
  east = rw (place.x, place.across) within.east;
  south = rw (place.y, place.down) within.south;
}

pub aligned_place : (a b : BrickGrid) → IsInPlace a b → IsAligned a → IsAligned b
aligned_place a b place aligned = record { x = (aligned.x.0, place.x ∙ aligned.x.1); y = (aligned.y.0, place.y ∙ aligned.y.1) }
