-- Bricks side by side: where each lies, and that all is dead in blank ones and beyond them.
use Rattle.std.proofs.Common.{◌≡◌, ℕ, ◌+◌, ◌-◌, ◌*◌, ◌/◌, ◌%◌, ◌<◌, ◌≤◌, min, inl, inr, ◌⊎◌, List, [], length, get_or, sym, ap₂, subst, ◌∙◌, arith}
use Rattle.std.specs.Prelude.{ℤ, pos, negsuc, ◌+ℤ◌, ◌<ℤ◌, ◌≤ℤ◌}
use Rattle.std.proofs.lemmas.Int.{ints}
use Rattle.std.proofs.lemmas.Nat.{mul-add-lt, div-mul-add, mod-mul-add}
use Rattle.ca_plane.proofs.Numbers.{below_or_not}
use Rattle.ca_bricks.specs.declared.grid.{BrickGrid.BrickGrid, WordPlace.WordPlace}
use Rattle.ca_bricks.specs.Prelude.{WordShows, eight, BrickShows, IsBlank, IsGrid, GridShows, HasMargin, IsNearGrid}
use Rattle.ca_bricks.proofs.Words.{word_from, word_empty}

-- ---- beyond the bricks

-- the place lies beyond the bricks of the grid
abbrev pub IsBeyondGrid : BrickGrid → ℤ → ℤ → Type 0
IsBeyondGrid grid x y = (x <ℤ grid.x) ⊎ ((grid.x +ℤ pos (64 * grid.across)) ≤ℤ x) ⊎ (y <ℤ grid.y) ⊎ ((grid.y +ℤ pos (16 * grid.down)) ≤ℤ y)

pub dies_beyond : (grid : BrickGrid) (m : ℕ) (p : ℤ → ℤ → ℕ) → HasMargin m grid.across grid.down p grid.x grid.y → (x y : ℤ) → IsBeyondGrid grid x y → p x y ≡ 0
dies_beyond grid m p margin x y (inl h) = margin x y (inl (inl (omega (arith, ints, h))))
dies_beyond grid m p margin x y (inr (inl h)) = margin x y (inl (inr (omega (arith, ints, h))))
dies_beyond grid m p margin x y (inr (inr (inl h))) = margin x y (inr (inl (omega (arith, ints, h))))
dies_beyond grid m p margin x y (inr (inr (inr h))) = margin x y (inr (inr (omega (arith, ints, h))))

pub dead_beyond : (grid : BrickGrid) (m : ℕ) (p : ℤ → ℤ → ℕ) → GridShows grid m p → (x y : ℤ) → IsBeyondGrid grid x y → p x y ≡ 0
dead_beyond grid m p shows = dies_beyond grid m p shows.margin

-- a word whose cells all lie beyond the bricks is empty
none_beyond : (grid : BrickGrid) (i j : ℤ) → (i <ℤ pos 0) ⊎ (pos (8 * grid.across) ≤ℤ i) ⊎ (j <ℤ pos 0) ⊎ (pos (2 * grid.down) ≤ℤ j) → (x y : ℕ) → x < 8 → y < 8
    → IsBeyondGrid grid ((grid.x +ℤ eight i) +ℤ pos x) ((grid.y +ℤ eight j) +ℤ pos y)
none_beyond grid i j (inl h) x y low_x low_y = inl (omega (arith, ints, h, low_x))
none_beyond grid i j (inr (inl h)) x y low_x low_y = inr (inl (omega (arith, ints, h)))
none_beyond grid i j (inr (inr (inl h))) x y low_x low_y = inr (inr (inl (omega (arith, ints, h, low_y))))
none_beyond grid i j (inr (inr (inr h))) x y low_x low_y = inr (inr (inr (omega (arith, ints, h))))

pub word_beyond : (grid : BrickGrid) (m : ℕ) (p : ℤ → ℤ → ℕ) → GridShows grid m p → (i j : ℤ)
    → (i <ℤ pos 0) ⊎ (pos (8 * grid.across) ≤ℤ i) ⊎ (j <ℤ pos 0) ⊎ (pos (2 * grid.down) ≤ℤ j) → WordShows 0 p (grid.x +ℤ eight i) (grid.y +ℤ eight j)
word_beyond grid m p shows i j out =
    word_empty p (grid.x +ℤ eight i) (grid.y +ℤ eight j)
    (λ x y low_x low_y. dead_beyond grid m p shows ((grid.x +ℤ eight i) +ℤ pos x) ((grid.y +ℤ eight j) +ℤ pos y) (none_beyond grid i j out x y low_x low_y))

-- ---- the brick of a column and a row

-- it has a place among the bricks
pub place_fits : (grid : BrickGrid) → IsGrid grid → (column row : ℕ) → column < grid.across → row < grid.down → row * grid.across + column < length grid.bricks.items
place_fits grid is column row low_column low_row =
    let turned : grid.across * grid.down ≡ grid.down * grid.across = omega arith in
    subst (λ n. row * grid.across + column < n) (turned ∙ sym is.size) (mul-add-lt row grid.across column grid.down low_row low_column)

-- and shows the plane there
pub brick_there : (grid : BrickGrid) (m : ℕ) (p : ℤ → ℤ → ℕ) → GridShows grid m p → (column row : ℕ) → column < grid.across → row < grid.down
    → BrickShows (get_or grid.bricks.items (row * grid.across + column) []) p (grid.x +ℤ pos (64 * column)) (grid.y +ℤ pos (16 * row))
brick_there grid m p shows column row low_column low_row =
    let t = row * grid.across + column in
    let u : t % grid.across ≡ column = mod-mul-add row grid.across column low_column in
    let v : t / grid.across ≡ row = div-mul-add row grid.across column low_column in
    let brick = get_or grid.bricks.items t [] in
    subst (λ r. BrickShows brick p (grid.x +ℤ pos (64 * column)) (grid.y +ℤ pos (16 * r))) v
    (subst (λ c. BrickShows brick p (grid.x +ℤ pos (64 * c)) (grid.y +ℤ pos (16 * (t / grid.across)))) u (shows.bricks t (place_fits grid shows.is_grid column row low_column low_row)))

-- the word at a place of it lies at that place of the grid
pub word_there : (word i j : ℕ) (p : ℤ → ℤ → ℕ) (a b : ℤ) → WordShows word p ((a +ℤ pos (64 * (i / 8))) +ℤ pos (8 * (i % 8))) ((b +ℤ pos (16 * (j / 2))) +ℤ pos (8 * (j % 2)))
    → WordShows word p (a +ℤ eight (pos i)) (b +ℤ eight (pos j))
word_there word i j p a b shows =
    word_from word p ((a +ℤ pos (64 * (i / 8))) +ℤ pos (8 * (i % 8))) ((b +ℤ pos (16 * (j / 2))) +ℤ pos (8 * (j % 2))) _ _ (omega (arith, ints)) (omega (arith, ints)) shows

-- ---- blank bricks

-- no cell of the grid is live there
abbrev pub IsDeadThere : (p : ℤ → ℤ → ℕ) (a b : ℤ) (west east north south : ℕ) → Type 0
IsDeadThere p a b west east north south = (x y : ℕ) → west ≤ x → x < east → north ≤ y → y < south → p (a +ℤ pos x) (b +ℤ pos y) ≡ 0

-- a blank brick shows a plane that is dead there
blank_shows : (rows : List ℕ) (p : ℤ → ℤ → ℕ) (a b : ℤ) → IsBlank rows → BrickShows rows p a b → (x y : ℕ) → x < 64 → y < 16 → p (a +ℤ pos x) (b +ℤ pos y) ≡ 0
blank_shows rows p a b blank shows x y low_x low_y = sym (shows.looks x y low_x low_y) ∙ blank x y low_x low_y

-- one blank brick more
pub dead_more : (rows : List ℕ) (p : ℤ → ℤ → ℕ) (a b : ℤ) (from column row : ℕ) → IsDeadThere p a b (64 * from) (64 * column) (16 * row) (16 * row + 16) → IsBlank rows
    → BrickShows rows p (a +ℤ pos (64 * column)) (b +ℤ pos (16 * row)) → IsDeadThere p a b (64 * from) (64 * (column + 1)) (16 * row) (16 * row + 16)
dead_more rows p a b from column row so_far blank shows x y west east north south = elim (below_or_not x (64 * column)) [
  | inl before ↦ so_far x y west before north south
  | inr here ↦
      let u : (a +ℤ pos (64 * column)) +ℤ pos (x - 64 * column) ≡ a +ℤ pos x = omega (arith, ints, here) in
      let v : (b +ℤ pos (16 * row)) +ℤ pos (y - 16 * row) ≡ b +ℤ pos y = omega (arith, ints, north) in
      ap₂ p (sym u) (sym v) ∙ blank_shows rows p (a +ℤ pos (64 * column)) (b +ℤ pos (16 * row)) blank shows (x - 64 * column) (y - 16 * row) (omega (arith, here, east)) (omega (arith, north, south))
]

-- one row more
pub dead_rows : (p : ℤ → ℤ → ℕ) (a b : ℤ) (west east north row : ℕ) → IsDeadThere p a b west east north (16 * row) → IsDeadThere p a b west east (16 * row) (16 * row + 16)
    → IsDeadThere p a b west east north (16 * (row + 1))
dead_rows p a b west east north row so_far here x y low_x high_x low_y high_y = elim (below_or_not y (16 * row)) [
  | inl before ↦ so_far x y low_x high_x low_y before
  | inr behind ↦ here x y low_x high_x behind (omega (arith, high_y))
]

-- where all bricks are blank in which some word lies, and beyond the bricks, all is dead
pub dead_between : (grid : BrickGrid) (m : ℕ) (p : ℤ → ℤ → ℕ) → GridShows grid m p → (i0 i1 j0 j1 east south : ℕ)
    → IsDeadThere p grid.x grid.y (64 * (i0 / 8)) (64 * east) (16 * (j0 / 2)) (16 * south)
    → min (i1 / 8 + min 1 (i1 % 8)) grid.across ≤ east → min (j1 / 2 + min 1 (j1 % 2)) grid.down ≤ south
    → IsDeadThere p grid.x grid.y (8 * i0) (8 * i1) (8 * j0) (8 * j1)
dead_between grid m p shows i0 i1 j0 j1 east south dead wide high x y low_x high_x low_y high_y = elim (below_or_not x (64 * grid.across)) [
  | inl within_x ↦ elim (below_or_not y (16 * grid.down)) [
    | inl within_y ↦ dead x y (omega (arith, low_x)) (omega (arith, within_x, high_x, wide)) (omega (arith, low_y)) (omega (arith, within_y, high_y, high))
    | inr beyond ↦ dead_beyond grid m p shows (grid.x +ℤ pos x) (grid.y +ℤ pos y) (inr (inr (inr (omega (arith, ints, beyond)))))
  ]
  | inr beyond ↦ dead_beyond grid m p shows (grid.x +ℤ pos x) (grid.y +ℤ pos y) (inr (inl (omega (arith, ints, beyond))))
]

-- ---- squares of words

-- the parts of a place lie near too
pub near_grid_at : (h dx dy : ℕ) (at part : WordPlace) → IsNearGrid (h + h) at → dx ≤ h → dy ≤ h → part.i ≡ at.i +ℤ pos dx → part.j ≡ at.j +ℤ pos dy → IsNearGrid h part
near_grid_at h dx dy at part near low_x low_y e f = record {
  west = omega (arith, ints, near.west, e);
  north = omega (arith, ints, near.north, f);
  east = omega (arith, ints, near.east, e, low_x);
  south = omega (arith, ints, near.south, f, low_y);
}

pub near_grid_as : (m n : ℕ) (at : WordPlace) → m ≡ n → IsNearGrid m at → IsNearGrid n at
near_grid_as m n at e near = subst (λ k. IsNearGrid k at) e near

-- where all words of a square are dead that lie in the grid, the square is dead
module _ (grid : BrickGrid) (m : ℕ) (p : ℤ → ℤ → ℕ) (margin : HasMargin m grid.across grid.down p grid.x grid.y) (i j : ℤ) (n : ℕ) (words rows : ℕ × ℕ)
    (in_words : (u : ℕ) → i ≤ℤ pos u → pos u <ℤ (i +ℤ pos n) → (words.0 ≤ u) × (u < words.1)) (in_rows : (v : ℕ) → j ≤ℤ pos v → pos v <ℤ (j +ℤ pos n) → (rows.0 ≤ v) × (v < rows.1))
    (dead : IsDeadThere p grid.x grid.y (8 * words.0) (8 * words.1) (8 * rows.0) (8 * rows.1)) where
  blank_at : (x y : ℤ) → eight i ≤ℤ x → x <ℤ (eight i +ℤ pos (8 * n)) → eight j ≤ℤ y → y <ℤ (eight j +ℤ pos (8 * n)) → p (grid.x +ℤ x) (grid.y +ℤ y) ≡ 0
  blank_at (pos x) (pos y) low_x high_x low_y high_y =
      let u = in_words (x / 8) (omega (arith, ints, low_x)) (omega (arith, ints, high_x)) in
      let v = in_rows (y / 8) (omega (arith, ints, low_y)) (omega (arith, ints, high_y)) in
      dead x y (omega (arith, u.0)) (omega (arith, u.1)) (omega (arith, v.0)) (omega (arith, v.1))
  blank_at (negsuc x) y low_x high_x low_y high_y = dies_beyond grid m p margin (grid.x +ℤ negsuc x) (grid.y +ℤ y) (inl (omega (arith, ints)))
  blank_at (pos x) (negsuc y) low_x high_x low_y high_y = dies_beyond grid m p margin (grid.x +ℤ pos x) (grid.y +ℤ negsuc y) (inr (inr (inl (omega (arith, ints)))))

  pub blank_square : (x y : ℕ) → x < 8 * n → y < 8 * n → p ((grid.x +ℤ eight i) +ℤ pos x) ((grid.y +ℤ eight j) +ℤ pos y) ≡ 0
  blank_square x y low_x low_y =
      let u : (grid.x +ℤ eight i) +ℤ pos x ≡ grid.x +ℤ (eight i +ℤ pos x) = omega (arith, ints) in
      let v : (grid.y +ℤ eight j) +ℤ pos y ≡ grid.y +ℤ (eight j +ℤ pos y) = omega (arith, ints) in
      ap₂ p u v ∙ blank_at (eight i +ℤ pos x) (eight j +ℤ pos y) (omega (arith, ints)) (omega (arith, ints, low_x)) (omega (arith, ints)) (omega (arith, ints, low_y))
