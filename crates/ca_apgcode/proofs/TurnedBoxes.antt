-- Boxes that are reflected show planes that are reflected.
use Rattle.std.proofs.Common.{Result, Ok, Err, IfOk, ◌≡◌, ℕ, ◌-◌, ◌<◌, ◌≤◌, length, get_or, refl, sym, ap, ◌∙◌, ℤ, pos, negsuc, ◌+ℤ◌, ◌-ℤ◌, arith}
use Rattle.std.specs.Prelude.{neg_ℤ}
use Rattle.std.proofs.lemmas.Int.{ints}
use Rattle.std.proofs.lemmas.Nat.Bits.{bit_at_above}
use Rattle.ca_plane.specs.Prelude.{from_corner}
use Rattle.ca_apgcode.specs.Prelude.{GridCells, IsGrid, IsLeastGrid, cell, IsBoxRound, turned}
use Rattle.ca_apgcode.specs.declared.orientation.Orientation.TheVariants.{EastWest, NorthSouth, Diagonal}
use Rattle.ca_apgcode.specs.inner.Turned.{IsMirrored, IsFlipped, IsTransposed}
use Rattle.ca_apgcode.proofs.Codes.{live_column, live_row}
use Rattle.ca_apgcode.proofs.PlaneBoxes.{north_dead, east_dead, some_width, box_as}

-- a column of the mirrored box is one of the box
mirrored_place : (g h : GridCells) → IsMirrored g h → (d e d' : ℤ) → (d +ℤ d') +ℤ pos 1 ≡ pos (length g.columns) → from_corner (cell h) d e ≡ from_corner (cell g) d' e
mirrored_place g h is d (negsuc v) d' sum = north_dead (cell h) d v ∙ sym (north_dead (cell g) d' v)
mirrored_place g h is (pos x) (pos v) (pos x') sum =
    let within : x < length g.columns = omega (arith, ints, sum) in
    let other : length g.columns - 1 - x ≡ x' = omega (arith, ints, sum) in
    is.cells x v within ∙ ap (λ k. cell g k v) other
mirrored_place g h is (pos x) (pos v) (negsuc x') sum =
    let east : length h.columns ≤ x = omega (arith, ints, sum, is.width) in
    east_dead h x v east
mirrored_place g h is (negsuc x) (pos v) (pos x') sum =
    let east : length g.columns ≤ x' = omega (arith, ints, sum) in
    sym (east_dead g x' v east)
mirrored_place g h is (negsuc x) (pos v) (negsuc x') sum = refl

-- a smallest box stays one
IsLeastGrid-mirrored : (g h : GridCells) → IsMirrored g h → 0 < length g.columns → IsLeastGrid g → IsLeastGrid h
IsLeastGrid-mirrored g h is some least =
    let w = length g.columns in
    let at = λ (x x' y : ℕ) (within : x < w) (place : w - 1 - x ≡ x'). is.cells x y within ∙ ap (λ k. cell g k y) place in
    let width : length h.columns ≡ w = is.width in
    let height : h.height ≡ g.height = is.height in
    let north_within : least.north.0 < w = live_column g least.north.0 0 least.north.1 in
    let south_within : least.south.0 < w = live_column g least.south.0 (g.height - 1) least.south.1 in
    record {
      west = (least.east.0, at 0 (w - 1) least.east.0 some (omega arith) ∙ least.east.1);
      east = (least.west.0, at (length h.columns - 1) 0 least.west.0 (omega (arith, width, some)) (omega (arith, width)) ∙ least.west.1);
      north = (w - 1 - least.north.0, at (w - 1 - least.north.0) least.north.0 0 (omega (arith, some)) (omega (arith, north_within)) ∙ least.north.1);
      south = (w - 1 - least.south.0, ap (λ y. cell h (w - 1 - least.south.0) (y - 1)) height ∙ (at (w - 1 - least.south.0) least.south.0 (g.height - 1) (omega (arith, some)) (omega (arith, south_within)) ∙ least.south.1));
    }

pub IsBoxRound-mirrored : (p : ℤ → ℤ → ℕ) (g h : GridCells) → IsMirrored g h → IsBoxRound p g → IsBoxRound (turned EastWest p) h
IsBoxRound-mirrored p g h is round =
    let left = pos 1 -ℤ pos (length g.columns) -ℤ round.left in
    record {
      left = left;
      top = round.top;
      is_grid = is.is_grid;
      is_least = IsLeastGrid-mirrored g h is (some_width p g round) round.is_least;
      same = λ x y.
          let sum : ((x -ℤ left) +ℤ (neg_ℤ x -ℤ round.left)) +ℤ pos 1 ≡ pos (length g.columns) = omega (arith, ints) in
          round.same (neg_ℤ x) y ∙ sym (mirrored_place g h is (x -ℤ left) (y -ℤ round.top) (neg_ℤ x -ℤ round.left) sum);
    }

-- a row of the flipped box is one of the box
pub west_dead : (cells : ℕ → ℕ → ℕ) (u : ℕ) (y : ℤ) → from_corner cells (negsuc u) y ≡ 0
west_dead cells u (pos y) = refl
west_dead cells u (negsuc y) = refl

pub south_dead : (g : GridCells) → IsGrid g → (x y : ℕ) → g.height ≤ y → cell g x y ≡ 0
south_dead g is_grid x y south = bit_at_above (get_or g.columns x 0) g.height y (is_grid.rows x) south

flipped_place : (g h : GridCells) → IsGrid g → IsFlipped g h → (d e e' : ℤ) → (e +ℤ e') +ℤ pos 1 ≡ pos g.height → from_corner (cell h) d e ≡ from_corner (cell g) d e'
flipped_place g h is_grid is (negsuc u) e e' sum = west_dead (cell h) u e ∙ sym (west_dead (cell g) u e')
flipped_place g h is_grid is (pos x) (pos y) (pos y') sum =
    let within : y < g.height = omega (arith, ints, sum) in
    let other : g.height - 1 - y ≡ y' = omega (arith, ints, sum) in
    is.cells x y within ∙ ap (cell g x) other
flipped_place g h is_grid is (pos x) (pos y) (negsuc y') sum =
    let south : h.height ≤ y = omega (arith, ints, sum, is.height) in
    south_dead h is.is_grid x y south
flipped_place g h is_grid is (pos x) (negsuc y) (pos y') sum =
    let south : g.height ≤ y' = omega (arith, ints, sum) in
    sym (south_dead g is_grid x y' south)
flipped_place g h is_grid is (pos x) (negsuc y) (negsuc y') sum = refl

IsLeastGrid-flipped : (g h : GridCells) → IsGrid g → IsFlipped g h → IsLeastGrid g → IsLeastGrid h
IsLeastGrid-flipped g h is_grid is least =
    let n = g.height in
    let at = λ (x y y' : ℕ) (within : y < n) (place : n - 1 - y ≡ y'). is.cells x y within ∙ ap (cell g x) place in
    let width : length h.columns ≡ length g.columns = is.width in
    let height : h.height ≡ n = is.height in
    let west_within : least.west.0 < n = live_row g 0 least.west.0 is_grid least.west.1 in
    let east_within : least.east.0 < n = live_row g (length g.columns - 1) least.east.0 is_grid least.east.1 in
    record {
      west = (n - 1 - least.west.0, at 0 (n - 1 - least.west.0) least.west.0 (omega (arith, west_within)) (omega (arith, west_within)) ∙ least.west.1);
      east = (n - 1 - least.east.0, ap (λ x. cell h (x - 1) (n - 1 - least.east.0)) width ∙ (at (length g.columns - 1) (n - 1 - least.east.0) least.east.0 (omega (arith, east_within)) (omega (arith, east_within)) ∙ least.east.1));
      north = (least.south.0, at least.south.0 0 (n - 1) (omega (arith, west_within)) (omega arith) ∙ least.south.1);
      south = (least.north.0, at least.north.0 (h.height - 1) 0 (omega (arith, height, west_within)) (omega (arith, height)) ∙ least.north.1);
    }

pub IsBoxRound-flipped : (p : ℤ → ℤ → ℕ) (g h : GridCells) → IsFlipped g h → IsBoxRound p g → IsBoxRound (turned NorthSouth p) h
IsBoxRound-flipped p g h is round =
    let top = pos 1 -ℤ pos g.height -ℤ round.top in
    record {
      left = round.left;
      top = top;
      is_grid = is.is_grid;
      is_least = IsLeastGrid-flipped g h round.is_grid is round.is_least;
      same = λ x y.
          let sum : ((y -ℤ top) +ℤ (neg_ℤ y -ℤ round.top)) +ℤ pos 1 ≡ pos g.height = omega (arith, ints) in
          round.same x (neg_ℤ y) ∙ sym (flipped_place g h round.is_grid is (x -ℤ round.left) (y -ℤ top) (neg_ℤ y -ℤ round.top) sum);
    }

-- columns that are rows now
transposed_place : (g h : GridCells) → IsTransposed g h → (x y : ℤ) → from_corner (cell h) x y ≡ from_corner (cell g) y x
transposed_place g h is (pos x) (pos y) = is.cells x y
transposed_place g h is (pos x) (negsuc y) = refl
transposed_place g h is (negsuc x) (pos y) = refl
transposed_place g h is (negsuc x) (negsuc y) = refl

IsLeastGrid-transposed : (g h : GridCells) → IsTransposed g h → IsLeastGrid g → IsLeastGrid h
IsLeastGrid-transposed g h is least = record {
  west = (least.north.0, is.cells 0 least.north.0 ∙ least.north.1);
  east = (least.south.0, ap (λ x. cell h (x - 1) least.south.0) is.width ∙ (is.cells (g.height - 1) least.south.0 ∙ least.south.1));
  north = (least.west.0, is.cells least.west.0 0 ∙ least.west.1);
  south = (least.east.0, ap (λ y. cell h least.east.0 (y - 1)) is.height ∙ (is.cells least.east.0 (length g.columns - 1) ∙ least.east.1));
}

pub IsBoxRound-transposed : (p : ℤ → ℤ → ℕ) (g h : GridCells) → IsTransposed g h → IsBoxRound p g → IsBoxRound (turned Diagonal p) h
IsBoxRound-transposed p g h is round = record {
  left = round.top;
  top = round.left;
  is_grid = is.is_grid;
  is_least = IsLeastGrid-transposed g h is round.is_least;
  same = λ x y. round.same y x ∙ sym (transposed_place g h is (x -ℤ round.top) (y -ℤ round.left));
}

-- ---- what a call gives

if_ok_weaker : {T E : Type 0} (r : Result T E) (P Q : T → Type 0) → ((t : T) → P t → Q t) → IfOk r P → IfOk r Q
if_ok_weaker (Ok t) P Q weaker is = weaker t is
if_ok_weaker (Err e) P Q weaker is = tt

pub mirrored_if_ok : {E : Type 0} (r : Result GridCells E) (p : ℤ → ℤ → ℕ) (g : GridCells) → IsBoxRound p g → IfOk r (IsMirrored g) → IfOk r (IsBoxRound (turned EastWest p))
mirrored_if_ok r p g box is = if_ok_weaker r (IsMirrored g) (IsBoxRound (turned EastWest p)) (λ h mirrored. IsBoxRound-mirrored p g h mirrored box) is

pub flipped_if_ok : {E : Type 0} (r : Result GridCells E) (p : ℤ → ℤ → ℕ) (g : GridCells) → IsBoxRound p g → IfOk r (IsFlipped g) → IfOk r (IsBoxRound (turned NorthSouth p))
flipped_if_ok r p g box is = if_ok_weaker r (IsFlipped g) (IsBoxRound (turned NorthSouth p)) (λ h flipped. IsBoxRound-flipped p g h flipped box) is

pub transposed_if_ok : {E : Type 0} (r : Result GridCells E) (p : ℤ → ℤ → ℕ) (g : GridCells) → IsBoxRound p g → IfOk r (IsTransposed g) → IfOk r (IsBoxRound (turned Diagonal p))
transposed_if_ok r p g box is = if_ok_weaker r (IsTransposed g) (IsBoxRound (turned Diagonal p)) (λ h transposed. IsBoxRound-transposed p g h transposed box) is

-- the same round other planes with the same cells
pub box_if_ok : {E : Type 0} (r : Result GridCells E) (p q : ℤ → ℤ → ℕ) → ((x y : ℤ) → p x y ≡ q x y) → IfOk r (IsBoxRound p) → IfOk r (IsBoxRound q)
box_if_ok r p q same is = if_ok_weaker r (IsBoxRound p) (IsBoxRound q) (λ g box. box_as p q g same box) is
