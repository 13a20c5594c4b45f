-- Boxes round the live cells of planes: a plane has one at most.
use Rattle.std.proofs.Common.{◌≡◌, ◌≢◌, ℕ, zero, suc, ◌-◌, ◌<◌, ◌≤◌, List, length, refl, sym, ap, ap₂, subst, ◌∙◌, ℤ, pos, negsuc, ◌+ℤ◌, ◌-ℤ◌, arith}
use Rattle.std.specs.Prelude.{◌≤ℤ◌}
use Rattle.std.specs.Int.{bit_at}
use Rattle.std.proofs.lemmas.Int.{ints}
use Rattle.std.proofs.lemmas.List.{get_or_past}
use Rattle.std.proofs.lemmas.Nat.Bits.{bit_at-zero}
use Rattle.ca_plane.specs.Prelude.{from_corner}
use Rattle.ca_apgcode.specs.Prelude.{GridCells, cell, IsRepresentation, live, IsBoxRound, IsTextOf}
use Rattle.ca_apgcode.proofs.Codes.{one_least_grid, one_text, live_column, live_row}

-- ---- places on a box

-- a live place is a column and a row of the box
pub record LiesAt (cells : ℕ → ℕ → ℕ) (x y : ℤ) : Type 0 where
  pub u : ℕ
  pub v : ℕ
  pub is_x : x ≡ pos u
  pub is_y : y ≡ pos v
  pub lives : cells u v ≡ 1

pub lies_at : (cells : ℕ → ℕ → ℕ) (x y : ℤ) → from_corner cells x y ≡ 1 → LiesAt cells x y
lies_at cells (pos u) (pos v) one = record { u = u; v = v; is_x = refl; is_y = refl; lives = one }
lies_at cells (pos u) (negsuc v) one = absurd (omega (arith, one))
lies_at cells (negsuc u) (pos v) one = absurd (omega (arith, one))
lies_at cells (negsuc u) (negsuc v) one = absurd (omega (arith, one))

-- north of the box all is dead
pub north_dead : (cells : ℕ → ℕ → ℕ) (x : ℤ) (v : ℕ) → from_corner cells x (negsuc v) ≡ 0
north_dead cells (pos u) v = refl
north_dead cells (negsuc u) v = refl

-- and east of it
pub east_dead : (box : GridCells) (x y : ℕ) → length box.columns ≤ x → cell box x y ≡ 0
east_dead box x y east = ap (λ n. bit_at n y) (get_or_past box.columns x 0 east) ∙ bit_at-zero y

-- ---- live cells

pub live_one : (state : ℕ) → state ≢ 0 → live state ≡ 1
live_one zero some = absurd (some refl)
live_one (suc state) some = refl

pub one_live : (state : ℕ) → live state ≡ 1 → state ≢ 0
one_live zero one none = omega (arith, one)
one_live (suc state) one none = omega (arith, none)

-- ---- a box round a plane's live cells

module _ (p : ℤ → ℤ → ℕ) (g : GridCells) (is : IsBoxRound p g) where
  -- what it shows of the plane
  pub shown_at : (u v : ℕ) → live (p (is.left +ℤ pos u) (is.top +ℤ pos v)) ≡ cell g u v
  shown_at u v =
      let x : (is.left +ℤ pos u) -ℤ is.left ≡ pos u = omega (arith, ints) in
      let y : (is.top +ℤ pos v) -ℤ is.top ≡ pos v = omega (arith, ints) in
      is.same (is.left +ℤ pos u) (is.top +ℤ pos v) ∙ ap₂ (from_corner (cell g)) x y

  -- a live cell lies in it
  pub lives_in : (x y : ℤ) → p x y ≢ 0 → LiesAt (cell g) (x -ℤ is.left) (y -ℤ is.top)
  lives_in x y some = lies_at (cell g) (x -ℤ is.left) (y -ℤ is.top) (sym (is.same x y) ∙ live_one (p x y) some)

  -- so it isn't far from the corner
  pub lives_near : (x y : ℤ) → p x y ≢ 0 → (is.left ≤ℤ x) × (x ≤ℤ (is.left +ℤ pos 39)) × (is.top ≤ℤ y) × (y ≤ℤ (is.top +ℤ pos 39))
  lives_near x y some =
      let at = lives_in x y some in
      let column : at.u < 40 = let in_box = live_column g at.u at.v at.lives in omega (arith, in_box, is.is_grid.width) in
      let row : at.v < 40 = let in_box = live_row g at.u at.v is.is_grid at.lives in omega (arith, in_box, is.is_grid.height) in
      (omega (arith, ints, at.is_x), omega (arith, ints, at.is_x, column), omega (arith, ints, at.is_y), omega (arith, ints, at.is_y, row))

  pub some_width : 0 < length g.columns
  some_width = let east = live_column g (length g.columns - 1) is.is_least.east.0 is.is_least.east.1 in omega (arith, east)

-- two of them have one corner
module _ (p : ℤ → ℤ → ℕ) (g h : GridCells) (one : IsBoxRound p g) (other : IsBoxRound p h) where
  live_there : (u v : ℕ) → cell g u v ≡ 1 → LiesAt (cell h) ((one.left +ℤ pos u) -ℤ other.left) ((one.top +ℤ pos v) -ℤ other.top)
  live_there u v lives = lies_at (cell h) ((one.left +ℤ pos u) -ℤ other.left) ((one.top +ℤ pos v) -ℤ other.top) (sym (other.same (one.left +ℤ pos u) (one.top +ℤ pos v)) ∙ (shown_at p g one u v ∙ lives))

  pub no_further_west : other.left ≤ℤ one.left
  no_further_west = let at = live_there 0 one.is_least.west.0 one.is_least.west.1 in omega (arith, ints, at.is_x)

  pub no_further_north : other.top ≤ℤ one.top
  no_further_north = let at = live_there one.is_least.north.0 0 one.is_least.north.1 in omega (arith, ints, at.is_y)

-- and are one
pub one_box : (p : ℤ → ℤ → ℕ) (g h : GridCells) → IsBoxRound p g → IsBoxRound p h → g ≡ h
one_box p g h one other =
    let west : one.left ≡ other.left = omega (arith, ints, no_further_west p g h one other, no_further_west p h g other one) in
    let north : one.top ≡ other.top = omega (arith, ints, no_further_north p g h one other, no_further_north p h g other one) in
    one_least_grid g h one.is_grid other.is_grid one.is_least other.is_least
    (λ u v. sym (shown_at p g one u v) ∙ (ap₂ (λ a b. live (p (a +ℤ pos u) (b +ℤ pos v))) west north ∙ shown_at p h other u v))

-- so a plane has one text at most
pub one_text_of : (p : ℤ → ℤ → ℕ) (s t : List ℕ) → IsTextOf p s → IsTextOf p t → s ≡ t
one_text_of p s t one other =
    let same : one.0 ≡ other.0 = one_box p one.0 other.0 one.1 other.1 in
    let as_other : IsRepresentation (cell other.0) other.0.height s = subst (λ (g : GridCells). IsRepresentation (cell g) g.height s) same one.2 in
    one_text (cell other.0) other.0.height s t as_other other.2

-- ---- the same box round other planes

-- planes with the same cells
pub box_as : (p q : ℤ → ℤ → ℕ) (g : GridCells) → ((x y : ℤ) → p x y ≡ q x y) → IsBoxRound p g → IsBoxRound q g
box_as p q g same is = record { left = is.left; top = is.top; is_grid = is.is_grid; is_least = is.is_least; same = λ x y. ap live (sym (same x y)) ∙ is.same x y }

pub text_as : (p q : ℤ → ℤ → ℕ) (text : List ℕ) → ((x y : ℤ) → p x y ≡ q x y) → IsTextOf p text → IsTextOf q text
text_as p q text same is = (is.0, box_as p q is.0 same is.1, is.2)

-- a plane that is moved
pub box_moved : (p q : ℤ → ℤ → ℕ) (g : GridCells) (dx dy : ℤ) → ((x y : ℤ) → q x y ≡ p (x -ℤ dx) (y -ℤ dy)) → IsBoxRound p g → IsBoxRound q g
box_moved p q g dx dy moved is = record {
  left = is.left +ℤ dx;
  top = is.top +ℤ dy;
  is_grid = is.is_grid;
  is_least = is.is_least;
  same = λ x y.
      let east : (x -ℤ dx) -ℤ is.left ≡ x -ℤ (is.left +ℤ dx) = omega (arith, ints) in
      let south : (y -ℤ dy) -ℤ is.top ≡ y -ℤ (is.top +ℤ dy) = omega (arith, ints) in
      ap live (moved x y) ∙ (is.same (x -ℤ dx) (y -ℤ dy) ∙ ap₂ (from_corner (cell g)) east south);
}

pub text_moved : (p q : ℤ → ℤ → ℕ) (text : List ℕ) (dx dy : ℤ) → ((x y : ℤ) → q x y ≡ p (x -ℤ dx) (y -ℤ dy)) → IsTextOf p text → IsTextOf q text
text_moved p q text dx dy moved is = (is.0, box_moved p q is.0 dx dy moved is.1, is.2)
