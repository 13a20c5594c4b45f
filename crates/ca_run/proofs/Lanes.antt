-- Squares that are read as words and made of them, and their centres.
use Rattle.std.proofs.Common.{◌≡◌, ℕ, suc, ◌^◌, List, Option, Some, None, Result, Ok, Err, IfOk, IfSome, sym, subst, ◌∙◌, arith}
use Rattle.std.specs.Prelude.{ℤ, pos, ◌+ℤ◌, MatchOption}
use Rattle.ca_plane.specs.Prelude.{cells_after, from_corner, word_cells}
use Rattle.ca_quad.specs.declared.node.Node.{Node}
use Rattle.ca_quad.specs.Prelude.{cell_of, IsSoundStore, Grows, HasMoreStates}
use Rattle.ca_run.specs.Prelude.{IsCentre}
use Rattle.ca_run.specs.inner.Centres.{HasCentre}
use Rattle.ca_run.specs.inner.Shown.{ShowsAt}
use Rattle.ca_bricks.specs.Prelude.{side, WordShows}
use Rattle.ca_run.proofs.ShownPlanes.{is_centre_at, at_corner}

-- the word of a square that shows a plane shows it
pub word_at : (nodes : List Node) (id : ℕ) (found : Option ℕ) (p : ℤ → ℤ → ℕ) (a b : ℤ)
    → MatchOption found (HasMoreStates (cell_of nodes 3 id)) (λ word. (x y : ℕ) → cell_of nodes 3 id x y ≡ word_cells word x y) → ShowsAt nodes id 3 p a b
    → IfSome found (λ word. WordShows word p a b)
word_at nodes id None p a b is shows = tt
word_at nodes id (Some word) p a b is shows = record { looks = λ x y i j. sym (is x y) ∙ shows.looks x y i j }

-- words that show the centres of squares of level l + 2 show that of a square of level k + 2, where k is l
pub centre_shown : {X : Type 0} (Show : X → (ℤ → ℤ → ℕ) → ℤ → ℤ → Type 0) (next : List ℕ → ℕ) (nodes : List Node) (id k j l n : ℕ) (words : X) → k ≡ l → n ≡ 2 ^ j
    → ((p : ℤ → ℤ → ℕ) (a b : ℤ) → ShowsAt nodes id (suc (suc l)) p a b → Show words (cells_after next p n) (a +ℤ side l) (b +ℤ side l))
    → (p : ℤ → ℤ → ℕ) (a b : ℤ) → ShowsAt nodes id (suc (suc k)) p a b → (k ≡ l) × Show words (cells_after next p (2 ^ j)) (a +ℤ side k) (b +ℤ side k)
centre_shown Show next nodes id k j l n words level time shows p a b square = (
  level,
  subst (λ g. Show words (cells_after next p (2 ^ j)) (a +ℤ side g) (b +ℤ side g)) (sym level)
      (subst (λ m. Show words (cells_after next p m) (a +ℤ side l) (b +ℤ side l)) time (shows p a b (subst (λ g. ShowsAt nodes id (suc (suc g)) p a b) level square))),
)

-- a square that is made of words that show another's centre is that centre
pub centre_made : {X E : Type 0} (Show : X → (ℤ → ℤ → ℕ) → ℤ → ℤ → Type 0) (next : List ℕ → ℕ) (old new : List Node) → IsSoundStore old → Grows old new → (r : Result ℕ E) (id k j l : ℕ) (words : X) → HasCentre old id k j
    → ((p : ℤ → ℤ → ℕ) (a b : ℤ) → ShowsAt old id (suc (suc k)) p a b → (k ≡ l) × Show words (cells_after next p (2 ^ j)) (a +ℤ side k) (b +ℤ side k))
    → ((p : ℤ → ℤ → ℕ) (a b : ℤ) → Show words p a b → IfOk r (λ result_id. ShowsAt new result_id (suc l) p a b)) → IfOk r (IsCentre next new id k j)
centre_made Show next old new sound grows (Err e) id k j l words has shows made = tt
centre_made Show next old new sound grows (Ok result_id) id k j l words has shows made =
    let shown = shows _ _ _ (at_corner old id (suc (suc k)) has.is_square) in
    let later = cells_after next (from_corner (cell_of old (suc (suc k)) id)) (2 ^ j) in
    let there = subst (λ g. ShowsAt new result_id (suc g) later (pos 0 +ℤ side k) (pos 0 +ℤ side k)) (sym shown.0) (made later _ _ shown.1) in
    is_centre_at next old new sound grows id k j 0 (2 ^ j) result_id has.is_square has.in_time (omega arith) there
