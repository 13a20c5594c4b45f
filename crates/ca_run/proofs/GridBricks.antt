-- Trees read as grids: where bricks lie in a tree, and which of them are blank.
use Rattle.std.proofs.Common.{◌≡◌, ℕ, suc, ◌+◌, ◌-◌, ◌*◌, ◌/◌, ◌%◌, ◌<◌, ◌≤◌, ◌^◌, inl, inr, ◌⊎◌, List, [], ◌∷◌, ◌++◌, length, get_or, slice_index, sym, ap, ap₂, subst, ◌∙◌, arith, w64, to_z, of_z}
use Rattle.std.specs.Prelude.{ℤ, pos, ◌+ℤ◌, ◌-ℤ◌, replicate, FitsSigned}
use Rattle.std.proofs.lemmas.Int.{ints, to_z-of_z}
use Rattle.std.proofs.lemmas.List.{length-append, get_or_append_left}
use Rattle.std.proofs.Math.Seq.{get_or-append_seam}
use Rattle.std.proofs.Math.Nat.{mul_comm, mul_assoc, div-mul-le_self, mul-le-mul_right}
use Rattle.ca_plane.proofs.Numbers.{below_or_not}
use Rattle.ca_quad.specs.declared.node.Node.{Node}
use Rattle.ca_quad.specs.Prelude.{cell_of, IsEmpty}
use Rattle.ca_run.specs.declared.bricks.frame.{Span.Span, Frame.Frame}
use Rattle.ca_bricks.specs.declared.grid.BrickGrid.{BrickGrid}
use Rattle.ca_run.specs.inner.Beyond.{DiesBeyond}
use Rattle.ca_run.specs.inner.Shown.{ShowsAt}
use Rattle.ca_bricks.specs.Prelude.{WordShows, BrickShows, GridShows, LiesNearOrigin, IsAligned}
use Rattle.ca_run.specs.inner.Frames.{IsOutOf, IsGridFrame, IsFramed, piece_start, row_start}
use Rattle.ca_bricks.proofs.BrickLists.{zeros_blank}
use Rattle.ca_bricks.proofs.Words.{side_words, word_from}

-- what holds of the first of a list and of what is put at its end holds of one more
pub push_more : {X : Type 0} (P : ℕ → X → Type 0) (list new : List X) (t : ℕ) (x d : X) → new ≡ list ++ x ∷ [] → length list ≡ t
    → ((m : ℕ) → m < t → P m (get_or list m d)) → P t x → (m : ℕ) → m < t + 1 → P m (get_or new m d)
push_more P list new t x d e size so_far one m h = rw e (elim (below_or_not m t) [
  | inl near ↦ subst (P m) (sym (get_or_append_left list (x ∷ []) d m (omega (arith, size, near)))) (so_far m near)
  | inr far ↦
      let last : m ≡ length list = omega (arith, size, h, far) in
      let here : t ≡ m = omega (arith, h, far) in
      subst (P m) (sym (ap (λ n. get_or (list ++ x ∷ []) n d) last ∙ get_or-append_seam list x [] d)) (subst (λ n. P n x) here one)
])

-- the list is one longer then
pub push_longer : {X : Type 0} (list new : List X) (t : ℕ) (x : X) → new ≡ list ++ x ∷ [] → length list ≡ t → length new ≡ t + 1
push_longer list new t x e size = ap length e ∙ omega (arith, size, length-append list (x ∷ []))

-- a blank brick shows a plane that is dead there
pub blank_shows : (p : ℤ → ℤ → ℕ) (a b : ℤ) → ((x y : ℕ) → x < 64 → y < 16 → p (a +ℤ pos x) (b +ℤ pos y) ≡ 0) → BrickShows (replicate 16 0) p a b
blank_shows p a b dead = record { looks = λ x y h k. zeros_blank x y h k ∙ sym (dead x y h k) }

-- and so does one of an empty square of 64 by 64 cells
pub blank_piece : (nodes : List Node) (piece : ℕ) (p : ℤ → ℤ → ℕ) (bit : ℕ → ℕ) (west north a b : ℤ) (n : ℕ) → bit 0 ≡ 0 → n ≤ 48 → IsEmpty (cell_of nodes 6 piece)
    → ShowsAt nodes piece 6 p west north → a ≡ west → b ≡ north +ℤ pos n → BrickShows (replicate 16 0) (λ x y. bit (p x y)) a b
blank_piece nodes piece p bit west north a b n none low empty shows e f = blank_shows (λ x y. bit (p x y)) a b (λ x y h k.
    let column : a +ℤ pos x ≡ west +ℤ pos x = omega (arith, ints, e) in
    let row : b +ℤ pos y ≡ north +ℤ pos (n + y) = omega (arith, ints, f) in
    ap bit (ap₂ p column row ∙ sym (shows.looks x (n + y) (omega (arith, h)) (omega (arith, k, low))) ∙ empty x (n + y)) ∙ none)

-- a brick shows the plane at a place by another name
pub brick_from : (rows : List ℕ) (p : ℤ → ℤ → ℕ) (a b c d : ℤ) → a ≡ c → b ≡ d → BrickShows rows p a b → BrickShows rows p c d
brick_from rows p a b c d e f shows = subst (λ x. BrickShows rows p x d) e (subst (BrickShows rows p a) f shows)

-- six powers of two more
pub sixty_four_times : (k : ℕ) → 2 ^ (k + 6) ≡ 64 * 2 ^ k
sixty_four_times k =
    let six : k + 6 ≡ suc (suc (suc (suc (suc (suc k))))) = omega arith in
    let a = side_words (suc (suc (suc k))) in
    let b = side_words k in
    ap (λ m. 2 ^ m) six ∙ a ∙ omega (arith, b)

-- a column that lies beside all bricks of a tree shows nothing
pub column_dead : (p : ℤ → ℤ → ℕ) (way half column : ℕ) → 64 * half ≡ way → half ≤ 2 ^ 55 → DiesBeyond way p → (column < 2 ^ 56 - half) ⊎ (2 ^ 56 - half + 2 * half ≤ column)
    → (x : ℕ) → x < 64 → (y : ℤ) → p (piece_start column +ℤ pos x) y ≡ 0
column_dead p way half column e most dies (inl west) x h y = dies _ y (inl (inl (omega (arith, ints, e, most, west, h))))
column_dead p way half column e most dies (inr east) x h y = dies _ y (inl (inr (omega (arith, ints, e, most, east, h))))

-- and neither does a row
pub row_dead : (p : ℤ → ℤ → ℕ) (way half row : ℕ) → 64 * half ≡ way → half ≤ 2 ^ 55 → DiesBeyond way p → (row < 2 ^ 58 - 4 * half) ⊎ (2 ^ 58 - 4 * half + 8 * half ≤ row)
    → (y : ℕ) → y < 16 → (x : ℤ) → p x (row_start row +ℤ pos y) ≡ 0
row_dead p way half row e most dies (inl north) y h x = dies x _ (inr (inl (omega (arith, ints, e, most, north, h))))
row_dead p way half row e most dies (inr south) y h x = dies x _ (inr (inr (omega (arith, ints, e, most, south, h))))

-- a column that isn't one of those of a box lies out of it
pub column_out : (span : Span) (column : ℕ) → (span.low ≤ column → column ≤ span.high → ⊥) → (x : ℕ) → x < 64 → IsOutOf span (piece_start column +ℤ pos x)
column_out span column out x h = elim (below_or_not column span.low) [
  | inl west ↦ inl (omega (arith, ints, west, h))
  | inr here ↦ elim (below_or_not span.high column) [ inl east ↦ inr (omega (arith, ints, east, h)) | inr low ↦ absurd (out here low) ]
]

pub row_out : (span : Span) (row : ℕ) → (span.low ≤ row / 4 → row / 4 ≤ span.high → ⊥) → (y : ℕ) → y < 16 → IsOutOf span (row_start row +ℤ pos y)
row_out span row out y h = elim (below_or_not (row / 4) span.low) [
  | inl north ↦ inl (omega (arith, ints, north, h))
  | inr here ↦ elim (below_or_not span.high (row / 4)) [ inl south ↦ inr (omega (arith, ints, south, h)) | inr low ↦ absurd (out here low) ]
]

-- as many bricks as in the rows of four for each piece
pub pieces_of_four : (across rows : ℕ) → 4 * (across * rows) ≡ (4 * rows) * across
pieces_of_four across rows = ap (λ n. 4 * n) (mul_comm across rows) ∙ sym (mul_assoc 4 rows across)

-- eight words that are found at one place are found at another name of it
pub eight_from : (words : List ℕ) (p : ℤ → ℤ → ℕ) (a b c d : ℤ) → a ≡ c → b ≡ d → ((k : ℕ) → k < 8 → WordShows (slice_index words k) p (a +ℤ pos (8 * k)) b)
    → (k : ℕ) → k < 8 → WordShows (slice_index words k) p (c +ℤ pos (8 * k)) d
eight_from words p a b c d e f shows k h = word_from (slice_index words k) p (a +ℤ pos (8 * k)) b (c +ℤ pos (8 * k)) d (ap (λ x. x +ℤ pos (8 * k)) e) f (shows k h)

-- the row of a brick is one of four for each piece
pub row_of_bricks : (across rows t : ℕ) → 0 < across → t < 4 * (across * rows) → t / across < 4 * rows
row_of_bricks across rows t some h = elim (below_or_not (t / across) (4 * rows)) [
  | inl low ↦ low
  | inr high ↦
      let more : (4 * rows) * across ≤ t / across * across = mul-le-mul_right across high in
      absurd (omega (arith, h, more, pieces_of_four across rows, div-mul-le_self t across))
]

piece_further : (first k : ℕ) → piece_start (first + k) ≡ piece_start first +ℤ pos (64 * k)
piece_further first k = omega (arith, ints)

row_further : (first k : ℕ) → row_start (4 * first + k) ≡ piece_start first +ℤ pos (16 * k)
row_further first k = omega (arith, ints)

-- a frame round a plane goes round the plane of any bit that dead cells don't have
pub framed_bits : (m : ℕ) (frame : Frame) (p : ℤ → ℤ → ℕ) (bit : ℕ → ℕ) → bit 0 ≡ 0 → IsFramed m frame p → IsFramed m frame (λ x y. bit (p x y))
framed_bits m frame p bit none framed = record {
  inside = λ x y out. ap bit (framed.inside x y out) ∙ none;
  margin = λ x y edge. ap bit (framed.margin x y edge) ∙ none;
}

-- bricks that show a plane where those of a frame round it lie make a grid that shows it
pub framed_grid : (grid : BrickGrid) (frame : Frame) (m : ℕ) (p : ℤ → ℤ → ℕ) → IsGridFrame frame → IsFramed m frame p
    → grid.x ≡ piece_start frame.columns.first → grid.y ≡ piece_start frame.rows.first → grid.across ≡ frame.columns.count → grid.down ≡ 4 * frame.rows.count
    → length grid.bricks.items ≡ 4 * (frame.columns.count * frame.rows.count)
    → ((t : ℕ) → t < length grid.bricks.items
    → BrickShows (get_or grid.bricks.items t []) p (piece_start (frame.columns.first + t % frame.columns.count)) (row_start (4 * frame.rows.first + t / frame.columns.count)))
    → GridShows grid m p
framed_grid grid frame m p is framed x y across down size shown = rw (x, y, across, down) (record {
  is_grid = record { wide = is.columns.wide; high = omega (arith, is.rows.wide); size = size ∙ pieces_of_four frame.columns.count frame.rows.count };
  bricks = λ t h.
      brick_from (get_or grid.bricks.items t []) p _ _ _ _ (piece_further frame.columns.first (t % frame.columns.count)) (row_further frame.rows.first (t / frame.columns.count)) (shown t h);
  margin = framed.margin;
})

-- and it lies near the origin
pub near_grid : (grid : BrickGrid) (frame : Frame) → IsGridFrame frame → grid.x ≡ piece_start frame.columns.first → grid.y ≡ piece_start frame.rows.first → grid.across ≡ frame.columns.count → grid.down ≡ 4 * frame.rows.count
    → LiesNearOrigin grid
near_grid grid frame is x y across down = rw (x, y, across, down) (record {
  west = omega (arith, ints);
  north = omega (arith, ints);
  east = omega (arith, ints, is.columns.far);
  south = omega (arith, ints, is.rows.far);
})

-- a whole number of words from it
pub aligned_grid : (grid : BrickGrid) (frame : Frame) → grid.x ≡ piece_start frame.columns.first → grid.y ≡ piece_start frame.rows.first → IsAligned grid
aligned_grid grid frame x y = record {
  x = (pos (8 * frame.columns.first) -ℤ pos (2 ^ 59), omega (arith, ints, x));
  y = (pos (8 * frame.rows.first) -ℤ pos (2 ^ 59), omega (arith, ints, y));
}

-- where a piece begins is read back as it was written
pub start_reads : (first : ℕ) (z : ℤ) → first ≤ 2 ^ 57 → z ≡ piece_start first → to_z w64 (of_z w64 z) ≡ piece_start first
start_reads first z low e = let fits : FitsSigned w64 z = omega (arith, ints, low, e) in to_z-of_z w64 z fits ∙ e
