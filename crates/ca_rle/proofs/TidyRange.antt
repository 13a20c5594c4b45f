-- A tidy text of a plane in range passes no limit of the range.
use Rattle.std.proofs.Common.{◌≡◌, ◌≢◌, length, ℕ, ◌+◌, ◌<◌, ◌≤◌, ◌^◌, inl, inr, List, [], ◌∷◌, ℤ, sym, subst, ◌∙◌, arith}
use Rattle.std.specs.List.{All, AllByRecursion}
use Rattle.std.proofs.lemmas.List.Elements.{All-contains}
use Rattle.std.proofs.lemmas.Int.{ints}
use Rattle.ca_plane.specs.declared.point.Point.{Point}
use Rattle.ca_plane.specs.Prelude.{IsWord, Picture, cell, IsInRange}
use Rattle.ca_plane.proofs.Pictures.{Contains-cell, cell-first}
use Rattle.ca_rle.specs.declared.item.Item.{Item}
use Rattle.ca_rle.specs.Prelude.{RleFile, IsRleFile, IsRleWithinRange, IsWithinLimits, picture_of_items, IsFrame, IsTidyRle}
use Rattle.ca_rle.proofs.OneFile.{one_file}
use Rattle.ca_rle.proofs.TidyCells.{live_after, cells_at, next, drawn, picture_drawn}
use Rattle.ca_rle.proofs.TidyReach.{AreNear, IsFrameNear, frame_near, live_states, tidy_counts_near}
use Rattle.ca_rle.proofs.TidyFile.{tidy_file, tidy_is_file}
use Rattle.ca_plane.proofs.Elements.{all_append}

-- each live cell is in range
abbrev pub AreInRange : Picture → Type 0
AreInRange cells = (x y : ℤ) → cell cells x y ≢ 0 → IsInRange (record { y = y; x = x })

corner_in_range : (cells : Picture) (corner : Point) (width height : ℕ) → AreInRange cells → IsFrame cells corner width height → IsInRange corner
corner_in_range cells corner width height within (inl (dead, at, w, h)) =
    subst IsInRange (sym at) (omega (arith, ints), omega (arith, ints), omega (arith, ints), omega (arith, ints))
corner_in_range cells corner width height within (inr (box, least, at, w, h)) =
    let left = within box.x0 least.left.0 least.left.1 in
    let top = within least.top.0 box.y0 least.top.1 in
    subst IsInRange (sym at) (left.0, left.1, top.2, top.3)

-- where no dead cell is listed, what holds of each live cell holds of each that is listed
listed_in_range : (p : Picture) → AllByRecursion (λ e. e.1 ≢ 0) p → AreInRange p → AllByRecursion (λ e. IsInRange e.0) p
listed_in_range [] states within = tt
listed_in_range (e ∷ es) (some, others) within = (
  within e.0.x e.0.y (λ z. some (sym (cell-first e es) ∙ z)),
  listed_in_range es others (λ x y live. within x y (live_after (e ∷ []) es x y (some, tt) live)),
)

drawn_states : (left : ℤ) (at : Point) (is : List Item) → AllByRecursion (λ e. e.1 ≢ 0) (drawn left at is)
drawn_states left at [] = tt
drawn_states left at (i ∷ is) = all_append (λ e. e.1 ≢ 0) (cells_at at i) (drawn left (next left at i) is) (live_states at i) (drawn_states left (next left at i) is)

few_counts : (is : List Item) → AllByRecursion (λ i. (0 < i.count) × (i.count ≤ 2 ^ 60 + 2 ^ 60 + 1)) is → AllByRecursion (λ i. i.count ≤ 2 ^ 62) is
few_counts [] all = tt
few_counts (i ∷ is) (c, cs) = (omega (arith, c.1), few_counts is cs)

near_in_range : (cells : Picture) → AreInRange cells → AreNear (2 ^ 60) cells
near_in_range cells within x y live =
    let h = within x y live in
    ((h.0, omega (arith, ints, h.1)), (h.2, omega (arith, ints, h.3)))

pub tidy_within_range : (text : List ℕ) (cells : Picture) (rule_text : List ℕ) (generation states : ℕ) (t : IsTidyRle text cells rule_text generation states)
    → AreInRange cells → IsRleWithinRange (tidy_file text cells rule_text generation states t)
tidy_within_range text cells rule_text generation states t within =
    let near = near_in_range cells within in
    let frame : IsFrameNear (2 ^ 60) t.corner t.width t.height = frame_near (2 ^ 60) cells t.corner t.width t.height near t.frame in
    record {
      counts = few_counts t.items (tidy_counts_near (2 ^ 60) cells t.corner t.items near frame.x frame.y t.tidy t.shown);
      corner = corner_in_range cells t.corner t.width t.height within t.frame;
      cells = listed_in_range (picture_of_items t.corner t.items) (subst (λ p. AllByRecursion (λ e. e.1 ≢ 0) p) (sym (picture_drawn t.corner t.items)) (drawn_states t.corner.x t.corner t.items))
          (λ x y live. within x y (λ z. live (sym (t.shown x y) ∙ z)));
    }

pub file_in_range : (text : List ℕ) (cells : Picture) (rule_text : List ℕ) (generation states : ℕ) (t : IsTidyRle text cells rule_text generation states)
    → IsWord rule_text → generation < 2 ^ 63 → AreInRange cells → IsRleFile text (tidy_file text cells rule_text generation states t)
file_in_range text cells rule_text generation states t word low within = tidy_is_file (2 ^ 60) text cells rule_text generation states t (omega arith) (near_in_range cells within) word low

-- and so is each file of the text
pub only_in_range : (text : List ℕ) (cells : Picture) (rule_text : List ℕ) (generation states : ℕ) → IsTidyRle text cells rule_text generation states
    → IsWord rule_text → generation < 2 ^ 63 → AreInRange cells → (file : RleFile) → IsRleFile text file → IsRleWithinRange file
only_in_range text cells rule_text generation states t word low within file is =
    let same = one_file text (tidy_file text cells rule_text generation states t) file (file_in_range text cells rule_text generation states t word low within) is in
    subst IsRleWithinRange same (tidy_within_range text cells rule_text generation states t within)

-- where each listed cell is in range, each live cell is
pub listed_range : (cells : Picture) → All (λ e. IsInRange e.0) cells → AreInRange cells
listed_range cells all x y live = All-contains (λ e. IsInRange e.0) cells _ all (Contains-cell cells x y live)

-- a file that lists so few cells passes no limit, nor does another file of the text, since there is none
pub within_limits : (text : List ℕ) (given file : RleFile) (cells : Picture) → IsRleFile text given → IsRleWithinRange given → picture_of_items given.corner given.items ≡ cells → length cells ≤ 2 ^ 24
    → IsRleFile text file → IsWithinLimits file
within_limits text given file cells is range shown few other = subst IsWithinLimits (one_file text given file is other) (range, subst (λ (p : Picture). length p ≤ 2 ^ 24) (sym shown) few)
