-- Squares that are copied from one store to another.
use Rattle.std.proofs.Common.{◌≡◌, ℕ, suc, ◌-◌, ◌^◌, ℤ, pos, negsuc, ◌+ℤ◌, Result, Ok, Err, OnOk, List, length, refl, sym, ap, subst, ◌∙◌, arith}
use Rattle.ca_quad.specs.declared.{node.Node.Node, tree.Tree.Tree}
use Rattle.ca_quad.specs.declared.square.Square.TheVariants.{Parts}
use Rattle.ca_quad.specs.Prelude.{square_of, level, level_of, IsOf, joined_cells, cell_of, IsSoundStore, Grows, HasParts, IsIn, ShowsSquare, AreFour, IsTree, cell, IsTrimmed, IsCopy, AreCopies}
use Rattle.ca_plane.specs.Prelude.{from_corner}
use Rattle.ca_quad.proofs.ShownSquares.{shows_stays, shows_as, four_show_together, shown_together}
use Rattle.ca_quad.proofs.Walks.{parts_show}

-- copies stay copies
pub copies_stay : (from old new : List Node) → IsSoundStore old → Grows old new → (found : List (ℕ × ℕ)) → AreCopies from old found → AreCopies from new found
copies_stay from old new sound grows found are id copy e = shows_stays old new sound grows copy (level_of from id) (cell_of from (level_of from id) id) (are id copy e)

-- also where a square is made or not
pub still_copies : {A E : Type 0} (from old new : List Node) (r : Result A E) → IsSoundStore old → Grows old new → (found : List (ℕ × ℕ)) → AreCopies from old found → OnOk r (AreCopies from new found)
still_copies from old new (Ok value) sound grows found are = copies_stay from old new sound grows found are
still_copies from old new (Err e) sound grows found are = tt

-- copies of four parts, made one after the other
module _ (from s1 s2 s3 s4 : List Node) (sound : IsSoundStore s1) (g2 : Grows s1 s2) (g3 : Grows s2 s3) (g4 : Grows s3 s4) (id m nw ne sw se : ℕ) (known : IsIn from id) (e : Parts m nw ne sw se ≡ square_of from id) (whole : HasParts from (length from) m nw ne sw se)
    (a b c d : ℕ) (p : IsCopy from s1 nw a) (q : IsCopy from s2 ne b) (r : IsCopy from s3 sw c) (s : IsCopy from s4 se d) where
  at_level : (nodes : List Node) (part copy : ℕ) → IsOf from part (m - 1) → IsCopy from nodes part copy → ShowsSquare nodes copy (m - 1) (cell_of from (m - 1) part)
  at_level nodes part copy of h = subst (λ k. ShowsSquare nodes copy k (cell_of from k part)) of.is_level h

  on : (old new : List Node) → IsSoundStore old → Grows old new → (part copy : ℕ) → ShowsSquare old copy (m - 1) (cell_of from (m - 1) part) → ShowsSquare new copy (m - 1) (cell_of from (m - 1) part)
  on old new old_sound grows part copy h = shows_stays old new old_sound grows copy (m - 1) (cell_of from (m - 1) part) h

  pa : ShowsSquare s4 a (m - 1) (cell_of from (m - 1) nw)
  pa = on s3 s4 g3.sound g4 nw a (on s2 s3 g2.sound g3 nw a (on s1 s2 sound g2 nw a (at_level s1 nw a whole.is_nw p)))

  pb : ShowsSquare s4 b (m - 1) (cell_of from (m - 1) ne)
  pb = on s3 s4 g3.sound g4 ne b (on s2 s3 g2.sound g3 ne b (at_level s2 ne b whole.is_ne q))

  pc : ShowsSquare s4 c (m - 1) (cell_of from (m - 1) sw)
  pc = on s3 s4 g3.sound g4 sw c (at_level s3 sw c whole.is_sw r)

  pd : ShowsSquare s4 d (m - 1) (cell_of from (m - 1) se)
  pd = at_level s4 se d whole.is_se s

  pub parts_four : AreFour s4 (m - 1) a b c d
  parts_four =
      let part = cell_of from (m - 1) in
      four_show_together s4 (m - 1) a b c d (part nw) (part ne) (part sw) (part se) pa pb pc pd (omega (arith, whole.most))

  -- and the square that they make
  pub parts_copied : (new : List Node) (copy : ℕ)
      → ((l : ℕ) → IsOf s4 a l → ShowsSquare new copy (suc l) (joined_cells (2 ^ l) (cell_of s4 l a) (cell_of s4 l b) (cell_of s4 l c) (cell_of s4 l d)))
      → IsCopy from new id copy
  parts_copied new copy join =
      let k = level_of from id in
      let j = m - 1 in
      let part = cell_of from j in
      let is_level : m ≡ k = ap level e in
      let next : suc j ≡ k = omega (arith, whole.least, is_level) in
      let all = parts_show from id k (record { before = known; is_level = refl }) m nw ne sw se (omega (arith, whole.least)) e in
      let four = joined_cells (2 ^ j) (cell_of s4 j a) (cell_of s4 j b) (cell_of s4 j c) (cell_of s4 j d) in
      let same = shown_together s4 j a b c d (part nw) (part ne) (part sw) (part se) pa pb pc pd in
      subst (λ l. ShowsSquare new copy l (cell_of from k id)) next
      (shows_as new copy (suc j) four (cell_of from k id) (λ x y. same x y ∙ ap (λ f. f x y) (sym all)) (join j pa.is_square))

-- a tree whose root is a copy shows the same plane
from_same : (p q : ℕ → ℕ → ℕ) → ((x y : ℕ) → p x y ≡ q x y) → (u v : ℤ) → from_corner p u v ≡ from_corner q u v
from_same p q same (pos x) (pos y) = same x y
from_same p q same (pos x) (negsuc y) = refl
from_same p q same (negsuc x) (pos y) = refl
from_same p q same (negsuc x) (negsuc y) = refl

module _ (from nodes : List Node) (tree : Tree) (copy : ℕ) (is : IsTree from tree) (h : IsCopy from nodes tree.root copy) where
  pub tree_copied : (x y : ℤ) → cell nodes (record { root = copy; level = tree.level }) x y ≡ cell from tree x y
  tree_copied x y =
      let g : ShowsSquare nodes copy tree.level (cell_of from tree.level tree.root) = subst (λ k. ShowsSquare nodes copy k (cell_of from k tree.root)) is.is_level h in
      from_same (cell_of nodes tree.level copy) (cell_of from tree.level tree.root) g.has_cells (x +ℤ pos (2 ^ (tree.level - 1))) (y +ℤ pos (2 ^ (tree.level - 1)))

  pub still_trimmed : IsTrimmed from tree → IsTrimmed nodes (record { root = copy; level = tree.level })
  still_trimmed trimmed level some low holds = trimmed level some low (λ x y live. holds x y (λ z. live (sym (tree_copied x y) ∙ z)))
