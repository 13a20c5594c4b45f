-- A whole tidy text, as its parts are put.
use Rattle.std.proofs.Common.{◌≡◌, ℕ, List, [], ◌∷◌, ◌++◌, length, map, take, get_or, ◌+◌, ◌<◌, ◌≤◌, codes, sym, ap, subst, ◌∙◌, append_assoc, arith}
use Rattle.std.specs.List.{flat_map, concat}
use Rattle.std.proofs.lemmas.List.{take_more, take_all, map-append}
use Rattle.ca_plane.specs.declared.point.Point.{Point}
use Rattle.ca_plane.specs.Prelude.{Picture, cell, Puts}
use Rattle.ca_rle.specs.declared.item.Item.{Item}
use Rattle.ca_rle.specs.Prelude.{line_with_lf, picture_of_items, AreTidy, HaveStates, IsFrame, corner_line, header_line, item_text, IsTidyRle}
use Rattle.ca_rle.specs.inner.Written.{IsPlaced, PutsLines, IsLaid}
use Rattle.ca_rle.proofs.LineLayouts.{laid_more, laid_end}

-- the texts of the first items, with one more
pub texts_more : (states : ℕ) (items : List Item) (i : ℕ) (d : Item) → i < length items → map (item_text states) (take (i + 1) items) ≡ map (item_text states) (take i items) ++ item_text states (get_or items i d) ∷ []
texts_more states items i d below = ap (map (item_text states)) (take_more items i d below) ∙ map-append (item_text states) (take i items) (get_or items i d ∷ [])

-- all items and the end, and then LF
pub lines_end : (start text mid new : List ℕ) (filled now states i : ℕ) (items : List Item) → IsLaid start text filled (map (item_text states) (take i items)) → length items ≤ i
    → IsPlaced text filled (codes "!") mid now → Puts mid new (codes "\n") → PutsLines start new (map (item_text states) items ++ codes "!" ∷ [])
lines_end start text mid new filled now states i items laid all placed end =
    let whole = subst (λ (l : List Item). IsLaid start text filled (map (item_text states) l)) (take_all i items all) laid in
    laid_end start mid new (codes "!") now (map (item_text states) items) (laid_more start text mid (codes "!") filled now (map (item_text states) items) whole placed (omega arith)) end.whole

-- the two lines and those of the items are the tidy text
abbrev pub tidy_text : (none first second text rule_text : List ℕ) (cells : Picture) (generation states : ℕ) (corner : Point) (width height : ℕ) (items given : List Item)
    → none ≡ [] → Puts none first (line_with_lf (corner_line corner generation)) → Puts first second (line_with_lf (header_line width height rule_text))
    → given ≡ items → PutsLines second text (map (item_text states) given ++ codes "!" ∷ [])
    → IsFrame cells corner width height → picture_of_items corner items ≡ cells → AreTidy items → HaveStates states items
    → IsTidyRle text cells rule_text generation states
tidy_text none first second text rule_text cells generation states corner width height items given empty one two same lines frame shown tidy have = record {
  corner = corner;
  width = width;
  height = height;
  items = items;
  lines = lines.lines;
  frame = frame;
  shown = λ x y. ap (λ (p : Picture). cell p x y) (sym shown);
  tidy = tidy;
  have_states = have;
  whole = lines.whole ∙ ap (λ (l : List Item). map (item_text states) l ++ codes "!" ∷ []) same;
  lines_are = lines.lines_are;
  spelled =
      let ends = flat_map (λ line. line_with_lf (concat line)) lines.lines in
      let head = line_with_lf (corner_line corner generation) in
      let header = line_with_lf (header_line width height rule_text) in
      lines.spelled ∙ ap (λ l. l ++ ends) (two.whole ∙ ap (λ l. l ++ header) (one.whole ∙ ap (λ l. l ++ head) empty)) ∙ append_assoc head header ends;
}
