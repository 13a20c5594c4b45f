-- What is reported of a text that was judged.
use Rattle.std.proofs.Common.{◌≡◌, ℕ, zero, suc, ◌<◌, ◌≤◌, List, get_or, refl, sym, subst, ◌∙◌, arith}
use Rattle.std.specs.List.{All}
use Rattle.std.proofs.lemmas.List.Elements.{All-from_recursion}
use Rattle.ca_plane.specs.declared.point.Point.{Point}
use Rattle.ca_plane.specs.Prelude.{cell, HasPopulation, IsSparse, IsInRange}
use Rattle.ca_plane.proofs.Pictures.{cell-listed}
use Rattle.ca_plane.proofs.Populations.{sparse_population}
use Rattle.ca_rle.specs.declared.{fault_line.GoodText.GoodText, extent.Offset.Offset, item.Item.Item, rle_text.RleText.RleText}
use Rattle.ca_rle.specs.Prelude.{RleFile, Run, Items, IsRleText, IsRleWithinRange, greatest_state, picture_of_items}
use Rattle.ca_rle.specs.inner.BodyFaults.{bare_file, IsItemAtFront}
use Rattle.ca_rle.specs.inner.Boxes.{AreBounds}
use Rattle.ca_rle.specs.inner.Extent.{IsOffsetOf}
use Rattle.ca_rle.specs.inner.FrontParts.{IsGoodText}
use Rattle.ca_rle.proofs.DrawnItems.{IsNext, next_is}
use Rattle.ca_rle.proofs.FileParts.{generation_is_low, rule_is_word}
use Rattle.ca_rle.proofs.PushedItems.{counts_low}
use Rattle.ca_rle.proofs.ReadParts.{run_low}
use Rattle.ca_rle.proofs.RisingItems.{picture_sparse, states_most, greatest_shown}
use Rattle.ca_rle.proofs.TextJudgements.{bare_of}

-- items in range show what a sparse plane keeps
pub items_sparse : (bytes : List ℕ) (corner : Point) (items : List Item) → Items bytes items → IsRleWithinRange (bare_file corner items) → IsSparse (picture_of_items corner items)
items_sparse bytes corner items (rest, run, end) range = picture_sparse corner items (counts_low bytes items rest run) (run_low bytes rest items run) range.cells

-- what the reader keeps of a good text is reported of it
pub told : (bytes : List ℕ) (file : RleFile) (text : GoodText) (judged : RleText) → IsGoodText bytes file text → judged.rule ≡ text.front.rule → judged.generation ≡ text.front.generation → judged.cells ≡ text.cells → judged.bounds ≡ text.bounds
    → judged.greatest ≡ text.greatest → judged.corner ≡ text.front.corner → judged.body ≡ text.front.body → IsRleText bytes judged
told bytes file text judged good rule generation cells bounds greatest corner body =
    let p = picture_of_items file.corner file.items in
    let sparse = items_sparse text.front.body.now file.corner file.items good.items (bare_of file.corner file refl good.within.0) in
    let state : judged.greatest ≡ greatest_state file.items = greatest ∙ good.greatest in
    record {
      file = file;
      is_file = good.is_file;
      within = good.within;
      items = subst (λ b. Items b.now file.items) (sym body) good.items;
      corner = corner ∙ good.corner;
      rule_text = rw rule good.rule_text;
      is_word = rule_is_word bytes file good.is_file;
      generation = generation ∙ good.generation;
      low_generation = generation_is_low bytes file good.is_file;
      states = sparse.states;
      population = subst (λ (n : ℕ). HasPopulation (cell p) n) (sym (cells ∙ good.cells)) (sparse_population p sparse);
      bounds = subst (AreBounds p) (sym bounds) good.bounds;
      most = λ x y. subst (λ (n : ℕ). cell p x y ≤ n) (sym state) (states_most file.corner file.items x y);
      greatest = λ live.
          let found = greatest_shown file.corner file.items (counts_low text.front.body.now file.items good.items.0 good.items.1) sparse (λ z. live (state ∙ z)) in
          (found.0, found.1, found.2 ∙ sym state);
    }

module _ (bytes : List ℕ) (text : RleText) (is : IsRleText bytes text) where
  -- its items in range
  pub range : IsRleWithinRange (bare_file text.corner is.file.items)
  range = bare_of text.corner is.file is.corner is.within.0

  pub sparse : IsSparse (picture_of_items text.corner is.file.items)
  sparse = items_sparse text.body.now text.corner is.file.items is.items range

  -- each listed cell is in range
  pub listed_in_range : All (λ e. IsInRange e.0) (picture_of_items text.corner is.file.items)
  listed_in_range = All-from_recursion (λ e. IsInRange e.0) (picture_of_items text.corner is.file.items) range.cells

  -- and has a state that is no greater than the greatest
  pub listed_below : (states : ℕ) → text.greatest < states → All (λ e. e.1 < states) (picture_of_items text.corner is.file.items)
  listed_below states low = λ k d l.
      let p = picture_of_items text.corner is.file.items in
      let at : Point = (get_or p k d).0 in
      let shown : cell p at.x at.y ≤ text.greatest = subst (λ (q : Point). cell (picture_of_items q is.file.items) at.x at.y ≤ text.greatest) (sym is.corner) (is.most at.x at.y) in
      omega (arith, cell-listed p sparse k d l, shown, low)

  -- its next item
  pub text_next : (rest more : List ℕ) (at : Offset) (items : List Item) (i : Item) → Run text.body.now items rest → IsOffsetOf items at → (item : IsItemAtFront rest i more) → IsNext 255 text.corner items at i item.0
  text_next rest more at items i run offset item = next_is 255 text.corner text.body.now rest more at is.file.items items i is.items range (run_low text.body.now is.items.0 is.file.items is.items.1) run offset item

  -- its bounds are those of its cells
  pub text_bounds : AreBounds (picture_of_items text.corner is.file.items) text.bounds
  text_bounds = subst (λ (at : Point). AreBounds (picture_of_items at is.file.items) text.bounds) (sym is.corner) is.bounds

  -- no state of its items is above the greatest of its cells
  items_below : (n : ℕ) → greatest_state is.file.items ≡ n → greatest_state is.file.items ≤ text.greatest
  items_below zero e = omega (arith, e)
  items_below (suc n) e =
      let p = picture_of_items text.corner is.file.items in
      let (x, y, shown) = greatest_shown text.corner is.file.items (counts_low text.body.now is.file.items is.items.0 is.items.1) sparse (λ z. omega (arith, e, z)) in
      let most : cell p x y ≤ text.greatest = subst (λ (q : Point). cell (picture_of_items q is.file.items) x y ≤ text.greatest) (sym is.corner) (is.most x y) in
      omega (arith, shown, most)

  pub items_most : greatest_state is.file.items ≤ text.greatest
  items_most = items_below (greatest_state is.file.items) refl
