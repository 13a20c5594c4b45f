-- Trees as a leaper goes on: what was known of them stays.
use Rattle.std.proofs.Common.{List, Result, Ok, Err, sym, ◌∙◌}
use Rattle.std.specs.Prelude.{IfOk}
use Rattle.ca_plane.specs.Prelude.{Picture}
use Rattle.ca_quad.specs.declared.{node.Node.Node, tree.Tree.Tree}
use Rattle.ca_quad.specs.Prelude.{IsSoundStore, Grows, IsTree}
use Rattle.ca_quad.proofs.Cells.{of_stays}
use Rattle.ca_quad.proofs.Trims.{trees_stay}
use Rattle.ca_pattern.specs.Prelude.{ShowsTree, IsPattern, IsNearTree}

-- ---- the store grows

module _ (old new : List Node) (sound : IsSoundStore old) (grows : Grows old new) where
  pub shows_stays : (tree : Tree) (p : Picture) → IsTree old tree → ShowsTree old tree p → ShowsTree new tree p
  shows_stays tree p is shows = λ x y. shows x y ∙ sym (trees_stay old new sound grows tree is x y)

  pub near_stays : (tree : Tree) → IsNearTree old tree → IsNearTree new tree
  near_stays tree h = record {
    is_tree = of_stays old new sound grows tree.root tree.level h.is_tree;
    low = h.low;
    near = λ x y out. trees_stay old new sound grows tree h.is_tree x y ∙ h.near x y out;
  }

  pub pattern_stays : (tree : Tree) → IsPattern old tree → IsPattern new tree
  pattern_stays tree h = record {
    is_tree = of_stays old new sound grows tree.root tree.level h.is_tree;
    low = h.low;
    trimmed = λ level some less holds. h.trimmed level some less (λ x y live. holds x y (λ z. live (sym (trees_stay old new sound grows tree h.is_tree x y) ∙ z)));
    range = λ x y live. h.range x y (λ z. live (trees_stay old new sound grows tree h.is_tree x y ∙ z));
  }

-- what follows of an `Ok`
pub ok_as : {T E : Type 0} (r : Result T E) (P Q : T → Type 0) → ((t : T) → P t → Q t) → IfOk r P → IfOk r Q
ok_as (Ok t) P Q turn h = turn t h
ok_as (Err e) P Q turn h = tt
