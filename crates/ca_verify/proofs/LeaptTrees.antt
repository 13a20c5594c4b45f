-- What is judged as a leaper goes on: it stays so; and what the pictures that trees show have after some generations.
use Rattle.std.proofs.Common.{◌≡◌, ℕ, List, Option, Some, None, MatchOption, refl, sym, subst, ◌∙◌}
use Rattle.std.specs.Prelude.{ℤ, ◌-ℤ◌, IsNone}
use Rattle.ca_plane.specs.Prelude.{Picture, shifted, after, IsAfter}
use Rattle.ca_plane.specs.Plane as plane
use Rattle.ca_plane.proofs.Shifts.{cell-shifted}
use Rattle.ca_quad.specs.declared.{node.Node.Node, tree.Tree.Tree, tree.Spot.Spot}
use Rattle.ca_quad.specs.Prelude.{IsSoundStore, Grows, IsTree, cell, shifted_cells}
use Rattle.ca_quad.proofs.Trims.{trees_stay}
use Rattle.ca_plane.proofs.After.{after_same}
use Rattle.ca_text.specs.declared.asks.{Asks.Asks, Expected.Expected}
use Rattle.ca_verify.specs.declared.decide.{ClaimTrees.ClaimTrees, Case.Case}
use Rattle.ca_answers.specs.declared.verdict.Refutation.{Refutation}
use Rattle.ca_answers.specs.declared.verdict.Refutation.TheVariants.{Empty, Differs, Earlier, Died}
use Rattle.ca_text.specs.Prelude.{expected_cells, claimed_cells}
use Rattle.ca_pattern.specs.Prelude.{ShowsTree, HasLive, IsEndTree}
use Rattle.ca_verify.specs.inner.Subjects.{IsCase, ForbidsReturn, ForbidsDeath, AreShown, IsDifference}
use Rattle.ca_pattern.proofs.LeaptTrees.{pattern_stays, shows_stays}

-- what is judged stays so as the store grows
module _ (old new : List Node) (sound : IsSoundStore old) (grows : Grows old new) where
  pub case_stays : (case : Case) → IsCase old case → IsCase new case
  case_stays case h = record {
    sound = grows.sound;
    pattern = pattern_stays old new sound grows case.subject.pattern h.pattern;
    other = pattern_stays old new sound grows case.subject.other h.other;
    bounded = h.bounded;
  }

  live_stays : (tree : Tree) → IsTree old tree → HasLive (cell old tree) → HasLive (cell new tree)
  live_stays tree is live = (live.0, live.1, λ z. live.2 (sym (trees_stay old new sound grows tree is live.0 live.1) ∙ z))

  pub forbids_stays : (case : Case) → ForbidsReturn old case → ForbidsReturn new case
  forbids_stays case h = record {
    subject = case_stays case h.subject;
    forbidden = h.forbidden;
    live = live_stays case.subject.pattern h.subject.pattern.is_tree h.live;
  }

  pub death_stays : (case : Case) → ForbidsDeath old case → ForbidsDeath new case
  death_stays case h = record {
    subject = case_stays case h.subject;
    forbidden = h.forbidden;
    live = live_stays case.subject.pattern h.subject.pattern.is_tree h.live;
  }

  pub shown_stays : (subject : ClaimTrees) → IsTree old subject.pattern → IsTree old subject.other → (cells other : Picture) → AreShown old subject cells other → AreShown new subject cells other
  shown_stays subject one two cells other shown = record {
    one = shows_stays old new sound grows subject.pattern cells one shown.one;
    two = shows_stays old new sound grows subject.other other two shown.two;
  }

-- a tree that shows another one's cells, moved, shows a picture of that one, moved
pub moved_shown : (old new : List Node) (other tree : Tree) (p : Picture) (dx dy : ℤ) → ShowsTree old other p → ((x y : ℤ) → cell new tree x y ≡ shifted_cells (cell old other) dx dy x y)
    → ShowsTree new tree (shifted p dx dy)
moved_shown old new other tree p dx dy shows is = λ x y. cell-shifted p dx dy x y ∙ shows (x -ℤ dx) (y -ℤ dy) ∙ sym (is x y)

-- the claimed cells are those that are expected, moved
pub claimed_shown : (nodes : List Node) (tree : Tree) (asks : Asks) (expected : Expected) (cells other : Picture) → asks.expected ≡ expected
    → ShowsTree nodes tree (shifted (expected_cells expected cells other) asks.dx asks.dy) → ShowsTree nodes tree (claimed_cells asks cells other)
claimed_shown nodes tree asks expected cells other is shows = subst (λ w. ShowsTree nodes tree (shifted (expected_cells w cells other) asks.dx asks.dy)) (sym is) shows

-- the tree after some generations shows what the picture has then
pub shows_after : (next : List ℕ → ℕ) (old new : List Node) (pattern end : Tree) (n : ℕ) (cells : Picture) → IsEndTree next old pattern n new end → ShowsTree old pattern cells
    → (x y : ℤ) → after next cells n x y ≡ cell new end x y
shows_after next old new pattern end n cells is shows x y =
    after_same next (plane.cell cells) (cell old pattern) n shows x y ∙ sym (is.shows x y)

-- what differs there differs from the claimed cells
pub difference_as : (p q r s : ℤ → ℤ → ℕ) (n : ℕ) (refutation : Option Refutation) → ((x y : ℤ) → r x y ≡ p x y) → ((x y : ℤ) → s x y ≡ q x y)
    → MatchOption refutation ((x y : ℤ) → p x y ≡ q x y) (IsDifference p q n) → MatchOption refutation ((x y : ℤ) → r x y ≡ s x y) (IsDifference r s n)
difference_as p q r s n None e f same = λ x y. e x y ∙ same x y ∙ sym (f x y)
difference_as p q r s n (Some Empty) e f other = absurd other
difference_as p q r s n (Some (Differs x y found claimed generations)) e f other = (other.0, e x y ∙ other.1, f x y ∙ other.2, other.3)
difference_as p q r s n (Some (Earlier m dx dy)) e f other = absurd other
difference_as p q r s n (Some (Died m)) e f other = absurd other

-- what is found of the tree after some generations and of the claimed one is found of their pictures
pub wrong_cell : (next : List ℕ → ℕ) (s0 s1 s2 : List Node) (pattern end expected : Tree) (n : ℕ) → IsEndTree next s0 pattern n s1 end → Grows s0 s1 → Grows s1 s2 → (cells claimed_cells : Picture)
    → ShowsTree s0 pattern cells → ShowsTree s2 expected claimed_cells → (refutation : Option Refutation) → MatchOption refutation ((x y : ℤ) → cell s2 end x y ≡ cell s2 expected x y) (IsDifference (cell s2 end) (cell s2 expected) n)
    → MatchOption refutation (IsAfter next cells n claimed_cells) (IsDifference (after next cells n) (plane.cell claimed_cells) n)
wrong_cell next s0 s1 s2 pattern end expected n is grows grows_on cells claimed_cells shows stands refutation told =
    difference_as (cell s2 end) (cell s2 expected) (after next cells n) (plane.cell claimed_cells) n refutation
    (λ x y. shows_after next s0 s1 pattern end n cells is shows x y ∙ sym (trees_stay s1 s2 grows.sound grows_on end is.near.is_tree x y)) stands told

-- what is reported of a place that was found holds of the trees as they were before
pub difference_told : (p q r s : ℤ → ℤ → ℕ) (n : ℕ) (refutation : Option Refutation) (found : Option Spot) → ((x y : ℤ) → r x y ≡ p x y) → ((x y : ℤ) → s x y ≡ q x y)
    → (IsNone found → (x y : ℤ) → r x y ≡ s x y) → MatchOption refutation (found ≡ None) (IsDifference p q n) → MatchOption refutation ((x y : ℤ) → r x y ≡ s x y) (IsDifference r s n)
difference_told p q r s n None found e f same none = same (subst IsNone (sym none) refl)
difference_told p q r s n (Some refutation) found e f same told = difference_as p q r s n (Some refutation) e f told
