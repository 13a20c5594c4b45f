-- A file is converted to one text.
use Rattle.std.proofs.Common.{◌≡◌, ℕ, List, sym, ◌∙◌, inl, inr}
use Rattle.ca_plane.specs.declared.point.{Point.Point, Bounds.Bounds}
use Rattle.ca_plane.specs.Prelude.{Picture, cell, IsSame, IsLeastBox}
use Rattle.ca_rle.specs.Tidy as rle
use Rattle.ca_rle.proofs.OneTidy as rle_tidy
use Rattle.ca_macro.proofs.OneTidy as macrocell_tidy
use Rattle.ca_pattern.specs.declared.format.Format.{Format}
use Rattle.ca_pattern.specs.declared.format.Format.TheVariants.{Rle, Mc}
use Rattle.ca_pattern.specs.Prelude.{IsTidyAs}
use Rattle.ca_pattern.proofs.WrittenMeanings.{tidy_shown}

-- a text that is tidy for a picture is so for one that shows the same
module _ (p q : Picture) (same : IsSame p q) where
  pub box_shown : (box : Bounds) → IsLeastBox p box → IsLeastBox q box
  box_shown box least = record {
    all = λ x y live. least.all x y (λ e. live (sym (same x y) ∙ e));
    left = (least.left.0, λ e. least.left.1 (same box.x0 least.left.0 ∙ e));
    right = (least.right.0, λ e. least.right.1 (same box.x1 least.right.0 ∙ e));
    top = (least.top.0, λ e. least.top.1 (same least.top.0 box.y0 ∙ e));
    bottom = (least.bottom.0, λ e. least.bottom.1 (same least.bottom.0 box.y1 ∙ e));
  }

  frame_shown : (corner : Point) (width height : ℕ) → rle.IsFrame p corner width height → rle.IsFrame q corner width height
  frame_shown corner width height (inl dead) = inl (λ live. dead.0 (live.0, live.1, λ e. live.2 (sym (same live.0 live.1) ∙ e)), dead.1, dead.2, dead.3)
  frame_shown corner width height (inr (box, least, at, wide, high)) = inr (box, box_shown box least, at, wide, high)

  pub tidy_as : (format : Format) (text rule_text : List ℕ) (generation states : ℕ) → IsTidyAs format text p rule_text generation states → IsTidyAs format text q rule_text generation states
  tidy_as Rle text rule_text generation states tidy = record {
    corner = tidy.corner;
    width = tidy.width;
    height = tidy.height;
    items = tidy.items;
    lines = tidy.lines;
    frame = frame_shown tidy.corner tidy.width tidy.height tidy.frame;
    shown = λ x y. sym (same x y) ∙ tidy.shown x y;
    tidy = tidy.tidy;
    have_states = tidy.have_states;
    whole = tidy.whole;
    lines_are = tidy.lines_are;
    spelled = tidy.spelled;
  }
  tidy_as Mc text rule_text generation states tidy = tidy_shown (cell p) (cell q) same text rule_text generation states tidy

-- a picture has one tidy text in each format
pub one_tidy_as : (format : Format) (t u : List ℕ) (p : Picture) (rule_text : List ℕ) (generation states : ℕ) → IsTidyAs format t p rule_text generation states
    → IsTidyAs format u p rule_text generation states → t ≡ u
one_tidy_as Rle t u p rule_text generation states one two = rle_tidy.one_tidy t u p rule_text generation states one two
one_tidy_as Mc t u p rule_text generation states one two = macrocell_tidy.one_tidy t u (cell p) rule_text generation states one two
