-- What is drawn of a file, and why nothing is.
use Rattle.std.proofs.Common.{◌≡◌, ◌≢◌, ℕ, ◌+◌, ◌<◌, ℤ, List, Option, None, Some, Result, Ok, Err, Vec, Global, inl, inr, refl, subst, sym, ◌∙◌, arith}
use Rattle.ca_quad.specs.declared.tree.WideBounds.{WideBounds}
use Rattle.std.specs.Prelude.{MatchOption, IfOk}
use Rattle.ca_quad.specs.Prelude.{IsDead, IsLeastWideBox, cell}
use Rattle.ca_rule.specs.Prelude.{TableRule, rule_value, states_of, next_of}
use Rattle.ca_plane.specs.Prelude.{after, generation_limit}
use Rattle.ca_draw.proofs.SameCells.{same_drawing}
use Rattle.ca_pattern.specs.declared.{located_fault.LocatedFault.LocatedFault, pattern.Pattern.Pattern, pattern.StoredTree.StoredTree, format.Format.Format}
use Rattle.ca_pattern.specs.declared.located_fault.LocatedFault.TheVariants as located
use Rattle.ca_pattern.specs.declared.located_fault.LocatedFault.TheVariants.{Unread, UnnamedRule}
use Rattle.ca_pattern.specs.Prelude.{IsPatternAfter, IsReachFault, IsConvertedAfter, IsWrittenAs, IsTreeOf}
use Rattle.ca_pattern.proofs.OpenedFiles.{pattern_written}
use Rattle.ca_pattern.proofs.PatternsRead.{reads_may_want}
use Rattle.ca_report.specs.declared.{form.DrawRequest.DrawRequest, fault.ToolFault.ToolFault, form.TextForm.TextForm}
use Rattle.ca_report.specs.declared.fault.ToolFault.TheVariants.{Window, Memory}
use Rattle.ca_draw.specs.declared.view.WindowFault.{WindowFault}
use Rattle.ca_report.specs.declared.form.Form.TheVariants.{Picture}
use Rattle.ca_report.specs.declared.form.TextForm.TheVariants as forms
use Rattle.ca_pattern_runs.specs.Prelude.{HasRunDetail, IsPictureOf, IsCaptionOf, HasNoWindow, IsDrawnAfter, IsCaptionAfter, IsTextFault, IsFormFaultAfter, reported}
use Rattle.ca_draw.specs.Prelude.{IsBoxShown}
use Rattle.ca_pattern_runs.specs.inner.Refusals.{IsUndrawn, IsUndrawnAfter}

-- ---- cells that are the same everywhere

module _ (one other : ℤ → ℤ → ℕ) (same : (x y : ℤ) → one x y ≡ other x y) where
  live : (x y : ℤ) → one x y ≢ 0 → other x y ≢ 0
  live x y h = λ dead. h (same x y ∙ dead)

  least_box : (box : WideBounds) → IsLeastWideBox one box → IsLeastWideBox other box
  least_box box h = record {
    all = λ x y there. h.all x y (λ dead. there (sym (same x y) ∙ dead));
    left = (h.left.0, live box.x0 h.left.0 h.left.1);
    right = (h.right.0, live box.x1 h.right.0 h.right.1);
    top = (h.top.0, live h.top.0 box.y0 h.top.1);
    bottom = (h.bottom.0, live h.bottom.0 box.y1 h.bottom.1);
  }

  pub box_shown : (box : WideBounds) → IsBoxShown one box → IsBoxShown other box
  box_shown box (inl h) = inl (least_box box h)
  box_shown box (inr h) = inr ((λ x y. sym (same x y) ∙ h.0 x y), h.1)

  -- have the same pictures
  pub picture_too : (request : DrawRequest) (states : ℕ) (text : List ℕ) → IsPictureOf request states one text → IsPictureOf request states other text
  picture_too request states text h = record {
    box = h.box;
    window = h.window;
    is_box = box_shown h.box h.is_box;
    is_window = h.is_window;
    drawn = h.drawn ∙ same_drawing (record { format = request.format; states = states; zoom = request.view.zoom }) one other h.window same;
  }

  bounds_too : (bounds : Option WideBounds) → MatchOption bounds (IsDead one) (IsLeastWideBox one) → MatchOption bounds (IsDead other) (IsLeastWideBox other)
  bounds_too None dead = λ x y. sym (same x y) ∙ dead x y
  bounds_too (Some box) least = least_box box least

  -- captions
  pub caption_too : (request : DrawRequest) (generation : ℕ) (text : List ℕ) → IsCaptionOf request generation one text → IsCaptionOf request generation other text
  caption_too request generation text h = record {
    bounds = h.bounds;
    window = h.window;
    is_bounds = bounds_too h.bounds h.is_bounds;
    is_window = h.is_window;
    captioned = h.captioned;
  }

  -- and windows
  pub no_window_too : (request : DrawRequest) (fault : WindowFault) → HasNoWindow request one fault → HasNoWindow request other fault
  no_window_too request fault h = (h.0, box_shown h.0 h.1, h.2)

-- ---- patterns after some generations

module _ (bytes : List ℕ) (tables : List TableRule) (n : ℕ) (pattern : Pattern) (is : IsPatternAfter bytes tables n pattern) (stored : StoredTree)
    (tree : IsTreeOf (after (next_of (rule_value pattern.rule)) is.cells n) stored) (request : DrawRequest) where
  abbrev f : ℤ → ℤ → ℕ
  f = after (next_of (rule_value pattern.rule)) is.cells n

  abbrev shown : ℤ → ℤ → ℕ
  shown = cell stored.store stored.tree

  low : is.begun + n < generation_limit
  low = let below = is.is_pattern.low in let added = is.added in omega (arith, below, added)

  -- the picture of their tree is what is drawn
  pub drawn_of : (states : ℕ) (text : List ℕ) → states ≡ states_of (rule_value pattern.rule) → IsPictureOf request states (cell stored.store stored.tree) text → IsDrawnAfter bytes tables n request text
  drawn_of states text same pictured = record {
    cells = is.cells;
    rule = rule_value pattern.rule;
    generation = is.begun;
    begins = is.begins;
    low = low;
    holds = picture_too shown f tree.shows request (states_of (rule_value pattern.rule)) text (subst (λ m. IsPictureOf request m shown text) same pictured);
  }

  -- and the caption of that is its caption
  pub caption_of : (text : List ℕ) → IsCaptionOf request pattern.generation (cell stored.store stored.tree) text → IsCaptionAfter bytes tables n request text
  caption_of text captioned = record {
    cells = is.cells;
    rule = rule_value pattern.rule;
    generation = is.begun;
    begins = is.begins;
    low = low;
    holds = caption_too shown f tree.shows request (is.begun + n) text (subst (λ generation. IsCaptionOf request generation shown text) is.added captioned);
  }

  -- and why there is none is why nothing is drawn
  pub undrawn_of : (fault : ToolFault) → IsUndrawn request (cell stored.store stored.tree) fault → IsUndrawnAfter bytes tables n request fault
  undrawn_of (Window fault) none = record {
    cells = is.cells;
    rule = rule_value pattern.rule;
    generation = is.begun;
    begins = is.begins;
    low = low;
    holds = no_window_too shown f tree.shows request fault none;
  }
  undrawn_of Memory none = reads_may_want bytes is.begins.holds.holds.readable
  undrawn_of told none = absurd none

-- what is written of them in a format is what they are written as
pub written_after : (bytes : List ℕ) (tables : List TableRule) (n : ℕ) (pattern : Pattern) (is : IsPatternAfter bytes tables n pattern) (target : Format) {E : Type 0} (r : Result (Vec ℕ Global) E)
    → IfOk r (λ text. IsWrittenAs target (after (next_of (rule_value pattern.rule)) is.cells n) (rule_value pattern.rule) pattern.generation text.items) → IfOk r (λ text. IsConvertedAfter bytes tables n target text.items)
written_after bytes tables n pattern is target (Ok text) written = pattern_written bytes tables n pattern is target text.items written
written_after bytes tables n pattern is target (Err fault) written = written

-- ---- faults

module _ (bytes : List ℕ) (tables : List TableRule) (n work : ℕ) where
  -- why nothing is drawn is why nothing is written of the picture,
  pub undrawn_told : (request : DrawRequest) (fault : ToolFault) → IsUndrawnAfter bytes tables n request fault → IsFormFaultAfter (Picture request) bytes tables n work fault
  undrawn_told request (Window fault) none = none
  undrawn_told request Memory none = (located.Memory, none, refl)
  undrawn_told request told none = absurd none

  -- with what is known of it
  pub reach_detail : (refused : LocatedFault) → IsReachFault bytes tables n work refused → HasRunDetail bytes (reported refused)
  reach_detail (Unread bad) is = (refl, is)
  reach_detail (UnnamedRule unnamed) is = (refl, is.0)
  reach_detail located.StateTooLarge is = (refl, refl)
  reach_detail located.TooManyCells is = (refl, refl)
  reach_detail located.GenTooLarge is = (refl, refl)
  reach_detail located.Work is = (refl, refl)
  reach_detail located.Range is = (refl, refl)
  reach_detail located.Memory is = (refl, refl)

  pub text_detail : (form : TextForm) (refused : LocatedFault) → IsTextFault form bytes tables n work refused → HasRunDetail bytes (reported refused)
  text_detail forms.Summary refused is = reach_detail refused is
  text_detail (forms.File target) (Unread bad) is = (refl, is)
  text_detail (forms.File target) (UnnamedRule unnamed) is = (refl, is.0)
  text_detail (forms.File target) located.StateTooLarge is = (refl, refl)
  text_detail (forms.File target) located.TooManyCells is = (refl, refl)
  text_detail (forms.File target) located.GenTooLarge is = (refl, refl)
  text_detail (forms.File target) located.Work is = (refl, refl)
  text_detail (forms.File target) located.Range is = (refl, refl)
  text_detail (forms.File target) located.Memory is = (refl, refl)
