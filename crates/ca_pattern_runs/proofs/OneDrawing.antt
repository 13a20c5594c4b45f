-- One picture is drawn of a file, as it is asked for, or none for one cause; out of work and memory apart.
use Rattle.std.proofs.Common.{◌≡◌, ◌≢◌, ℕ, ◌+◌, List, Option, None, Some, inl, inr, refl, sym, ap, subst, ◌∙◌, arith}
use Rattle.std.specs.Prelude.{ℤ, ◌≤ℤ◌, MatchOption}
use Rattle.std.proofs.lemmas.Int.{ints}
use Rattle.ca_plane.specs.Prelude.{after}
use Rattle.ca_quad.specs.declared.tree.{Spot.Spot, WideBounds.WideBounds}
use Rattle.ca_quad.specs.Prelude.{IsDead, IsLeastWideBox}
use Rattle.ca_rule.specs.Prelude.{TableRule, states_of, next_of}
use Rattle.ca_draw.specs.declared.{window.Window.Window, view.Size.Size, view.WindowFault.WindowFault}
use Rattle.ca_draw.specs.Prelude.{drawing, IsWindow, strip_of, IsBoxShown, box_shown, ShowsWhole, HasScale, size_of, IsWindowFrom, IsNoWindowFrom}
use Rattle.ca_pattern.specs.declared.convert_fault.ConvertFault.TheVariants as convert_fault
use Rattle.ca_pattern.specs.declared.located_fault.LocatedFault.{LocatedFault}
use Rattle.ca_pattern.specs.declared.located_fault.LocatedFault.TheVariants as located
use Rattle.ca_pattern.specs.declared.located_fault.LocatedFault.TheVariants.{Unread, UnnamedRule}
use Rattle.ca_pattern.specs.Prelude.{IsReachFault, IsSameFault}
use Rattle.ca_pattern.proofs.OneRun.{one_start, one_plane, evolved_or_fault, one_reach_fault}
use Rattle.ca_report.specs.declared.{form.DrawRequest.DrawRequest, fault.ToolFault.ToolFault}
use Rattle.ca_report.specs.declared.fault.ToolFault.TheVariants.{Convert, Work, Window as NoWindow, Memory}
use Rattle.ca_draw.specs.declared.view.WindowFault.TheVariants as window_fault
use Rattle.ca_pattern_runs.specs.Prelude.{caption_text, IsPictureOf, IsCaptionOf, HasNoWindow, HoldsOfLater, IsDrawnAfter, IsCaptionAfter, TellsPattern, IsFormFaultAfter, reported}
use Rattle.ca_report.specs.declared.form.Form.TheVariants.{Picture}
use Rattle.ca_pattern_runs.proofs.DrawnFiles.{picture_too, caption_too, no_window_too}

-- ---- boxes

module _ (cells : ℤ → ℤ → ℕ) where
  box_within : (a b : WideBounds) → IsLeastWideBox cells a → IsLeastWideBox cells b → (a.x0 ≤ℤ b.x0) × (b.x1 ≤ℤ a.x1) × (a.y0 ≤ℤ b.y0) × (b.y1 ≤ℤ a.y1)
  box_within a b one two =
      ((one.all b.x0 two.left.0 two.left.1).0, (one.all b.x1 two.right.0 two.right.1).1, (one.all two.top.0 b.y0 two.top.1).2, (one.all two.bottom.0 b.y1 two.bottom.1).3)

  -- some cells have one smallest box,
  one_least : (a b : WideBounds) → IsLeastWideBox cells a → IsLeastWideBox cells b → a ≡ b
  one_least a b one two =
      let (l, r, t, u) = box_within a b one two in
      let (k, s, v, w) = box_within b a two one in
      let x0 : a.x0 ≡ b.x0 = omega (arith, ints) in
      let y0 : a.y0 ≡ b.y0 = omega (arith, ints) in
      let x1 : a.x1 ≡ b.x1 = omega (arith, ints) in
      let y1 : a.y1 ≡ b.y1 = omega (arith, ints) in
      λ i. record { x0 = x0 i; y0 = y0 i; x1 = x1 i; y1 = y1 i }

  -- and one box that is drawn
  one_box : (a b : WideBounds) → IsBoxShown cells a → IsBoxShown cells b → a ≡ b
  one_box a b (inl one) (inl two) = one_least a b one two
  one_box a b (inr one) (inr two) = one.1 ∙ sym two.1
  one_box a b (inl one) (inr two) = absurd (one.left.1 (two.0 a.x0 one.left.0))
  one_box a b (inr one) (inl two) = absurd (two.left.1 (one.0 b.x0 two.left.0))

-- ---- windows

module _ (size : Size) (box : WideBounds) where
  one_scale : (scale : Option ℕ) (v w : Window) → ShowsWhole box size v → ShowsWhole box size w → HasScale scale box size v → HasScale scale box size w → v.scale ≡ w.scale
  one_scale (Some scale) v w a b is are = is ∙ sym are
  one_scale None v w a b least low =
      let under = least w b.shows in
      let over = low v a.shows in
      omega (arith, under, over)

  -- a window of the whole box is the one of its scale
  one_whole : (v w : Window) → v.scale ≡ w.scale → ShowsWhole box size v → ShowsWhole box size w → v ≡ w
  one_whole v w scale a b =
      let column : v.column ≡ w.column = sym a.begins.is_column ∙ ap (λ s. strip_of s box.x0) scale ∙ b.begins.is_column in
      let row : v.row ≡ w.row = sym a.begins.is_row ∙ ap (λ s. strip_of s box.y0) scale ∙ b.begins.is_row in
      let east = sym a.ends.is_column ∙ ap (λ s. strip_of s box.x1) scale ∙ b.ends.is_column in
      let south = sym a.ends.is_row ∙ ap (λ s. strip_of s box.y1) scale ∙ b.ends.is_row in
      let width : v.width ≡ w.width = omega (arith, ints, column, east) in
      let height : v.height ≡ w.height = omega (arith, ints, row, south) in
      λ i. record { scale = scale i; column = column i; row = row i; width = width i; height = height i }

  -- one window is the one that is asked for,
  one_window : (corner : Option Spot) (scale : Option ℕ) (v w : Window) → IsWindowFrom corner scale size box v → IsWindowFrom corner scale size box w → v ≡ w
  one_window (Some corner) scale v w a b = a.0 ∙ sym b.0
  one_window None scale v w a b = one_whole v w (one_scale scale v w a.0 b.0 a.1 b.1) a.0 b.0

  -- or there is none for one cause
  window_or_fault : (corner : Option Spot) (scale : Option ℕ) (window : Window) (fault : WindowFault) → IsWindowFrom corner scale size box window → IsNoWindowFrom corner scale size box fault → ⊥
  window_or_fault (Some corner) scale window window_fault.Range is none = none (subst IsWindow is.0 is.1)
  window_or_fault (Some corner) scale window window_fault.TooLarge is none = none
  window_or_fault None scale window window_fault.Range is none = none
  window_or_fault None (Some scale) window window_fault.TooLarge is none = none window is.1 is.0.shows
  window_or_fault None None window window_fault.TooLarge is none = none window is.0.shows

  one_window_fault : (corner : Option Spot) (scale : Option ℕ) (f g : WindowFault) → IsNoWindowFrom corner scale size box f → IsNoWindowFrom corner scale size box g → f ≡ g
  one_window_fault corner scale window_fault.Range window_fault.Range a b = refl
  one_window_fault corner scale window_fault.TooLarge window_fault.TooLarge a b = refl
  one_window_fault (Some corner) scale window_fault.Range window_fault.TooLarge a b = absurd b
  one_window_fault None scale window_fault.Range window_fault.TooLarge a b = absurd a
  one_window_fault (Some corner) scale window_fault.TooLarge window_fault.Range a b = absurd a
  one_window_fault None scale window_fault.TooLarge window_fault.Range a b = absurd b

-- ---- pictures

module _ (request : DrawRequest) (cells : ℤ → ℤ → ℕ) where
  one_picture : (states : ℕ) (t u : List ℕ) → IsPictureOf request states cells t → IsPictureOf request states cells u → t ≡ u
  one_picture states t u a b =
      let view = request.view in
      let size = size_of view request.format in
      let box = one_box cells a.box b.box a.is_box b.is_box in
      let window = one_window size b.box view.corner view.scale a.window b.window (subst (λ c. IsWindowFrom view.corner view.scale size c a.window) box a.is_window) b.is_window in
      a.drawn ∙ ap (drawing (record { format = request.format; states = states; zoom = request.view.zoom }) cells) window ∙ sym b.drawn

  one_bounds : (b c : Option WideBounds) → MatchOption b (IsDead cells) (IsLeastWideBox cells) → MatchOption c (IsDead cells) (IsLeastWideBox cells) → b ≡ c
  one_bounds None None dead too = refl
  one_bounds (Some b) (Some c) least too = ap Some (one_least cells b c least too)
  one_bounds None (Some c) dead least = absurd (least.left.1 (dead c.x0 least.left.0))
  one_bounds (Some b) None least dead = absurd (least.left.1 (dead b.x0 least.left.0))

  one_caption : (generation : ℕ) (t u : List ℕ) → IsCaptionOf request generation cells t → IsCaptionOf request generation cells u → t ≡ u
  one_caption generation t u a b =
      let view = request.view in
      let size = size_of view request.format in
      let bounds = one_bounds a.bounds b.bounds a.is_bounds b.is_bounds in
      let window = one_window size (box_shown b.bounds) view.corner view.scale a.window b.window (subst (λ c. IsWindowFrom view.corner view.scale size (box_shown c) a.window) bounds a.is_window) b.is_window in
      a.captioned ∙ ap (λ c. caption_text c a.window.scale generation) bounds ∙ ap (λ w. caption_text b.bounds w.scale generation) window ∙ sym b.captioned

  picture_or_none : (states : ℕ) (text : List ℕ) (fault : WindowFault) → IsPictureOf request states cells text → HasNoWindow request cells fault → ⊥
  picture_or_none states text fault a (box, shown, none) =
      let view = request.view in
      let size = size_of view request.format in
      let same = one_box cells a.box box a.is_box shown in
      window_or_fault size box view.corner view.scale a.window fault (subst (λ c. IsWindowFrom view.corner view.scale size c a.window) same a.is_window) none

  one_no_window : (f g : WindowFault) → HasNoWindow request cells f → HasNoWindow request cells g → f ≡ g
  one_no_window f g (box, shown, none) (other, shown_too, nothing) =
      let view = request.view in
      let size = size_of view request.format in
      let same = one_box cells box other shown shown_too in
      one_window_fault size other view.corner view.scale f g (subst (λ c. IsNoWindowFrom view.corner view.scale size c f) same none) nothing

-- ---- files

-- the same faults are reported as one
same_reported : (f g : LocatedFault) → IsSameFault f g → (reported f).fault ≡ (reported g).fault
same_reported (Unread f) (Unread g) same = ap (λ bad. Convert (convert_fault.BadPattern bad.fault)) same
same_reported (UnnamedRule f) (UnnamedRule g) same = ap (λ fault. Convert (convert_fault.BadRule fault)) same.0
same_reported f g same = ap (λ fault. (reported fault).fault) same

module _ (bytes : List ℕ) (tables : List TableRule) (n work : ℕ) (request : DrawRequest) where
  -- one picture is drawn of a file
  pub one_drawn : (t u : List ℕ) → IsDrawnAfter bytes tables n request t → IsDrawnAfter bytes tables n request u → t ≡ u
  one_drawn t u a b =
      let one = one_start bytes tables a.cells b.cells a.rule b.rule a.generation b.generation a.begins b.begins in
      let same = one_plane bytes tables n a.cells b.cells a.rule b.rule a.generation b.generation a.begins b.begins in
      let shown = picture_too (after (next_of a.rule) a.cells n) (after (next_of b.rule) b.cells n) same request (states_of a.rule) t a.holds in
      let ruled = subst (λ r. IsPictureOf request (states_of r) (after (next_of b.rule) b.cells n) t) one.1 shown in
      one_picture request (after (next_of b.rule) b.cells n) (states_of b.rule) t u ruled b.holds

  -- with one caption
  pub one_drawn_caption : (t u : List ℕ) → IsCaptionAfter bytes tables n request t → IsCaptionAfter bytes tables n request u → t ≡ u
  one_drawn_caption t u a b =
      let one = one_start bytes tables a.cells b.cells a.rule b.rule a.generation b.generation a.begins b.begins in
      let same = one_plane bytes tables n a.cells b.cells a.rule b.rule a.generation b.generation a.begins b.begins in
      let told = caption_too (after (next_of a.rule) a.cells n) (after (next_of b.rule) b.cells n) same request (a.generation + n) t a.holds in
      let timed = subst (λ g. IsCaptionOf request (g + n) (after (next_of b.rule) b.cells n) t) one.2 told in
      one_caption request (after (next_of b.rule) b.cells n) (b.generation + n) t u timed b.holds

  -- what is reported of a plane that isn't reached is its fault
  reach_fault_of : (told : ToolFault) → told ≢ Memory → told ≢ Work → TellsPattern (IsReachFault bytes tables n work) told
      → (fault : LocatedFault) × (fault ≢ located.Memory) × (fault ≢ located.Work) × IsReachFault bytes tables n work fault × (told ≡ (reported fault).fault)
  reach_fault_of told m w (fault, is, same) =
      (fault, (λ e. m (same ∙ ap (λ f. (reported f).fault) e)), (λ e. w (same ∙ ap (λ f. (reported f).fault) e)), is, same)

  -- no plane that is reached has a cause for which it isn't
  later_or_fault : (Holds : (states generation : ℕ) → (ℤ → ℤ → ℕ) → Type 0) (told : ToolFault) → told ≢ Memory → told ≢ Work → HoldsOfLater bytes tables n Holds
      → TellsPattern (IsReachFault bytes tables n work) told → ⊥
  later_or_fault Holds told m w a wrong =
      let (fault, other, nor_work, is, same) = reach_fault_of told m w wrong in
      evolved_or_fault bytes tables n work a.cells a.rule a.generation fault other nor_work a.begins a.low is

  -- of which either a picture is drawn or none for one cause
  pub drawn_or_fault : (text : List ℕ) (told : ToolFault) → told ≢ Memory → told ≢ Work → IsDrawnAfter bytes tables n request text → IsFormFaultAfter (Picture request) bytes tables n work told → ⊥
  drawn_or_fault text (NoWindow fault) m w a b =
      let same = one_plane bytes tables n b.cells a.cells b.rule a.rule b.generation a.generation b.begins a.begins in
      picture_or_none request (after (next_of a.rule) a.cells n) (states_of a.rule) text fault a.holds
      (no_window_too (after (next_of b.rule) b.cells n) (after (next_of a.rule) a.cells n) same request fault b.holds)
  drawn_or_fault text told m w a b = later_or_fault _ told m w a b

  pub one_draw_fault : (f g : ToolFault) → f ≢ Memory → f ≢ Work → g ≢ Memory → g ≢ Work → IsFormFaultAfter (Picture request) bytes tables n work f → IsFormFaultAfter (Picture request) bytes tables n work g → f ≡ g
  one_draw_fault (NoWindow f) (NoWindow g) m w o v a b =
      let same = one_plane bytes tables n b.cells a.cells b.rule a.rule b.generation a.generation b.begins a.begins in
      ap NoWindow (one_no_window request (after (next_of a.rule) a.cells n) f g a.holds
      (no_window_too (after (next_of b.rule) b.cells n) (after (next_of a.rule) a.cells n) same request g b.holds))
  one_draw_fault (NoWindow f) g m w o v a b = absurd (later_or_fault _ g o v a b)
  one_draw_fault f (NoWindow g) m w o v a b = absurd (later_or_fault _ f m w b a)
  one_draw_fault f g m w o v a b = one_told f g m w o v a b
    where
      one_told : (f g : ToolFault) → f ≢ Memory → f ≢ Work → g ≢ Memory → g ≢ Work → TellsPattern (IsReachFault bytes tables n work) f
          → TellsPattern (IsReachFault bytes tables n work) g → f ≡ g
      one_told f g m w o v a b =
          let (one, other, nor_work, is, same) = reach_fault_of f m w a in
          let (two, nor_other, nor_works, are, too) = reach_fault_of g o v b in
          same ∙ same_reported one two (one_reach_fault bytes tables n work one two other nor_work nor_other nor_works is are) ∙ sym too
