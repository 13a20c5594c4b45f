-- What is drawn of a pattern file.
use Rattle.std.specs.Prelude.{◌≡◌, ℕ, ◌+◌, ◌<◌, ℤ, List, Option, MatchOption}
use Rattle.ca_plane.specs.Prelude.{Picture, after, generation_limit}
use Rattle.ca_quad.specs.declared.tree.WideBounds.{WideBounds}
use Rattle.ca_quad.specs.Prelude.{IsDead, IsLeastWideBox}
use Rattle.ca_rule.specs.Prelude.{TableRule, RuleValue, next_of, states_of}
use Rattle.ca_draw.specs.declared.{window.Window.Window, view.WindowFault.WindowFault}
use Rattle.ca_draw.specs.Prelude.{drawing, IsBoxShown, box_shown, IsWindowFor, IsNoWindowFor}
use Rattle.ca_pattern.specs.Prelude.{HoldsSmallRuledPattern}
use Rattle.ca_report.specs.declared.form.DrawRequest.{DrawRequest}
use Rattle.ca_pattern_runs.specs.Captions.{caption_text}

-- the text is a picture of these cells, of `states` states: that of the window that is asked for, of the box that is
-- drawn of them
pub record IsPictureOf (request : DrawRequest) (states : ℕ) (cells : ℤ → ℤ → ℕ) (text : List ℕ) : Type 0 where
  pub box : WideBounds
  pub window : Window
  pub is_box : IsBoxShown cells box
  pub is_window : IsWindowFor request.view request.format box window
  pub drawn : text ≡ drawing (record { format = request.format; states = states; zoom = request.view.zoom }) cells window

-- the text is the caption of that picture, at this generation: it gives the smallest box round the live cells, if there
-- are any, and the scale of the window
pub record IsCaptionOf (request : DrawRequest) (generation : ℕ) (cells : ℤ → ℤ → ℕ) (text : List ℕ) : Type 0 where
  pub bounds : Option WideBounds
  pub window : Window
  pub is_bounds : MatchOption bounds (IsDead cells) (IsLeastWideBox cells)
  pub is_window : IsWindowFor request.view request.format (box_shown bounds) window
  pub captioned : text ≡ caption_text bounds window.scale generation

-- there is no window of these cells as it is asked for
abbrev pub HasNoWindow : DrawRequest → (ℤ → ℤ → ℕ) → WindowFault → Type 0
HasNoWindow request cells fault = (box : WideBounds) × IsBoxShown cells box × IsNoWindowFor request.view request.format box fault

-- this holds of the cells that a file's pattern has after n generations, at every x and y, of its rule's number of
-- states, and of the generation, which is then below the limit
pub record HoldsOfLater (bytes : List ℕ) (tables : List TableRule) (n : ℕ) (Holds : (states generation : ℕ) → (ℤ → ℤ → ℕ) → Type 0) : Type 0 where
  pub cells : Picture
  pub rule : RuleValue
  pub generation : ℕ
  pub begins : HoldsSmallRuledPattern bytes tables cells rule generation
  pub low : generation + n < generation_limit
  pub holds : Holds (states_of rule) (generation + n) (after (next_of rule) cells n)

-- the text is what is drawn of a file with these bytes after n generations
abbrev pub IsDrawnAfter : List ℕ → List TableRule → (n : ℕ) → DrawRequest → List ℕ → Type 0
IsDrawnAfter bytes tables n request text = HoldsOfLater bytes tables n (λ states generation cells. IsPictureOf request states cells text)

-- and the text is the caption of that
abbrev pub IsCaptionAfter : List ℕ → List TableRule → (n : ℕ) → DrawRequest → List ℕ → Type 0
IsCaptionAfter bytes tables n request text = HoldsOfLater bytes tables n (λ states generation cells. IsCaptionOf request generation cells text)

-- and there is no window of it as it is asked for
abbrev pub HasNoWindowAfter : List ℕ → List TableRule → (n : ℕ) → DrawRequest → WindowFault → Type 0
HasNoWindowAfter bytes tables n request fault = HoldsOfLater bytes tables n (λ states generation cells. HasNoWindow request cells fault)
