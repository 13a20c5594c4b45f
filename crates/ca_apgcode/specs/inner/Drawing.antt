-- Cells that are drawn while a text is read.
use Rattle.std.specs.Prelude.{◌≡◌, ◌≢◌, ℕ, ◌+◌, ◌*◌, ◌^◌, ◌<◌, ◌≤◌, ◌⊎◌, List, ◌∷◌, ◌++◌, slice_index, slice_set, None, bit_or}
use Rattle.ca_apgcode.specs.{Representation.Step, Representation.IsStep, Representation.step_text, inner.Reading.step_at}
use Rattle.ca_apgcode.specs.declared.drawing.Drawing.{Drawing}

-- the next strip begins
pub record EndsStrip (old new : Drawing) (bytes rest : List ℕ) : Type 0 where
  pub text : bytes ≡ 122 ∷ rest
  pub columns : new.columns.items ≡ old.columns.items
  pub x : new.x ≡ 0
  pub y : new.y ≡ old.y + 5
  pub room : new.y < 40

-- a step is drawn
pub record DrawsStep (old new : Drawing) (bytes rest : List ℕ) : Type 0 where
  pub step : Step
  pub is_step : IsStep step
  pub text : bytes ≡ step_text step ++ rest
  pub columns : new.columns.items ≡ slice_set old.columns.items (old.x + step.gap) (bit_or (slice_index old.columns.items (old.x + step.gap)) (step.column * 2 ^ old.y))
  pub x : new.x ≡ old.x + step.gap + 1
  pub y : new.y ≡ old.y
  pub room : old.x + step.gap < 40

-- one of both
abbrev pub Draws : Drawing → Drawing → List ℕ → List ℕ → Type 0
Draws old new bytes rest = EndsStrip old new bytes rest ⊎ DrawsStep old new bytes rest

-- there is no room for the strip that begins
pub record LacksRows (drawing : Drawing) (bytes : List ℕ) : Type 0 where
  pub rest : List ℕ
  pub text : bytes ≡ 122 ∷ rest
  pub full : 40 ≤ drawing.y + 5

-- there is no room for the step
pub record LacksColumns (drawing : Drawing) (bytes : List ℕ) : Type 0 where
  pub step : Step
  pub rest : List ℕ
  pub is_step : IsStep step
  pub text : bytes ≡ step_text step ++ rest
  pub full : 40 ≤ drawing.x + step.gap

-- neither a step nor another strip is at the front
pub record LacksStep (bytes : List ℕ) : Type 0 where
  pub no_strip : (rest : List ℕ) → bytes ≢ 122 ∷ rest
  pub no_step : step_at bytes ≡ None

-- why nothing is drawn
abbrev pub IsStuck : Drawing → List ℕ → Type 0
IsStuck drawing bytes = LacksRows drawing bytes ⊎ (LacksColumns drawing bytes ⊎ LacksStep bytes)
