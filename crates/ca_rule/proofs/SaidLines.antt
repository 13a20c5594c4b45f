-- The lines of a rule file, one after another.
use Rattle.std.proofs.Common.{◌≡◌, ◌==◌, ◌≤◌, ℕ, ◌+◌, Bool, not, List, [], ◌∷◌, length, refl, ap, ◌∙◌, inl, inr}
use Rattle.std.specs.List.{list_all}
use Rattle.std.proofs.lemmas.Bool.{cases_Bool, and_parts, and_from}
use Rattle.ca_plane.specs.Prelude.{is_blank, is_line_end, Every, front, rest, without_last_blanks}
use Rattle.ca_plane.proofs.Fronts.{front_then_rest, every_left, every_rest}
use Rattle.ca_rule.specs.Prelude.{content_of}
use Rattle.ca_rule.specs.declared.table.said_lines.SaidLines.{SaidLines}
use Rattle.ca_rule.specs.inner.TableReading.{said_from, left_of}

-- the lines that are left are among the bytes that are left
pub record IsAhead (lines : SaidLines) (read : ℕ) (left : List ℕ) : Type 0 where
  pub same : left_of lines ≡ said_from (read + 1) left
  pub room : read + length left ≤ lines.read + length lines.left.now
  pub shorter : length left ≤ length lines.left.now

-- bytes that all pass a test do so before the last blanks too
ends-every : (test : ℕ → Bool) (bytes : List ℕ) → Every test bytes → Every test (without_last_blanks bytes)
ends-every test [] h = refl
ends-every test (b ∷ bs) h =
    let parts = and_parts (test b) (list_all test bs) h in
    elim (cases_Bool (list_all is_blank (b ∷ bs))) [
      | inl s ↦ rw s refl
      | inr s ↦ rw s (and_from (test b) (list_all test (without_last_blanks bs)) parts.0 (ends-every test bs parts.1))
    ]

-- what a line says has no line end
pub content-every : (line : List ℕ) → Every (λ b. not (is_line_end b)) line → Every (λ b. not (is_line_end b)) (content_of line)
content-every line h =
    let test : ℕ → Bool = λ b. not (is_line_end b) in
    let said : ℕ → Bool = λ b. not (b == 35) in
    let all = every_left test (front said line) (rest said line) (ap (list_all test) (front_then_rest said line) ∙ h) in
    ends-every test (rest is_blank (front said line)) (every_rest is_blank test (front said line) all)
