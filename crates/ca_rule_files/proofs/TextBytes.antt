-- Texts of bytes that are plain and no `:`.
use Rattle.std.proofs.Common.{◌≡◌, ℕ, List, ◌∷◌, Bool, false, not, ◌==◌, ◌&&◌, ap, ◌∙◌}
use Rattle.std.proofs.lemmas.Bool.{and_parts, not-true}
use Rattle.ca_plane.specs.Prelude.{Every}
use Rattle.ca_rule.specs.Prelude.{has_colon}
use Rattle.ca_rule.proofs.Ends.{none_colon}
use Rattle.ca_rule_files.proofs.WrittenTables.{is_plain}

abbrev pub is_text_byte : ℕ → Bool
is_text_byte b = is_plain b && not (b == 58)

-- one such byte or more
pub record IsText (text : List ℕ) : Type 0 where
  pub first : ℕ
  pub others : List ℕ
  pub all : Every is_text_byte (first ∷ others)
  pub form : text ≡ first ∷ others

pub no-colon : (text : List ℕ) → IsText text → has_colon text ≡ false
no-colon text is = ap has_colon is.form ∙ none_colon is_text_byte (λ b h. not-true (b == 58) (and_parts (is_plain b) (not (b == 58)) h).1) (is.first ∷ is.others) is.all
