-- The first faulty line of a claim text (our own; docs/CLAIMS.md).
use Rattle.std.specs.Prelude.{◌≡◌, ◌≢◌, ℕ, ◌+◌, List, [], ◌∷◌, ◌++◌, length, false, Option, IsSome}
use Rattle.ca_plane.specs.Prelude.{lines_of, words_of}
use Rattle.ca_text.specs.declared.fault.ClaimFault.{ClaimFault}
use Rattle.ca_text.specs.declared.fault.ClaimFault.TheVariants.{Syntax, Number, UnknownName, NameTaken, Memory}
use Rattle.ca_text.specs.Kinds.{HasGoodNumbers}
use Rattle.ca_text.specs.Text.{Claim, ClaimTextLine, Version, Load, Claims, is_skipped, ClaimWordsSay, path_of, AreLoaded, IsAllowedLine, ClaimLinesSay, said_lines}

-- good lines are followed by a line, the n-th of the text; this holds of what the good lines say, and of its words
pub record HasClaimLine (bytes : List ℕ) (n : ℕ) (P : List ClaimTextLine → List (List ℕ) → Type 0) : Type 0 where
  pub before : List (List ℕ)
  pub line : List ℕ
  pub later : List (List ℕ)
  pub said : List (Option ClaimTextLine)
  pub good : ClaimLinesSay [] before said
  pub among : lines_of bytes ≡ before ++ line ∷ later
  pub number : n ≡ length before + 1
  pub holds : P (said_lines said) (words_of line)

-- the words say nothing that a line may say there: another keyword, another count of words, no number where there must be one, `claims`
-- after another line or with another word than `2`, or a claim of the second version in a text that doesn't begin with `claims 2`
abbrev pub AreMisspelledClaimWords : List ClaimTextLine → List (List ℕ) → Type 0
AreMisspelledClaimWords earlier words = (is_skipped words ≡ false) × ((line : ClaimTextLine) → ClaimWordsSay earlier words line → ⊥)

-- a claim with a number outside its limits
abbrev pub HaveBadNumber : List ClaimTextLine → List (List ℕ) → Type 0
HaveBadNumber earlier words = (is_skipped words ≡ false) × (claim : Claim) × ClaimWordsSay earlier words (Claims claim) × (HasGoodNumbers claim.kind → ⊥)

-- a claim with good numbers, about a name that no earlier line loads
abbrev pub AskUnknown : List ClaimTextLine → List (List ℕ) → Type 0
AskUnknown earlier words =
    (is_skipped words ≡ false) × (claim : Claim) × ClaimWordsSay earlier words (Claims claim) × HasGoodNumbers claim.kind × (AreLoaded earlier claim.patterns → ⊥)

-- a name that an earlier line loads is loaded again
abbrev pub LoadTaken : List ClaimTextLine → List (List ℕ) → Type 0
LoadTaken earlier words =
    (is_skipped words ≡ false) × (name : List ℕ) × (path : List ℕ) × ClaimWordsSay earlier words (Load name path) × IsSome (path_of earlier name)

-- a good line that takes memory: a rule table, a name that no earlier line loads, or a claim with good numbers about names that earlier
-- lines load
abbrev pub NeedMemory : List ClaimTextLine → List (List ℕ) → Type 0
NeedMemory earlier words = (is_skipped words ≡ false) × (line : ClaimTextLine) × ClaimWordsSay earlier words line × IsAllowedLine earlier line × (line ≢ Version)

-- the text's first fault, with the number of its line; a text is out of memory only at a good line that takes some, after good lines
abbrev pub IsFirstClaimFault : List ℕ → ClaimFault → Type 0
IsFirstClaimFault bytes (Syntax n) = HasClaimLine bytes n AreMisspelledClaimWords
IsFirstClaimFault bytes (Number n) = HasClaimLine bytes n HaveBadNumber
IsFirstClaimFault bytes (UnknownName n) = HasClaimLine bytes n AskUnknown
IsFirstClaimFault bytes (NameTaken n) = HasClaimLine bytes n LoadTaken
IsFirstClaimFault bytes Memory = (n : ℕ) × HasClaimLine bytes n NeedMemory
