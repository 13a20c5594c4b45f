-- What the text that `identify` prints says, read as a claim text.
use Rattle.std.specs.Prelude.{◌≡◌, ℕ, List, [], ◌∷◌, ◌++◌, map, true, Option, Vec, nat_eq, if◌then◌else◌}
use Rattle.std.specs.declared.alloc.Global.{Global}
use Rattle.std.specs.List.{flat_map, AllByRecursion}
use Rattle.ca_text.specs.declared.kind.Kind.{Kind}
use Rattle.ca_answers.specs.declared.identity.Identity.{Identity}
use Rattle.ca_answers.specs.declared.identity.Identity.TheVariants.{Empty, Claim, Unknown}
use Rattle.ca_text.specs.Prelude.{twice, ClaimTextLine, Version, Rule, Load, Claims, IsClaimText, said_lines}
use Rattle.ca_identify_lines.specs.declared.{entry.Outcome.Outcome, entry.Entry.Entry, entry.Subject.Subject, known_rules.KnownRules.KnownRules, task.Task.Task}
use Rattle.ca_identify_lines.specs.declared.entry.Outcome.TheVariants.{Identified}
use Rattle.ca_identify_lines.specs.{Names.is_word, Catalog.IsCatalog}

-- a claim of this kind about the pattern of a name
abbrev pub claim_line : List ℕ → Kind → ClaimTextLine
claim_line name kind = Claims (record { patterns = twice name; kind = kind })

-- the claim that says what a pattern is; none where none of them is true of it
abbrev pub identity_says : List ℕ → Identity → List ClaimTextLine
identity_says name Empty = []
identity_says name (Claim kind) = claim_line name kind ∷ []
identity_says name (Unknown growth) = []

-- the same where it is found of the pattern itself; of its plane after some generations no line is a claim
abbrev pub found_says : ℕ → List ℕ → Identity → List ClaimTextLine
found_says n name identity = if nat_eq n 0 then identity_says name identity else []

-- the name of a file that is identified, and its claim; nothing of any other file
abbrev pub outcome_says : ℕ → List ℕ → List ℕ → Outcome → List ClaimTextLine
outcome_says n name path (Identified found settles) = Load name path ∷ found_says n name found.look.identity
outcome_says n name path outcome = []

abbrev pub entry_says : ℕ → Entry → List ClaimTextLine
entry_says n entry = outcome_says n entry.name.items entry.path.now entry.outcome

-- the version, the rule files, and each file's lines
abbrev pub catalog_says : ℕ → List (Vec ℕ Global) → List Entry → List ClaimTextLine
catalog_says n paths entries = Version ∷ (map (λ (path : Vec ℕ Global). Rule path.items) paths ++ flat_map (entry_says n) entries)

-- the text is a claim text, and its lines that aren't skipped say just this
pub record SaysOf (text : List ℕ) (lines : List ClaimTextLine) : Type 0 where
  pub said : List (Option ClaimTextLine)
  pub reads : IsClaimText text said
  pub says : said_lines said ≡ lines

-- each rule file's path is a word
abbrev pub AreRuleWords : List (Vec ℕ Global) → Type 0
AreRuleWords paths = AllByRecursion (λ (path : Vec ℕ Global). is_word path.items ≡ true) paths

-- the text that `identify` prints says just the claims that are true of the patterns, and so does what is printed of it
-- after each file, which is the text on the files up to that one; after some generations it makes no claim
abbrev pub SaysItsClaims : Type 0
SaysItsClaims = (subjects : List Subject) (rules : KnownRules) (task : Task) (text : List ℕ) (entries : List Entry) → AreRuleWords rules.paths.now
    → IsCatalog rules task subjects text entries → SaysOf text (catalog_says task.generations rules.paths.now entries)
