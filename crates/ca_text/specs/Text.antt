-- Claim texts: which lines say what (our own format; docs/CLAIMS.md).
use Rattle.std.specs.Prelude.{◌≡◌, ℕ, ◌+◌, List, [], ◌∷◌, ◌++◌, map, Bool, true, false, not, Option, Some, None, IsSome, unwrap_or, codes, filter, if◌then◌else◌}
use Rattle.std.specs.Str.{bytes_eq}
use Rattle.std.specs.Bool.{nat_eq}
use Rattle.std.specs.List.{starts_with}
use Rattle.ca_plane.specs.Prelude.{lines_of, words_of}
use Rattle.ca_text.specs.declared.{both.Both.Both, kind.Kind.Kind, line.Claim.Claim as ClaimOf}
use Rattle.ca_text.specs.{Both.map_both, Both.HoldsOfBoth, Kinds.WordsClaim, Kinds.is_of_second_version, Kinds.HasGoodNumbers}

-- a claim about patterns, which are given by their names in a text, and by the paths of their files once names are resolved
abbrev pub Claim : Type 0
Claim = ClaimOf (List ℕ)

-- the same claim, with f of what gives each pattern
abbrev pub map_patterns : {P Q : Type 0} → (P → Q) → ClaimOf P → ClaimOf Q
map_patterns f claim = record { patterns = map_both f claim.patterns; kind = claim.kind }

-- what a line says: that the text is of the second version of the language, that a rule table is at a path, that a name is loaded from a
-- path, or a claim
pub data ClaimTextLine : Type 0 where
  Version : ClaimTextLine
  Rule : (path : List ℕ) → ClaimTextLine
  Load : (name path : List ℕ) → ClaimTextLine
  Claims : (claim : Claim) → ClaimTextLine

-- a line without words says nothing, nor does one whose first word begins with `#`
abbrev pub is_skipped : List (List ℕ) → Bool
is_skipped [] = true
is_skipped (w ∷ ws) = starts_with nat_eq w (codes "#")

-- lines that say this begin a text of the second version
abbrev pub is_second : List ClaimTextLine → Bool
is_second [] = false
is_second (Version ∷ ls) = true
is_second (l ∷ ls) = false

-- after lines that say this a claim of this kind may stand: one that came with the second version stands in a text of that version
abbrev pub IsKindAfter : List ClaimTextLine → Kind → Type 0
IsKindAfter earlier kind = is_of_second_version kind ≡ true → is_second earlier ≡ true

-- what a line says by its words, after what earlier lines say: `claims 2`, before all others; `rule PATH`; `load NAME PATH`; or a claim
abbrev pub ClaimWordsSay : List ClaimTextLine → List (List ℕ) → ClaimTextLine → Type 0
ClaimWordsSay earlier words Version = (words ≡ codes "claims" ∷ codes "2" ∷ []) × (earlier ≡ [])
ClaimWordsSay earlier words (Rule path) = words ≡ codes "rule" ∷ path ∷ []
ClaimWordsSay earlier words (Load name path) = words ≡ codes "load" ∷ name ∷ path ∷ []
ClaimWordsSay earlier words (Claims claim) = WordsClaim words claim.patterns claim.kind × IsKindAfter earlier claim.kind

-- the path that a name is loaded from
abbrev pub path_of : List ClaimTextLine → List ℕ → Option (List ℕ)
path_of [] name = None
path_of (Version ∷ ls) name = path_of ls name
path_of (Rule path ∷ ls) name = path_of ls name
path_of (Load loaded path ∷ ls) name = if bytes_eq loaded name then Some path else path_of ls name
path_of (Claims claim ∷ ls) name = path_of ls name

-- both names are loaded on one of the lines each
abbrev pub AreLoaded : List ClaimTextLine → Both (List ℕ) → Type 0
AreLoaded earlier names = HoldsOfBoth (λ n. IsSome (path_of earlier n)) names

-- a rule table may be anywhere; a name is loaded once; and a claim has good numbers, and its names are loaded on earlier lines
abbrev pub IsAllowedLine : List ClaimTextLine → ClaimTextLine → Type 0
IsAllowedLine earlier Version = Unit {0}
IsAllowedLine earlier (Rule path) = Unit {0}
IsAllowedLine earlier (Load name path) = path_of earlier name ≡ None
IsAllowedLine earlier (Claims claim) = HasGoodNumbers claim.kind × AreLoaded earlier claim.patterns

-- lines that follow what earlier ones say, and what each of them says
abbrev pub ClaimLinesSay : List ClaimTextLine → List (List ℕ) → List (Option ClaimTextLine) → Type 0
ClaimLinesSay earlier [] [] = Unit {0}
ClaimLinesSay earlier [] (s ∷ said) = ⊥
ClaimLinesSay earlier (l ∷ ls) [] = ⊥
ClaimLinesSay earlier (l ∷ ls) (None ∷ said) = (is_skipped (words_of l) ≡ true) × ClaimLinesSay earlier ls said
ClaimLinesSay earlier (l ∷ ls) (Some line ∷ said) =
    (is_skipped (words_of l) ≡ false) × ClaimWordsSay earlier (words_of l) line × IsAllowedLine earlier line × ClaimLinesSay (earlier ++ line ∷ []) ls said

-- the bytes are a claim text, whose lines say this, one after another
abbrev pub IsClaimText : List ℕ → List (Option ClaimTextLine) → Type 0
IsClaimText bytes said = ClaimLinesSay [] (lines_of bytes) said

-- what the lines say that aren't skipped
abbrev pub said_lines : List (Option ClaimTextLine) → List ClaimTextLine
said_lines [] = []
said_lines (None ∷ said) = said_lines said
said_lines (Some line ∷ said) = line ∷ said_lines said

-- the paths of the rule tables, in the order of their lines
abbrev pub rule_paths : List (Option ClaimTextLine) → List (List ℕ)
rule_paths [] = []
rule_paths (None ∷ said) = rule_paths said
rule_paths (Some Version ∷ said) = rule_paths said
rule_paths (Some (Rule path) ∷ said) = path ∷ rule_paths said
rule_paths (Some (Load name path) ∷ said) = rule_paths said
rule_paths (Some (Claims claim) ∷ said) = rule_paths said

-- the paths of the rule tables and of the names that are loaded, in the order of their lines
abbrev pub file_paths : List (Option ClaimTextLine) → List (List ℕ)
file_paths [] = []
file_paths (None ∷ said) = file_paths said
file_paths (Some Version ∷ said) = file_paths said
file_paths (Some (Rule path) ∷ said) = path ∷ file_paths said
file_paths (Some (Load name path) ∷ said) = path ∷ file_paths said
file_paths (Some (Claims claim) ∷ said) = file_paths said

-- each once, in the order in which they first appear
abbrev pub paths_once : List (List ℕ) → List (List ℕ)
paths_once [] = []
paths_once (p ∷ ps) = p ∷ filter (λ q. not (bytes_eq q p)) (paths_once ps)

-- the claims with the numbers of their lines, of which the first is n; each about names, with the paths that earlier lines
-- load them from
abbrev pub claims_from : ℕ → List ClaimTextLine → List (Option ClaimTextLine) → List (ℕ × ClaimOf (List ℕ × List ℕ))
claims_from n earlier [] = []
claims_from n earlier (None ∷ said) = claims_from (n + 1) earlier said
claims_from n earlier (Some Version ∷ said) = claims_from (n + 1) (earlier ++ Version ∷ []) said
claims_from n earlier (Some (Rule path) ∷ said) = claims_from (n + 1) (earlier ++ Rule path ∷ []) said
claims_from n earlier (Some (Load name path) ∷ said) = claims_from (n + 1) (earlier ++ Load name path ∷ []) said
claims_from n earlier (Some (Claims claim) ∷ said) =
    (n, map_patterns (λ name. (name, unwrap_or (path_of earlier name) [])) claim) ∷ claims_from (n + 1) (earlier ++ Claims claim ∷ []) said

-- such a claim, about the paths alone
abbrev pub by_path : ℕ × ClaimOf (List ℕ × List ℕ) → ℕ × Claim
by_path c = (c.0, map_patterns (λ p. p.1) c.1)

-- the names and paths of its patterns
abbrev pub named_patterns : ℕ × ClaimOf (List ℕ × List ℕ) → Both (List ℕ × List ℕ)
named_patterns c = c.1.patterns

-- what a claim text asks: the paths of its files, each once; those of the rule tables, one for each of their lines; its claims
-- with the numbers of their lines; and for each claim the names and paths of its patterns
pub record ClaimText : Type 0 where
  pub paths : List (List ℕ)
  pub rules : List (List ℕ)
  pub claims : List (ℕ × Claim)
  pub patterns : List (Both (List ℕ × List ℕ))

-- what the lines of a text ask; lines are counted from 1, skipped ones too
abbrev pub asked_by : List (Option ClaimTextLine) → ClaimText
asked_by said = record {
  paths = paths_once (file_paths said);
  rules = rule_paths said;
  claims = map by_path (claims_from 1 [] said);
  patterns = map named_patterns (claims_from 1 [] said);
}

-- what the text asks with one more line at its end, which says that a rule table is at the path
abbrev pub with_rule_line : ClaimText → List ℕ → ClaimText
with_rule_line asked path = record {
  paths = paths_once (asked.paths ++ path ∷ []);
  rules = asked.rules ++ path ∷ [];
  claims = asked.claims;
  patterns = asked.patterns;
}
