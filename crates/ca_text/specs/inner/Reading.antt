-- How a claim text is read, a line at a time.
use Rattle.std.specs.Prelude.{◌≡◌, ℕ, ◌<◌, ◌^◌, ℤ, pos, neg_ℤ, ◌≤ℤ◌, ◌<ℤ◌, ◌≢◌, List, [], map, slice_get, length, All, MatchOption, true, false, Option, None, Some, IsSome, unwrap_or}
use Rattle.std.specs.Borrow.{Bor}
use Rattle.std.specs.HashMap.{HashMap, get_by}
use Rattle.std.specs.Str.{bytes_eq}
use Rattle.ca_text.specs.declared.{line.Claim.Claim as ClaimOf, line.ClaimLine.ClaimLine, kind.Kind.Kind, line.NamePlace.NamePlace, reading.Reading.Reading, line_kind.LineKind.LineKind}
use Rattle.ca_text.specs.declared.{version.TextVersion.TextVersion, fault.ClaimFault.ClaimFault}
use Rattle.ca_text.specs.declared.line_kind.LineKind.TheVariants.{Skipped, Version, Rule, Load, Claim, OutsideLimits, Misspelled}
use Rattle.ca_text.specs.declared.version.TextVersion.TheVariants.{Open, First, Second}
use Rattle.ca_text.specs.declared.fault.ClaimFault.TheVariants.{Syntax, Number, UnknownName, NameTaken, Memory}
use Rattle.ca_text.specs.{Both.HoldsOfBoth, Kinds.WordsClaim, Kinds.is_of_second_version, Kinds.IsShift, Kinds.HasGoodNumbers, Places.path_at, Places.claim_with_names, Places.IsNamed}
use Rattle.ca_text.specs.{TextFaults.AreMisspelledClaimWords, TextFaults.HaveBadNumber, TextFaults.AskUnknown, TextFaults.LoadTaken, TextFaults.NeedMemory}
use Rattle.ca_text.specs.Text as text

-- what a line claims, of patterns that are given by their names
abbrev pub claim_of : ClaimOf (Bor (List ℕ)) → text.Claim
claim_of claim = text.map_patterns (λ name. name.now) claim

-- a number is held as an i64: as itself where either of them is a shift
pub record IsHeldShift (n held : ℤ) : Type 0 where
  pub exact : IsShift n → n ≡ held
  pub sound : IsShift held → n ≡ held
  pub least : neg_ℤ (pos (2 ^ 63)) ≤ℤ held
  pub greatest : held <ℤ pos (2 ^ 63)

-- what is known of a text's version once lines have said this
abbrev pub IsVersionAfter : List text.ClaimTextLine → TextVersion → Type 0
IsVersionAfter earlier Open = earlier ≡ []
IsVersionAfter earlier First = (earlier ≢ []) × (text.is_second earlier ≡ false)
IsVersionAfter earlier Second = text.is_second earlier ≡ true

-- a kind of claim is held with numbers of 64 bits: as itself where either of them has good numbers; and it came with the same version
pub record IsHeldKind (kind held : Kind) : Type 0 where
  pub exact : HasGoodNumbers kind → kind ≡ held
  pub sound : HasGoodNumbers held → kind ≡ held
  pub version : is_of_second_version kind ≡ is_of_second_version held

-- no claim has these words
abbrev pub MakeNoClaim : List (List ℕ) → Type 0
MakeNoClaim words = (claim : text.Claim) → WordsClaim words claim.patterns claim.kind → ⊥

-- the words make a claim, which is held so
abbrev pub MakesClaim : List (List ℕ) → ClaimOf (Bor (List ℕ)) → Type 0
MakesClaim words held = (kind : Kind) × WordsClaim words (claim_of held).patterns kind × IsHeldKind kind held.kind

-- the claim that the words make, or that they make none
abbrev pub IsClaimOfWords : List (List ℕ) → Option (ClaimOf (Bor (List ℕ))) → Type 0
IsClaimOfWords words result = MatchOption result (MakeNoClaim words) (λ held. MakesClaim words held)

-- the kind of a line with these words, after what earlier lines say
abbrev pub IsKind : List text.ClaimTextLine → List (List ℕ) → LineKind → Type 0
IsKind earlier words Skipped = text.is_skipped words ≡ true
IsKind earlier words Version = (text.is_skipped words ≡ false) × text.ClaimWordsSay earlier words text.Version
IsKind earlier words (Rule path) = (text.is_skipped words ≡ false) × text.ClaimWordsSay earlier words (text.Rule path.now)
IsKind earlier words (Load name path) = (text.is_skipped words ≡ false) × text.ClaimWordsSay earlier words (text.Load name.now path.now)
IsKind earlier words (Claim held) =
    (text.is_skipped words ≡ false) × text.ClaimWordsSay earlier words (text.Claims (claim_of held)) × HasGoodNumbers held.kind
IsKind earlier words OutsideLimits =
    (text.is_skipped words ≡ false) × (claim : text.Claim) × text.ClaimWordsSay earlier words (text.Claims claim) × (HasGoodNumbers claim.kind → ⊥)
IsKind earlier words Misspelled = AreMisspelledClaimWords earlier words

-- the indices of a name and of its path
abbrev pub place_of : {S : Type 0} → HashMap (Bor (List ℕ)) NamePlace S → List ℕ → Option NamePlace
place_of names name = get_by (λ n. bytes_eq name n.now) names

-- both of a claim's names are known
abbrev pub AreKnownNames : (List ℕ → Option NamePlace) → text.Claim → Type 0
AreKnownNames places claim = HoldsOfBoth (λ n. IsSome (places n)) claim.patterns

-- the place of a name that is known
abbrev pub known_place : Option NamePlace → NamePlace
known_place place = unwrap_or place (record { name = 0; path = 0 })

-- the claim about the places of its names
abbrev pub at_places : (List ℕ → Option NamePlace) → text.Claim → ClaimOf NamePlace
at_places places claim = text.map_patterns (λ name. known_place (places name)) claim

-- where the name is loaded from a path, these are their indices
abbrev pub StandsAt : List (List ℕ) → List (List ℕ) → List ℕ → Option NamePlace → Option (List ℕ) → Type 0
StandsAt names paths name None found = found ≡ None
StandsAt names paths name (Some place) found =
    (path : List ℕ) × (slice_get names place.name ≡ Some name) × (slice_get paths place.path ≡ Some path) × (found ≡ Some path)

-- the names and paths, the places of the rule tables, the claims, and the places of the names, which are kept once the lines have said this
pub record KeepsClaimLines (said : List (Option text.ClaimTextLine)) (names paths : List (List ℕ))
    (rules : List ℕ) (claims : List (ClaimLine NamePlace)) (places : List ℕ → Option NamePlace) : Type 0 where
  pub once : paths ≡ text.paths_once (text.file_paths said)
  pub ruled : map (path_at paths) rules ≡ text.rule_paths said
  pub placed : All (λ i. i < length paths) rules
  pub asked : map (claim_with_names names paths) claims ≡ text.claims_from 1 [] said
  pub good : All (λ l. IsNamed names paths l.claim) claims
  pub known : (name : List ℕ) → StandsAt names paths name (places name) (text.path_of (text.said_lines said) name)

-- what is kept once the lines have said this
abbrev pub IsClaimReading : List (Option text.ClaimTextLine) → Reading → Type 0
IsClaimReading said reading =
    KeepsClaimLines said (map (λ name. name.items) reading.names.items) reading.paths reading.rules.items reading.claims.items (place_of reading.places)
    × IsVersionAfter (text.said_lines said) reading.version

-- the next line says this, after what earlier lines say
abbrev pub SaysNext : List text.ClaimTextLine → List (List ℕ) → Option text.ClaimTextLine → Type 0
SaysNext earlier words None = text.is_skipped words ≡ true
SaysNext earlier words (Some line) = (text.is_skipped words ≡ false) × text.ClaimWordsSay earlier words line × text.IsAllowedLine earlier line

-- the n-th line has this fault, after what earlier lines say
abbrev pub HasClaimFault : ℕ → List text.ClaimTextLine → List (List ℕ) → ClaimFault → Type 0
HasClaimFault n earlier words (Syntax line) = (line ≡ n) × AreMisspelledClaimWords earlier words
HasClaimFault n earlier words (Number line) = (line ≡ n) × HaveBadNumber earlier words
HasClaimFault n earlier words (UnknownName line) = (line ≡ n) × AskUnknown earlier words
HasClaimFault n earlier words (NameTaken line) = (line ≡ n) × LoadTaken earlier words
HasClaimFault n earlier words Memory = NeedMemory earlier words
