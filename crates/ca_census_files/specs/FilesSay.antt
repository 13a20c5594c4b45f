-- What the claim text over the files of a census says, read as a claim text.
use Rattle.std.specs.Prelude.{ℕ, ◌+◌, ◌≤◌, suc, List, [], ◌∷◌, ◌++◌, map, Vec}
use Rattle.std.specs.declared.alloc.Global.{Global}
use Rattle.ca_plane.specs.Prelude.{Picture, IsWord, most_generations}
use Rattle.ca_rule.specs.Prelude.{RuleValue}
use Rattle.ca_text.specs.declared.kind.Kind.TheVariants.{Becomes}
use Rattle.ca_text.specs.Prelude.{ClaimTextLine, Version, Rule, Load, Claims}
use Rattle.ca_identify_lines.specs.CatalogSays.{claim_line, AreRuleWords, SaysOf}
use Rattle.ca_report.specs.Outside.{path_in}
use Rattle.ca_census.specs.declared.{census.Census.Census, entry.CensusObject.CensusObject, reach.Reach.Reach}
use Rattle.ca_census.specs.Prelude.{IsCensusUnder}
use Rattle.ca_census_files.specs.{Names.object_name, Names.settled_name, Names.rle_file, Files.files_text}

-- a name is loaded from the file of its pattern in the folder
abbrev pub load_says : (folder name : List ℕ) → ClaimTextLine
load_says folder name = Load name (path_in folder (rle_file name))

-- the file of this path and the settled plane, and that the one becomes the other
abbrev pub becomes_says : (folder name path : List ℕ) → (generations : ℕ) → List ClaimTextLine
becomes_says folder name path generations = Load name path ∷ load_says folder (settled_name name)
    ∷ Claims (record { patterns = record { first = name; second = settled_name name }; kind = Becomes generations }) ∷ []

-- an object with this name, and the claim that says what it is
abbrev pub object_says : (folder name : List ℕ) → CensusObject → List ClaimTextLine
object_says folder name object = load_says folder name ∷ claim_line name object.kind ∷ []

-- those of all objects, numbered from `number` on
abbrev pub all_objects_say : (folder name : List ℕ) → (number : ℕ) → List CensusObject → List ClaimTextLine
all_objects_say folder name number [] = []
all_objects_say folder name number (o ∷ os) = object_says folder (object_name name number) o ++ all_objects_say folder name (suc number) os

-- the version, the rule files, what the file becomes, and what each object is
abbrev pub files_say : (folder : List ℕ) → (rules : List (Vec ℕ Global)) → (name path : List ℕ) → (generations : ℕ) → List CensusObject → List ClaimTextLine
files_say folder rules name path generations objects = Version ∷ (map (λ (path : Vec ℕ Global). Rule path.items) rules
    ++ (becomes_says folder name path generations ++ all_objects_say folder name 1 objects))

-- where the folder, the name and the paths are words, the claim text over the files of a census that some cells have under some rule is a claim text, and
-- says just that
abbrev pub FilesSayTheirClaims : Type 0
FilesSayTheirClaims = (folder : List ℕ) (rules : List (Vec ℕ Global)) (start : ℕ) (name path : List ℕ) (rule : RuleValue) (cells : Picture) (reach : Reach)
    (census : Census) → IsWord folder → AreRuleWords rules → IsWord name → IsWord path → start + census.generations ≤ most_generations
    → IsCensusUnder rule cells reach census → SaysOf (files_text folder rules name path (start + census.generations) census.objects.items)
    (files_say folder rules name path (start + census.generations) census.objects.items)
