-- The files of a census (our own; docs/CLAIMS.md).
use Rattle.std.specs.Prelude.{◌≡◌, ℕ, ◌+◌, ◌≤◌, ◌<◌, suc, List, [], ◌∷◌, ◌++◌, map, Vec, ⊤}
use Rattle.std.specs.declared.alloc.Global.{Global}
use Rattle.std.specs.List.{Any}
use Rattle.ca_plane.specs.Prelude.{Picture, cell, generation_limit, HasFewCells}
use Rattle.ca_pattern.specs.Prelude.{HasCellOutOfRange}
use Rattle.ca_rle.specs.Prelude.{IsWrittenRle}
use Rattle.ca_text.specs.declared.kind.Kind.TheVariants.{Becomes}
use Rattle.ca_answers.specs.declared.identity.Identity.TheVariants.{Claim}
use Rattle.ca_identify_lines.specs.Prelude.{load_line, claim_words, identity_line, code_lines, catalog_head}
use Rattle.ca_report.specs.Outside.{path_in}
use Rattle.ca_census.specs.declared.{census.Census.Census, entry.CensusObject.CensusObject, file.Origin.Origin}
use Rattle.ca_census_files.specs.declared.{folder.NewFile.NewFile, files.FilesFault.FilesFault}
use Rattle.ca_census_files.specs.declared.files.FilesFault.TheVariants.{GenTooLarge, Range, Memory}
use Rattle.ca_census_files.specs.{Names.object_name, Names.settled_name, Names.rle_file, Names.claims_file}

-- the file of the pattern with this name: the one tidy RLE of its cells, few enough to be read, with the printed form of the rule and the generation
pub record IsPatternFile (name : List ℕ) (cells : Picture) (origin : Origin) (generation : ℕ) (file : NewFile) : Type 0 where
  pub name_is : file.name.items ≡ rle_file name
  pub few : HasFewCells (cell cells)
  pub bytes : IsWrittenRle file.bytes.items cells origin.rule_text.items generation origin.states

-- the file of each object, in their order, numbered from `number` on
abbrev pub AreObjectFiles : List ℕ → (number : ℕ) → List CensusObject → Origin → (generation : ℕ) → List NewFile → Type 0
AreObjectFiles name number [] origin generation [] = ⊤
AreObjectFiles name number [] origin generation (f ∷ fs) = ⊥
AreObjectFiles name number (o ∷ os) origin generation [] = ⊥
AreObjectFiles name number (o ∷ os) origin generation (f ∷ fs) =
    IsPatternFile (object_name name number) o.plane origin generation f × AreObjectFiles name (suc number) os origin generation fs

-- the line that gives a name to the file of this name's pattern in the folder
abbrev pub pattern_load_line : (folder name : List ℕ) → List ℕ
pattern_load_line folder name = load_line name (path_in folder (rle_file name))

-- the claim that a pattern becomes a second one after so many generations
abbrev pub becomes_line : (name second : List ℕ) → (generations : ℕ) → List ℕ
becomes_line name second generations = claim_words name second (Becomes generations)

-- what the file of this path becomes
abbrev pub becomes_lines : (folder name path : List ℕ) → (generations : ℕ) → List ℕ
becomes_lines folder name path generations =
    load_line name path ++ (pattern_load_line folder (settled_name name) ++ becomes_line name (settled_name name) generations)

-- what an object with this name is
abbrev pub object_claim_lines : (folder name : List ℕ) → CensusObject → List ℕ
object_claim_lines folder name object = pattern_load_line folder name ++ (identity_line 0 name (Claim object.kind) ++ code_lines 0 name object.code)

-- what each object is, numbered from `number` on
abbrev pub all_object_claims : (folder name : List ℕ) → (number : ℕ) → List CensusObject → List ℕ
all_object_claims folder name number [] = []
all_object_claims folder name number (o ∷ os) = object_claim_lines folder (object_name name number) o ++ all_object_claims folder name (suc number) os

-- the claim text: the rule files, what the file becomes, and what each object is
abbrev pub files_text : (folder : List ℕ) → (rules : List (Vec ℕ Global)) → (name path : List ℕ) → (generations : ℕ) → List CensusObject → List ℕ
files_text folder rules name path generations objects =
    catalog_head rules ++ (becomes_lines folder name path generations ++ all_object_claims folder name 1 objects)

-- the files of a census that begins so many generations after a file of this path: one of each object, one of the settled plane, and the claim text
pub record AreCensusFiles (folder : List ℕ) (rules : List (Vec ℕ Global)) (start : ℕ) (name path : List ℕ) (origin : Origin) (census : Census)
    (files : List NewFile) : Type 0 where
  pub of_objects : List NewFile
  pub settled : NewFile
  pub claims : NewFile
  pub all : files ≡ of_objects ++ settled ∷ claims ∷ []
  pub objects_are : AreObjectFiles name 1 census.objects.items origin (origin.generation + (start + census.generations)) of_objects
  pub settled_is : IsPatternFile (settled_name name) census.plane origin (origin.generation + (start + census.generations)) settled
  pub claims_name : claims.name.items ≡ claims_file name
  pub claims_are : claims.bytes.items ≡ files_text folder rules name path (start + census.generations) census.objects.items

-- why there are no files: the generation is too large; or it isn't, and the plane or an object has a live cell where no file may have one; or memory is out
abbrev pub HasNoFiles : (start : ℕ) → Origin → Census → FilesFault → Type 0
HasNoFiles start origin census GenTooLarge = generation_limit ≤ origin.generation + (start + census.generations)
HasNoFiles start origin census Range = (origin.generation + (start + census.generations) < generation_limit)
    × Any (λ cells. HasCellOutOfRange (cell cells)) (census.plane ∷ map (λ o. o.plane) census.objects.items)
HasNoFiles start origin census Memory = ⊤
