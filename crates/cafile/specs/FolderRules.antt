-- Rule files of a folder that the patterns of some files name.
use Rattle.std.specs.Prelude.{◌≡◌, ℕ, List, [], ◌∷◌, Option, None, Some, unwrap_or}
use Rattle.ca_answers.specs.declared.cause.Cause.TheVariants as cause
use Rattle.ca_host.specs.Files.{Gives, Lacks}
use Rattle.ca_host.specs.RuleFiles.{Kept}
use Rattle.ca_host.specs.Lookups.{FindsOnce, SearchesOn}
use Rattle.ca_host.specs.declared.lookups.NamedLookup.{NamedLookup}
use Rattle.cafile.specs.declared.identify.FileContent.{FileContent}
use Rattle.cafile.specs.declared.identify.FileContent.TheVariants.{Bytes, Missing, FaultyRule}
use Rattle.cafile.specs.declared.identify.PathContent.{PathContent}

-- the names that were looked for so far, with what there was for each, and the rule files
pub record Search : Type 0 where
  pub looks : List NamedLookup
  pub rules : Kept

-- what stands in place of what a file gave once the rule file of its pattern was looked for: nothing, where that is good, isn't there or isn't needed; the rule file, where it is faulty; or want of memory
abbrev pub IsFailure : Gives → Lacks → (folder : List ℕ) → FileContent → Option FileContent → (old new : Search) → Type 0
IsFailure gives lacks folder (Bytes bytes) None old new = FindsOnce gives lacks folder bytes.items None old.looks new.looks old.rules new.rules
IsFailure gives lacks folder (Bytes bytes) (Some (FaultyRule faulty)) old new = FindsOnce gives lacks folder bytes.items (Some faulty) old.looks new.looks old.rules new.rules
IsFailure gives lacks folder (Bytes bytes) (Some (Missing why)) old new = (why ≡ cause.Memory) × (new.rules ≡ old.rules) × SearchesOn gives lacks folder bytes.items old.looks new.looks old.rules
IsFailure gives lacks folder (Bytes bytes) (Some (Bytes other)) old new = ⊥
IsFailure gives lacks folder (Missing why) found old new = (found ≡ None) × (new ≡ old)
IsFailure gives lacks folder (FaultyRule faulty) found old new = (found ≡ None) × (new ≡ old)

-- the same of a file, which keeps its path
pub record FindsRule (gives : Gives) (lacks : Lacks) (folder : List ℕ) (old new : PathContent) (was is : Search) : Type 0 where
  pub path : new.path.now ≡ old.path.now
  pub failure : Option FileContent
  pub is_failure : IsFailure gives lacks folder old.content failure was is
  pub content : new.content ≡ unwrap_or failure old.content

-- the same of one file after the other
abbrev pub FindsEach : Gives → Lacks → (folder : List ℕ) → (olds news : List PathContent) → (was is : Search) → Type 0
FindsEach gives lacks folder [] [] was is = is ≡ was
FindsEach gives lacks folder (old ∷ olds) (new ∷ news) was is =
    (mid : Search) × FindsRule gives lacks folder old new was mid × FindsEach gives lacks folder olds news mid is
FindsEach gives lacks folder olds news was is = ⊥

-- the same from when no name was looked for
abbrev pub FindsRules : Gives → Lacks → (folder : List ℕ) → (olds news : List PathContent) → (old new : Kept) → Type 0
FindsRules gives lacks folder olds news old new =
    (looks : List NamedLookup) × FindsEach gives lacks folder olds news (record { looks = []; rules = old }) (record { looks = looks; rules = new })
