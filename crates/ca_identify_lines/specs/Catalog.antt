-- What `identify` prints: a claim text with the claims that are true of files, and the lines of `--explain` (our own; docs/CLAIMS.md).
use Rattle.std.specs.Prelude.{ℕ, List, length, [], ◌∷◌, ◌++◌, Bool, true, false, Option, None, Some, option_map, Vec, codes, decimal, nat_eq, if◌then◌else◌, ◌≡◌, ◌≢◌, ◌+◌, ◌^◌, ◌<◌, ◌⊎◌}
use Rattle.std.specs.declared.alloc.Global.{Global}
use Rattle.std.specs.Fmt.{signed_decimal}
use Rattle.std.specs.List.{flat_map, list_any, list_all, AllZip}
use Rattle.ca_answers.specs.declared.{cause.Cause.Cause, identity.Identity.Identity, identity.Growth.Growth, coded_look.CodedLook.CodedLook}
use Rattle.ca_answers.specs.declared.cause.Cause.TheVariants as causes
use Rattle.ca_pattern.specs.declared.{file.File.File, located_fault.LocatedFault.LocatedFault}
use Rattle.ca_report.specs.declared.{detailed_fault.DetailedFault.DetailedFault, fault.ToolFault.ToolFault}
use Rattle.ca_report.specs.declared.fault.ToolFault.TheVariants as tools
use Rattle.ca_report.specs.Prelude.{escaped, cause_remedy, bytes_of, remedy_line, at_line, rule_file_line, pattern_line, generations_word, side_length}
use Rattle.ca_plane.specs.Prelude.{Counted, Picture, cell, cells_after}
use Rattle.ca_parts.specs.Prelude.{Course, IsFirstSettled}
use Rattle.ca_clusters.specs.Prelude.{first_plane, AreClusters, AreObjects}
use Rattle.ca_rule.specs.Prelude.{TableRule, RuleValue, next_of}
use Rattle.ca_text.specs.declared.kind.Kind.{Kind}
use Rattle.ca_text.specs.Prelude.{keyword_of, words_after_name, spaced}
use Rattle.ca_answers.specs.declared.identity.Identity.TheVariants.{Empty, Claim, Unknown}
use Rattle.ca_answers.specs.Identified.{HoldsSmallPattern}
use Rattle.ca_answers.specs.Prelude.{IsLookAt, IsUnidentifiedAfter, IsCodeOfFile, IsUncodedAfter, cause_text}
use Rattle.ca_identify_lines.specs.declared.{known_rules.KnownRules.KnownRules, task.Task.Task, entry.Content.Content, entry.Subject.Subject, entry.Outcome.Outcome, entry.Entry.Entry, entry.Settles.Settles}
use Rattle.ca_identify_lines.specs.declared.entry.Content.TheVariants.{Bytes, Missing, FaultyRule}
use Rattle.ca_identify_lines.specs.declared.entry.Outcome.TheVariants as outcomes
use Rattle.ca_identify_lines.specs.declared.entry.Outcome.TheVariants.{Unnameable, Identified, Refused}
use Rattle.ca_identify_lines.specs.{Names.is_claim_path, Names.claim_name, Names.IsFreeName, FaultReports.IsBareReport, FaultReports.IsReportOf, WrittenOn.WritesOn}
use Rattle.ca_identify_lines.specs.{WrittenOn.WritesOnFirst, WrittenOn.WritesPartOn}

-- the line that gives a name to a file
abbrev pub load_line : List ℕ → List ℕ → List ℕ
load_line name path = codes "load " ++ (name ++ (32 ∷ (path ++ 10 ∷ [])))

-- the word for this number of cells
abbrev pub cells_word : ℕ → List ℕ
cells_word n = if nat_eq n 1 then codes " cell" else codes " cells"

-- how far a plane has grown: how many cells are live, and the width and height of the box round them
abbrev pub growth_text : Growth → List ℕ
growth_text growth = decimal growth.cells ++ (cells_word growth.cells ++ (codes ", in a box of "
    ++ (signed_decimal (side_length growth.bounds.x0 growth.bounds.x1) ++ (codes " by " ++ signed_decimal (side_length growth.bounds.y0 growth.bounds.y1)))))

-- none of the claims is true within the limit, and the plane of the last generation has grown so far
abbrev pub none_text : (limit last : ℕ) → Growth → List ℕ
none_text limit last growth =
    (codes "none of these within " ++ decimal limit) ++ (generations_word limit ++ (codes ": " ++ (growth_text growth ++ (codes ", after " ++ decimal last))))

-- the line of a claim of this kind about the pattern of a name, where the second name is that of the other pattern, if it names one
abbrev pub claim_words : (name second : List ℕ) → Kind → List ℕ
claim_words name second kind = keyword_of kind ++ (32 ∷ (name ++ (spaced (words_after_name second kind) ++ 10 ∷ [])))

-- the line of what a pattern is found to be: the claim that says it, or a comment where none of the claims is true within the limit; in each comment, names and
-- paths have their control characters spelled out
abbrev pub identity_line : (limit : ℕ) → List ℕ → Identity → List ℕ
identity_line limit name Empty = codes "# " ++ (escaped name ++ (codes ": no cell is live" ++ 10 ∷ []))
identity_line limit name (Claim kind) = claim_words name name kind
identity_line limit name (Unknown growth) = codes "# " ++ (escaped name ++ (codes ": " ++ (none_text limit limit growth ++ 10 ∷ [])))

-- what the plane of a pattern with this name is found to be after n generations, in the words of the claims: a comment,
-- since no claim about the file says it; no claim that is found names the pattern a second time
abbrev pub later_text : (n limit : ℕ) → List ℕ → Identity → List ℕ
later_text n limit name Empty = codes "no cell is live"
later_text n limit name (Claim kind) = keyword_of kind ++ spaced (words_after_name name kind)
later_text n limit name (Unknown growth) = none_text limit (n + limit) growth

-- how a comment on the plane of a pattern after n generations begins
abbrev pub later_head : (n : ℕ) → List ℕ → List ℕ
later_head n name = codes "# " ++ (escaped name ++ ((codes " after " ++ decimal n) ++ (generations_word n ++ codes ": ")))

abbrev pub later_line : (n limit : ℕ) → List ℕ → Identity → List ℕ
later_line n limit name identity = later_head n name ++ (later_text n limit name identity ++ 10 ∷ [])

-- the line of what is found: of the pattern, or of its plane after n generations
abbrev pub found_line : (n limit : ℕ) → List ℕ → Identity → List ℕ
found_line n limit name identity = if nat_eq n 0 then identity_line limit name identity else later_line n limit name identity

-- the comment with the code of a pattern, as `# glider: xq4_153`
abbrev pub code_comment : List ℕ → List ℕ → List ℕ
code_comment name code = codes "# " ++ (escaped name ++ (codes ": " ++ (code ++ 10 ∷ [])))

-- the same of its plane after n generations, as `# glider after 4 generations: xq4_153`
abbrev pub code_line : (n : ℕ) → List ℕ → List ℕ → List ℕ
code_line n name code = if nat_eq n 0 then code_comment name code else later_head n name ++ (code ++ 10 ∷ [])

-- where there is a code
abbrev pub code_lines : (n : ℕ) → List ℕ → Option (Vec ℕ Global) → List ℕ
code_lines n name None = []
code_lines n name (Some code) = code_line n name code.items

-- the lines on a file that is identified
abbrev pub identified_lines : (n : ℕ) → List ℕ → List ℕ → CodedLook → List ℕ
identified_lines n name path found = load_line name path ++ (found_line n found.look.limit name found.look.identity ++ code_lines n name found.code)

-- the word for this number of objects
abbrev pub objects_word : ℕ → List ℕ
objects_word n = if nat_eq n 1 then codes " object" else codes " objects"

-- how a comment begins: on a pattern with this name, or on its plane after n generations
abbrev pub comment_head : (n : ℕ) → List ℕ → List ℕ
comment_head n name = if nat_eq n 0 then codes "# " ++ (escaped name ++ codes ": ") else later_head n name

-- the comment on when a plane settles, as `# NAME: settles after 1103 generations into 25 objects: cafile census`
abbrev pub settles_line : (n : ℕ) → List ℕ → Settles → List ℕ
settles_line n name settles = comment_head n name ++ ((codes "settles after " ++ decimal settles.generations) ++ (generations_word settles.generations
    ++ ((codes " into " ++ decimal settles.objects) ++ (objects_word settles.objects ++ (codes ": cafile census" ++ 10 ∷ [])))))

-- where that is known
abbrev pub settles_lines : (n : ℕ) → List ℕ → Option Settles → List ℕ
settles_lines n name None = []
settles_lines n name (Some settles) = settles_line n name settles

-- the comment on a file that is refused: why, and on which line of the file, where it has such a line
abbrev pub refused_line : List ℕ → List ℕ → Cause → Option ℕ → List ℕ
refused_line name path cause line = codes "# " ++ (escaped name ++ (codes ": " ++ (escaped path ++ (codes ": " ++ (cause_text cause ++ (at_line line ++ 10 ∷ []))))))

-- the comment on a file whose path can't be in a claim text
abbrev pub unnameable_line : List ℕ → List ℕ → List ℕ
unnameable_line name path = codes "# " ++ (escaped name ++ (codes ": " ++ (escaped path ++ (codes ": no claim text can name this path" ++ 10 ∷ []))))

-- the lines on a file by what came of it
abbrev pub outcome_lines : (n : ℕ) → List ℕ → List ℕ → Outcome → List ℕ
outcome_lines n name path Unnameable = unnameable_line name path
outcome_lines n name path (Refused why) = refused_line name path why.fault why.line
outcome_lines n name path (outcomes.FaultyRule rule) = refused_line name path (causes.BadTable rule.fault) None
outcome_lines n name path (Identified found settles) = identified_lines n name path found ++ settles_lines n name settles

abbrev pub entry_lines : (n : ℕ) → Entry → List ℕ
entry_lines n entry = outcome_lines n entry.name.items entry.path.now entry.outcome

-- the line that gives the table of the rule file at a path to the text
abbrev pub rule_line : List ℕ → List ℕ
rule_line path = codes "rule " ++ (path ++ 10 ∷ [])

-- those of all rule files, in order
abbrev pub rule_lines : List (Vec ℕ Global) → List ℕ
rule_lines paths = flat_map (λ (path : Vec ℕ Global). rule_line path.items) paths

-- the first line of the text, since `dies` came with the second version of the language
abbrev pub version_line : List ℕ
version_line = codes "claims 2" ++ 10 ∷ []

-- the head of the text: its version and the rule files, by their paths
abbrev pub catalog_head : List (Vec ℕ Global) → List ℕ
catalog_head paths = version_line ++ rule_lines paths

-- the whole text: its head, and the lines on each file
abbrev pub catalog_text : (n : ℕ) → List (Vec ℕ Global) → List Entry → List ℕ
catalog_text n paths entries = catalog_head paths ++ flat_map (entry_lines n) entries

-- the file is identified
abbrev pub is_identified : Outcome → Bool
is_identified (Identified look settles) = true
is_identified outcome = false

-- the exit status: 2 where a file isn't identified, else 0
abbrev pub catalog_status : List Entry → ℕ
catalog_status entries = if list_all (λ entry. is_identified entry.outcome) entries then 0 else 2

-- the line that explains why the pattern of a file isn't identified: the file, with what is known of its fault. A cause that doesn't lie in the file has
-- no such line
abbrev pub cause_explanation_of : List ℕ → Cause → Option ℕ → Option (Vec ℕ Global) → List ℕ
cause_explanation_of path (causes.BadPattern fault) line text = pattern_line path line text
cause_explanation_of path (causes.BadRule fault) line text = pattern_line path line text
cause_explanation_of path causes.StateTooLarge line text = pattern_line path line text
cause_explanation_of path cause line text = []

-- whether a cause lies in the file
abbrev pub is_in_file : Cause → Bool
is_in_file (causes.BadPattern fault) = true
is_in_file (causes.BadRule fault) = true
is_in_file causes.StateTooLarge = true
is_in_file cause = false

abbrev pub cause_explanation : List ℕ → DetailedFault Cause → List ℕ
cause_explanation path refused = cause_explanation_of path refused.fault refused.line refused.rule_text

-- the line that says what helps against it, for a file of this path and with these bytes
abbrev pub cause_remedy_line : List ℕ → List ℕ → DetailedFault Cause → List ℕ
cause_remedy_line path bytes refused = remedy_line [] (cause_remedy refused.fault bytes refused.rule_text) path refused.rule_text

-- the line that explains what came of the file of a path, where there is something to tell: the file or its rule file, and what is known of the fault
abbrev pub outcome_explanation : List ℕ → Outcome → List ℕ
outcome_explanation path (Refused why) = cause_explanation path why
outcome_explanation path (outcomes.FaultyRule rule) = rule_file_line rule.path.now rule.fault
outcome_explanation path outcome = []

-- whether there is such a line
abbrev pub outcome_has_explanation : Outcome → Bool
outcome_has_explanation (Refused why) = is_in_file why.fault
outcome_has_explanation (outcomes.FaultyRule rule) = true
outcome_has_explanation outcome = false

-- whether there is one for some entry
abbrev pub catalog_has_explanation : List Entry → Bool
catalog_has_explanation entries = list_any (λ entry. outcome_has_explanation entry.outcome) entries

-- the line that says what helps against it, where something does: it may go by the bytes of the file, which is the first of some with that path
abbrev pub outcome_remedy_line : List File → List ℕ → Outcome → List ℕ
outcome_remedy_line files path (Refused why) = cause_remedy_line path (bytes_of files path) why
outcome_remedy_line files path outcome = []

-- both lines
abbrev pub entry_explanation : List File → Entry → List ℕ
entry_explanation files entry = outcome_explanation entry.path.now entry.outcome ++ outcome_remedy_line files entry.path.now entry.outcome

-- these lines of all entries, in order
abbrev pub catalog_explanation : List File → List Entry → List ℕ
catalog_explanation files entries = flat_map (entry_explanation files) entries

-- the code of a file's plane after n generations, which is this object, where codes are asked for; else there is none
abbrev pub IsAskedCode : (codes : Bool) → List ℕ → List TableRule → (n : ℕ) → Identity → Option (List ℕ) → Type 0
IsAskedCode true bytes tables n identity code = IsCodeOfFile bytes tables n identity code
IsAskedCode false bytes tables n identity code = code ≡ None

-- what is found of a file as the task asks
abbrev pub IsFoundIn : List ℕ → List TableRule → Task → CodedLook → Type 0
IsFoundIn bytes tables task found = IsLookAt bytes tables task.generations task.scope found.look
    × IsAskedCode task.codes bytes tables task.generations found.look.identity (option_map (λ (code : Vec ℕ Global). code.items) found.code)

-- why that isn't found out
abbrev pub IsUnfoundFor : (codes : Bool) → List ℕ → List TableRule → Task → LocatedFault → Type 0
IsUnfoundFor true bytes tables task fault = IsUncodedAfter bytes tables task.limits.work task.generations task.scope.limit fault
IsUnfoundFor false bytes tables task fault = IsUnidentifiedAfter bytes tables task.limits.work task.generations task.scope.limit fault

-- under some rule, n generations after these cells, the plane settles first after so many generations, into so many objects
pub record SettlesInto (next : List ℕ → ℕ) (cells : Picture) (n : ℕ) (settles : Settles) : Type 0 where
  pub first : IsFirstSettled next (cells_after next (cell cells) n) settles.generations
  pub clusters : List Course
  pub are_clusters : AreClusters next (cells_after next (cell cells) (n + settles.generations)) clusters
  pub objects : List (List Course)
  pub each : AllZip (λ cluster of. AreObjects next (first_plane cluster) of) clusters objects
  pub count : settles.objects ≡ length (flat_map (λ of. of) objects)

-- that is told of the cells that the bytes mean, under their rule, where none of the kinds that are looked for was found, and something is told
abbrev pub IsSettlesOf : List ℕ → List TableRule → (n : ℕ) → Identity → Option Settles → Type 0
IsSettlesOf bytes tables n identity None = Unit {0}
IsSettlesOf bytes tables n (Unknown growth) (Some settles) =
    (cells : Picture) × (rule : RuleValue) × HoldsSmallPattern bytes tables cells rule × SettlesInto (next_of rule) cells n settles
IsSettlesOf bytes tables n identity (Some settles) = ⊥

-- what came of a file that gave this is true of it: this is found in its bytes, or this is the report of a fault for which that isn't found out; or there
-- are no bytes of it, for this cause; or this rule file of its isn't good
abbrev pub IsContentOutcome : List TableRule → Task → Content → Outcome → Type 0
IsContentOutcome tables task content Unnameable = ⊥
IsContentOutcome tables task (Bytes bytes) (Identified found settles) = IsFoundIn bytes.now tables task found
    × IsSettlesOf bytes.now tables task.generations found.look.identity settles
IsContentOutcome tables task (Bytes bytes) (Refused why) = (refused : LocatedFault) × IsUnfoundFor task.codes bytes.now tables task refused × IsReportOf refused why
IsContentOutcome tables task (Missing cause) (Refused why) = IsBareReport cause why
IsContentOutcome tables task (FaultyRule rule) (outcomes.FaultyRule told) = told ≡ rule
IsContentOutcome tables task content outcome = ⊥

-- no claim text can name the file's path; or one can, and what came of the file is true of what it gave
abbrev pub IsOutcome : List TableRule → Task → Subject → Outcome → Type 0
IsOutcome tables task subject outcome =
    ((is_claim_path subject.path.now ≡ false) × (outcome ≡ Unnameable))
    ⊎ ((is_claim_path subject.path.now ≡ true) × IsContentOutcome tables task subject.content outcome)

-- an entry on a file, whose name is none of those taken
pub record IsEntry (tables : List TableRule) (task : Task) (taken : List (List ℕ)) (subject : Subject) (entry : Entry) : Type 0 where
  pub path : entry.path.now ≡ subject.path.now
  pub name : IsFreeName taken (claim_name subject.path.now) entry.name.items
  pub outcome : IsOutcome tables task subject entry.outcome

-- an entry on each file, in order, whose names are different, and none of those taken before
abbrev pub AreEntries : List TableRule → Task → (taken : List (List ℕ)) → List Subject → List Entry → Type 0
AreEntries tables task taken [] [] = Unit {0}
AreEntries tables task taken [] (e ∷ es) = ⊥
AreEntries tables task taken (s ∷ ss) [] = ⊥
AreEntries tables task taken (s ∷ ss) (e ∷ es) =
    IsEntry tables task taken s e × AreEntries tables task (taken ++ e.name.items ∷ []) ss es

-- these are true entries on these files, under the tables of the rule files, and the text has their lines
pub record IsCatalog (rules : KnownRules) (task : Task) (subjects : List Subject) (text : List ℕ) (entries : List Entry) : Type 0 where
  pub holds : AreEntries rules.tables.now task [] subjects entries
  pub lines : text ≡ catalog_text task.generations rules.paths.now entries

-- the whole text on these files is written, with these entries
abbrev pub WritesCatalog : {W : Type 0} → (W → Option (List ℕ)) → Counted W → Counted W → KnownRules → Task → List Subject → List Entry → Type 0
WritesCatalog contents old new rules task subjects entries = WritesOn contents old new (IsCatalog rules task) subjects entries

-- why it isn't, and what is written: a write failed, after a first part of the text on some first files; or memory is
-- out for the lines on a file, and the text on those before it is written, or it is out for the lines of the rule
-- files, and nothing is
abbrev pub EndsCatalog : {W : Type 0} → (W → Option (List ℕ)) → Counted W → Counted W → KnownRules → Task → List Subject → ToolFault → Type 0
EndsCatalog contents old new rules task subjects tools.Write = WritesPartOn contents old new (IsCatalog rules task) subjects
EndsCatalog contents old new rules task subjects tools.Memory =
    WritesOnFirst contents old new (IsCatalog rules task) subjects ⊎ ((rules.paths.now ≢ []) × (new ≡ old))
EndsCatalog contents old new rules task subjects told = ⊥

-- the last generation that was looked at has a number that fits, where the look began after n
abbrev pub IsWithin : (n : ℕ) → Outcome → Type 0
IsWithin n (Identified found settles) = n + found.look.limit < 2 ^ 64
IsWithin n outcome = Unit {0}
