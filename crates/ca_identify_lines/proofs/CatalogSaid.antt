-- What the text of entries says.
use Rattle.std.proofs.Common.{◌≡◌, ℕ, ◌+◌, Bool, true, false, List, [], ◌∷◌, ◌++◌, map, Option, None, Some, Vec, Global, codes, decimal, nat_eq, refl, ap, sym, ◌∙◌, inl, inr, subst}
use Rattle.std.specs.Prelude.{IsSome, option_map}
use Rattle.std.specs.Fmt.{signed_decimal}
use Rattle.std.specs.List.{flat_map, list_any}
use Rattle.std.specs.Option.{option_or}
use Rattle.std.specs.Str.{bytes_eq}
use Rattle.std.proofs.lemmas.Bool.{cases_Bool, or_parts, false≢true}
use Rattle.std.proofs.lemmas.List.{append-nil}
use Rattle.std.proofs.lemmas.Slice.Eq.{bytes_eq-Decides}
use Rattle.ca_plane.specs.Prelude.{Every, IsWord, lines_of, Picture}
use Rattle.ca_plane.proofs.Fronts.{every_append}
use Rattle.ca_rule.specs.Prelude.{next_of, TableRule}
use Rattle.ca_answers.specs.declared.{identity.Identity.Identity, identity.Growth.Growth, coded_look.CodedLook.CodedLook, cause.Cause.Cause}
use Rattle.ca_answers.specs.declared.cause.Cause.TheVariants as causes
use Rattle.ca_answers.specs.declared.identity.Identity.TheVariants.{Empty, Claim, Unknown}
use Rattle.ca_text.specs.Prelude.{keyword_of, words_after_name, spaced, ClaimTextLine, Version, Rule, Load, Claims, is_second, path_of, ClaimLinesSay}
use Rattle.ca_answers.specs.Prelude.{IsIdentity, cause_text}
use Rattle.ca_text.proofs.LinesSaid.{path_of-append}
use Rattle.ca_text.proofs.WrittenWords.{keyword_word, keyword_spoken, written_follow, written_words}
use Rattle.ca_text.proofs.PathLists.{bytes_eq_self}
use Rattle.ca_identify_lines.specs.declared.{entry.Content.Content, entry.Subject.Subject, entry.Outcome.Outcome, entry.Entry.Entry, entry.Settles.Settles, task.Task.Task}
use Rattle.ca_identify_lines.specs.declared.entry.Content.TheVariants.{Bytes, Missing, FaultyRule}
use Rattle.ca_identify_lines.specs.declared.entry.Outcome.TheVariants as outcomes
use Rattle.ca_identify_lines.specs.declared.entry.Outcome.TheVariants.{Unnameable, Identified, Refused}
use Rattle.ca_report.specs.Prelude.{escaped, at_line, generations_word, side_length}
use Rattle.ca_identify_lines.specs.Prelude.{is_claim_path, is_taken, cells_word, growth_text, none_text, later_text, later_head, later_line, found_line, code_line, code_lines, identified_lines, IsAskedCode, IsFoundIn, objects_word, comment_head, settles_lines}
use Rattle.ca_identify_lines.specs.Prelude.{refused_line, identity_line, entry_lines, outcome_lines, rule_lines, version_line, catalog_head, catalog_text, IsContentOutcome, IsEntry, AreEntries, claim_line}
use Rattle.ca_identify_lines.specs.Prelude.{identity_says, found_says, outcome_says, entry_says, AreRuleWords, SaysItsClaims}
use Rattle.ca_identify_lines.proofs.Saying.{is_inner, TextSays, inner_word, says_none, says_then, spelled_spaced, spaced_inner, says_words, says_comment, IsLine, line_end, line_more}
use Rattle.ca_identify_lines.proofs.NameWords.{word_by_test, path_word, free_word, decimal_inner, signed_inner, escaped_inner}
use Rattle.ca_identify_lines.proofs.CauseLines.{cause_inner, at_inner}
use Rattle.ca_identify_lines.proofs.CodeLines.{code_inner}
use Rattle.ca_report.proofs.OneMore.{any_more}

-- the words on a pattern of which no claim is true are on one line
generations_inner : (n : ℕ) → Every is_inner (generations_word n)
generations_inner n = elim (cases_Bool (nat_eq n 1)) [ inl e ↦ rw e refl | inr e ↦ rw e refl ]

cells_inner : (n : ℕ) → Every is_inner (cells_word n)
cells_inner n = elim (cases_Bool (nat_eq n 1)) [ inl e ↦ rw e refl | inr e ↦ rw e refl ]

objects_inner : (n : ℕ) → Every is_inner (objects_word n)
objects_inner n = elim (cases_Bool (nat_eq n 1)) [ inl e ↦ rw e refl | inr e ↦ rw e refl ]

-- a text with another one on the same line after it
inner_then : (text more : List ℕ) → Every is_inner text → Every is_inner more → Every is_inner (text ++ more)
inner_then text more first then = every_append is_inner text more first then

growth_inner : (growth : Growth) → Every is_inner (growth_text growth)
growth_inner growth =
    let width = signed_decimal (side_length growth.bounds.x0 growth.bounds.x1) in
    let height = signed_decimal (side_length growth.bounds.y0 growth.bounds.y1) in
    let by = codes " by " ++ height in
    let box = codes ", in a box of " ++ (width ++ by) in
    inner_then (decimal growth.cells) (cells_word growth.cells ++ box) (decimal_inner growth.cells) (inner_then (cells_word growth.cells) box (cells_inner growth.cells)
    (inner_then (codes ", in a box of ") (width ++ by) refl (inner_then width by (signed_inner (side_length growth.bounds.x0 growth.bounds.x1))
    (inner_then (codes " by ") height refl (signed_inner (side_length growth.bounds.y0 growth.bounds.y1))))))

none_inner : (limit last : ℕ) (growth : Growth) → Every is_inner (none_text limit last growth)
none_inner limit last growth =
    let after = codes ", after " ++ decimal last in
    let told = codes ": " ++ (growth_text growth ++ after) in
    inner_then (codes "none of these within " ++ decimal limit) (generations_word limit ++ told) (inner_then (codes "none of these within ") (decimal limit) refl (decimal_inner limit))
    (inner_then (generations_word limit) told (generations_inner limit) (inner_then (codes ": ") (growth_text growth ++ after) refl
    (inner_then (growth_text growth) after (growth_inner growth) (inner_then (codes ", after ") (decimal last) refl (decimal_inner last)))))

-- the line on what a pattern is says its claim, after lines that begin with the version and load the name
pub identity_said : (next : List ℕ → ℕ) (cells : Picture) (limit : ℕ) (earlier : List ClaimTextLine) (name : List ℕ) (identity : Identity)
    → IsIdentity next cells limit identity → IsWord name → IsSome (path_of earlier name) → is_second earlier ≡ true
    → TextSays earlier (identity_line limit name identity) (identity_says name identity)
identity_said next cells limit earlier name Empty is word loaded second =
    says_comment earlier _ (line_more (escaped name) _ (escaped_inner name) (line_more (codes ": no cell is live") _ refl line_end))
identity_said next cells limit earlier name (Claim kind) (own, is) word loaded second =
    let good = is.numbers in
    let later = words_after_name name kind in
    subst (λ text. TextSays earlier (keyword_of kind ++ 32 ∷ text) (claim_line name kind ∷ [])) (spelled_spaced name later)
    (says_words earlier (keyword_of kind ∷ name ∷ later) (claim_line name kind) (keyword_word kind, (word, written_words name kind word good)) (keyword_spoken kind (name ∷ later))
    ((later, refl, written_follow name kind good), λ _. second) (good, (loaded, loaded)))
identity_said next cells limit earlier name (Unknown growth) is word loaded second =
    says_comment earlier _ (line_more (escaped name) _ (escaped_inner name) (line_more (codes ": ") _ refl (line_more (none_text limit limit growth) _ (none_inner limit limit growth) line_end)))

-- the words on what a plane is after some generations are on one line
later_inner : (next : List ℕ → ℕ) (cells : Picture) (n limit : ℕ) (name : List ℕ) (identity : Identity) → IsIdentity next cells limit identity → IsWord name
    → Every is_inner (later_text n limit name identity)
later_inner next cells n limit name Empty is word = refl
later_inner next cells n limit name (Claim kind) (own, is) word =
    let later = words_after_name name kind in
    inner_then (keyword_of kind) (spaced later) (inner_word (keyword_of kind) (keyword_word kind)) (spaced_inner later (written_words name kind word is.numbers))
later_inner next cells n limit name (Unknown growth) is word = none_inner limit (n + limit) growth

-- how a comment on it begins is on one line, and so the whole of it says nothing
later_line_said : (n : ℕ) (earlier : List ClaimTextLine) (name text : List ℕ) → IsLine text → TextSays earlier (later_head n name ++ text) []
later_line_said n earlier name text line =
    let word = generations_word n ++ codes ": " in
    let after = (codes " after " ++ decimal n) ++ word in
    says_comment earlier _ (line_more (escaped name ++ after) _
    (inner_then (escaped name) after (escaped_inner name)
    (inner_then (codes " after " ++ decimal n) word (inner_then (codes " after ") (decimal n) refl (decimal_inner n)) (inner_then (generations_word n) (codes ": ") (generations_inner n) refl)))
    line)

later_comment_said : (n : ℕ) (earlier : List ClaimTextLine) (name text : List ℕ) → Every is_inner text → TextSays earlier (later_head n name ++ (text ++ 10 ∷ [])) []
later_comment_said n earlier name text inner = later_line_said n earlier name _ (line_more text _ inner line_end)

later_said : (next : List ℕ → ℕ) (cells : Picture) (n limit : ℕ) (earlier : List ClaimTextLine) (name : List ℕ) (identity : Identity) → IsIdentity next cells limit identity → IsWord name
    → TextSays earlier (later_line n limit name identity) []
later_said next cells n limit earlier name identity is word = later_comment_said n earlier name (later_text n limit name identity) (later_inner next cells n limit name identity is word)

-- nor does the comment with a code
pub code_said : (n : ℕ) (earlier : List ClaimTextLine) (name code : List ℕ) → Every is_inner code → TextSays earlier (code_line n name code) []
code_said n earlier name code inner = elim (cases_Bool (nat_eq n 0)) [
  | inl e ↦ rw e (says_comment earlier _ (line_more (escaped name) _ (escaped_inner name) (line_more (codes ": ") _ refl (line_more code _ inner line_end))))
  | inr e ↦ rw e (later_comment_said n earlier name code inner)
]

codes_said : (codes : Bool) (n : ℕ) (earlier : List ClaimTextLine) (name bytes : List ℕ) (tables : List TableRule) (identity : Identity) (code : Option (Vec ℕ Global))
    → IsAskedCode codes bytes tables n identity (option_map (λ (text : Vec ℕ Global). text.items) code) → TextSays earlier (code_lines n name code) []
codes_said codes n earlier name bytes tables identity None is = says_none earlier
codes_said true n earlier name bytes tables identity (Some code) (cells, rule, holds, (later, stands, is)) = code_said n earlier name code.items (code_inner (next_of rule) later identity code.items is.1)
codes_said false n earlier name bytes tables identity (Some code) is = absurd (some_or_none code.items is)
  where
    some_or_none : (text : List ℕ) → Some text ≡ None → ⊥
    some_or_none text e = cc

-- nor does a comment on a pattern, or on its plane after some generations
comment_said : (n : ℕ) (earlier : List ClaimTextLine) (name text : List ℕ) → IsLine text → TextSays earlier (comment_head n name ++ text) []
comment_said n earlier name text line = elim (cases_Bool (nat_eq n 0)) [
  | inl e ↦ rw e (says_comment earlier _ (line_more (escaped name ++ codes ": ") _ (inner_then (escaped name) (codes ": ") (escaped_inner name) refl) line))
  | inr e ↦ rw e (later_line_said n earlier name text line)
]

-- so the one on when a plane settles says nothing
settles_said : (n : ℕ) (earlier : List ClaimTextLine) (name : List ℕ) (settles : Option Settles) → TextSays earlier (settles_lines n name settles) []
settles_said n earlier name None = says_none earlier
settles_said n earlier name (Some settles) =
    let after = codes "settles after " ++ decimal settles.generations in
    let into = codes " into " ++ decimal settles.objects in
    comment_said n earlier name _ (line_more after _ (inner_then (codes "settles after ") (decimal settles.generations) refl (decimal_inner settles.generations))
    (line_more (generations_word settles.generations) _ (generations_inner settles.generations)
    (line_more into _ (inner_then (codes " into ") (decimal settles.objects) refl (decimal_inner settles.objects))
    (line_more (objects_word settles.objects) _ (objects_inner settles.objects) (line_more (codes ": cafile census") _ refl line_end)))))

-- the line on what is found says the claim where it is found of the pattern itself
found_said : (next : List ℕ → ℕ) (cells : Picture) (n limit : ℕ) (earlier : List ClaimTextLine) (name : List ℕ) (identity : Identity)
    → IsIdentity next cells limit identity → IsWord name → IsSome (path_of earlier name) → is_second earlier ≡ true
    → TextSays earlier (found_line n limit name identity) (found_says n name identity)
found_said next cells n limit earlier name identity is word loaded second = elim (cases_Bool (nat_eq n 0)) [
  | inl e ↦ rw e (identity_said next cells limit earlier name identity is word loaded second)
  | inr e ↦ rw e (later_said next cells n limit earlier name identity is word)
]

-- a name that is loaded
pub loaded_now : (earlier : List ClaimTextLine) (name path : List ℕ) → path_of earlier name ≡ None → IsSome (path_of (earlier ++ Load name path ∷ []) name)
loaded_now earlier name path free =
    let here : path_of (Load name path ∷ []) name ≡ Some path = rw (bytes_eq_self name) refl in
    subst IsSome (sym (path_of-append earlier (Load name path ∷ []) name ∙ ap (λ p. option_or p (path_of (Load name path ∷ []) name)) free ∙ here)) refl

-- lines that begin with the version still do with others after them
pub second_stays : (earlier more : List ClaimTextLine) → is_second earlier ≡ true → is_second (earlier ++ more) ≡ true
second_stays [] more h = absurd (false≢true h)
second_stays (Version ∷ ls) more h = refl
second_stays (Rule path ∷ ls) more h = absurd (false≢true h)
second_stays (Load name path ∷ ls) more h = absurd (false≢true h)
second_stays (Claims claim ∷ ls) more h = absurd (false≢true h)

-- the comment on a file that is refused says nothing
refused_said : (earlier : List ClaimTextLine) (name path : List ℕ) (cause : Cause) (line : Option ℕ) → IsWord name → is_claim_path path ≡ true → TextSays earlier (refused_line name path cause line) []
refused_said earlier name path cause line word fits =
    says_comment earlier _ (line_more (escaped name) _ (escaped_inner name) (line_more (codes ": ") _ refl (line_more (escaped path) _ (escaped_inner path) (line_more (codes ": ") _ refl
    (line_more (cause_text cause) _ (cause_inner cause) (line_more (at_line line) _ (at_inner line) line_end))))))

-- the lines on a file that is identified say its name and its claim
identified_said : (tables : List TableRule) (task : Task) (earlier : List ClaimTextLine) (name path bytes : List ℕ) (found : CodedLook)
    → is_claim_path path ≡ true → IsFoundIn bytes tables task found → IsWord name → path_of earlier name ≡ None → is_second earlier ≡ true
    → TextSays earlier (identified_lines task.generations name path found) (Load name path ∷ found_says task.generations name found.look.identity)
identified_said tables task earlier name path bytes found fits ((cells, rule, holds, (later, stands, is)), code) word free second =
    let n = task.generations in
    let load = Load name path ∷ [] in
    let loaded = says_words earlier (codes "load" ∷ name ∷ path ∷ []) (Load name path) (refl, (word, (path_word path fits, tt))) refl refl free in
    let claim = found_said _ later n found.look.limit (earlier ++ load) name found.look.identity is.identity word (loaded_now earlier name path free) (second_stays earlier load second) in
    let says = found_says n name found.look.identity in
    let lines = says_then (earlier ++ load) _ (code_lines n name found.code) says [] claim (codes_said task.codes n ((earlier ++ load) ++ says) name bytes tables found.look.identity found.code code) in
    subst (λ l. TextSays earlier (identified_lines n name path found) (Load name path ∷ l)) (append-nil says) (says_then earlier _ _ load (says ++ []) loaded lines)

-- the lines on a file say its name and its claim, after lines that begin with the version and don't load the name
outcome_said : (tables : List TableRule) (task : Task) (earlier : List ClaimTextLine) (name path : List ℕ) (content : Content) (outcome : Outcome)
    → is_claim_path path ≡ true → IsContentOutcome tables task content outcome → IsWord name → path_of earlier name ≡ None → is_second earlier ≡ true
    → TextSays earlier (outcome_lines task.generations name path outcome) (outcome_says task.generations name path outcome)
outcome_said tables task earlier name path content Unnameable fits is word free second = absurd is
outcome_said tables task earlier name path content (Refused why) fits is word free second = refused_said earlier name path why.fault why.line word fits
outcome_said tables task earlier name path content (outcomes.FaultyRule rule) fits is word free second = refused_said earlier name path (causes.BadTable rule.fault) None word fits
outcome_said tables task earlier name path (Missing cause) (Identified found settles) fits is word free second = absurd is
outcome_said tables task earlier name path (FaultyRule rule) (Identified found settles) fits is word free second = absurd is
outcome_said tables task earlier name path (Bytes bytes) (Identified found settles) fits (is, settled) word free second =
    let n = task.generations in
    let says = outcome_says n name path (Identified found settles) in
    let lines = identified_said tables task earlier name path bytes.now found fits is word free second in
    subst (λ l. TextSays earlier (outcome_lines n name path (Identified found settles)) l) (append-nil says)
    (says_then earlier _ (settles_lines n name settles) says [] lines (settles_said n (earlier ++ says) name settles))

-- the comment on a file that can't be named says nothing
unnameable_said : (n : ℕ) (earlier : List ClaimTextLine) (name path : List ℕ) (outcome : Outcome) → outcome ≡ Unnameable → IsWord name
    → TextSays earlier (outcome_lines n name path outcome) (outcome_says n name path outcome)
unnameable_said n earlier name path outcome e word =
    subst (λ (o : Outcome). TextSays earlier (outcome_lines n name path o) (outcome_says n name path o)) (sym e)
    (says_comment earlier _ (line_more (escaped name) _ (escaped_inner name) (line_more (codes ": ") _ refl (line_more (escaped path) _ (escaped_inner path)
    (line_more (codes ": no claim text can name this path") _ refl line_end)))))

entry_said : (tables : List TableRule) (task : Task) (taken : List (List ℕ)) (earlier : List ClaimTextLine) (subject : Subject) (entry : Entry) → IsEntry tables task taken subject entry
    → path_of earlier entry.name.items ≡ None → is_second earlier ≡ true → TextSays earlier (entry_lines task.generations entry) (entry_says task.generations entry)
entry_said tables task taken earlier subject entry is free second =
    let word = free_word taken subject.path.now entry.name.items is.name in
    elim is.outcome [
      | inl (none, e) ↦ unnameable_said task.generations earlier entry.name.items entry.path.now entry.outcome e word
      | inr (fits, of) ↦ outcome_said tables task earlier entry.name.items entry.path.now subject.content entry.outcome (ap is_claim_path is.path ∙ fits) of word free second
    ]

-- equal bytes are so in either order
other_way : (a b : List ℕ) → bytes_eq a b ≡ false → bytes_eq b a ≡ false
other_way a b h = elim (cases_Bool (bytes_eq b a)) [
  | inl e ↦ absurd (false≢true (sym h ∙ (bytes_eq-Decides a b).1 (sym ((bytes_eq-Decides b a).0 e))))
  | inr e ↦ e
]

-- a claim loads no name
claim_loads : (name other : List ℕ) (identity : Identity) → path_of (identity_says name identity) other ≡ None
claim_loads name other Empty = refl
claim_loads name other (Claim kind) = refl
claim_loads name other (Unknown growth) = refl

found_loads : (n : ℕ) (name other : List ℕ) (identity : Identity) → path_of (found_says n name identity) other ≡ None
found_loads n name other identity = elim (cases_Bool (nat_eq n 0)) [ inl e ↦ rw e (claim_loads name other identity) | inr e ↦ rw e refl ]

-- the lines on a file load no other name
no_other : (n : ℕ) (name path other : List ℕ) (outcome : Outcome) → bytes_eq name other ≡ false → path_of (outcome_says n name path outcome) other ≡ None
no_other n name path other Unnameable h = refl
no_other n name path other (Refused why) h = refl
no_other n name path other (outcomes.FaultyRule rule) h = refl
no_other n name path other (Identified found settles) h = rw h (found_loads n name other found.look.identity)

-- a name that is none of those taken and of one more
free_after : (taken : List (List ℕ)) (name other : List ℕ) → is_taken (taken ++ name ∷ []) other ≡ false → (is_taken taken other ≡ false) × (bytes_eq other name ≡ false)
free_after taken name other h =
    let parts = or_parts (is_taken taken other) (list_any (bytes_eq other) (name ∷ [])) (sym (any_more (bytes_eq other) taken name) ∙ h) in
    (parts.0, (or_parts (bytes_eq other name) false parts.1).0)

-- the text of entries says their names and claims, after lines that begin with the version and load none of their names
entries_said : (tables : List TableRule) (task : Task) (taken : List (List ℕ)) (earlier : List ClaimTextLine) (subjects : List Subject) (entries : List Entry)
    → AreEntries tables task taken subjects entries → ((name : List ℕ) → is_taken taken name ≡ false → path_of earlier name ≡ None)
    → is_second earlier ≡ true → TextSays earlier (flat_map (entry_lines task.generations) entries) (flat_map (entry_says task.generations) entries)
entries_said tables task taken earlier [] [] all free second = says_none earlier
entries_said tables task taken earlier [] (e ∷ es) all free second = absurd all
entries_said tables task taken earlier (s ∷ ss) [] all free second = absurd all
entries_said tables task taken earlier (s ∷ ss) (e ∷ es) all free second =
    let one = entry_said tables task taken earlier s e all.0 (free e.name.items all.0.name.new) second in
    says_then earlier _ _ (entry_says task.generations e) (flat_map (entry_says task.generations) es) one
    (entries_said tables task (taken ++ e.name.items ∷ []) (earlier ++ entry_says task.generations e) ss es all.1
    (λ name new.
    let parts = free_after taken e.name.items name new in
    path_of-append earlier (entry_says task.generations e) name ∙ ap (λ p. option_or p (path_of (entry_says task.generations e) name)) (free name parts.0)
    ∙ no_other task.generations e.name.items e.path.now name e.outcome (other_way name e.name.items parts.1))
    (second_stays earlier (entry_says task.generations e) second))

-- what the lines of rule files say
abbrev pub rules_say : List (Vec ℕ Global) → List ClaimTextLine
rules_say paths = map (λ (path : Vec ℕ Global). Rule path.items) paths

pub rules_said : (earlier : List ClaimTextLine) (paths : List (Vec ℕ Global)) → AreRuleWords paths → TextSays earlier (rule_lines paths) (rules_say paths)
rules_said earlier [] words = says_none earlier
rules_said earlier (p ∷ ps) words =
    says_then earlier _ _ (Rule p.items ∷ []) (rules_say ps)
    (says_words earlier (codes "rule" ∷ p.items ∷ []) (Rule p.items) (refl, (word_by_test p.items words.0, tt)) refl refl tt)
    (rules_said (earlier ++ Rule p.items ∷ []) ps words.1)

pub rules_load : (paths : List (Vec ℕ Global)) (name : List ℕ) → path_of (rules_say paths) name ≡ None
rules_load [] name = refl
rules_load (p ∷ ps) name = rules_load ps name

-- the line of the version says it
pub version_said : TextSays [] version_line (Version ∷ [])
version_said = says_words [] (codes "claims" ∷ codes "2" ∷ []) Version (refl, (refl, tt)) refl (refl, refl) tt

-- the whole text says all that
pub catalog_said : SaysItsClaims
catalog_said subjects rules task text entries words catalog =
    let paths = rules.paths.now in
    let version = Version ∷ [] in
    let before = version ++ rules_say paths in
    let head = says_then [] version_line (rule_lines paths) version (rules_say paths) version_said (rules_said version paths words) in
    let all = says_then [] (catalog_head paths) (flat_map (entry_lines task.generations) entries) before (flat_map (entry_says task.generations) entries) head
    (entries_said rules.tables.now task [] before subjects entries catalog.holds (λ name new. rules_load paths name) refl) in
    let here : lines_of text ≡ all.lines =
    ap lines_of catalog.lines ∙ ap lines_of (sym (append-nil (catalog_text task.generations paths entries))) ∙ all.split [] ∙ append-nil all.lines in
    record { said = all.said; reads = subst (λ ls. ClaimLinesSay [] ls all.said) (sym here) all.good; says = all.all }
