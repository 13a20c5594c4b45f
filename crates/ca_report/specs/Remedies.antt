-- What helps where a file is refused: the line `  try: ` that ends an explanation (our own; the table of docs/COMMANDS.md, "What to do").
use Rattle.std.specs.Prelude.{ℕ, List, [], ◌∷◌, ◌++◌, Bool, not, ◌&&◌, ◌||◌, codes, nat_eq, nat_le, if◌then◌else◌, Option, None, Some, Vec}
use Rattle.std.specs.List.{list_all, list_any, starts_with}
use Rattle.std.specs.Str.{bytes_eq}
use Rattle.std.specs.declared.alloc.Global.{Global}
use Rattle.ca_rle.specs.declared.fault.RleFault.TheVariants as rle
use Rattle.ca_macro.specs.declared.fault.MacroFault.TheVariants as macrocell
use Rattle.ca_rule.specs.declared.fault.RuleFault.{RuleFault}
use Rattle.ca_rule.specs.declared.fault.RuleFault.TheVariants as rules
use Rattle.ca_pattern.specs.declared.{file.File.File, pattern_fault.PatternFault.PatternFault}
use Rattle.ca_pattern.specs.declared.pattern_fault.PatternFault.TheVariants as patterns
use Rattle.ca_answers.specs.declared.cause.Cause.{Cause}
use Rattle.ca_answers.specs.declared.cause.Cause.TheVariants as causes
use Rattle.ca_pattern.specs.declared.convert_fault.ConvertFault.TheVariants as converts
use Rattle.ca_report.specs.declared.{fault.ToolFault.ToolFault, remedy.Remedy.Remedy}
use Rattle.ca_report.specs.declared.fault.ToolFault.TheVariants as tools
use Rattle.ca_report.specs.declared.remedy.Remedy.TheVariants.{DropMark, Unpack, Import, BreakLines, WriteHeader, WriteEnd, FindByte, MoveRule, MendState, NameFolder, CutRule, SavePlane, ClaimBecomes, ToMacrocell, AllowWork}
use Rattle.ca_report.specs.{Escaped.escaped, RulePaths.is_file_name}

-- the bytes have this one
abbrev pub has : ℕ → List ℕ → Bool
has b bytes = list_any (λ a. nat_eq a b) bytes

-- the bytes begin with these
abbrev pub begins : List ℕ → List ℕ → Bool
begins bytes these = starts_with nat_eq bytes these

-- what helps against an RLE whose header or end isn't found, by the file's bytes: a byte order mark, gzip's first bytes, those of Life 1.05 and 1.06 or
-- of plaintext, or CR and no LF; else what helps otherwise
abbrev pub unread_remedy : List ℕ → Remedy → Remedy
unread_remedy bytes otherwise =
    if begins bytes (239 ∷ 187 ∷ 191 ∷ []) then DropMark
    else (if begins bytes (31 ∷ 139 ∷ []) then Unpack
    else (if begins bytes (codes "#Life 1.0") || begins bytes (codes "!") then Import
    else (if has 13 bytes && not (has 10 bytes) then BreakLines else otherwise)))

-- what helps against a pattern that isn't read
abbrev pub pattern_remedy : PatternFault → List ℕ → Option Remedy
pattern_remedy (patterns.Rle rle.Header) bytes = Some (unread_remedy bytes WriteHeader)
pattern_remedy (patterns.Rle rle.NoEnd) bytes = Some (unread_remedy bytes WriteEnd)
pattern_remedy (patterns.Rle rle.Syntax) bytes = Some FindByte
pattern_remedy (patterns.Rle rle.XlifeRule) bytes = Some MoveRule
pattern_remedy (patterns.Macro macrocell.Timeline) bytes = Some SavePlane
pattern_remedy fault bytes = None

-- what helps against a rule text that names no rule: one that may be the name of a rule file, or one with a slash and a comma
abbrev pub text_remedy : List ℕ → Option Remedy
text_remedy text = if is_file_name text then Some NameFolder else (if has 47 text && has 44 text then Some CutRule else None)

abbrev pub rule_remedy : RuleFault → Option (Vec ℕ Global) → Option Remedy
rule_remedy rules.Unknown (Some text) = text_remedy text.items
rule_remedy fault text = None

-- what helps against a cause that is about the file of a pattern with these bytes
abbrev pub cause_remedy : Cause → List ℕ → Option (Vec ℕ Global) → Option Remedy
cause_remedy (causes.BadPattern fault) bytes text = pattern_remedy fault bytes
cause_remedy (causes.BadRule fault) bytes text = rule_remedy fault text
cause_remedy causes.StateTooLarge bytes text = Some MendState
cause_remedy causes.TooManyCells bytes text = Some ClaimBecomes
cause_remedy cause bytes text = None

-- what helps against a fault of a run over a pattern file with these bytes
abbrev pub run_remedy : ToolFault → List ℕ → Option (Vec ℕ Global) → Option Remedy
run_remedy (tools.Convert (converts.BadPattern fault)) bytes text = pattern_remedy fault bytes
run_remedy (tools.Convert (converts.BadRule fault)) bytes text = rule_remedy fault text
run_remedy (tools.Convert converts.StateTooLarge) bytes text = Some MendState
run_remedy (tools.Convert converts.TooManyCells) bytes text = Some ToMacrocell
run_remedy tools.Work bytes text = Some AllowWork
run_remedy fault bytes text = None

-- a rule text, which may be a name
abbrev pub rule_name : Option (Vec ℕ Global) → List ℕ
rule_name None = []
rule_name (Some text) = text.items

-- a byte that a shell takes as it stands: a letter, a digit or one of `+ , - . / : = @ _`
abbrev pub is_plain_byte : ℕ → Bool
is_plain_byte b = (nat_le 43 b && nat_le b 58) || (nat_eq b 61 || (nat_le 64 b && nat_le b 90) || (nat_eq b 95 || (nat_le 97 b && nat_le b 122)))

-- a path as it may stand in a command that a reader may copy: where a shell takes each of its bytes as it stands, and no command takes it for an option,
-- which begins with `-`; else the word FILE
abbrev pub file_word : List ℕ → List ℕ
file_word path = if not (begins path (45 ∷ [])) && list_all is_plain_byte path then path else codes "FILE"

-- what helps in words, for the file of a path, whose rule text is this
abbrev pub remedy_text : Remedy → List ℕ → Option (Vec ℕ Global) → List ℕ
remedy_text DropMark path text = codes "sed '1s/^\\xef\\xbb\\xbf//' " ++ file_word path
remedy_text Unpack path text = codes "gunzip -c " ++ file_word path
remedy_text Import path text = codes "cafile import " ++ file_word path
remedy_text BreakLines path text = codes "tr '\\r' '\\n' < " ++ file_word path
remedy_text WriteHeader path text = codes "write the header as x = 3, y = 3, rule = B3/S23"
remedy_text WriteEnd path text = codes "get the file again, or put ! at its end"
remedy_text FindByte path text = codes "look for bytes other than b o . $ !, A to X, p to y and digits"
remedy_text MoveRule path text = codes "write the rule into the header"
remedy_text MendState path text = codes "write o for a live cell, or name the right rule"
remedy_text NameFolder path text = codes "name the folder of " ++ (escaped (rule_name text) ++ codes ".rule by --rules")
remedy_text CutRule path text = codes "take away what follows the rule"
remedy_text SavePlane path text = codes "open it in Golly and save one of its planes"
remedy_text ClaimBecomes path text = codes "claim that it becomes a file of its moved plane, without a shift"
remedy_text ToMacrocell path text = codes "convert it --to mc, which takes any number of cells"
remedy_text AllowWork path text = codes "allow more by --work"

-- the line that says what helps, where something does, after a text that stands before each line
abbrev pub remedy_line : List ℕ → Option Remedy → List ℕ → Option (Vec ℕ Global) → List ℕ
remedy_line before None path text = []
remedy_line before (Some remedy) path text = before ++ (codes "  try: " ++ (remedy_text remedy path text ++ 10 ∷ []))

-- the first of some files with this path
abbrev pub file_at : List File → List ℕ → Option File
file_at [] path = None
file_at (f ∷ fs) path = if bytes_eq f.path.now path then Some f else file_at fs path

-- the bytes of a file, and of none
abbrev pub found_bytes : Option File → List ℕ
found_bytes None = []
found_bytes (Some file) = file.bytes.now

-- the bytes of the first of some files with this path
abbrev pub bytes_of : List File → List ℕ → List ℕ
bytes_of files path = found_bytes (file_at files path)
