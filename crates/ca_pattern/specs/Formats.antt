-- What the formats of pattern files are: which bytes are of each, what they mean, when they are read, what is written, and how
-- each is named. Another format is a case of each of these.
use Rattle.std.specs.Prelude.{◌≡◌, ◌≢◌, ℕ, List, Option, if◌then◌else◌, codes}
use Rattle.ca_plane.specs.Prelude.{Picture, cell}
use Rattle.ca_rle.specs.File as rle
use Rattle.ca_rle.specs.Prelude.{IsWithinLimits}
use Rattle.ca_rle.specs.Shown as rle_shown
use Rattle.ca_rle.specs.Faults as rle_faults
use Rattle.ca_rle.specs.FaultyLine as rle_lines
use Rattle.ca_rle.specs.Tidy as rle_tidy
use Rattle.ca_rle.specs.declared.fault.RleFault.TheVariants as rle_fault
use Rattle.ca_macro.specs.File as macrocell
use Rattle.ca_macro.specs.Prelude.{IsMacrocellWithinRange}
use Rattle.ca_macro.specs.Shown as macrocell_shown
use Rattle.ca_macro.specs.Faults as macrocell_faults
use Rattle.ca_macro.specs.Tidy as macrocell_tidy
use Rattle.ca_macro.specs.declared.fault.MacroFault.TheVariants as macrocell_fault
use Rattle.ca_pattern.specs.declared.{format.Format.Format, pattern_fault.PatternFault.PatternFault}
use Rattle.ca_pattern.specs.declared.format.Format.TheVariants.{Rle, Mc}
use Rattle.ca_pattern.specs.declared.pattern_fault.PatternFault.TheVariants as pattern_fault

-- the format of a file: bytes that begin with `[M2]` are macrocell, and all others RLE
abbrev pub format_of : List ℕ → Format
format_of bytes = if macrocell.begins_macro bytes then Mc else Rle

-- the name by which a format is shown
abbrev pub format_name : Format → List ℕ
format_name Rle = codes "rle"
format_name Mc = codes "macrocell"

-- the bytes are a text of this format that holds a picture, a rule text and a generation
abbrev pub MeansAs : Format → List ℕ → Picture → List ℕ → ℕ → Type 0
MeansAs Rle bytes cells rule_text generation = (file : rle.RleFile) × rle.IsRleFile bytes file
    × (cells ≡ rle_shown.picture_of_items file.corner file.items) × (rule_text ≡ file.rule_text) × (generation ≡ file.generation)
MeansAs Mc bytes cells rule_text generation = (file : macrocell.MacrocellFile) × macrocell.IsMacrocellFile bytes file
    × (cells ≡ macrocell_shown.picture_of_nodes file.nodes) × (rule_text ≡ file.rule_text) × (generation ≡ file.generation)

-- the bytes are a text of this format, and pass none of its limits
abbrev pub IsReadableAs : Format → List ℕ → Type 0
IsReadableAs Rle bytes = (file : rle.RleFile) × rle.IsRleFile bytes file × IsWithinLimits file
IsReadableAs Mc bytes = (file : macrocell.MacrocellFile) × macrocell.IsMacrocellFile bytes file × IsMacrocellWithinRange file

-- memory may run out for bytes of this format: an RLE is judged before anything is kept of it, and the squares of a macrocell are
-- kept as their lines come
abbrev pub MayWantMemoryAs : Format → List ℕ → Type 0
MayWantMemoryAs Rle bytes = IsReadableAs Rle bytes
MayWantMemoryAs Mc bytes = macrocell_faults.IsMacrocellFault bytes macrocell_fault.Memory

-- the fault for which the bytes of a pattern aren't read; out of memory is none of them
abbrev pub IsPatternFault : List ℕ → PatternFault → Type 0
IsPatternFault bytes (pattern_fault.Rle fault) = (format_of bytes ≡ Rle) × (fault ≢ rle_fault.Memory) × rle_faults.IsRleFault bytes fault
IsPatternFault bytes (pattern_fault.Macro fault) = (format_of bytes ≡ Mc) × (fault ≢ macrocell_fault.Memory) × macrocell_faults.IsMacrocellFault bytes fault
IsPatternFault bytes pattern_fault.Memory = ⊥

-- the same, and the line on which it stands: none for one that isn't in the spelling
abbrev pub IsPatternFaultOn : List ℕ → PatternFault → Option ℕ → Type 0
IsPatternFaultOn bytes (pattern_fault.Rle fault) line =
    (format_of bytes ≡ Rle) × (fault ≢ rle_fault.Memory) × rle_lines.IsRleFaultOn bytes fault line
IsPatternFaultOn bytes (pattern_fault.Macro fault) line =
    (format_of bytes ≡ Mc) × (fault ≢ macrocell_fault.Memory) × macrocell_faults.IsMacrocellFaultOn bytes fault line
IsPatternFaultOn bytes pattern_fault.Memory line = ⊥

-- the bytes have a fault as a pattern file, and aren't read
abbrev pub IsUnreadFile : List ℕ → Type 0
IsUnreadFile bytes = (fault : PatternFault) × IsPatternFault bytes fault

-- the tidy text of a format
abbrev pub IsTidyAs : Format → List ℕ → Picture → List ℕ → ℕ → ℕ → Type 0
IsTidyAs Rle text cells rule_text generation states = rle_tidy.IsTidyRle text cells rule_text generation states
IsTidyAs Mc text cells rule_text generation states = macrocell_tidy.IsTidyMacrocell text (cell cells) rule_text generation states

-- why a pattern's file wasn't read, in words (our own; docs/CLAIMS.md); out of memory inside another fault is reported
-- alone
abbrev pub pattern_fault_text : PatternFault → List ℕ
pattern_fault_text (pattern_fault.Rle rle_fault.Syntax) = codes "bad pattern: rle syntax"
pattern_fault_text (pattern_fault.Rle rle_fault.Header) = codes "bad pattern: rle header"
pattern_fault_text (pattern_fault.Rle rle_fault.XlifeRule) = codes "bad pattern: rle xlife rule"
pattern_fault_text (pattern_fault.Rle rle_fault.NoEnd) = codes "bad pattern: rle no end"
pattern_fault_text (pattern_fault.Rle rle_fault.BadState) = codes "bad pattern: rle bad state"
pattern_fault_text (pattern_fault.Rle rle_fault.Range) = codes "bad pattern: rle range"
pattern_fault_text (pattern_fault.Rle rle_fault.TooManyCells) = codes "bad pattern: rle too many cells"
pattern_fault_text (pattern_fault.Rle rle_fault.GenTooLarge) = codes "bad pattern: rle gen too large"
pattern_fault_text (pattern_fault.Rle rle_fault.Memory) = codes "memory"
pattern_fault_text (pattern_fault.Macro macrocell_fault.NotMacro) = codes "bad pattern: macrocell not macro"
pattern_fault_text (pattern_fault.Macro macrocell_fault.Timeline) = codes "bad pattern: macrocell timeline"
pattern_fault_text (pattern_fault.Macro macrocell_fault.Syntax) = codes "bad pattern: macrocell syntax"
pattern_fault_text (pattern_fault.Macro macrocell_fault.Forward) = codes "bad pattern: macrocell forward"
pattern_fault_text (pattern_fault.Macro macrocell_fault.Level) = codes "bad pattern: macrocell level"
pattern_fault_text (pattern_fault.Macro macrocell_fault.LeafSize) = codes "bad pattern: macrocell leaf size"
pattern_fault_text (pattern_fault.Macro macrocell_fault.Range) = codes "bad pattern: macrocell range"
pattern_fault_text (pattern_fault.Macro macrocell_fault.GenTooLarge) = codes "bad pattern: macrocell gen too large"
pattern_fault_text (pattern_fault.Macro macrocell_fault.Memory) = codes "memory"
pattern_fault_text pattern_fault.Memory = codes "memory"
