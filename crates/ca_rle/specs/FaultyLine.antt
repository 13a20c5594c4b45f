-- Where the first fault of an RLE text stands (our own): a bad word and a bad header at the start of their line, a bad item at
-- its first byte after the white space before it, and what is missing at the end of the text.
use Rattle.std.specs.Prelude.{◌≡◌, ℕ, ◌+◌, ◌-◌, max, List, length, take, ◌++◌, Option, MatchOption, ◌⊎◌}
use Rattle.std.specs.List.{count_by}
use Rattle.ca_plane.specs.Prelude.{is_line_end}
use Rattle.ca_rle.specs.declared.fault.RleFault.{RleFault}
use Rattle.ca_rle.specs.declared.fault.RleFault.TheVariants.{Syntax, Header, XlifeRule, NoEnd, BadState, GenTooLarge}
use Rattle.ca_rle.specs.Items.{InLine}
use Rattle.ca_rle.specs.Faults.{after_white, HasBadWord, HasNoHeader, HasXlifeRule, HasBadItem, IsFirstRleFault, IsRleFault}

-- the line of the bad word and what stands after it
abbrev pub HasBadWordAt : List ℕ → RleFault → List ℕ → Type 0
HasBadWordAt bytes fault rest = (h : HasBadWord bytes fault) × (rest ≡ h.line ++ h.more)

-- the line where the header is missing and what stands after it
abbrev pub HasNoHeaderAt : List ℕ → List ℕ → Type 0
HasNoHeaderAt bytes rest = (h : HasNoHeader bytes) × (rest ≡ h.line ++ h.more)

-- the header without a rule and what stands after it
abbrev pub HasXlifeRuleAt : List ℕ → List ℕ → Type 0
HasXlifeRuleAt bytes rest = (h : HasXlifeRule bytes) × (rest ≡ h.header ++ h.body)

-- the bad item, without the white space before it, and what stands after it
abbrev pub HasBadItemAt : List ℕ → RleFault → List ℕ → Type 0
HasBadItemAt bytes fault rest = (h : HasBadItem bytes fault) × (rest ≡ after_white InLine h.bad)

-- the first fault in the spelling of a text, and the bytes from the faulty line or item on
abbrev pub IsFirstFaultAt : List ℕ → RleFault → List ℕ → Type 0
IsFirstFaultAt bytes Header rest = HasNoHeaderAt bytes rest
IsFirstFaultAt bytes XlifeRule rest = HasXlifeRuleAt bytes rest
IsFirstFaultAt bytes GenTooLarge rest = HasBadWordAt bytes GenTooLarge rest
IsFirstFaultAt bytes Syntax rest = HasBadWordAt bytes Syntax rest ⊎ HasBadItemAt bytes Syntax rest
IsFirstFaultAt bytes NoEnd rest = HasBadItemAt bytes NoEnd rest
IsFirstFaultAt bytes BadState rest = HasBadItemAt bytes BadState rest
IsFirstFaultAt bytes fault rest = ⊥

-- the number, counted from 1, of the line on which the rest of a text begins: one more than the LFs before it.
-- The end of a text stands on the line of the text's last byte, and the empty text has line 1.
abbrev pub line_number_of : List ℕ → List ℕ → ℕ
line_number_of text rest = 1 + count_by is_line_end (take (length text - max 1 (length rest)) text)

-- the first fault in the spelling of a text, and the number of the line on which it stands
abbrev pub IsFirstRleFaultOn : List ℕ → RleFault → ℕ → Type 0
IsFirstRleFaultOn bytes fault line = (rest : List ℕ) × IsFirstFaultAt bytes fault rest × (line ≡ line_number_of bytes rest)

-- the number of the line on which the first fault in the spelling of a text stands
abbrev pub IsFaultyRleLine : List ℕ → ℕ → Type 0
IsFaultyRleLine bytes line = (fault : RleFault) × IsFirstRleFaultOn bytes fault line

-- the fault of a text, and the number of the line on which it stands: none for a fault that isn't in the spelling
abbrev pub IsRleFaultOn : List ℕ → RleFault → Option ℕ → Type 0
IsRleFaultOn bytes fault line = IsRleFault bytes fault × MatchOption line (IsFirstRleFault bytes fault → ⊥) (IsFirstRleFaultOn bytes fault)
