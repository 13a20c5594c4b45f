-- What is wrong with a macrocell text: its first faulty line decides (our own order in a line).
use Rattle.std.specs.Prelude.{◌≡◌, ◌≢◌, ℕ, ◌+◌, ◌-◌, ◌<◌, ◌≤◌, List, [], ◌∷◌, ◌++◌, length, Bool, true, false, not, ◌||◌, ◌==◌, codes, Option, MatchOption, ◌⊎◌}
use Rattle.std.specs.Bool.{nat_eq}
use Rattle.std.specs.List.{AllByRecursion, starts_with, flat_map}
use Rattle.ca_plane.specs.Prelude.{letter, is_end_or, AreDigits, value, lines_of, words_of, generation_limit}
use Rattle.ca_macro.specs.declared.fault.MacroFault.{MacroFault}
use Rattle.ca_macro.specs.declared.fault.MacroFault.TheVariants.{NotMacro, Timeline, Syntax, Forward, Level, LeafSize, Range, GenTooLarge, Memory}
use Rattle.ca_macro.specs.Nodes.{Node, IsLeaf, NamesPart, IsLevel, MayFollow}
use Rattle.ca_macro.specs.File.{MacrocellLine, Adds, AreNumbers, MacrocellWordsSay, added_nodes, MacrocellLinesSay, MacrocellFile, begins_macro, IsMacrocellFile}
use Rattle.ca_macro.specs.Limits.{IsMacrocellOutOfRange}

-- a line after `[M2]` and good lines: this holds of the nodes of the good lines and the words of this line
pub record HasMacrocellLine (bytes : List ℕ) (P : List Node → List (List ℕ) → Type 0) : Type 0 where
  pub first : List ℕ
  pub good : List (List ℕ)
  pub line : List ℕ
  pub later : List (List ℕ)
  pub said : List MacrocellLine
  pub begins : begins_macro bytes ≡ true
  pub lines_are : lines_of bytes ≡ first ∷ (good ++ line ∷ later)
  pub say : MacrocellLinesSay [] good said
  pub holds : P (flat_map added_nodes said) (words_of line)

-- the first word begins a plane of a timeline
abbrev pub AreTimeline : List (List ℕ) → Type 0
AreTimeline words = (w : List ℕ) × (ws : List (List ℕ)) × (words ≡ w ∷ ws) × (starts_with nat_eq w (codes "#FRAME") ≡ true)

-- words follow `#G`, and they aren't one number
abbrev pub HaveBadGeneration : List (List ℕ) → Type 0
HaveBadGeneration words = (more : List (List ℕ)) × (words ≡ codes "#G" ∷ more) × (more ≢ [])
    × ((digits : List ℕ) → more ≡ digits ∷ [] → AreDigits digits → ⊥)

-- one number follows `#G`, and it is too large
abbrev pub HaveLargeGeneration : List (List ℕ) → Type 0
HaveLargeGeneration words = (digits : List ℕ) × (words ≡ codes "#G" ∷ digits ∷ []) × AreDigits digits × (generation_limit ≤ value digits)

-- the bytes of leaves
abbrev pub is_leaf_byte : ℕ → Bool
is_leaf_byte b = (b == letter ".") || ((b == letter "*") || (b == letter "$"))

-- bytes that begin as a leaf: up to a byte they are one, and with it they aren't. This byte passes the test
pub record HasBadByte (bytes : List ℕ) (test : ℕ → Bool) : Type 0 where
  pub good : List ℕ
  pub rows : List (List Bool)
  pub byte : ℕ
  pub more : List ℕ
  pub some : good ≢ []
  pub leaf : IsLeaf good rows
  pub spelled : bytes ≡ good ++ byte ∷ more
  pub ends_leaf : (longer : List (List Bool)) → IsLeaf (good ++ byte ∷ []) longer → ⊥
  pub passes : test byte ≡ true

-- a row has a ninth cell, or a cell or a row follows the eighth row
abbrev pub HaveLargeLeaf : List (List ℕ) → Type 0
HaveLargeLeaf words = (w : List ℕ) × (ws : List (List ℕ)) × (words ≡ w ∷ ws) × HasBadByte w is_leaf_byte

-- there is another byte among those of a leaf, or words follow the leaf
abbrev pub HaveBadLeaf : List (List ℕ) → Type 0
HaveBadLeaf words = (w : List ℕ) × (ws : List (List ℕ)) × (words ≡ w ∷ ws)
    × (HasBadByte w (λ b. not (is_leaf_byte b)) ⊎ (((rows : List (List Bool)) × IsLeaf w rows) × (ws ≢ [])))

-- the words begin as those of a node of five numbers: not as a comment, and not as a leaf
abbrev pub begin_node : List (List ℕ) → Bool
begin_node [] = false
begin_node (w ∷ ws) = not (is_end_or (λ b. (b == letter "#") || is_leaf_byte b) w)

-- they aren't five numbers
abbrev pub LackNumbers : List (List ℕ) → Type 0
LackNumbers words = (begin_node words ≡ true) × ((level nw ne sw se : ℕ) → AreNumbers words level nw ne sw se → ⊥)

-- of four states one is above 255
abbrev pub HaveLargeState : List (List ℕ) → Type 0
HaveLargeState words = (nw : ℕ) × (ne : ℕ) × (sw : ℕ) × (se : ℕ) × AreNumbers words 1 nw ne sw se
    × (AllByRecursion (λ state. state ≤ 255) (nw ∷ ne ∷ sw ∷ se ∷ []) → ⊥)

-- the words say nothing that a line may say
abbrev pub AreMisspelledNodeWords : List (List ℕ) → Type 0
AreMisspelledNodeWords words = HaveBadGeneration words ⊎ (HaveBadLeaf words ⊎ (LackNumbers words ⊎ HaveLargeState words))

-- this holds of the first of these numbers that may not name a part of this level
pub record HasBadPart (earlier : List Node) (level : ℕ) (numbers : List ℕ) (P : ℕ → Type 0) : Type 0 where
  pub good : List ℕ
  pub number : ℕ
  pub more : List ℕ
  pub spelled : numbers ≡ good ++ number ∷ more
  pub named : AllByRecursion (NamesPart earlier level) good
  pub holds : P number

-- a square of a level from 2 to 120: this holds of its first bad part
abbrev pub HavePart : List Node → List (List ℕ) → (ℕ → ℕ → Type 0) → Type 0
HavePart earlier words P = (level : ℕ) × (nw : ℕ) × (ne : ℕ) × (sw : ℕ) × (se : ℕ) × AreNumbers words level nw ne sw se
    × IsLevel level × HasBadPart earlier (level - 1) (nw ∷ ne ∷ sw ∷ se ∷ []) (P (level - 1))

-- the first bad part isn't an earlier node
abbrev pub HaveForwardPart : List Node → List (List ℕ) → Type 0
HaveForwardPart earlier words = HavePart earlier words (λ level number. length earlier < number)

-- no square has this level
abbrev pub HaveNoLevel : List (List ℕ) → Type 0
HaveNoLevel words = (level : ℕ) × (nw : ℕ) × (ne : ℕ) × (sw : ℕ) × (se : ℕ) × AreNumbers words level nw ne sw se × ((level ≡ 0) ⊎ (120 < level))

-- the level is 0 or above 120, or the first bad part is an earlier node of another level
abbrev pub HaveBadLevel : List Node → List (List ℕ) → Type 0
HaveBadLevel earlier words =
    HaveNoLevel words ⊎ HavePart earlier words (λ level number. (number ≤ length earlier) × (NamesPart earlier level number → ⊥))

-- the words add a node
abbrev pub AddNode : List Node → List (List ℕ) → Type 0
AddNode earlier words = (node : Node) × MacrocellWordsSay words (Adds node) × MayFollow earlier node

-- after good lines a good line adds a node
abbrev pub HasNodeLine : List ℕ → Type 0
HasNodeLine bytes = HasMacrocellLine bytes AddNode

-- what is wrong with the words of a line that follows earlier nodes
abbrev pub AreFaulty : MacroFault → List Node → List (List ℕ) → Type 0
AreFaulty NotMacro earlier words = ⊥
AreFaulty Timeline earlier words = AreTimeline words
AreFaulty Syntax earlier words = AreMisspelledNodeWords words
AreFaulty Forward earlier words = HaveForwardPart earlier words
AreFaulty Level earlier words = HaveBadLevel earlier words
AreFaulty LeafSize earlier words = HaveLargeLeaf words
AreFaulty Range earlier words = ⊥
AreFaulty GenTooLarge earlier words = HaveLargeGeneration words
AreFaulty Memory earlier words = ⊥

-- the first fault in the spelling of a text
abbrev pub IsFirstMacrocellFault : List ℕ → MacroFault → Type 0
IsFirstMacrocellFault bytes NotMacro = begins_macro bytes ≡ false
IsFirstMacrocellFault bytes Range = ⊥
IsFirstMacrocellFault bytes Memory = ⊥
IsFirstMacrocellFault bytes fault = HasMacrocellLine bytes (AreFaulty fault)

-- the first fault in the spelling of a text, and the number of its line. The line that begins with `[M2]` is line 1
abbrev pub IsFirstMacrocellFaultOn : List ℕ → MacroFault → (line : ℕ) → Type 0
IsFirstMacrocellFaultOn bytes NotMacro n = IsFirstMacrocellFault bytes NotMacro × (n ≡ 1)
IsFirstMacrocellFaultOn bytes fault n = (found : HasMacrocellLine bytes (AreFaulty fault)) × (n ≡ length found.good + 2)

-- the line of the first fault in the spelling of a text has this number
abbrev pub IsFaultyMacrocellLine : List ℕ → ℕ → Type 0
IsFaultyMacrocellLine bytes n = (fault : MacroFault) × IsFirstMacrocellFaultOn bytes fault n

-- the fault of a text: the first in its spelling, else a live cell that is out of range. Memory can run out at a good line that
-- adds a node after good lines, and at the end of a good text
abbrev pub IsMacrocellFault : List ℕ → MacroFault → Type 0
IsMacrocellFault bytes Range = (file : MacrocellFile) × IsMacrocellFile bytes file × IsMacrocellOutOfRange file
IsMacrocellFault bytes Memory = HasNodeLine bytes ⊎ ((file : MacrocellFile) × IsMacrocellFile bytes file)
IsMacrocellFault bytes fault = IsFirstMacrocellFault bytes fault

-- the fault of a text, and the number of the line on which it stands: none for a fault that isn't in the spelling
abbrev pub IsMacrocellFaultOn : List ℕ → MacroFault → Option ℕ → Type 0
IsMacrocellFaultOn bytes fault line = IsMacrocellFault bytes fault × MatchOption line (IsFirstMacrocellFault bytes fault → ⊥) (IsFirstMacrocellFaultOn bytes fault)
