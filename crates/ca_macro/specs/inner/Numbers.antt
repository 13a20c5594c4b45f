-- The numbers of a line, read word by word.
use Rattle.std.specs.Prelude.{◌≡◌, ℕ, List, length}
use Rattle.std.specs.List.{AllZip}
use Rattle.ca_plane.specs.Prelude.{AreDigits, value, nearest_u64}
use Rattle.ca_macro.specs.declared.line.numbers.Numbers.{Numbers}
use Rattle.ca_macro.specs.File.{IsNumber, AreNumbers}

-- a word is a number of any count of digits, of which this is kept
abbrev pub KeepsNumberOf : List ℕ → ℕ → Type 0
KeepsNumberOf word kept = AreDigits word × (kept ≡ nearest_u64 (value word))

-- the words aren't `count` numbers
abbrev pub AreNoNumbers : ℕ → List (List ℕ) → Type 0
AreNoNumbers count words = (numbers : List ℕ) → length numbers ≡ count → AllZip IsNumber words numbers → ⊥

-- the words are a node's five numbers, of which these are kept
abbrev pub AreKept : List (List ℕ) → Numbers → Type 0
AreKept words kept = (level : ℕ) × (nw : ℕ) × (ne : ℕ) × (sw : ℕ) × (se : ℕ) × AreNumbers words level nw ne sw se
    × (kept.level ≡ nearest_u64 level) × (kept.nw ≡ nearest_u64 nw) × (kept.ne ≡ nearest_u64 ne) × (kept.sw ≡ nearest_u64 sw) × (kept.se ≡ nearest_u64 se)
