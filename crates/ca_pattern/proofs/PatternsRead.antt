-- Pattern files that read and that don't, and what is listed of a plane.
use Rattle.std.proofs.Common.{◌≡◌, ℕ, ◌≤◌, ◌<◌, ℤ, List, get_or, Option, inr, sym, subst, ◌∙◌, arith}
use Rattle.std.specs.List.{All}
use Rattle.ca_plane.specs.declared.point.Point.{Point}
use Rattle.ca_plane.specs.Prelude.{Picture, cell, IsInRange, IsSparse}
use Rattle.ca_plane.proofs.Pictures.{cell-listed}
use Rattle.ca_macro.specs.Prelude.{AreInRange}
use Rattle.ca_pattern.specs.declared.{format.Format.Format, pattern_fault.PatternFault.PatternFault}
use Rattle.ca_pattern.specs.declared.format.Format.TheVariants.{Rle, Mc}
use Rattle.ca_pattern.specs.Prelude.{format_of, IsReadableAs, MayWantMemoryAs, IsPatternFault, IsPatternFaultOn, IsReadable, MayWantMemory}
use Rattle.ca_pattern.specs.declared.pattern_fault.PatternFault.TheVariants as pattern_fault

-- ---- files that read

-- memory may run out for them
reads_may_want_as : (format : Format) (bytes : List ℕ) → IsReadableAs format bytes → MayWantMemoryAs format bytes
reads_may_want_as Rle bytes reads = reads
reads_may_want_as Mc bytes reads = inr (reads.0, reads.1)

pub reads_may_want : (bytes : List ℕ) → IsReadable bytes → MayWantMemory bytes
reads_may_want bytes reads = reads_may_want_as (format_of bytes) bytes reads

-- ---- files that don't

-- a fault on a line is a fault
pub fault_on : (bytes : List ℕ) (fault : PatternFault) (line : Option ℕ) → IsPatternFaultOn bytes fault line → IsPatternFault bytes fault
fault_on bytes (pattern_fault.Rle fault) line on = (on.0, on.1, on.2.0)
fault_on bytes (pattern_fault.Macro fault) line on = (on.0, on.1, on.2.0)
fault_on bytes pattern_fault.Memory line on = on

-- each listed state of a plane is small where all states are
pub listed_below : (states : ℕ) (p : Picture) → IsSparse p → ((x y : ℤ) → cell p x y < states) → All (λ e. e.1 < states) p
listed_below states p sparse below = λ k d l.
    let at : Point = (get_or p k d).0 in
    subst (λ s. s < states) (cell-listed p sparse k d l) (below at.x at.y)

-- and each listed cell is in range where all live cells are
pub listed_in_range : (p : Picture) → IsSparse p → AreInRange (cell p) → All (λ e. IsInRange e.0) p
listed_in_range p sparse range = λ k d l.
    let at : Point = (get_or p k d).0 in
    let low : 1 ≤ (get_or p k d).1 = (sparse.states k d l).0 in
    range at.x at.y (λ e. let none : (get_or p k d).1 ≡ 0 = sym (cell-listed p sparse k d l) ∙ e in omega arith)
