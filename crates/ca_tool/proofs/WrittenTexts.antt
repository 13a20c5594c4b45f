-- Runs that write one text of several.
use Rattle.std.proofs.Common.{ℕ, List, Option, Result, Ok, Err}
use Rattle.ca_plane.specs.Prelude.{Counted, AppendsPrefix}
use Rattle.ca_report.specs.declared.fault.ToolFault.{ToolFault}
use Rattle.ca_report.specs.Prelude.{WritesOneOf}

-- one of other texts too, where each whole text is one of those, and a first part is one of those begun
pub writes_weaker : {W : Type 0} (contents : W → Option (List ℕ)) (old new : Counted W) (IsText IsOther : List ℕ → ℕ → Type 0) (IsBegun IsOtherBegun : List ℕ → Type 0) (IsFault : ToolFault → Type 0) (result : Result ℕ ToolFault)
    → WritesOneOf contents old new IsText IsBegun IsFault result → ((text : List ℕ) (code : ℕ) → IsText text code → IsOther text code)
    → ((text : List ℕ) × IsBegun text × AppendsPrefix (contents old.inner) (contents new.inner) text → (text : List ℕ) × IsOtherBegun text × AppendsPrefix (contents old.inner) (contents new.inner) text)
    → WritesOneOf contents old new IsOther IsOtherBegun IsFault result
writes_weaker contents old new IsText IsOther IsBegun IsOtherBegun IsFault (Ok code) writes whole part = record {
  whole = let (text, is, sent) = writes.whole in (text, whole text code is, sent);
  kept = writes.kept;
  front = λ is. part (writes.front is);
  counted = writes.counted;
  fault = writes.fault;
  nothing = writes.nothing;
}
writes_weaker contents old new IsText IsOther IsBegun IsOtherBegun IsFault (Err fault) writes whole part = record {
  whole = writes.whole;
  kept = writes.kept;
  front = λ is. part (writes.front is);
  counted = writes.counted;
  fault = writes.fault;
  nothing = writes.nothing;
}
