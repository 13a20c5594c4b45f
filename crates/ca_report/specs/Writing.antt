-- What a call that writes does to its device, whose writer tells its bytes by `contents`.
use Rattle.std.specs.Prelude.{◌≡◌, ◌≢◌, ℕ, List, Option, Result, IfOk, IfErr, OnOk, OnErr, IsErrOf}
use Rattle.std.specs.Io.KnownBytes.{Appends}
use Rattle.ca_plane.specs.Prelude.{Counted, Rises, AppendsPrefix}
use Rattle.ca_report.specs.declared.fault.ToolFault.{ToolFault}
use Rattle.ca_report.specs.declared.fault.ToolFault.TheVariants.{Write}

-- the whole text is written, or a first part of it and then a write fails: that failure is the only fault, and it is counted
pub record Sends {W T E : Type 0} (contents : W → Option (List ℕ)) (old new : Counted W) (text : List ℕ) (failure : E) (result : Result T E) : Type 0 where
  -- all of it was written, and no failure was counted
  pub all : OnOk result (Appends (contents old.inner) (contents new.inner) text)
  pub kept : OnOk result (new.failures ≡ old.failures)
  -- a write failed, after a first part of the text, but not all of it
  pub fault : IfErr result (λ e. e ≡ failure)
  pub counted : OnErr result (Rises old.failures new.failures)
  pub front : OnErr result (AppendsPrefix (contents old.inner) (contents new.inner) text)

-- one of some texts is written whole, with what is answered of it; or a first part of one that may be begun, and then a write fails, which is counted; or
-- nothing, for another fault, which holds
pub record WritesOneOf {W T : Type 0} (contents : W → Option (List ℕ)) (old new : Counted W)
    (IsText : List ℕ → T → Type 0) (IsBegun : List ℕ → Type 0)
    (IsFault : ToolFault → Type 0) (result : Result T ToolFault) : Type 0 where
  -- all of such a text was written, and no failure was counted
  pub whole : IfOk result (λ told. (text : List ℕ) × IsText text told × Appends (contents old.inner) (contents new.inner) text)
  pub kept : OnOk result (new.failures ≡ old.failures)
  -- a write failed, after a first part of such a text, but not all of it
  pub front : IsErrOf result Write → (text : List ℕ) × IsBegun text × AppendsPrefix (contents old.inner) (contents new.inner) text
  pub counted : IsErrOf result Write → Rises old.failures new.failures
  -- another fault holds, and nothing was written
  pub fault : IfErr result (λ f. f ≢ Write → IsFault f)
  pub nothing : IfErr result (λ f. f ≢ Write → new ≡ old)
