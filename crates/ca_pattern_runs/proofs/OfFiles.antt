-- What runs over pattern files write and answer.
use Rattle.std.proofs.Common.{◌≡◌, ◌≢◌, ℕ, List, Option, Result, Ok, Err, inl, inr, refl, subst, sym}
use Rattle.std.specs.Prelude.{IfOk}
use Rattle.std.specs.Io.KnownBytes.{Appends}
use Rattle.ca_plane.specs.Prelude.{Counted, AppendsPrefix}
use Rattle.ca_rule.specs.Prelude.{TableRule}
use Rattle.ca_rule.specs.declared.table.fault.TableFault.{TableFault}
use Rattle.ca_pattern.specs.declared.convert_fault.ConvertFault.{ConvertFault}
use Rattle.ca_pattern.specs.declared.convert_fault.ConvertFault.TheVariants as convert_fault
use Rattle.ca_pattern.specs.declared.located_fault.LocatedFault.TheVariants as located
use Rattle.ca_report.specs.declared.fault.InputFault.TheVariants as inputs
use Rattle.ca_report.specs.declared.fault.ToolFault.{ToolFault}
use Rattle.ca_report.specs.declared.fault.ToolFault.TheVariants.{Input, BadTable, Convert, Write, Memory}
use Rattle.ca_report.specs.Prelude.{ReadsAll, TakesFile, Sends}
use Rattle.ca_pattern_runs.specs.Prelude.{AreKnownTables, HoldsOfTables, HoldsOfReadFile, IsRuleFileFault, TellsTable, TellsConvert, IsBytesFault, IsRunFault, WritesUnder, RunsOver}

-- what holds of the tables that are known
pub of_tables : (rule : Option (List ℕ)) (Holds : List TableRule → Type 0) (all tables : List TableRule) → AreKnownTables rule all → tables ≡ all → Holds tables → HoldsOfTables rule Holds
of_tables rule Holds all tables known equal holds = record { tables = all; known = known; holds = subst Holds equal holds }

-- what is reported, where a fault says the same as others do
convert_more : (P Q : ConvertFault → Type 0) → ((fault : ConvertFault) → P fault → Q fault) → (told : ToolFault) → TellsConvert P told → TellsConvert Q told
convert_more P Q more (Convert f) (other, is) = (other, more f is)
convert_more P Q more Memory is = more convert_fault.Memory is
convert_more P Q more told none = absurd none

pub convert_told : (IsFault : ConvertFault → Type 0) (fault : ConvertFault) (told : ToolFault) → TellsConvert (λ f. f ≡ fault) told → IsFault fault → TellsConvert IsFault told
convert_told IsFault fault told tells is = convert_more (λ f. f ≡ fault) IsFault (λ f same. subst IsFault (sym same) is) told tells

pub table_told : (IsFault : TableFault → Type 0) (fault : TableFault) (told : ToolFault) → TellsTable (λ f. f ≡ fault) told → IsFault fault → TellsTable IsFault told
table_told IsFault fault (BadTable f) tells is = (tells.0, subst IsFault (sym tells.1) is)
table_told IsFault fault Memory same is = subst IsFault (sym same) is
table_told IsFault fault told none is = absurd none

-- none of it is a failed write
table_not_write : (IsFault : TableFault → Type 0) (told : ToolFault) → TellsTable IsFault told → told ≢ Write
table_not_write IsFault Write none = absurd none
table_not_write IsFault told tells = λ is. cc

pub convert_not_write : (IsFault : ConvertFault → Type 0) (told : ToolFault) → TellsConvert IsFault told → told ≢ Write
convert_not_write IsFault Write none = absurd none
convert_not_write IsFault told tells = λ is. cc

-- a run that tells a fault, and writes nothing
pub told_only : {W : Type 0} (contents : W → Option (List ℕ)) (output : Counted W) (rule : Option (List ℕ)) (IsText : List TableRule → List ℕ → Type 0)
    (IsFault : List TableRule → ToolFault → Type 0) (told : ToolFault) → told ≢ Write → IsBytesFault rule IsFault told → WritesUnder contents output output rule IsText IsFault (Err told)
told_only contents output rule IsText IsFault told other is = record {
  whole = tt;
  kept = tt;
  front = λ write. absurd (other cc);
  counted = λ write. absurd (other cc);
  fault = λ also. is;
  nothing = λ also. refl;
}

-- as where the rule file is no good table
pub no_table : {W : Type 0} (contents : W → Option (List ℕ)) (output : Counted W) (rule : Option (List ℕ)) (IsText : List TableRule → List ℕ → Type 0)
    (IsFault : List TableRule → ToolFault → Type 0) (told : ToolFault) → TellsTable (IsRuleFileFault rule) told → WritesUnder contents output output rule IsText IsFault (Err told)
no_table contents output rule IsText IsFault told is = told_only contents output rule IsText IsFault told (table_not_write (IsRuleFileFault rule) told is) (inl is)

-- a text of the bytes was written, or a part of it
pub text_written : {W : Type 0} (contents : W → Option (List ℕ)) (output written : Counted W) (rule : Option (List ℕ)) (IsText : List TableRule → List ℕ → Type 0)
    (IsFault : List TableRule → ToolFault → Type 0) (text sent : List ℕ) (result : Result ℕ ToolFault) → HoldsOfTables rule (λ tables. IsText tables text) → sent ≡ text
    → IfOk result (λ status. status ≡ 0) → Sends contents output written sent Write result → WritesUnder contents output written rule IsText IsFault result
text_written contents output written rule IsText IsFault text sent (Ok status) of same zero sends = record {
  whole = (text, (zero, of), subst (Appends (contents output.inner) (contents written.inner)) same sends.all);
  kept = sends.kept;
  front = λ is. cc;
  counted = λ is. cc;
  fault = tt;
  nothing = tt;
}
text_written contents output written rule IsText IsFault text sent (Err fault) of same zero sends = record {
  whole = tt;
  kept = tt;
  front = λ is. (text, of, subst (AppendsPrefix (contents output.inner) (contents written.inner)) same sends.front);
  counted = λ is. sends.counted;
  fault = λ other. absurd (other sends.fault);
  nothing = λ other. absurd (other sends.fault);
}

-- what holds of a file's bytes that were read, and of the tables
of_file : (old new rule : Option (List ℕ)) (Holds : List ℕ → List TableRule → Type 0) (bytes : List ℕ) → ReadsAll old new bytes → HoldsOfTables rule (Holds bytes)
    → HoldsOfReadFile old new rule Holds
of_file old new rule Holds bytes read of = record { bytes = bytes; tables = of.tables; read = read; known = of.known; holds = of.holds }

-- a fault of a run over the bytes that were read is one of the run over the file
fault_of_file : (old new rule : Option (List ℕ)) (IsFault : List ℕ → List TableRule → ConvertFault → Type 0) (bytes : List ℕ) (told : ToolFault) → ReadsAll old new bytes
    → IsBytesFault rule (λ tables. TellsConvert (IsFault bytes tables)) told → IsRunFault old new rule IsFault told
fault_of_file old new rule IsFault bytes (Input f) read none = elim none [ inl table ↦ absurd table | inr of ↦ absurd of.holds ]
fault_of_file old new rule IsFault bytes told read is = (bytes, read, is)

-- and it is no failed read
not_read : (rule : Option (List ℕ)) (IsFault : List TableRule → ConvertFault → Type 0) (told : ToolFault) → (told ≢ Write → IsBytesFault rule (λ tables. TellsConvert (IsFault tables)) told)
    → told ≢ Input inputs.Read
not_read rule IsFault (Input f) fault = elim (fault (λ write. cc)) [ inl none ↦ absurd none | inr of ↦ absurd of.holds ]
not_read rule IsFault told fault = λ is. cc

-- the file was read, and then there was a run over its bytes
pub over_file : {R W T : Type 0} (remaining : R → Option (List ℕ)) (contents : W → Option (List ℕ)) (input read : Counted R) (rule : Option (List ℕ)) (output written : Counted W)
    (IsText : List ℕ → List TableRule → List ℕ → Type 0) (IsFault : List ℕ → List TableRule → ConvertFault → Type 0) (bytes these : List ℕ) (given : T) (result : Result ℕ ToolFault)
    → TakesFile remaining input read (Input inputs.Read) (Ok given) → ReadsAll (remaining input.inner) (remaining read.inner) bytes → these ≡ bytes
    → WritesUnder contents output written rule (IsText these) (λ tables. TellsConvert (IsFault these tables)) result
    → RunsOver remaining contents input read rule output written IsText IsFault result
over_file remaining contents input read rule output written IsText IsFault bytes these given (Ok status) takes reads same writes = record {
  reads = record { bounded = takes.bounded; failed = λ is. cc; kept = λ other. takes.kept (λ is. cc) };
  writes = record {
    whole = let (text, (zero, of), sent) = writes.whole in
        (text, (zero, of_file (remaining input.inner) (remaining read.inner) rule (λ it tables. IsText it tables text) these (subst (ReadsAll (remaining input.inner) (remaining read.inner)) (sym same) reads) of), sent);
    kept = writes.kept;
    front = λ is. cc;
    counted = λ is. cc;
    fault = tt;
    nothing = tt;
  };
}
over_file remaining contents input read rule output written IsText IsFault bytes these given (Err told) takes reads same writes =
    let all = subst (ReadsAll (remaining input.inner) (remaining read.inner)) (sym same) reads in record {
      reads = record { bounded = takes.bounded; failed = λ is. absurd (not_read rule (IsFault these) told writes.fault cc); kept = λ other. takes.kept (λ is. cc) };
      writes = record {
        whole = tt;
        kept = tt;
        front = λ is. let (text, of, sent) = writes.front is in (text, of_file (remaining input.inner) (remaining read.inner) rule (λ it tables. IsText it tables text) these all of, sent);
        counted = writes.counted;
        fault = λ other. fault_of_file (remaining input.inner) (remaining read.inner) rule IsFault these told all (writes.fault other);
        nothing = writes.nothing;
      };
    }
