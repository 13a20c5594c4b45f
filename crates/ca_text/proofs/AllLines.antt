-- A claim text read to its end or to its first fault.
use Rattle.std.proofs.Common.{◌≡◌, ℕ, ◌+◌, ◌<◌, ◌≤◌, List, [], ◌∷◌, ◌++◌, length, Option, Result, refl, sym, ap, subst, ◌∙◌, append_assoc, arith}
use Rattle.std.specs.Result.{IfErr, IsErrAnd}
use Rattle.std.proofs.lemmas.Result.{err_from_is_err_and}
use Rattle.std.proofs.lemmas.List.{length_push}
use Rattle.ca_plane.specs.Prelude.{lines_of, words_of}
use Rattle.ca_text.specs.declared.{reading.Reading.Reading, fault.ClaimFault.ClaimFault}
use Rattle.ca_text.specs.declared.fault.ClaimFault.TheVariants.{Syntax, Number, UnknownName, NameTaken, Memory}
use Rattle.ca_text.specs.Prelude.{ClaimTextLine, ClaimLinesSay, said_lines, HasClaimLine, AreMisspelledClaimWords, HaveBadNumber, AskUnknown, LoadTaken, NeedMemory, IsFirstClaimFault}
use Rattle.ca_text.specs.inner.Reading.{IsClaimReading, SaysNext, HasClaimFault}
use Rattle.ca_text.proofs.LinesSaid.{ClaimLinesSay-push, length_said}

-- some lines of the text are read, and these bytes are left
pub record HasRead (bytes rest : List ℕ) (number : ℕ) (reading : Reading) : Type 0 where
  pub done : List (List ℕ)
  pub said : List (Option ClaimTextLine)
  pub lines : lines_of bytes ≡ done ++ lines_of rest
  pub good : ClaimLinesSay [] done said
  pub read : IsClaimReading said reading
  pub counted : number ≡ length done
  pub room : number + length rest ≤ length bytes

module _ (bytes rest : List ℕ) (number : ℕ) (reading : Reading) (so_far : HasRead bytes rest number reading) where
  -- each line has said something or nothing
  number_said : number + 1 ≡ length so_far.said + 1
  number_said =
      let said = length_said [] so_far.done so_far.said so_far.good in
      let counted = so_far.counted in
      omega arith

  -- one more line is counted
  more_counted : (line : List ℕ) → number + 1 ≡ length (so_far.done ++ line ∷ [])
  more_counted line = let counted = so_far.counted in omega (arith, length_push so_far.done line)

  -- and the number of lines is at most that of bytes
  more_room : (later : List ℕ) → length later < length rest → number + 1 + length later ≤ length bytes
  more_room later shorter = let room = so_far.room in omega arith

  -- one more line
  pub one_read : (line later : List ℕ) (after : Reading) → lines_of rest ≡ line ∷ lines_of later → length later < length rest
      → ((said : List (Option ClaimTextLine)) → IsClaimReading said reading → number + 1 ≡ length said + 1 → (s : Option ClaimTextLine) × SaysNext (said_lines said) (words_of line) s × IsClaimReading (said ++ s ∷ []) after)
      → HasRead bytes later (number + 1) after
  one_read line later after next shorter says =
      let s = says so_far.said so_far.read number_said in
      record {
        done = so_far.done ++ line ∷ [];
        said = so_far.said ++ s.0 ∷ [];
        lines = so_far.lines ∙ ap (λ l. so_far.done ++ l) next ∙ sym (append_assoc so_far.done (line ∷ []) (lines_of later));
        good = ClaimLinesSay-push [] so_far.done so_far.said line s.0 so_far.good s.1;
        read = s.2;
        counted = more_counted line;
        room = more_room later shorter;
      }

  -- the line that follows, of whose words this holds
  next_line : (P : List ClaimTextLine → List (List ℕ) → Type 0) (line later : List ℕ) (n : ℕ) → lines_of rest ≡ line ∷ lines_of later → n ≡ number + 1 → P (said_lines so_far.said) (words_of line) → HasClaimLine bytes n P
  next_line P line later n next e holds =
      let counted = so_far.counted in
      record {
        before = so_far.done;
        line = line;
        later = lines_of later;
        said = so_far.said;
        good = so_far.good;
        among = so_far.lines ∙ ap (λ l. so_far.done ++ l) next;
        number = omega arith;
        holds = holds;
      }

  -- its fault is the first of the text
  fault_next : (line later : List ℕ) → lines_of rest ≡ line ∷ lines_of later → (f : ClaimFault) → HasClaimFault (number + 1) (said_lines so_far.said) (words_of line) f → IsFirstClaimFault bytes f
  fault_next line later next (Syntax n) h = next_line AreMisspelledClaimWords line later n next h.0 h.1
  fault_next line later next (Number n) h = next_line HaveBadNumber line later n next h.0 h.1
  fault_next line later next (UnknownName n) h = next_line AskUnknown line later n next h.0 h.1
  fault_next line later next (NameTaken n) h = next_line LoadTaken line later n next h.0 h.1
  fault_next line later next Memory h = (number + 1, next_line NeedMemory line later (number + 1) next refl h)

  -- so is the one that `?` passes on
  pub first_fault : {T : Type 0} (line later : List ℕ) → lines_of rest ≡ line ∷ lines_of later → (r : Result T ClaimFault) (f : ClaimFault) → IsErrAnd r (λ passed. passed ≡ f)
      → ((said : List (Option ClaimTextLine)) → IsClaimReading said reading → HasClaimFault (number + 1) (said_lines said) (words_of line) f) → IfErr r (λ g. IsFirstClaimFault bytes g)
  first_fault line later next r f h faults =
      let p = err_from_is_err_and r h in
      subst (λ o. IfErr o (λ g. IsFirstClaimFault bytes g)) (sym p.1) (subst (IsFirstClaimFault bytes) (sym p.2) (fault_next line later next f (faults so_far.said so_far.read)))
