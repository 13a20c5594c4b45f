-- The statements of a rule table, a line at a time.
use Rattle.std.proofs.Common.{◌≡◌, ℕ, ◌≤◌, true, false, List, [], ◌∷◌, ◌++◌, Option, ◌⊎◌, refl, sym, ap, subst, ◌∙◌, append_assoc, inl, inr}
use Rattle.std.specs.List.{AllZip}
use Rattle.ca_plane.specs.Prelude.{value}
use Rattle.ca_rule.specs.declared.table.{slot.Slot.Slot, statement_fault.StatementFault.StatementFault, statements.Statements.Statements}
use Rattle.ca_rule.specs.declared.table.statement_fault.StatementFault.TheVariants.{Syntax, State, Name, Unbound, Memory}
use Rattle.ca_rule.specs.Prelude.{NumberedLine, begins_section, IsVariableLine, IsTransitionLine, HasTable, Settings, SettingsMean, SaidStatements, no_statements, StandsFor, number_of, SaysVariable}
use Rattle.ca_rule.specs.Prelude.{is_bound, field_count, SaysTransition, LinesSay, follows_settings, HasStatement, HasFields, HasBadField, IsTableTextFault}
use Rattle.ca_rule.specs.inner.TableNames.{HasNoSlot, IsFaultAmong, IsFaultOfTransition}
use Rattle.ca_rule.specs.inner.TableSaid.{KeepsStatements, with_variable, with_transition}
use Rattle.ca_rule.specs.inner.TableSaying.{fault_at, IsKeptBehind, IsFaultOfLine, IsBehindSaid, AreAllSaid}
use Rattle.ca_rule.proofs.StatementsSaid.{all-stand}

-- the line of a variable says one more, and it is kept
pub variable-behind : (settings : Settings) (said : SaidStatements) (line : NumberedLine) (name : List ℕ) (fields : List (List ℕ)) (kept : Statements) → IsVariableLine line name fields
    → (slots : List Slot) × AllZip (StandsFor settings said) fields slots × KeepsStatements (with_variable settings said name slots) kept → IsKeptBehind settings said line kept
variable-behind settings said line name fields kept is h =
    (with_variable settings said name h.0, inl (record { name = name; fields = fields; slots = h.0; spelled = is; stand = h.1; after_is = refl }), h.2)

-- and so a transition
pub transition-behind : (settings : Settings) (said : SaidStatements) (line : NumberedLine) (fields : List (List ℕ)) (kept : Statements) → IsTransitionLine line (field_count settings) fields
    → (inputs : List Slot) × (becomes : Slot) × AllZip (StandsFor settings said) fields (inputs ++ becomes ∷ []) × (is_bound becomes inputs ≡ true) × KeepsStatements (with_transition said inputs becomes) kept → IsKeptBehind settings said line kept
transition-behind settings said line fields kept is h =
    (with_transition said h.0 h.1, inr (record { fields = fields; inputs = h.0; result = h.1; spelled = is; stand = h.2; holds = (h.3, refl) }), h.4)

-- the first field that stands for nothing
pub bad-field : (settings : Settings) (said : SaidStatements) (line : NumberedLine) (P : List ℕ → Type 0) (fields good later : List (List ℕ)) (slots : List Slot) (field : List ℕ) → HasFields settings line fields → fields ≡ good ++ field ∷ later
    → AllZip (StandsFor settings said) good slots → P field → HasBadField settings said line P
bad-field settings said line P fields good later slots field spelled whole stand holds =
    record { good = good; slots = slots; field = field; later = later; spelled = subst (HasFields settings line) whole spelled; stand = stand; holds = holds }

-- a fault among the fields of a line is the line's
module _ (settings : Settings) (said : SaidStatements) (count : ℕ) (numbers : List ℕ → Option ℕ) (same : settings.states ≡ count) (named : (name : List ℕ) → numbers name ≡ number_of 0 said.variables name) (line : NumberedLine) (fields : List (List ℕ)) where
  unslotted : (f : StatementFault) (P : List ℕ → Type 0) → HasFields settings line fields → (h : HasNoSlot count numbers fields f) → P h.field → HasBadField settings said line P
  unslotted f P spelled h = bad-field settings said line P fields h.good h.later h.slots h.field spelled h.whole (all-stand settings said count numbers same named h.good h.slots h.stand)

  no-slot : (f : StatementFault) → HasFields settings line fields → HasNoSlot count numbers fields f → IsFaultOfLine settings said line f
  no-slot State spelled h = unslotted State _ spelled h (h.holds.0, subst (λ c. c ≤ value h.field) (sym same) h.holds.1)
  no-slot Name spelled h = unslotted Name _ spelled h (h.holds.0, sym (named h.field) ∙ h.holds.1)
  no-slot Syntax spelled h = absurd h.holds
  no-slot Unbound spelled h = absurd h.holds
  no-slot Memory spelled h = absurd h.holds

  pub variable-fault : (name : List ℕ) (f : StatementFault) → IsVariableLine line name fields → IsFaultAmong count numbers fields f → IsFaultOfLine settings said line f
  variable-fault name Memory is h =
      (with_variable settings said name h.0, inl (record { name = name; fields = fields; slots = h.0; spelled = is; stand = all-stand settings said count numbers same named fields h.0 h.1; after_is = refl }))
  variable-fault name Syntax is h = no-slot Syntax (inl (name, is)) h
  variable-fault name State is h = no-slot State (inl (name, is)) h
  variable-fault name Name is h = no-slot Name (inl (name, is)) h
  variable-fault name Unbound is h = no-slot Unbound (inl (name, is)) h

  pub transition-fault : (f : StatementFault) → IsTransitionLine line (field_count settings) fields → IsFaultOfTransition count numbers fields f → IsFaultOfLine settings said line f
  transition-fault Memory is h = (
    with_transition said h.inputs h.result,
    inr (record { fields = fields; inputs = h.inputs; result = h.result; spelled = is; stand = all-stand settings said count numbers same named fields (h.inputs ++ h.result ∷ []) h.stand; holds = (h.bound_is, refl) }),
  )
  transition-fault Unbound is h = record {
    fields = fields;
    inputs = h.inputs;
    result = h.result;
    spelled = is;
    stand = all-stand settings said count numbers same named fields (h.inputs ++ h.result ∷ []) h.stand;
    holds = h.bound_is;
  }
  transition-fault Syntax is h = no-slot Syntax (inr is) h
  transition-fault State is h = no-slot State (inr is) h
  transition-fault Name is h = no-slot Name (inr is) h

-- one more line says something after the others
say-snoc : (settings : Settings) (said mid after : SaidStatements) (ls : List NumberedLine) (l : NumberedLine) → LinesSay settings said ls mid → SaysVariable settings mid l after ⊎ SaysTransition settings mid l after → LinesSay settings said (ls ++ l ∷ []) after
say-snoc settings said mid after [] l h says = (after, subst (λ s. SaysVariable settings s l after ⊎ SaysTransition settings s l after) (sym h) says, refl)
say-snoc settings said mid after (x ∷ xs) l h says = (h.0, h.1, say-snoc settings h.0 mid after xs l h.2 says)

-- one more line is said
pub one-said : (settings : Settings) (all left later : List NumberedLine) (line : NumberedLine) (old new : Statements) → IsBehindSaid settings all left old → left ≡ line ∷ later
    → ((said : SaidStatements) → KeepsStatements said old → IsKeptBehind settings said line new) → IsBehindSaid settings all later new
one-said settings all left later line old new before next more =
    let is = more before.said before.is_kept in
    record {
      good = before.good ++ line ∷ [];
      said = is.0;
      whole = before.whole ∙ ap (λ l. before.good ++ l) next ∙ sym (append_assoc before.good (line ∷ []) later);
      say = say-snoc settings no_statements before.said is.0 before.good line before.say is.1;
      is_kept = is.2;
    }

-- where a section begins after them, all are said
pub section-behind : (settings : Settings) (all left later : List NumberedLine) (line : NumberedLine) (kept : Statements) → IsBehindSaid settings all left kept → left ≡ line ∷ later → begins_section line ≡ true → AreAllSaid settings all kept
section-behind settings all left later line kept before next begins = record { later = line ∷ later; tail_after = subst (λ l. IsBehindSaid settings all l kept) next before; ends = begins }

-- a line of the table comes after good settings and good statements, and this holds of it
pub has-statement : (bytes named : List ℕ) (head before later : List NumberedLine) (settings : Settings) (said : SaidStatements) (line : NumberedLine) → SettingsMean head settings → HasTable bytes named (head ++ (before ++ line ∷ later))
    → follows_settings (before ++ line ∷ later) ≡ true → LinesSay settings no_statements before said → begins_section line ≡ false → (P : Settings → SaidStatements → NumberedLine → Type 0) → P settings said line → HasStatement bytes line.0 P
has-statement bytes named head before later settings said line mean has ended say inside P holding = record {
  name = named;
  setting_lines = head;
  good = before;
  line = line;
  later = later;
  settings = settings;
  said = said;
  has_table = has;
  mean = mean;
  ends = ended;
  say = say;
  in_table = inside;
  number = refl;
  holds = holding;
}

-- or the next line has a fault
module _ (settings : Settings) (all left later : List NumberedLine) (line : NumberedLine) (kept : Statements) (before : IsBehindSaid settings all left kept) (next : left ≡ line ∷ later) (in_table : begins_section line ≡ false)
    (bytes name : List ℕ) (head : List NumberedLine) (has : HasTable bytes name (head ++ all)) (mean : SettingsMean head settings) (ended : follows_settings all ≡ true) where
  at-line : (P : Settings → SaidStatements → NumberedLine → Type 0) → P settings before.said line → HasStatement bytes line.0 P
  at-line =
      let whole = before.whole ∙ ap (λ l. before.good ++ l) next in
      has-statement bytes name head before.good later settings before.said line mean (subst (λ l. HasTable bytes name (head ++ l)) whole has)
      (ap follows_settings (sym whole) ∙ ended) before.say in_table

  pub line-fault : (f : StatementFault) → ((said : SaidStatements) → KeepsStatements said kept → IsFaultOfLine settings said line f) → IsTableTextFault bytes (fault_at line.0 f)
  line-fault Syntax fault = inr (at-line _ (fault before.said before.is_kept))
  line-fault State fault = inr (at-line _ (fault before.said before.is_kept))
  line-fault Name fault = at-line _ (fault before.said before.is_kept)
  line-fault Unbound fault = at-line _ (fault before.said before.is_kept)
  line-fault Memory fault = inl (line.0, at-line _ (fault before.said before.is_kept))
