-- The text of a rule table, read whole.
use Rattle.std.proofs.Common.{◌≡◌, ℕ, true, List, [], ◌∷◌, ◌++◌, refl, sym, ap, subst, ◌∙◌, inl, inr, ◌⊎◌, arith}
use Rattle.std.specs.List.{list_all, AllZip}
use Rattle.std.proofs.lemmas.Bool.Decides.{nat_tests}
use Rattle.std.proofs.lemmas.List.Folds.{list_all-append}
use Rattle.ca_rule.specs.declared.table.{slot.Slot.Slot, statements.Statements.Statements}
use Rattle.ca_rule.specs.declared.table.slot.Slot.TheVariants.{Number, Variable}
use Rattle.ca_rule.specs.Prelude.{Transition, NumberedLine, HasTable, Settings, SaidStatements, no_statements, StandsFor, SaysVariable, SaysTransition, LinesSay, IsTable}
use Rattle.ca_rule.specs.inner.TableSaying.{AreAllSaid}
use Rattle.ca_rule.specs.inner.TableSettings.{IsBehindMeant}
use Rattle.ca_rule.specs.inner.TableStored.{stored_table, is_below}

-- a slot that a field stands for is below the number of states
module _ (settings : Settings) where
  stands-below : (said : SaidStatements) (field : List ℕ) (slot : Slot) → StandsFor settings said field slot → is_below settings.states slot ≡ true
  stands-below said field (Number state) h = let low = h.2 in grind (arith, nat_tests)
  stands-below said field (Variable v) h = refl

  last-below : (said : SaidStatements) (fields : List (List ℕ)) (inputs : List Slot) (result : Slot) → AllZip (StandsFor settings said) fields (inputs ++ result ∷ []) → is_below settings.states result ≡ true
  last-below said [] [] result h = absurd h
  last-below said [] (i ∷ is) result h = absurd h
  last-below said (f ∷ fs) [] result h = stands-below said f result h.0
  last-below said (f ∷ fs) (i ∷ is) result h = last-below said fs is result h.1

  -- so are the results of the transitions that a line says
  line-below : (said after : SaidStatements) (line : NumberedLine) → list_all (λ t. is_below settings.states t.result) said.transitions ≡ true → SaysVariable settings said line after ⊎ SaysTransition settings said line after
      → list_all (λ t. is_below settings.states t.result) after.transitions ≡ true
  line-below said after line below (inl v) = ap (λ (s : SaidStatements). list_all (λ t. is_below settings.states t.result) s.transitions) v.after_is ∙ below
  line-below said after line below (inr v) =
      let low = last-below said v.fields v.inputs v.result v.stand in
      ap (λ (s : SaidStatements). list_all (λ t. is_below settings.states t.result) s.transitions) v.holds.1
      ∙ list_all-append (λ t. is_below settings.states t.result) said.transitions (record { inputs = v.inputs; result = v.result } ∷ [])
      ∙ rw below (rw low refl)

  -- and those that all lines say
  pub all-below : (said after : SaidStatements) (lines : List NumberedLine) → list_all (λ t. is_below settings.states t.result) said.transitions ≡ true → LinesSay settings said lines after → list_all (λ t. is_below settings.states t.result) after.transitions ≡ true
  all-below said after [] below h = subst (λ (s : SaidStatements). list_all (λ t. is_below settings.states t.result) s.transitions ≡ true) h below
  all-below said after (l ∷ ls) below h = all-below h.0 after ls (line-below said h.0 l below h.1) h.2

  pub kept-below : (all : List NumberedLine) (kept : Statements) → AreAllSaid settings all kept → list_all (λ (t : Transition). is_below settings.states t.result) kept.transitions.items ≡ true
  kept-below all kept h =
      let said = h.tail_after.said in
      ap (list_all (λ (t : Transition). is_below settings.states t.result)) (sym h.tail_after.is_kept.lines) ∙ all-below no_statements said h.tail_after.good refl h.tail_after.say

-- what is stored is what the text says
pub is-table : (bytes name : List ℕ) (all left : List NumberedLine) (settings : Settings) (kept : Statements) → HasTable bytes name all → IsBehindMeant all settings left → AreAllSaid settings left kept
    → IsTable bytes (stored_table name settings.states settings.neighbourhood settings.symmetry kept.variables.items kept.transitions.items)
is-table bytes name all left settings kept has before h = record {
  name = name;
  setting_lines = before.good;
  statements = h.tail_after.good;
  later = h.later;
  settings = settings;
  said = h.tail_after.said;
  has_table = subst (HasTable bytes name) (before.whole ∙ ap (λ l. before.good ++ l) h.tail_after.whole) has;
  mean = before.mean;
  say = h.tail_after.say;
  ends = h.ends;
  table_is = λ i. stored_table name settings.states settings.neighbourhood settings.symmetry (sym h.tail_after.is_kept.sets i) (sym h.tail_after.is_kept.lines i);
}
