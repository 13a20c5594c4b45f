-- The settings of a rule table, a line at a time.
use Rattle.std.proofs.Common.{◌≡◌, ℕ, Bool, true, false, not, ◌&&◌, ◌||◌, List, [], ◌∷◌, ◌++◌, Option, Some, None, codes, refl, sym, ap, subst, ◌∙◌, append_assoc, inl, inr, ◌⊎◌, Bor, arith}
use Rattle.std.specs.Prelude.{is_some, MatchOption, Result, IfErr}
use Rattle.std.specs.Result.{IsErrAnd}
use Rattle.std.proofs.lemmas.Bool.{and_parts, and_from}
use Rattle.std.proofs.lemmas.Result.{err_from_is_err_and}
use Rattle.std.specs.Option.{option_or}
use Rattle.std.proofs.lemmas.List.{append-nil}
use Rattle.ca_rule.specs.declared.table.{settings.SettingValues.SettingValues, fault.TableFault.TableFault}
use Rattle.ca_rule.specs.Prelude.{NumberedLine, setting, is_setting, value_of, HasTable, Settings, SettingsMean, sets_again, are_settings, number_at, follows_settings, SetsAgain, HaveEnd}
use Rattle.ca_rule.specs.Prelude.{IsTableTextFault}
use Rattle.ca_rule.specs.inner.TableSettings.{bytes_of, AreValuesOf, AreGivenBy, has_some, have_one, joined_settings, IsBehindSettings, IsBehindMeant}

-- a value that is matched is that of the bytes
pub matched : (value : Option (Bor (List ℕ))) (is : Option (List ℕ)) → MatchOption value (is ≡ None) (λ r. is ≡ Some r.now) → is ≡ bytes_of value
matched None is h = h
matched (Some r) is h = h

-- they are there where the value is
same-some : (value : Option (Bor (List ℕ))) (is : Option (List ℕ)) → is ≡ bytes_of value → is_some value ≡ is_some is
same-some None is e = sym (ap is_some e)
same-some (Some r) is e = sym (ap is_some e)

-- the first of two values
or-bytes : (one other : Option (Bor (List ℕ))) → bytes_of (option_or one other) ≡ option_or (bytes_of one) (bytes_of other)
or-bytes None other = refl
or-bytes (Some r) other = refl

or-none : (value : Option (List ℕ)) → option_or value None ≡ value
or-none None = refl
or-none (Some r) = refl

cases_Option : (o : Option (List ℕ)) → (o ≡ None) ⊎ ((r : List ℕ) × (o ≡ Some r))
cases_Option None = inl refl
cases_Option (Some r) = inr (r, refl)

-- three tests of which one holds, and two that both hold
any-of : (a b c x y z : Bool) → a ≡ x → b ≡ y → c ≡ z → ((a || b) || c) ≡ (x || (y || (z || false)))
any-of a b c x y z e f g = grind arith

both-of : (a b x y : Bool) → a ≡ x → b ≡ y → (a && b) ≡ (y && x)
both-of a b x y e f = grind arith

-- the value that one more line gives
value-snoc : (word : List ℕ) (ls : List NumberedLine) (l : NumberedLine) → value_of word (ls ++ l ∷ []) ≡ option_or (value_of word ls) (setting word l)
value-snoc word [] l = or-none (setting word l)
value-snoc word (x ∷ xs) l = elim (cases_Option (setting word x)) [
  | inl n ↦ rw n (value-snoc word xs l)
  | inr s ↦ rw s.1 refl
]

bytes-snoc : (word : List ℕ) (ls : List NumberedLine) (l : NumberedLine) (value given : Option (Bor (List ℕ))) → value_of word ls ≡ bytes_of value → setting word l ≡ bytes_of given → value_of word (ls ++ l ∷ []) ≡ bytes_of (option_or value given)
bytes-snoc word ls l value given e f = value-snoc word ls l ∙ ap (λ o. option_or o (setting word l)) e ∙ ap (option_or (bytes_of value)) f ∙ sym (or-bytes value given)

module _ (line : NumberedLine) (given : SettingValues) (are : AreGivenBy line given) where
  -- a line that gives a value is a setting
  pub is-setting : has_some given ≡ is_setting line
  is-setting = any-of _ _ _ _ _ _ (same-some given.states _ are.states_are) (same-some given.neighbourhood _ are.neighbourhood_is) (same-some given.symmetry _ are.symmetry_is)

  -- one that gives a value again sets again
  pub is-again : (lines : List NumberedLine) (values : SettingValues) → AreValuesOf lines values → have_one values given ≡ sets_again lines line
  is-again lines values of = any-of _ _ _ _ _ _
      (both-of _ _ _ _ (same-some values.states _ of.states_are) (same-some given.states _ are.states_are))
      (both-of _ _ _ _ (same-some values.neighbourhood _ of.neighbourhood_is) (same-some given.neighbourhood _ are.neighbourhood_is))
      (both-of _ _ _ _ (same-some values.symmetry _ of.symmetry_is) (same-some given.symmetry _ are.symmetry_is))

  -- and the values with this line's
  pub values-snoc : (lines : List NumberedLine) (values : SettingValues) → AreValuesOf lines values → AreValuesOf (lines ++ line ∷ []) (joined_settings values given)
  values-snoc lines values of = record {
    states_are = bytes-snoc (codes "n_states") lines line values.states given.states of.states_are are.states_are;
    neighbourhood_is = bytes-snoc (codes "neighborhood") lines line values.neighbourhood given.neighbourhood of.neighbourhood_is are.neighbourhood_is;
    symmetry_is = bytes-snoc (codes "symmetries") lines line values.symmetry given.symmetry of.symmetry_is are.symmetry_is;
  }

-- one more setting that isn't set again
pub settings-snoc : (earlier ls : List NumberedLine) (l : NumberedLine) → are_settings earlier ls ≡ true → is_setting l ≡ true → sets_again (earlier ++ ls) l ≡ false → are_settings earlier (ls ++ l ∷ []) ≡ true
settings-snoc earlier [] l once is fresh =
    let none : sets_again earlier l ≡ false = subst (λ e. sets_again e l ≡ false) (append-nil earlier) fresh in
    rw is (rw none refl)
settings-snoc earlier (x ∷ xs) l once is fresh =
    let parts = and_parts (is_setting x && not (sets_again earlier x)) (are_settings (earlier ++ x ∷ []) xs) once in
    let fresher : sets_again ((earlier ++ x ∷ []) ++ xs) l ≡ false = subst (λ e. sets_again e l ≡ false) (sym (append_assoc earlier (x ∷ []) xs)) fresh in
    and_from _ _ parts.0 (settings-snoc (earlier ++ x ∷ []) xs l parts.1 is fresher)

-- before the first line
pub no-settings : (all : List NumberedLine) (values : SettingValues) → AreValuesOf [] values → IsBehindSettings all values all
no-settings all values of = record { good = []; once = refl; values_are = of; whole = refl }

module _ (all left later : List NumberedLine) (line : NumberedLine) (values given : SettingValues) (before : IsBehindSettings all values left) (next : left ≡ line ∷ later) (are : AreGivenBy line given) where
  -- one more setting is read
  pub one-setting : has_some given ≡ true → have_one values given ≡ false → IsBehindSettings all (joined_settings values given) later
  one-setting some fresh = record {
    good = before.good ++ line ∷ [];
    once = settings-snoc [] before.good line before.once (sym (is-setting line given are) ∙ some) (sym (is-again line given are before.good values before.values_are) ∙ fresh);
    values_are = values-snoc line given are before.good values before.values_are;
    whole = before.whole ∙ ap (λ l. before.good ++ l) next ∙ sym (append_assoc before.good (line ∷ []) later);
  }

  -- a setting is set again
  pub set-again : (bytes name : List ℕ) → HasTable bytes name all → have_one values given ≡ true → SetsAgain bytes line.0
  set-again bytes name has again = record {
    name = name;
    good = before.good;
    line = line;
    later = later;
    has_table = subst (HasTable bytes name) (before.whole ∙ ap (λ l. before.good ++ l) next) has;
    once = before.once;
    again = sym (is-again line given are before.good values before.values_are) ∙ again;
    number = refl;
  }

-- another line ends the settings
pub settings-end : (left later : List NumberedLine) (line : NumberedLine) (given : SettingValues) → left ≡ line ∷ later → AreGivenBy line given → has_some given ≡ false → follows_settings left ≡ true
settings-end left later line given next are none = ap follows_settings next ∙ ap not (sym (is-setting line given are) ∙ none)

-- what holds of an error holds of the one that is passed on
pub passed-on : {T E : Type 0} (r : Result T E) (e : E) (P : E → Type 0) → IsErrAnd r (λ passed. passed ≡ e) → P e → IfErr r P
passed-on r e P h holds =
    let p = err_from_is_err_and r h in
    subst (λ o. IfErr o P) (sym p.1) (subst P (sym p.2) holds)

-- so settings that mean something come before the lines that are left
pub all-meant : (all left : List NumberedLine) (values : SettingValues) (settings : Settings) → IsBehindSettings all values left → ((good : List NumberedLine) → AreValuesOf good values → are_settings [] good ≡ true → SettingsMean good settings) → IsBehindMeant all settings left
all-meant all left values settings before meaning = record { good = before.good; mean = meaning before.good before.values_are before.once; whole = before.whole }

-- and else the fault is that of the text
pub settings-fault : (bytes text name : List ℕ) (n : ℕ) (all left : List NumberedLine) (values : SettingValues) (f : TableFault) → text ≡ bytes → HasTable bytes name all → IsBehindSettings all values left → follows_settings left ≡ true → n ≡ number_at text left
    → ((bytes : List ℕ) (good : List NumberedLine) → AreValuesOf good values → HaveEnd bytes n good → IsTableTextFault bytes f) → IsTableTextFault bytes f
settings-fault bytes text name n all left values f same has before ended number faults = faults bytes before.good before.values_are (record {
  name = name;
  tail_after = left;
  has_table = subst (HasTable bytes name) before.whole has;
  once = before.once;
  ends = ended;
  number = number ∙ ap (λ t. number_at t left) same;
})
