-- The head of a rule file.
use Rattle.std.proofs.Common.{◌≡◌, ℕ, Bool, true, false, List, [], ◌∷◌, ◌++◌, refl, sym, ap, subst, ◌∙◌, append_assoc, inl, inr}
use Rattle.std.proofs.lemmas.Bool.{cases_Bool}
use Rattle.std.specs.List.{list_any}
use Rattle.ca_rule.specs.declared.table.fault.TableFault.TheVariants.{NoRuleLine}
use Rattle.ca_rule.specs.Prelude.{NumberedLine, lines_said, begins_table, number_at, HasNoRuleLine, IsTableTextFault}
use Rattle.ca_rule.specs.inner.TableReading.{IsBehindSkipped, IsBehindTable}

-- the lines that are left are all lines of the text, and the first of them is no `@RULE` with a name
pub no-rule-line : (bytes : List ℕ) (left lines : List NumberedLine) (n : ℕ) → left ≡ lines_said bytes → left ≡ lines → HasNoRuleLine lines → n ≡ number_at bytes lines → IsTableTextFault bytes (NoRuleLine n)
no-rule-line bytes left lines n all are none number =
    let same = sym are ∙ all in
    (subst HasNoRuleLine same none, number ∙ ap (number_at bytes) same)

-- a test that none of the lines passes, and not the next
any-snoc : (test : NumberedLine → Bool) (ls : List NumberedLine) (l : NumberedLine) → list_any test ls ≡ false → test l ≡ false → list_any test (ls ++ l ∷ []) ≡ false
any-snoc test [] l none e = rw e refl
any-snoc test (x ∷ xs) l none e =
    elim (cases_Bool (test x)) [
      | inl t ↦ let k = rw t at none in cc
      | inr t ↦ rw t (any-snoc test xs l (let k = rw t at none in k) e)
    ]

-- one more line is skipped
pub one-skipped : (all left later : List NumberedLine) (line : NumberedLine) → IsBehindSkipped all left → left ≡ line ∷ later → begins_table line ≡ false → IsBehindSkipped all later
one-skipped all left later line before next silent = record {
  skipped = before.skipped ++ line ∷ [];
  no_table = any-snoc begins_table before.skipped line before.no_table silent;
  whole = before.whole ∙ ap (λ l. before.skipped ++ l) next ∙ sym (append_assoc before.skipped (line ∷ []) later);
}

-- the line that follows begins a table
pub table-begins : (all left later : List NumberedLine) (line : NumberedLine) → IsBehindSkipped all left → left ≡ line ∷ later → begins_table line ≡ true → IsBehindTable all later
table-begins all left later line before next begun = record {
  skipped = before.skipped;
  table_line = line;
  no_table = before.no_table;
  begins = begun;
  whole = before.whole ∙ ap (λ l. before.skipped ++ l) next;
}
