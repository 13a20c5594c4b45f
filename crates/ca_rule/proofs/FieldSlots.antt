-- What the fields of a line stand for, one after another.
use Rattle.std.proofs.Common.{◌≡◌, ◌≤◌, ℕ, true, List, [], ◌∷◌, ◌++◌, length, Option, Result, Ok, Err, is_ok, OnOk, sym, ap, ◌∙◌, append_assoc, arith}
use Rattle.std.specs.List.{list_all, AllZip}
use Rattle.std.proofs.lemmas.Bool.{and_parts, false≢true}
use Rattle.ca_rule.specs.declared.table.slot.Slot.{Slot}
use Rattle.ca_rule.specs.Prelude.{is_field}
use Rattle.ca_rule.specs.inner.TableNames.{IsSlot, AreSlots}

-- one more pair of two lists
zip-push : {A B : Type 0} (R : A → B → Type 0) (xs : List A) (ys : List B) (x : A) (y : B) → AllZip R xs ys → R x y → AllZip R (xs ++ x ∷ []) (ys ++ y ∷ [])
zip-push R [] [] x y h r = (r, tt)
zip-push R [] (b ∷ ys) x y h r = absurd h
zip-push R (a ∷ xs) [] x y h r = absurd h
zip-push R (a ∷ xs) (b ∷ ys) x y h r = (h.0, zip-push R xs ys x y h.1 r)

-- one more field is read
pub slots-push : (states : ℕ) (numbers : List ℕ → Option ℕ) (fields left later : List (List ℕ)) (slots : List Slot) (slot : Slot) (field : List ℕ) → AreSlots states numbers fields left slots → left ≡ field ∷ later → IsSlot states numbers field slot
    → AreSlots states numbers fields later (slots ++ slot ∷ [])
slots-push states numbers fields left later slots slot field before next is = record {
  good = before.good ++ field ∷ [];
  whole = before.whole ∙ ap (λ l. before.good ++ l) next ∙ sym (append_assoc before.good (field ∷ []) later);
  stand = zip-push (IsSlot states numbers) before.good slots field slot before.stand is;
}

-- those after it are spelled as fields too
pub rest-spelled : (left later : List (List ℕ)) (field : List ℕ) → left ≡ field ∷ later → list_all is_field left ≡ true → list_all is_field later ≡ true
rest-spelled left later field next all = (and_parts (is_field field) (list_all is_field later) (ap (list_all is_field) (sym next) ∙ all)).1

-- what holds of a result that is Ok
pub on-ok : {T E : Type 0} (r : Result T E) (P : Type 0) → is_ok r ≡ true → OnOk r P → P
on-ok (Ok x) P e h = h
on-ok (Err x) P e h = absurd (false≢true e)

-- fields have as many slots
pub no-slots : (states : ℕ) (numbers : List ℕ → Option ℕ) (fields : List (List ℕ)) (slots : List Slot) → AllZip (IsSlot states numbers) fields slots → length slots ≡ 0 → 1 ≤ length fields → ⊥
no-slots states numbers [] slots stand none some = absurd (omega arith)
no-slots states numbers (f ∷ fs) [] stand none some = absurd stand
no-slots states numbers (f ∷ fs) (s ∷ ss) stand none some = absurd (omega arith)
