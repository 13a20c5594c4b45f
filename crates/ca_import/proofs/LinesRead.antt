-- A text read line by line, to its end or to its first fault.
use Rattle.std.proofs.Common.{◌≡◌, ℕ, ◌+◌, ◌<◌, ◌≤◌, ℤ, List, [], ◌∷◌, ◌++◌, length, Bool, true, false, cond, ◌||◌, Option, None, Some, refl, sym, ap, subst, ◌∙◌, arith}
use Rattle.std.proofs.Math.Bool.{or_assoc}
use Rattle.std.proofs.lemmas.List.{append_assoc, length_push}
use Rattle.std.proofs.lemmas.List.Sums.{sum_by-cons, sum_by-append}
use Rattle.ca_plane.specs.declared.point.Point.{Point}
use Rattle.ca_plane.specs.Prelude.{bit_cell, lines_of}
use Rattle.ca_rule.specs.declared.bs_rule.BsRule.{BsRule}
use Rattle.ca_import.specs.declared.format.ImportFormat.TheVariants.{Lines}
use Rattle.ca_import.specs.declared.{format.LineFormat.LineFormat, fault.ImportFault.ImportFault, reading.Reading.Reading}
use Rattle.ca_import.specs.Prelude.{CellLine, next_row, row_after, is_live_in_line, is_live_in, next_rule, last_said_rule, live_count, said_count, import_format, LineSays, first_row, IsGoodLine}
use Rattle.ca_import.specs.Prelude.{LinesSay, IsLineFault, HasFaultOn}
use Rattle.ca_import.specs.inner.Reading.{Takes, IsReading}

-- ---- one more line

row_after-push : (place : Option Point) (said : List CellLine) (s : CellLine) → row_after place (said ++ s ∷ []) ≡ next_row s (row_after place said)
row_after-push place [] s = refl
row_after-push place (t ∷ said) s = row_after-push (next_row t place) said s

last_said_rule-push : (rule : Option BsRule) (said : List CellLine) (s : CellLine) → last_said_rule rule (said ++ s ∷ []) ≡ next_rule s (last_said_rule rule said)
last_said_rule-push rule [] s = refl
last_said_rule-push rule (t ∷ said) s = last_said_rule-push (next_rule t rule) said s

or_false : (b : Bool) → (b || false) ≡ b
or_false true = refl
or_false false = refl

is_live_in-push : (place : Option Point) (said : List CellLine) (s : CellLine) (x y : ℤ) → is_live_in place (said ++ s ∷ []) x y ≡ (is_live_in place said x y || is_live_in_line s (row_after place said) x y)
is_live_in-push place [] s x y = or_false (is_live_in_line s place x y)
is_live_in-push place (t ∷ said) s x y =
    ap (λ b. is_live_in_line t place x y || b) (is_live_in-push (next_row t place) said s x y)
    ∙ sym (or_assoc (is_live_in_line t place x y) (is_live_in (next_row t place) said x y) (is_live_in_line s (row_after (next_row t place) said) x y))

said_count-one : (s : CellLine) → said_count (s ∷ []) ≡ live_count s
said_count-one s = let e = sum_by-cons live_count s [] in omega (arith, e)

said_count-push : (said : List CellLine) (s : CellLine) → said_count (said ++ s ∷ []) ≡ said_count said + live_count s
said_count-push said s = sum_by-append live_count said (s ∷ []) ∙ ap (λ n. said_count said + n) (said_count-one s)

pub counted_on : (count : ℕ) (t : CellLine) (said : List CellLine) → count + said_count (t ∷ said) ≡ (count + live_count t) + said_count said
counted_on count t said = let e = sum_by-cons live_count t said in omega (arith, e)

pub counted_none : (count : ℕ) → count + said_count [] ≡ count
counted_none count = omega arith

LinesSay-push : (format : LineFormat) (place : Option Point) (count : ℕ) (lines : List (List ℕ)) (said : List CellLine) (l : List ℕ) (s : CellLine) → LinesSay format place count lines said
    → LineSays format l s → IsGoodLine s (row_after place said) (count + said_count said) → LinesSay format place count (lines ++ l ∷ []) (said ++ s ∷ [])
LinesSay-push format place count [] [] l s h says good = (says, subst (IsGoodLine s place) (counted_none count) good, tt)
LinesSay-push format place count [] (t ∷ said) l s h says good = absurd h
LinesSay-push format place count (k ∷ ks) [] l s h says good = absurd h
LinesSay-push format place count (k ∷ ks) (t ∷ said) l s h says good =
    (h.0, h.1, LinesSay-push format (next_row t place) (count + live_count t) ks said l s h.2 says (subst (IsGoodLine s (row_after (next_row t place) said)) (counted_on count t said) good))

joined_state : (before now : Bool) (old new : ℕ) → new ≡ cond now 1 old → old ≡ cond before 1 0 → new ≡ cond (before || now) 1 0
joined_state true true old new h e = h
joined_state true false old new h e = h ∙ e
joined_state false true old new h e = h
joined_state false false old new h e = h ∙ e

-- what is kept once a line more has said this
IsReading-push : (first : Option Point) (said : List CellLine) (s : CellLine) (old new : Reading) → IsReading first said old → Takes s old new → IsReading first (said ++ s ∷ []) new
IsReading-push first said s old new h t = record {
  ready = t.ready;
  place = t.place ∙ ap (next_row s) h.place ∙ sym (row_after-push first said s);
  count = t.count ∙ ap (λ n. n + live_count s) h.count ∙ sym (said_count-push said s);
  rule = t.rule ∙ ap (next_rule s) h.rule ∙ sym (last_said_rule-push None said s);
  cells = λ x y.
      let here : bit_cell new.cells x y ≡ cond (is_live_in_line s (row_after first said) x y) 1 (bit_cell old.cells x y) =
      subst (λ p. bit_cell new.cells x y ≡ cond (is_live_in_line s p x y) 1 (bit_cell old.cells x y)) h.place (t.cells x y) in
      subst (λ b. bit_cell new.cells x y ≡ cond b 1 0) (sym (is_live_in-push first said s x y))
      (joined_state (is_live_in first said x y) (is_live_in_line s (row_after first said) x y) (bit_cell old.cells x y) (bit_cell new.cells x y) here (h.cells x y));
}

-- ---- line by line

-- `number` lines of the text are read, and these bytes are left
pub record AreRead (format : LineFormat) (bytes rest : List ℕ) (number : ℕ) (reading : Reading) : Type 0 where
  pub good : List (List ℕ)
  pub said : List CellLine
  pub lines : lines_of bytes ≡ good ++ lines_of rest
  pub say : LinesSay format (first_row format) 0 good said
  pub read : IsReading (first_row format) said reading
  pub counted : number ≡ length good
  pub few : number + length rest ≤ length bytes

-- before the first line
pub none_read : (format : LineFormat) (bytes : List ℕ) (reading : Reading) → IsReading (first_row format) [] reading → AreRead format bytes bytes 0 reading
none_read format bytes reading read =
    record { good = []; said = []; lines = refl; say = tt; read = read; counted = refl; few = omega arith }

module _ (format : LineFormat) (bytes rest : List ℕ) (number : ℕ) (reading : Reading) (front : AreRead format bytes rest number reading) where
  -- the line that follows is good after the others where it is good as it is read
  good_after : (s : CellLine) → IsGoodLine s reading.place reading.count → IsGoodLine s (row_after (first_row format) front.said) (0 + said_count front.said)
  good_after s good =
      let counted : reading.count ≡ 0 + said_count front.said = let e = front.read.count in omega (arith, e) in
      subst (IsGoodLine s (row_after (first_row format) front.said)) counted (subst (λ p. IsGoodLine s p reading.count) front.read.place good)

  -- one more line
  pub one_read : (line later : List ℕ) (after : Reading) → lines_of rest ≡ line ∷ lines_of later → (s : CellLine) × LineSays format line s × Takes s reading after → length later < length rest
      → AreRead format bytes later (number + 1) after
  one_read line later after next takes shorter =
      let (s, says, taken) = takes in
      record {
        good = front.good ++ line ∷ [];
        said = front.said ++ s ∷ [];
        lines = front.lines ∙ ap (λ l. front.good ++ l) next ∙ sym (append_assoc front.good (line ∷ []) (lines_of later));
        say = LinesSay-push format (first_row format) 0 front.good front.said line s front.say says (good_after s taken.good);
        read = IsReading-push (first_row format) front.said s reading after front.read taken;
        counted = let more = length_push front.good line in let counted = front.counted in omega arith;
        few = let few = front.few in omega arith;
      }

  -- the line that follows has the fault
  pub fault_next : (line later : List ℕ) (fault : ImportFault) → import_format bytes ≡ Some (Lines format) → lines_of rest ≡ line ∷ lines_of later
      → IsLineFault fault format reading.place reading.count line → HasFaultOn bytes fault (number + 1)
  fault_next line later fault begins next faulty = record {
    format = Lines format;
    begins = begins;
    faulty = record {
      good = front.good;
      line = line;
      later = lines_of later;
      said = front.said;
      lines_are = front.lines ∙ ap (λ l. front.good ++ l) next;
      say = front.say;
      faulty = subst (λ n. IsLineFault fault format (row_after (first_row format) front.said) n line) front.read.count (subst (λ p. IsLineFault fault format p reading.count line) front.read.place faulty);
      number_is = ap (λ n. n + 1) front.counted;
    };
  }
