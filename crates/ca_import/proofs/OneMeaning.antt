-- A text holds one pattern at most, and then it has no fault.
use Rattle.std.proofs.Common.{◌≡◌, ◌≢◌, ℕ, ◌+◌, ℤ, List, [], ◌∷◌, ◌++◌, ◌||◌, cond, Option, None, Some, refl, sym, ap, ap₂, subst, ◌∙◌, arith}
use Rattle.ca_plane.specs.declared.point.Point.{Point}
use Rattle.ca_plane.specs.Prelude.{lines_of, from_corner}
use Rattle.ca_apgcode.specs.Prelude.{GridCells, cell, IsCode}
use Rattle.ca_apgcode.proofs.Codes.{one_picture}
use Rattle.ca_rule.specs.declared.bs_rule.BsRule.{BsRule}
use Rattle.ca_import.specs.declared.{format.ImportFormat.ImportFormat, format.LineFormat.LineFormat, fault.ImportFault.ImportFault}
use Rattle.ca_import.specs.declared.format.ImportFormat.TheVariants.{Lines, Apgcode}
use Rattle.ca_import.specs.declared.fault.ImportFault.TheVariants.{UnknownFormat, Syntax, NoCorner, Range, TooManyCells, Memory}
use Rattle.ca_import.specs.Prelude.{CellLine, Nothing, LiveCell, Row, Corner, Rule, next_row, row_after, is_live_in_line, is_live_in, next_rule, last_said_rule, live_count, said_count, HasPlace}
use Rattle.ca_import.specs.Prelude.{IsLineInRange, import_format, LineSays, first_row, IsGoodLine, LinesSay, LinesHold, CodeHolds, HoldsIn, IsImport, IsLineFault, HasFaultyLine, IsCodeFault}
use Rattle.ca_import.specs.Prelude.{HasFaultyCode, HasFaultIn, HasFaultOn, IsImportFaultOn, NameSameRule}
use Rattle.ca_import.proofs.LinesRead.{counted_on, counted_none}
use Rattle.ca_import.proofs.OneLine.{AreAlike, says_alike}

-- ---- lines that say the same

next_alike : (s t : CellLine) (place : Option Point) → AreAlike s t → next_row s place ≡ next_row t place
next_alike Nothing Nothing place h = refl
next_alike (LiveCell at) (LiveCell other) place h = refl
next_alike (Row cells) (Row others) None h = refl
next_alike (Row cells) (Row others) (Some at) h = refl
next_alike (Corner at) (Corner other) place h = ap Some h
next_alike (Rule rule) (Rule other) place h = refl
next_alike s t place h = absurd h

count_alike : (s t : CellLine) → AreAlike s t → live_count s ≡ live_count t
count_alike Nothing Nothing h = refl
count_alike (LiveCell at) (LiveCell other) h = refl
count_alike (Row cells) (Row others) h = ap (λ l. live_count (Row l)) h
count_alike (Corner at) (Corner other) h = refl
count_alike (Rule rule) (Rule other) h = refl
count_alike s t h = absurd h

live_alike : (s t : CellLine) (place : Option Point) (x y : ℤ) → AreAlike s t → is_live_in_line s place x y ≡ is_live_in_line t place x y
live_alike Nothing Nothing place x y h = refl
live_alike (LiveCell at) (LiveCell other) place x y h = ap (λ p. is_live_in_line (LiveCell p) place x y) h
live_alike (Row cells) (Row others) place x y h = ap (λ l. is_live_in_line (Row l) place x y) h
live_alike (Corner at) (Corner other) place x y h = refl
live_alike (Rule rule) (Rule other) place x y h = refl
live_alike s t place x y h = absurd h

placed_alike : (s t : CellLine) (place : Option Point) → AreAlike s t → HasPlace s place → HasPlace t place
placed_alike Nothing Nothing place h has = tt
placed_alike (LiveCell at) (LiveCell other) place h has = tt
placed_alike (Row cells) (Row others) place h has = subst (λ l. HasPlace (Row l) place) h has
placed_alike (Corner at) (Corner other) place h has = tt
placed_alike (Rule rule) (Rule other) place h has = tt
placed_alike s t place h has = absurd h

range_alike : (s t : CellLine) (place : Option Point) → AreAlike s t → IsLineInRange s place → IsLineInRange t place
range_alike Nothing Nothing place h within = tt
range_alike (LiveCell at) (LiveCell other) place h within = subst (λ p. IsLineInRange (LiveCell p) place) h within
range_alike (Row cells) (Row others) place h within = subst (λ l. IsLineInRange (Row l) place) h within
range_alike (Corner at) (Corner other) place h within = subst (λ p. IsLineInRange (Corner p) place) h within
range_alike (Rule rule) (Rule other) place h within = tt
range_alike s t place h within = absurd h

rule_alike : (s t : CellLine) (rule other : Option BsRule) → AreAlike s t → NameSameRule rule other → NameSameRule (next_rule s rule) (next_rule t other)
rule_alike Nothing Nothing rule other h same = same
rule_alike (LiveCell at) (LiveCell to) rule other h same = same
rule_alike (Row cells) (Row others) rule other h same = same
rule_alike (Corner at) (Corner to) rule other h same = same
rule_alike (Rule named) (Rule also) rule other h same = h
rule_alike s t rule other h same = absurd h

-- ---- lists of them

abbrev AllAlike : List CellLine → List CellLine → Type 0
AllAlike [] [] = Unit {0}
AllAlike [] (t ∷ told) = ⊥
AllAlike (s ∷ said) [] = ⊥
AllAlike (s ∷ said) (t ∷ told) = AreAlike s t × AllAlike said told

all_alike : (format : LineFormat) (place other : Option Point) (count more : ℕ) (lines : List (List ℕ)) (said told : List CellLine) → LinesSay format place count lines said → LinesSay format other more lines told → AllAlike said told
all_alike format place other count more [] [] [] h k = tt
all_alike format place other count more [] [] (t ∷ told) h k = k
all_alike format place other count more [] (s ∷ said) told h k = absurd h
all_alike format place other count more (l ∷ ls) [] told h k = absurd h
all_alike format place other count more (l ∷ ls) (s ∷ said) [] h k = k
all_alike format place other count more (l ∷ ls) (s ∷ said) (t ∷ told) h k =
    (says_alike format l s t h.0 k.0, all_alike format (next_row s place) (next_row t other) (count + live_count s) (more + live_count t) ls said told h.2 k.2)

all_live : (place : Option Point) (said told : List CellLine) (x y : ℤ) → AllAlike said told → is_live_in place said x y ≡ is_live_in place told x y
all_live place [] [] x y h = refl
all_live place [] (t ∷ told) x y h = absurd h
all_live place (s ∷ said) [] x y h = absurd h
all_live place (s ∷ said) (t ∷ told) x y h =
    ap₂ ◌||◌ (live_alike s t place x y h.0) (subst (λ p. is_live_in (next_row s place) said x y ≡ is_live_in p told x y) (next_alike s t place h.0) (all_live (next_row s place) said told x y h.1))

all_rules : (rule other : Option BsRule) (said told : List CellLine) → NameSameRule rule other → AllAlike said told → NameSameRule (last_said_rule rule said) (last_said_rule other told)
all_rules rule other [] [] same h = same
all_rules rule other [] (t ∷ told) same h = absurd h
all_rules rule other (s ∷ said) [] same h = absurd h
all_rules rule other (s ∷ said) (t ∷ told) same h = all_rules (next_rule s rule) (next_rule t other) said told (rule_alike s t rule other h.0 same) h.1

-- ---- one pattern

module _ (format : LineFormat) (bytes : List ℕ) (cells others : ℤ → ℤ → ℕ) (rule other : Option BsRule) (h : LinesHold format bytes cells rule) (k : LinesHold format bytes others other) where
  said_alike : AllAlike h.said k.said
  said_alike = all_alike format (first_row format) (first_row format) 0 0 (lines_of bytes) h.said k.said h.say k.say

  lines_cell : (x y : ℤ) → cells x y ≡ others x y
  lines_cell x y = h.cells_are x y ∙ ap (λ b. cond b 1 0) (all_live (first_row format) h.said k.said x y said_alike) ∙ sym (k.cells_are x y)

  lines_rule : NameSameRule rule other
  lines_rule = subst (λ r. NameSameRule r other) (sym h.rule_is) (subst (NameSameRule (last_said_rule None h.said)) (sym k.rule_is) (all_rules None None h.said k.said tt said_alike))

module _ (bytes : List ℕ) (cells others : ℤ → ℤ → ℕ) (rule other : Option BsRule) (h : CodeHolds bytes cells rule) (k : CodeHolds bytes others other) where
  same_text : h.text ≡ k.text
  same_text = let both : Some h.text ≡ Some k.text = sym h.text_is ∙ k.text_is in cc

  same_box : h.box ≡ k.box
  same_box = one_picture h.box k.box k.text (subst (IsCode h.box) same_text h.is_code) k.is_code

  code_cell : (x y : ℤ) → cells x y ≡ others x y
  code_cell x y = h.cells_are x y ∙ ap (λ b. from_corner (cell b) x y) same_box ∙ sym (k.cells_are x y)

  code_rule : NameSameRule rule other
  code_rule = subst (λ r. NameSameRule r other) (sym h.rule_is) (subst (NameSameRule None) (sym k.rule_is) tt)

cell_in : (format : ImportFormat) (bytes : List ℕ) (cells others : ℤ → ℤ → ℕ) (rule other : Option BsRule) → HoldsIn format bytes cells rule → HoldsIn format bytes others other → (x y : ℤ) → cells x y ≡ others x y
cell_in (Lines format) bytes cells others rule other h k = lines_cell format bytes cells others rule other h k
cell_in Apgcode bytes cells others rule other h k = code_cell bytes cells others rule other h k

rule_in : (format : ImportFormat) (bytes : List ℕ) (cells others : ℤ → ℤ → ℕ) (rule other : Option BsRule) → HoldsIn format bytes cells rule → HoldsIn format bytes others other → NameSameRule rule other
rule_in (Lines format) bytes cells others rule other h k = lines_rule format bytes cells others rule other h k
rule_in Apgcode bytes cells others rule other h k = code_rule bytes cells others rule other h k

module _ (bytes : List ℕ) (cells others : ℤ → ℤ → ℕ) (rule other : Option BsRule) (h : IsImport bytes cells rule) (k : IsImport bytes others other) where
  same_format : h.format ≡ k.format
  same_format = let both : Some h.format ≡ Some k.format = sym h.begins ∙ k.begins in cc

  also_holds : HoldsIn h.format bytes others other
  also_holds = subst (λ f. HoldsIn f bytes others other) (sym same_format) k.holds

  pub one_cell_state : (x y : ℤ) → cells x y ≡ others x y
  one_cell_state = cell_in h.format bytes cells others rule other h.holds also_holds

  pub one_named_rule : NameSameRule rule other
  one_named_rule = rule_in h.format bytes cells others rule other h.holds also_holds

-- ---- no fault

module _ (format : LineFormat) (line : List ℕ) (place : Option Point) (count : ℕ) (s : CellLine) (says : LineSays format line s) (good : IsGoodLine s place count) where
  good_line : (f : ImportFault) → f ≢ Memory → IsLineFault f format place count line → ⊥
  good_line UnknownFormat other h = h
  good_line Syntax other h = h s says
  good_line NoCorner other (t, also, none) = none (placed_alike s t place (says_alike format line s t says also) good.placed)
  good_line Range other (t, also, has) = has.1 (range_alike s t place (says_alike format line s t says also) good.within)
  good_line TooManyCells other (t, also, has) =
      let same = count_alike s t (says_alike format line s t says also) in
      let few = good.few in
      let many = has.2 in
      omega (arith, same, few, many)
  good_line Memory other h = other refl

good_lines : (format : LineFormat) (place : Option Point) (count : ℕ) (good : List (List ℕ)) (line : List ℕ) (later : List (List ℕ)) (said told : List CellLine) → LinesSay format place count (good ++ line ∷ later) said
    → LinesSay format place count good told → (f : ImportFault) → f ≢ Memory → IsLineFault f format (row_after place told) (count + said_count told) line → ⊥
good_lines format place count [] line later [] told h k f other faulty = h
good_lines format place count [] line later (s ∷ said) [] h k f other faulty =
    good_line format line place count s h.0 h.1 f other (subst (λ n. IsLineFault f format place n line) (counted_none count) faulty)
good_lines format place count [] line later (s ∷ said) (t ∷ told) h k f other faulty = k
good_lines format place count (g ∷ gs) line later [] told h k f other faulty = h
good_lines format place count (g ∷ gs) line later (s ∷ said) [] h k f other faulty = k
good_lines format place count (g ∷ gs) line later (s ∷ said) (t ∷ told) h k f other faulty =
    let alike = says_alike format g s t h.0 k.0 in
    let rest_says : LinesSay format (next_row t place) (count + live_count t) (gs ++ line ∷ later) said =
    subst (λ n. LinesSay format (next_row t place) (count + n) (gs ++ line ∷ later) said) (count_alike s t alike) (subst (λ p. LinesSay format p (count + live_count s) (gs ++ line ∷ later) said) (next_alike s t place alike) h.2) in
    good_lines format (next_row t place) (count + live_count t) gs line later said told rest_says k.2 f other
    (subst (λ n. IsLineFault f format (row_after (next_row t place) told) n line) (counted_on count t told) faulty)

faulty_line : (format : LineFormat) (bytes : List ℕ) (cells : ℤ → ℤ → ℕ) (rule : Option BsRule) (f : ImportFault) (n : ℕ) → f ≢ Memory → LinesHold format bytes cells rule → HasFaultyLine format bytes f n → ⊥
faulty_line format bytes cells rule f n other h k =
    let say : LinesSay format (first_row format) 0 (k.good ++ k.line ∷ k.later) h.said = subst (λ ls. LinesSay format (first_row format) 0 ls h.said) k.lines_are h.say in
    let counted : said_count k.said ≡ 0 + said_count k.said = omega arith in
    good_lines format (first_row format) 0 k.good k.line k.later h.said k.said say k.say f other
    (subst (λ n. IsLineFault f format (row_after (first_row format) k.said) n k.line) counted k.faulty)

code_fault : (f : ImportFault) (text : List ℕ) (box : GridCells) → f ≢ Memory → IsCode box text → IsCodeFault f text → ⊥
code_fault Syntax text box other is h = h box is
code_fault Memory text box other is h = other refl
code_fault f text box other is h = h

faulty_code : (bytes : List ℕ) (cells : ℤ → ℤ → ℕ) (rule : Option BsRule) (f : ImportFault) (n : ℕ) → f ≢ Memory → CodeHolds bytes cells rule → HasFaultyCode bytes f n → ⊥
faulty_code bytes cells rule f n other h k =
    let both : Some h.text ≡ Some k.text = sym h.text_is ∙ k.text_is in
    let same : h.text ≡ k.text = cc in
    code_fault f k.text h.box other (subst (IsCode h.box) same h.is_code) k.faulty

faulty_in : (format : ImportFormat) (bytes : List ℕ) (cells : ℤ → ℤ → ℕ) (rule : Option BsRule) (f : ImportFault) (n : ℕ) → f ≢ Memory → HoldsIn format bytes cells rule → HasFaultIn format bytes f n → ⊥
faulty_in (Lines format) bytes cells rule f n other h k = faulty_line format bytes cells rule f n other h k
faulty_in Apgcode bytes cells rule f n other h k = faulty_code bytes cells rule f n other h k

faulty_on : (bytes : List ℕ) (cells : ℤ → ℤ → ℕ) (rule : Option BsRule) (f : ImportFault) (n : ℕ) → f ≢ Memory → IsImport bytes cells rule → HasFaultOn bytes f n → ⊥
faulty_on bytes cells rule f n other h k =
    let both : Some h.format ≡ Some k.format = sym h.begins ∙ k.begins in
    let same : h.format ≡ k.format = cc in
    faulty_in k.format bytes cells rule f n other (subst (λ g. HoldsIn g bytes cells rule) same h.holds) k.faulty

no_format : (bytes : List ℕ) (cells : ℤ → ℤ → ℕ) (rule : Option BsRule) → IsImport bytes cells rule → import_format bytes ≡ None → ⊥
no_format bytes cells rule h e = let begins = h.begins in absurd cc

pub no_fault : (bytes : List ℕ) (cells : ℤ → ℤ → ℕ) (rule : Option BsRule) (f : ImportFault) (line : Option ℕ) → f ≢ Memory → IsImport bytes cells rule → IsImportFaultOn bytes f line → ⊥
no_fault bytes cells rule UnknownFormat line other h k = no_format bytes cells rule h k.1
no_fault bytes cells rule Memory line other h k = other refl
no_fault bytes cells rule Syntax line other h k = faulty_on bytes cells rule Syntax k.0 other h k.2
no_fault bytes cells rule NoCorner line other h k = faulty_on bytes cells rule NoCorner k.0 other h k.2
no_fault bytes cells rule Range line other h k = faulty_on bytes cells rule Range k.0 other h k.2
no_fault bytes cells rule TooManyCells line other h k = faulty_on bytes cells rule TooManyCells k.0 other h k.2
