-- What is kept once one more line has said something, or what is wrong with it.
use Rattle.std.proofs.Common.{◌≡◌, ℕ, ◌-◌, ◌<◌, List, [], ◌∷◌, ◌++◌, true, false, not, Some, Result, Ok, Err, IfErr, OnOk, inl, inr, refl, sym, ap, subst, ◌∙◌, codes}
use Rattle.std.specs.Borrow.{Bor}
use Rattle.std.specs.List.{flat_map, list_all, AllByRecursion}
use Rattle.std.specs.Result.{IsErrAnd}
use Rattle.std.proofs.lemmas.Result.{err_from_is_err_and}
use Rattle.std.proofs.lemmas.Bool.{cases_Bool, and_parts, and_from}
use Rattle.std.proofs.lemmas.List.{append-nil}
use Rattle.ca_plane.specs.Prelude.{is_blank, is_line_end, is_word_byte, is_end_or, with_front, Every, IsWord, words_of, generation_limit}
use Rattle.ca_quad.specs.declared.node.Node.{Node as Kept}
use Rattle.ca_macro.specs.declared.{fault.MacroFault.MacroFault, line.comment.Comment.Comment, read.reading.Reading.Reading, read.squares.Squares.Squares}
use Rattle.ca_macro.specs.declared.fault.MacroFault.TheVariants.{Forward, Level, Memory}
use Rattle.ca_macro.specs.declared.line.comment.Comment.TheVariants as comment
use Rattle.ca_macro.specs.Prelude.{Node, Parts, IsLevel, MacrocellLine, Nothing, Rule, Generation, Adds, MacrocellWordsSay, added_nodes, IsAllowedNode, last_rule, last_line_generation, AreFaulty}
use Rattle.ca_macro.specs.Prelude.{HasBadPart}
use Rattle.ca_macro.specs.inner.Comments.{said_of}
use Rattle.ca_macro.specs.inner.Reading.{AreSquares, IsBadNumber, HaveNumberFault, HasNodeFault, IsMacrocellReading}
use Rattle.ca_macro.proofs.LinesRead.{added-push}

-- ---- a fault that `?` passes on

pub passed_on : {T E : Type 0} (r : Result T E) (f : E) (P : E → Type 0) → IsErrAnd r (λ g. g ≡ f) → P f → IfErr r P
passed_on r f P h holds =
    let p = err_from_is_err_and r h in
    subst (λ o. IfErr o P) (sym p.1) (subst P (sym p.2) holds)

-- ---- words

blank_or_word : (b : ℕ) → is_blank b ≡ false → not (is_line_end b) ≡ true → is_word_byte b ≡ true
blank_or_word b e f = and_from (not (is_blank b)) (not (is_line_end b)) (ap not e) f

one_byte_word : (b : ℕ) → is_word_byte b ≡ true → IsWord (b ∷ [])
one_byte_word b e = and_from (is_word_byte b) true e refl

byte_more : (b : ℕ) (w : List ℕ) → is_word_byte b ≡ true → IsWord w → IsWord (b ∷ w)
byte_more b [] e h = one_byte_word b e
byte_more b (c ∷ cs) e h = and_from (is_word_byte b) (list_all is_word_byte (c ∷ cs)) e h

first_grows : (b : ℕ) (ws : List (List ℕ)) → is_word_byte b ≡ true → AllByRecursion IsWord ws → AllByRecursion IsWord (with_front b ws)
first_grows b [] e h = (one_byte_word b e, tt)
first_grows b (w ∷ ws) e h = (byte_more b w e h.0, h.1)

-- the words of a line are words
pub are_words : (line : List ℕ) → Every (λ b. not (is_line_end b)) line → AllByRecursion IsWord (words_of line)
are_words [] h = tt
are_words (b ∷ bs) h =
    let p = and_parts (not (is_line_end b)) (list_all (λ b. not (is_line_end b)) bs) h in
    let later = are_words bs p.1 in
    elim (cases_Bool (is_blank b)) [
      | inl e ↦ rw e later
      | inr e ↦
          let good = blank_or_word b e p.0 in
          elim (cases_Bool (is_end_or is_blank bs)) [
            | inl f ↦ rw (e, f) (one_byte_word b good, later)
            | inr f ↦ rw (e, f) (first_grows b (words_of bs) good later)
          ]
    ]

-- ---- comments

rule_push : (text : List ℕ) (said : List MacrocellLine) (later : List ℕ) → last_rule text (said ++ Rule later ∷ []) ≡ later
rule_push text [] later = refl
rule_push text (Nothing ∷ said) later = rule_push text said later
rule_push text (Rule t ∷ said) later = rule_push t said later
rule_push text (Generation n ∷ said) later = rule_push text said later
rule_push text (Adds n ∷ said) later = rule_push text said later

rule_kept : (text : List ℕ) (said : List MacrocellLine) (s : MacrocellLine) → ((t : List ℕ) → last_rule t (s ∷ []) ≡ t) → last_rule text (said ++ s ∷ []) ≡ last_rule text said
rule_kept text [] s h = h text
rule_kept text (Nothing ∷ said) s h = rule_kept text said s h
rule_kept text (Rule t ∷ said) s h = rule_kept t said s h
rule_kept text (Generation n ∷ said) s h = rule_kept text said s h
rule_kept text (Adds n ∷ said) s h = rule_kept text said s h

generation_push : (count : ℕ) (said : List MacrocellLine) (later : ℕ) → last_line_generation count (said ++ Generation later ∷ []) ≡ later
generation_push count [] later = refl
generation_push count (Nothing ∷ said) later = generation_push count said later
generation_push count (Rule t ∷ said) later = generation_push count said later
generation_push count (Generation n ∷ said) later = generation_push n said later
generation_push count (Adds n ∷ said) later = generation_push count said later

generation_kept : (count : ℕ) (said : List MacrocellLine) (s : MacrocellLine) → ((n : ℕ) → last_line_generation n (s ∷ []) ≡ n) → last_line_generation count (said ++ s ∷ []) ≡ last_line_generation count said
generation_kept count [] s h = h count
generation_kept count (Nothing ∷ said) s h = generation_kept count said s h
generation_kept count (Rule t ∷ said) s h = generation_kept count said s h
generation_kept count (Generation n ∷ said) s h = generation_kept n said s h
generation_kept count (Adds n ∷ said) s h = generation_kept count said s h

-- a line that adds no node leaves the squares
no_node : (store : List Kept) (said : List MacrocellLine) (s : MacrocellLine) (squares : Squares) → added_nodes s ≡ [] → AreSquares store (flat_map added_nodes said) squares → AreSquares store (flat_map added_nodes (said ++ s ∷ [])) squares
no_node store said s squares none h =
    subst (λ ns. AreSquares store ns squares) (sym (added-push said s ∙ ap (λ l. flat_map added_nodes said ++ l) none ∙ append-nil (flat_map added_nodes said))) h

pub nothing_said : (store : List Kept) (said : List MacrocellLine) (reading : Reading) → IsMacrocellReading store said reading → IsMacrocellReading store (said ++ Nothing ∷ []) reading
nothing_said store said reading h = record {
  squares = no_node store said Nothing reading.squares refl h.squares;
  rule = λ text. rule_kept text said Nothing (λ t. refl) ∙ h.rule text;
  word = h.word;
  generation = generation_kept 0 said Nothing (λ n. refl) ∙ h.generation;
  limit = h.limit;
}

second_word : (words : List (List ℕ)) (first text : List ℕ) (more : List (List ℕ)) → words ≡ first ∷ text ∷ more → AllByRecursion IsWord words → IsWord text
second_word words first text more e h = (subst (AllByRecursion IsWord) e h).1.0

pub rule_said : (store : List Kept) (said : List MacrocellLine) (reading : Reading) (text : Bor (List ℕ)) (line : List ℕ) → Every (λ b. not (is_line_end b)) line → MacrocellWordsSay (words_of line) (Rule text.now)
    → IsMacrocellReading store said reading → IsMacrocellReading store (said ++ Rule text.now ∷ []) (record { squares = reading.squares; rule = Some text; generation = reading.generation })
rule_said store said reading text line one says h = record {
  squares = no_node store said (Rule text.now) reading.squares refl h.squares;
  rule = λ t. rule_push t said text.now;
  word = second_word (words_of line) (codes "#R") text.now says.0 says.1 (are_words line one);
  generation = generation_kept 0 said (Rule text.now) (λ n. refl) ∙ h.generation;
  limit = h.limit;
}

pub generation_said : (store : List Kept) (said : List MacrocellLine) (reading : Reading) (count : ℕ) → count < generation_limit
    → IsMacrocellReading store said reading → IsMacrocellReading store (said ++ Generation count ∷ []) (record { squares = reading.squares; rule = reading.rule; generation = count })
generation_said store said reading count low h = record {
  squares = no_node store said (Generation count) reading.squares refl h.squares;
  rule = λ t. rule_kept t said (Generation count) (λ u. refl) ∙ h.rule t;
  word = h.word;
  generation = generation_push 0 said count;
  limit = low;
}

pub comment_allowed : (earlier : List Node) (c : Comment) → IsAllowedNode earlier (said_of c)
comment_allowed earlier comment.Nothing = tt
comment_allowed earlier (comment.Rule text) = tt
comment_allowed earlier (comment.Generation count) = tt

-- ---- nodes

pub node_said : (old new : List Kept) (said : List MacrocellLine) (reading : Reading) (after : Squares) (node : Node) → IsMacrocellReading old said reading → AreSquares new (flat_map added_nodes said ++ node ∷ []) after
    → IsMacrocellReading new (said ++ Adds node ∷ []) (record { squares = after; rule = reading.rule; generation = reading.generation })
node_said old new said reading after node h squares = record {
  squares = subst (λ ns. AreSquares new ns after) (sym (added-push said (Adds node))) squares;
  rule = λ t. rule_kept t said (Adds node) (λ u. refl) ∙ h.rule t;
  word = h.word;
  generation = generation_kept 0 said (Adds node) (λ n. refl) ∙ h.generation;
  limit = h.limit;
}

-- ---- faults

-- a line that is faulty by itself
pub faulty_line : (f : MacroFault) (earlier : List Node) (words : List (List ℕ)) → AreFaulty f earlier words → HasNodeFault f earlier words
faulty_line Memory earlier words h = absurd h
faulty_line f earlier words h = h

-- parts of which one is bad
pub bad_parts : (f : MacroFault) (nodes : List Node) (level nw ne sw se : ℕ) → HasBadPart nodes (level - 1) (nw ∷ ne ∷ sw ∷ se ∷ []) (IsBadNumber f nodes (level - 1)) → HaveNumberFault f nodes level nw ne sw se
bad_parts Memory nodes level nw ne sw se h = absurd h.holds
bad_parts f nodes level nw ne sw se h = h

-- the fault of a line that gives a square by its parts
pub parts_fault : (f : MacroFault) (earlier : List Node) (words : List (List ℕ)) (level nw ne sw se : ℕ) → MacrocellWordsSay words (Adds (Parts level nw ne sw se)) → IsLevel level
    → HaveNumberFault f earlier level nw ne sw se → HasNodeFault f earlier words
parts_fault Forward earlier words level nw ne sw se says l h = (level, nw, ne, sw, se, says, l, record { good = h.good; number = h.number; more = h.more; spelled = h.spelled; named = h.named; holds = h.holds })
parts_fault Level earlier words level nw ne sw se says l h = inr (level, nw, ne, sw, se, says, l, record { good = h.good; number = h.number; more = h.more; spelled = h.spelled; named = h.named; holds = h.holds })
parts_fault Memory earlier words level nw ne sw se says l h = (Parts level nw ne sw se, says, h)
parts_fault f earlier words level nw ne sw se says l h = absurd h.holds

pub parts_err : {T : Type 0} (r : Result T MacroFault) (P Q : MacroFault → Type 0) → ((f : MacroFault) → P f → Q f) → IfErr r P → IfErr r Q
parts_err (Ok t) P Q also h = tt
parts_err (Err f) P Q also h = also f h

pub parts_ok : {T : Type 0} (r : Result T MacroFault) (P Q : Type 0) → (P → Q) → OnOk r P → OnOk r Q
parts_ok (Ok t) P Q also h = also h
parts_ok (Err f) P Q also h = tt
