use Rattle.std.proofs.Common.{◌≡◌, ◌<◌, [], ◌∷◌, ◌++◌, not, length, sym, ap, ◌∙◌, arith}
use Rattle.std.specs.List.{list_all}
use Rattle.std.proofs.lemmas.Bool.{eqb-true, eqb-false}
use Rattle.std.proofs.lemmas.List.{nil_from_length}
use Rattle.ca_plane.specs.Prelude.{front, rest, is_blank, is_word_byte, is_line_end, words_of}
use Rattle.ca_plane.proofs.Fronts.{front_then_rest, every_front}
use Rattle.ca_plane.proofs.FirstWords.{no_word, word_before, word_from, line_after, fewer_behind_word}
use Rattle.ca_plane.proofs.bytes.next_word.Goals as goal

pub returns-then-is_empty-clause-words : goal.returns-then-is_empty-clause-words
returns-then-is_empty-clause-words c =
    let none : c.split_word.result.0.now ≡ [] = nil_from_length c.split_word.result.0.now (eqb-true (length c.split_word.result.0.now) 0 (sym c.is_empty.ensures ∙ c.if-is_empty.true)) in
    no_word c.args.bytes.now c.requires (ap (front is_word_byte) (sym c.split_blanks.ensures.rest) ∙ sym c.split_word.ensures.front ∙ none)

pub returns-clause-words : goal.returns-clause-words
returns-clause-words c =
    let word : c.split_word.result.0.now ≡ front is_word_byte (rest is_blank c.args.bytes.now) = c.split_word.ensures.front ∙ ap (front is_word_byte) c.split_blanks.ensures.rest in
    let more : c.split_word.result.1.now ≡ rest is_word_byte (rest is_blank c.args.bytes.now) = c.split_word.ensures.rest ∙ ap (rest is_word_byte) c.split_blanks.ensures.rest in
    let ne = eqb-false (length c.split_word.result.0.now) 0 (sym c.is_empty.ensures ∙ c.if-is_empty.false) in
    let long = ap length word in
    let some : 0 < length (front is_word_byte (rest is_blank c.args.bytes.now)) = omega arith in
    word_before c.args.bytes.now c.requires some ∙ ap (λ w. w ∷ words_of (rest is_word_byte (rest is_blank c.args.bytes.now))) (sym word) ∙ ap (λ l. c.split_word.result.0.now ∷ words_of l) (sym more)

pub returns-clause-line : goal.returns-clause-line
returns-clause-line c =
    let more : c.split_word.result.1.now ≡ rest is_word_byte (rest is_blank c.args.bytes.now) = c.split_word.ensures.rest ∙ ap (rest is_word_byte) c.split_blanks.ensures.rest in
    ap (list_all (λ b. not (is_line_end b))) more ∙ line_after c.args.bytes.now c.requires

pub returns-clause-shorter : goal.returns-clause-shorter
returns-clause-shorter c =
    let word = c.split_word.ensures.front ∙ ap (front is_word_byte) c.split_blanks.ensures.rest in
    let more = c.split_word.ensures.rest ∙ ap (rest is_word_byte) c.split_blanks.ensures.rest in
    let ne = eqb-false (length c.split_word.result.0.now) 0 (sym c.is_empty.ensures ∙ c.if-is_empty.false) in
    let long = ap length word in
    let behind = ap length more in
    let less = fewer_behind_word c.args.bytes.now (omega arith) in
    omega arith

pub returns-clause-word : goal.returns-clause-word
returns-clause-word c =
    let ne = eqb-false (length c.split_word.result.0.now) 0 (sym c.is_empty.ensures ∙ c.if-is_empty.false) in
    word_from _ (omega arith) (ap (list_all is_word_byte) c.split_word.ensures.front ∙ every_front is_word_byte c.split_blanks.result.1.now)

pub returns-clause-spelled : goal.returns-clause-spelled
returns-clause-spelled c =
    let blanks = c.split_blanks.ensures in
    let word = c.split_word.ensures in (
      front is_blank c.args.bytes.now,
      every_front is_blank c.args.bytes.now,
      sym (front_then_rest is_blank c.args.bytes.now)
          ∙ ap (λ l. front is_blank c.args.bytes.now ++ l) (sym blanks.rest ∙ sym (front_then_rest is_word_byte c.split_blanks.result.1.now) ∙ ap (λ l. l ++ rest is_word_byte c.split_blanks.result.1.now) (sym word.front) ∙ ap (λ l. c.split_word.result.0.now ++ l) (sym word.rest)),
    )
