use Rattle.std.proofs.Common.{◌≡◌, ◌∷◌, sym, ◌∙◌}
use Rattle.ca_plane.specs.Prelude.{words_of}
use Rattle.ca_import.specs.Prelude.{Life105WordsSay, Life105Says}
use Rattle.ca_import.specs.inner.Lines.{IsAloneFault}
use Rattle.ca_import.proofs.Faults.{other_fault}
use Rattle.ca_import.proofs.Life105Lines.{line_fault}
use Rattle.ca_import.proofs.life105.life105_line.Goals as goal

pub returns-then-starts_with-clause-fault : goal.returns-then-starts_with-clause-fault
returns-then-starts_with-clause-fault c =
    let line = c.args.line.now in
    let word = c.in-Some.word.now in
    let later = words_of c.in-Some.rest.now in
    let are_words = c.in-Some.ensures.words in
    let word_is = c.in-Some.word-is in
    let rest_is = c.in-Some.rest-is in
    let words : words_of line ≡ word ∷ later = cc in
    other_fault c.mark_line.result (IsAloneFault (Life105WordsSay (word ∷ later))) (IsAloneFault (Life105Says line))
    (line_fault line word later words (sym c.starts_with.ensures.value ∙ c.if-starts_with.true)) c.mark_line.ensures.fault
