use Rattle.std.proofs.Common.{[], ◌∷◌, ◌++◌, Some, sym, subst}
use Rattle.ca_plane.specs.Prelude.{words_of}
use Rattle.ca_macro.specs.declared.read.reading.Reading.{Reading}
use Rattle.ca_macro.specs.Prelude.{MacrocellWordsSay}
use Rattle.ca_macro.specs.inner.Comments.{said_of}
use Rattle.ca_macro.specs.inner.Reading.{IsMacrocellReading}
use Rattle.ca_macro.proofs.Saying.{nothing_said, rule_said, generation_said}
use Rattle.ca_macro.proofs.read.reading.Reading.comment.Goals as goal

pub returns-in-Nothing : goal.returns-in-Nothing
returns-in-Nothing c = λ store said line one says read.
    subst (λ k. IsMacrocellReading store (said ++ said_of k ∷ []) c.args.self.now) (sym c.in-Nothing.is) (nothing_said store said c.args.self.now read)

pub returns-in-Rule : goal.returns-in-Rule
returns-in-Rule c = λ store said line one says read.
    let old = c.args.self.now in
    let after : Reading = record { squares = old.squares; rule = Some c.in-Rule.text; generation = old.generation } in
    subst (λ k. IsMacrocellReading store (said ++ said_of k ∷ []) after) (sym c.in-Rule.is)
    (rule_said store said old c.in-Rule.text line one (subst (λ k. MacrocellWordsSay (words_of line) (said_of k)) c.in-Rule.is says) read)

pub returns-in-Generation : goal.returns-in-Generation
returns-in-Generation c = λ store said line one says read.
    let old = c.args.self.now in
    let after : Reading = record { squares = old.squares; rule = old.rule; generation = c.in-Generation.count } in
    subst (λ k. IsMacrocellReading store (said ++ said_of k ∷ []) after) (sym c.in-Generation.is)
    (generation_said store said old c.in-Generation.count (subst (λ k. MacrocellWordsSay (words_of line) (said_of k)) c.in-Generation.is says).3 read)
