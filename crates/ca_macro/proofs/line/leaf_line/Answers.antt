use Rattle.std.proofs.Common.{refl, sym, ◌∙◌, inl, inr}
use Rattle.ca_macro.proofs.line.leaf_line.Goals as goal

pub returns-in-Some-clause-fault : goal.returns-in-Some-clause-fault
returns-in-Some-clause-fault c = λ earlier.
    let found = c.in_ok-rows.ensures.found in
    inr (inl (c.args.word.now, _, refl, inr ((found.0, found.1), λ e. let none = sym c.in-Some.ensures.words ∙ e in absurd cc)))
