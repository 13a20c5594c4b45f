use Rattle.std.proofs.Common.{◌<◌, ◌^◌, rules, sym, ◌∙◌}
use Rattle.ca_quad.proofs.EightRows.{rows_of_word}
use Rattle.ca_quad.proofs.store.Store.leaf8.Goals as goal

pub returns : goal.returns
returns c = λ x y.
    let low : c.in-Some.word < 2 ^ 64 = search rules in
    c.in-Some.ensures x y ∙ sym (rows_of_word c.to_le_bytes.result c.in-Some.word (sym c.to_le_bytes.ensures) low x y)
