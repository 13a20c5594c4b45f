use Rattle.std.proofs.Common.{sym, subst, ◌∙◌, arith}
use Rattle.std.specs.Int.{w128}
use Rattle.std.proofs.lemmas.Int.{to_z-of_z}
use Rattle.ca_quad.specs.inner.BitParts.{AreShiftedBits}
use Rattle.ca_quad.proofs.BitWords.{no_row_here, row_here}
use Rattle.ca_quad.proofs.store.bit_block.put_word.Goals as goal

pub returns-in-Some : goal.returns-in-Some
returns-in-Some c =
    let word = c.args.word in
    let (below, is_row) = c.in-Some.ensures in
    let are = subst (λ z. AreShiftedBits word.bits z c.moved.result) (to_z-of_z w128 c.way_east.result (record { sfits = c.way_east.type_inv })) c.moved.ensures in
    row_here word c.args.at c.args.rows.now c.way_south.result c.way_south.ensures c.in-Some.row (sym (to_z-of_z w128 c.way_south.result (record { sfits = c.way_south.type_inv })) ∙ is_row) (omega (arith, below, c.told-rows)) c.way_east.result c.way_east.ensures c.moved.result are

pub returns-in_default : goal.returns-in_default
returns-in_default c = no_row_here c.args.word c.args.at c.args.rows.now c.way_south.result c.way_south.ensures (λ n low e. c.in_default.ensures n low (to_z-of_z w128 c.way_south.result (record { sfits = c.way_south.type_inv }) ∙ e))
