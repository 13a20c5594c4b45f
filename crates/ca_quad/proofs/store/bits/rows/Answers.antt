use Rattle.std.proofs.Common.{◌+◌, ◌*◌, ap, ◌∙◌}
use Rattle.std.specs.Int.{bit_at}
use Rattle.ca_quad.specs.inner.Bits.{exchanged_bit}
use Rattle.ca_quad.proofs.Bits.{row_order}
use Rattle.ca_quad.proofs.store.bits.rows.Goals as goal

pub returns : goal.returns
returns c = λ x y a b.
    let small = exchanged_bit 868082074056920076 2 (8 * y + x) in
    let half = exchanged_bit 57421771435671756 6 small in
    c.exchange.ensures (8 * y + x) ∙ c.exchange-half.ensures small ∙ c.exchange-wide.ensures half ∙ ap (bit_at c.args.block) (row_order x y a b)
