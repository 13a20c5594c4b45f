use Rattle.std.proofs.Common.{ap, ◌∙◌}
use Rattle.std.specs.Int.{bit_at}
use Rattle.ca_quad.specs.inner.Bits.{place, exchanged_bit}
use Rattle.ca_quad.proofs.Bits.{corner_order}
use Rattle.ca_quad.proofs.store.bits.corners.Goals as goal

pub returns : goal.returns
returns c = λ x y a b.
    let wide = exchanged_bit 280375465148160 8 (place 3 x y) in
    let half = exchanged_bit 57421771435671756 6 wide in
    c.exchange.ensures (place 3 x y) ∙ c.exchange-wide.ensures wide ∙ c.exchange-half.ensures half ∙ ap (bit_at c.args.word) (corner_order x y a b)
