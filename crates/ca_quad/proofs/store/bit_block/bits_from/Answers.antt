use Rattle.std.proofs.Common.{◌≡◌, ◌+◌, ◌*◌, ap, ◌∙◌, arith}
use Rattle.std.specs.Int.{bit_at}
use Rattle.ca_quad.proofs.EightRows.{part_bit}
use Rattle.ca_quad.proofs.store.bit_block.bits_from.Goals as goal

pub returns : goal.returns
returns c = λ i low.
    let wide : 18446744073709551616 * c.from-wide.result ≡ c.args.bits * 18446744073709551616 = omega (arith, c.from-wide.ensures) in
    part_bit _ c.args.first 64 i low ∙ ap (λ n. bit_at n (c.args.first + i)) wide
