use Rattle.ca_quad.proofs.Bits.{exchange_bits}
use Rattle.ca_quad.proofs.store.bits.exchange.Goals as goal

pub returns : goal.returns
returns c = exchange_bits c.args.bits c.args.low c.args.way c.requires.fits c.requires.apart
