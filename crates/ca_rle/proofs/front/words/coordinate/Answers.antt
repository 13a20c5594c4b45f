use Rattle.std.proofs.Common.{refl}
use Rattle.ca_rle.proofs.StartWords.{keeps_clamped, kept_in_bits}
use Rattle.ca_rle.proofs.front.words.coordinate.Goals as goal

pub returns : goal.returns
returns c =
    let read = c.in_ok-integer.ensures in
    kept_in_bits c.args.bytes.now c.clamp.result _ (read.0, read.1, keeps_clamped read.0 c.in_ok-integer.field-0 c.clamp.result read.2 c.clamp.ensures.value) refl
