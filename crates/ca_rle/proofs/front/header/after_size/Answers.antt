use Rattle.std.proofs.Common.{[], ◌∷◌, codes, ◌∙◌}
use Rattle.ca_rle.specs.Prelude.{Exactly, Number}
use Rattle.ca_rle.proofs.HeaderLines.{parts_then}
use Rattle.ca_rle.proofs.front.header.after_size.Goals as goal

pub returns-in_err-rest : goal.returns-in_err-rest
returns-in_err-rest c = rw c.from_residual-in_err-rest.ensures (
    parts_then (Exactly c.args.name.now ∷ []) (Exactly (codes "=") ∷ Number ∷ []) c.args.bytes.now c.in_ok-bytes.bytes.now c.in_ok-bytes.ensures
    ∙ parts_then (Exactly (codes "=") ∷ []) (Number ∷ []) c.in_ok-bytes.bytes.now c.in_ok-bytes-2.bytes.now c.in_ok-bytes-2.ensures ∙ c.in_err-rest.ensures)

pub returns : goal.returns
returns c =
    parts_then (Exactly c.args.name.now ∷ []) (Exactly (codes "=") ∷ Number ∷ []) c.args.bytes.now c.in_ok-bytes.bytes.now c.in_ok-bytes.ensures
    ∙ parts_then (Exactly (codes "=") ∷ []) (Number ∷ []) c.in_ok-bytes.bytes.now c.in_ok-bytes-2.bytes.now c.in_ok-bytes-2.ensures ∙ c.in_ok-rest.ensures
