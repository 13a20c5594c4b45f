use Rattle.std.proofs.Common.{[], ◌∷◌, codes, ◌∙◌}
use Rattle.ca_rle.specs.Prelude.{Exactly}
use Rattle.ca_rle.proofs.HeaderLines.{parts_then}
use Rattle.ca_rle.proofs.front.header.after_rule_name.Goals as goal

pub returns-in_err-rest : goal.returns-in_err-rest
returns-in_err-rest c = rw c.from_residual-in_err-rest.ensures (
    parts_then (Exactly (codes ",") ∷ []) (Exactly (codes "rule") ∷ Exactly (codes "=") ∷ []) c.args.bytes.now c.in_ok-bytes.bytes.now c.in_ok-bytes.ensures
    ∙ parts_then (Exactly (codes "rule") ∷ []) (Exactly (codes "=") ∷ []) c.in_ok-bytes.bytes.now c.in_ok-bytes-2.bytes.now c.in_ok-bytes-2.ensures ∙ c.in_err-rest.ensures)

pub returns : goal.returns
returns c =
    parts_then (Exactly (codes ",") ∷ []) (Exactly (codes "rule") ∷ Exactly (codes "=") ∷ []) c.args.bytes.now c.in_ok-bytes.bytes.now c.in_ok-bytes.ensures
    ∙ parts_then (Exactly (codes "rule") ∷ []) (Exactly (codes "=") ∷ []) c.in_ok-bytes.bytes.now c.in_ok-bytes-2.bytes.now c.in_ok-bytes-2.ensures ∙ c.in_ok-rest.ensures
