use Rattle.std.proofs.Common.{[], ◌∷◌, codes, ◌∙◌}
use Rattle.ca_rle.specs.Prelude.{Exactly, Number}
use Rattle.ca_rle.proofs.HeaderLines.{parts_then}
use Rattle.ca_rle.proofs.front.header.after_sizes.Goals as goal

pub returns : goal.returns
returns c =
    parts_then (Exactly (codes "x") ∷ Exactly (codes "=") ∷ Number ∷ []) (Exactly (codes ",") ∷ Exactly (codes "y") ∷ Exactly (codes "=") ∷ Number ∷ []) c.args.line.now c.in_ok-bytes.bytes.now c.in_ok-bytes.ensures
    ∙ parts_then (Exactly (codes ",") ∷ []) (Exactly (codes "y") ∷ Exactly (codes "=") ∷ Number ∷ []) c.in_ok-bytes.bytes.now c.in_ok-bytes-2.bytes.now c.in_ok-bytes-2.ensures ∙ c.in_ok-rest.ensures
