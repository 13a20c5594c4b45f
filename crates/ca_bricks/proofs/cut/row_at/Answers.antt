use Rattle.std.proofs.Common.{[], ◌∷◌}
use Rattle.ca_bricks.proofs.BrickWords.{made_row}
use Rattle.ca_bricks.proofs.cut.row_at.Goals as goal

pub returns : goal.returns
returns c =
    made_row c.args.words.now (c.byte_at.result ∷ c.byte_at-2.result ∷ c.byte_at-3.result ∷ c.byte_at-4.result ∷ c.byte_at-5.result ∷ c.byte_at-6.result ∷ c.byte_at-7.result ∷ c.byte_at-8.result ∷ [])
    c.from_le_bytes.result c.args.y (cc) c.from_le_bytes.ensures
