use Rattle.std.proofs.Common.{[], ◌∷◌}
use Rattle.ca_bricks.proofs.Tiles.{middle_shows}
use Rattle.ca_bricks.proofs.tile.middle.Goals as goal

pub returns : goal.returns
returns c = middle_shows c.args.rows.now (c.inner_byte.result ∷ c.inner_byte-2.result ∷ c.inner_byte-3.result ∷ c.inner_byte-4.result ∷ c.inner_byte-5.result ∷ c.inner_byte-6.result ∷ c.inner_byte-7.result ∷ c.inner_byte-8.result ∷ []) c.from_le_bytes.result (cc) c.from_le_bytes.ensures
