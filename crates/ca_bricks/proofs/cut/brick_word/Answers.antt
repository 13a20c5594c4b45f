use Rattle.std.proofs.Common.{◌≡◌, ◌+◌, ◌*◌, [], ◌∷◌, arith}
use Rattle.ca_bricks.proofs.BrickWords.{cut_shows}
use Rattle.ca_bricks.proofs.cut.brick_word.Goals as goal

pub returns : goal.returns
returns c =
    let top = 8 * c.args.j in
    let e : top ≡ top + 0 = omega arith in
    cut_shows c.args.rows.now (c.byte_at.result ∷ c.byte_at-2.result ∷ c.byte_at-3.result ∷ c.byte_at-4.result ∷ c.byte_at-5.result ∷ c.byte_at-6.result ∷ c.byte_at-7.result ∷ c.byte_at-8.result ∷ [])
    c.from_le_bytes.result c.args.i c.args.j c.requires.column c.requires.row (cc) c.from_le_bytes.ensures
