use Rattle.std.proofs.Common.{refl, sym, ◌∙◌}
use Rattle.std.specs.Prelude.{replicate}
use Rattle.std.proofs.lemmas.Simd.{length-zip2}
use Rattle.ca_bricks.proofs.Tiles.{joined_shows}
use Rattle.ca_bricks.proofs.tile.tile_of.Goals as goal

pub invariant_of-result : goal.invariant_of-result
invariant_of-result c =
    let west = c.bytes_of-west.result in
    let east = c.bytes_of-east.result in
    let long = length-zip2 _ east (replicate 16 8) c.bytes_of-east.ensures.length ∙ c.bytes_of-east.ensures.length in
    record { sixteen = length-zip2 _ west _ (c.bytes_of-west.ensures.length ∙ sym long) ∙ c.bytes_of-west.ensures.length }

pub returns : goal.returns
returns c =
    joined_shows _ _ (λ a b. refl) (λ a. refl) c.args.words.now c.bytes_of-west.result c.bytes_of-east.result c.bytes_of-west.ensures.length c.bytes_of-east.ensures.length
    c.bytes_of-west.ensures.bytes c.bytes_of-east.ensures.bytes
