use Rattle.std.proofs.Common.{codes}
use Rattle.std.specs.Fmt.{signed_decimal}
use Rattle.std.proofs.lemmas.Result.{on_ok_weaker}
use Rattle.ca_plane.specs.Prelude.{Puts}
use Rattle.ca_rle.specs.Prelude.{line_with_lf, corner_line, generation_text}
use Rattle.ca_rle.proofs.Heads.{put_corner}
use Rattle.ca_rle.proofs.write.head.push_corner_line.Goals as goal

pub returns : goal.returns
returns c =
    on_ok_weaker {P = Puts c.push_generation.new.out.items c.push_text-2.new.out.items (codes "\n")} {Q = Puts c.args.out.now.items c.push_text-2.new.out.items (line_with_lf (corner_line c.args.corner c.args.generation))} c.push_text-2.result
    (put_corner _ _ _ _ _ (signed_decimal c.args.corner.x) (signed_decimal c.args.corner.y) (generation_text c.args.generation) c.in_ok-push_text.ensures c.in_ok-push_position.ensures c.in_ok-push_generation.ensures) c.push_text-2.ensures
