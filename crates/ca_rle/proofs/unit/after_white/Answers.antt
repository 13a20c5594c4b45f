use Rattle.std.proofs.Common.{not, ap, sym, ◌∙◌}
use Rattle.ca_plane.specs.Prelude.{is_blank, is_end_or}
use Rattle.ca_plane.proofs.Fronts.{rest_ends}
use Rattle.ca_rle.specs.Prelude.{InLine, after_white}
use Rattle.ca_rle.proofs.SkippedSpace.{line_blanks}
use Rattle.ca_rle.proofs.unit.after_white.Goals as goal

pub lines-init : goal.lines-init
lines-init c = record {
  white = line_blanks c.args.bytes.now ∙ ap (after_white InLine) (sym c.split_blanks.ensures.rest);
  no_blank = ap (is_end_or (λ b. not (is_blank b))) c.split_blanks.ensures.rest ∙ rest_ends is_blank c.args.bytes.now;
}
