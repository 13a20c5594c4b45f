use Rattle.ca_rle.proofs.Frames.{bounds_in_range, plane_bounds}
use Rattle.ca_rle.proofs.WholeTexts.{tidy_text}
use Rattle.ca_rle.proofs.TidyFile.{tidy_file}
use Rattle.ca_rle.proofs.TidyRange.{file_in_range, tidy_within_range, listed_range, within_limits}
use Rattle.ca_rle.proofs.write.write_rle.Goals as goal
use Rattle.std.proofs.Common.{refl}

pub of-frame-requires : goal.of-frame-requires
of-frame-requires c = bounds_in_range c.args.cells.now _ c.requires.range (plane_bounds c.args.cells.now _ c.bounds.ensures.none c.bounds.ensures.some)

pub returns : goal.returns
returns c =
    let tidy = tidy_text _ _ _ _ _ c.args.cells.now c.args.generation c.args.states c.of-frame.result.corner c.of-frame.result.width c.of-frame.result.height c.in_ok-items.items.items _
    c.new-text.ensures.items c.in_ok-push_corner_line.ensures c.in_ok-push_header_line.ensures c.deref.ensures.value c.in_ok-push_items.ensures (c.of-frame.ensures _ (plane_bounds c.args.cells.now _ c.bounds.ensures.none c.bounds.ensures.some))
    c.in_ok-items.ensures.shown c.in_ok-items.ensures.tidy (c.in_ok-items.ensures.states _ c.requires.low_states) in
    let within = listed_range c.args.cells.now c.requires.range in
    let file = file_in_range _ _ _ _ _ tidy c.requires.is_word c.requires.low_generation within in
    let range = tidy_within_range _ _ _ _ _ tidy within in
    record {
      tidy = tidy;
      means = (tidy_file _ c.args.cells.now _ _ _ tidy, file, range, c.in_ok-items.ensures.shown, refl, refl);
      limits = λ few other is. within_limits _ _ other c.args.cells.now file range c.in_ok-items.ensures.shown few is;
    }
