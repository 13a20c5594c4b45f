use Rattle.std.proofs.Common.{◌<◌, ◌^◌, List, refl, sym, subst}
use Rattle.ca_rle.specs.declared.item.Item.{Item}
use Rattle.ca_rle.specs.Prelude.{IsWrittenRle, picture_of_items}
use Rattle.ca_rle.specs.inner.RunByRun.{IsCorner}
use Rattle.ca_rle.proofs.Frames.{bounds_in_range, frame_corner}
use Rattle.ca_rle.proofs.JudgedTexts.{sparse, text_bounds, listed_in_range, listed_below}
use Rattle.ca_rle.proofs.OneList.{one_list}
use Rattle.ca_rle.proofs.StatesOf.{have_states}
use Rattle.ca_rle.proofs.TidyFile.{tidy_file}
use Rattle.ca_rle.proofs.TidyRange.{file_in_range, tidy_within_range, listed_range, within_limits}
use Rattle.ca_rle.proofs.WholeTexts.{tidy_text}
use Rattle.ca_rle.proofs.write.rewrite_rle.Goals as goal

pub of-frame-requires : goal.of-frame-requires
of-frame-requires c =
    let (bytes, is) = c.requires.text in
    bounds_in_range (picture_of_items c.args.text.corner is.file.items) _ (listed_in_range bytes c.args.text is) (text_bounds bytes c.args.text is)

pub push_items_of-requires-clause-corner : goal.push_items_of-requires-clause-corner
push_items_of-requires-clause-corner c = λ items spelled.
    let (bytes, is) = c.requires.text in
    let p = picture_of_items c.args.text.corner is.file.items in
    let bounds = text_bounds bytes c.args.text is in
    subst (λ (l : List Item). IsCorner (picture_of_items c.args.text.corner l) c.of-frame.result.corner) (one_list _ is.file.items items is.items spelled)
    (frame_corner p c.args.text.bounds c.of-frame.result.corner c.of-frame.result.width c.of-frame.result.height bounds (c.of-frame.ensures p bounds))

pub returns : goal.returns
returns c = λ items spelled.
    let (bytes, is) = c.requires.text in
    let all = is.file.items in
    let p = picture_of_items c.args.text.corner all in
    let (written, lines, shown, are_tidy) = c.in_ok-push_items_of.ensures all is.items in
    let listed = listed_in_range bytes c.args.text is in
    let have = have_states c.args.states _ p written are_tidy shown (sparse bytes c.args.text is).states (listed_below bytes c.args.text is c.args.states c.requires.low_states) in
    let tidy = tidy_text _ _ _ _ _ p c.args.text.generation c.args.states c.of-frame.result.corner c.of-frame.result.width c.of-frame.result.height written written
    c.new-written.ensures.items c.in_ok-push_corner_line.ensures c.in_ok-push_header_line.ensures refl lines (c.of-frame.ensures p (text_bounds bytes c.args.text is)) shown are_tidy have in
    let within = listed_range p listed in
    let low : c.args.text.generation < 2 ^ 63 = subst (λ n. n < 2 ^ 63) (sym is.generation) is.low_generation in
    let file = file_in_range _ _ _ _ _ tidy c.requires.is_word low within in
    let range = tidy_within_range _ _ _ _ _ tidy within in
    subst (λ (l : List Item). IsWrittenRle c.push_items_of.new.out.items (picture_of_items c.args.text.corner l) c.args.rule_text.now c.args.text.generation c.args.states) (one_list _ all items is.items spelled)
    (record {
      tidy = tidy;
      means = (tidy_file _ p _ _ _ tidy, file, range, shown, refl, refl);
      limits = λ few other is_other. within_limits _ _ other p file range shown few is_other;
    })
