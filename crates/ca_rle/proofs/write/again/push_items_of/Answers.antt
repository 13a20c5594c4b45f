use Rattle.std.proofs.Common.{[], ◌∷◌, ◌++◌, List, codes}
use Rattle.std.proofs.lemmas.Result.{on_ok_weaker}
use Rattle.ca_plane.specs.Prelude.{Puts}
use Rattle.ca_rle.specs.declared.item.Item.{Item}
use Rattle.ca_rle.specs.Prelude.{Items, picture_of_items}
use Rattle.ca_rle.specs.inner.RunByRun.{PutsItemsOf}
use Rattle.ca_rle.proofs.JudgedTexts.{text_next}
use Rattle.ca_rle.proofs.NoFault.{no_bad_item}
use Rattle.ca_rle.proofs.RewrittenItems.{comes_after, rewritten_more, rewritten_end, rewritten_all}
use Rattle.ca_rle.proofs.write.again.push_items_of.Goals as goal

pub good_item-requires : goal.good_item-requires
good_item-requires c = λ f fault. no_bad_item _ _ c.requires.text.1.file.items c.items.invariant.0 f c.requires.text.1.items c.items.invariant.1.run fault

pub place_cells-requires-clause-room : goal.place_cells-requires-clause-room
place_cells-requires-clause-room c =
    (text_next c.requires.text.0 c.args.text c.requires.text.1 _ _ _ c.items.invariant.0 _ c.items.invariant.1.run c.items.invariant.1.offset c.in-Some.ensures).room

pub place_cells-requires-clause-after : goal.place_cells-requires-clause-after
place_cells-requires-clause-after c =
    let text = c.requires.text in
    let (items, written) = c.items.invariant in
    let item = c.in-Some.ensures in
    let next = text_next text.0 c.args.text text.1 _ _ _ items _ written.run written.offset item in
    comes_after text.0 c.args.text text.1 c.args.corner (c.requires.corner text.1.file.items text.1.items) _ _ c.args.states c.items.pending _ _ _ items _ written item next

pub items-preserved : goal.items-preserved
items-preserved c =
    let text = c.requires.text in
    let (items, written) = c.items.invariant in
    let item = c.in-Some.ensures in
    let next = text_next text.0 c.args.text text.1 _ _ _ items _ written.run written.offset item in (
      items ++ item.0 ∷ [],
      rewritten_more text.0 c.args.text text.1 c.args.corner (c.requires.corner text.1.file.items text.1.items) _ _ c.args.states c.items.pending _ _ _ items _ written item next
          _ c.in_ok-pending.pending c.after_item-at.result c.in_ok-pending.ensures.cells c.in_ok-pending.ensures.dead c.in_ok-pending.ensures.live
          (record { rows = c.after_item-at.ensures.rows; columns = c.after_item-at.ensures.columns }),
    )

pub returns : goal.returns
returns c =
    let (items, written) = c.items.invariant in
    let new = c.push_text.new.out.items in
    on_ok_weaker {P = Puts c.place_end.new.out.items new (codes "\n")}
    {Q = (all : List Item) → Items c.args.text.body.now all → PutsItemsOf c.args.states c.args.corner (picture_of_items c.args.text.corner all) c.args.out.now.items new} c.push_text.result
    (λ put all spelled. rewritten_all c.args.out.now.items _ new c.args.states c.args.corner c.items.pending c.args.text.corner c.args.text.body.now _ _ items all written c.in_default.ensures spelled
    (rewritten_end c.args.states c.in_ok-filled.filled c.in_ok-place_end.field-0 c.args.corner c.args.out.now.items _ c.place_run.new.out.items c.place_end.new.out.items new c.items.pending _ written.written
    c.in_ok-filled.ensures c.in_ok-place_end.ensures put)) c.push_text.ensures
