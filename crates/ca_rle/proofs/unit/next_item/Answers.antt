use Rattle.std.proofs.Common.{sym, ◌∙◌}
use Rattle.std.proofs.lemmas.Result.{err_from_is_err_and}
use Rattle.ca_plane.specs.Prelude.{is_digit}
use Rattle.ca_plane.proofs.Fronts.{every_front}
use Rattle.ca_rle.specs.Prelude.{InLine, after_white}
use Rattle.ca_rle.proofs.Units.{plain_item, plain_end, plain_fault, counted_item, counted_end, zero_fault, counted_tag_fault}
use Rattle.ca_rle.proofs.unit.next_item.Goals as goal

pub returns-in_err-tag : goal.returns-in_err-tag
returns-in_err-tag c =
    let p = err_from_is_err_and c.from_residual.result c.from_residual.ensures.1 in rw (p.1, p.2) (plain_fault _ _ _ _ c.split_count.ensures (sym c.is_empty.ensures ∙ c.if-is_empty.true) c.in_err-tag.ensures)

pub returns-in_default : goal.returns-in_default
returns-in_default c =
    let mark = rw c.in_default.is at c.in_ok-tag.ensures in
    plain_end _ _ _ _ c.split_count.ensures (sym c.is_empty.ensures ∙ c.if-is_empty.true) mark.1

pub returns-then-is_empty : goal.returns-then-is_empty
returns-then-is_empty c =
    let tag = rw c.in-Some.is at c.in_ok-tag.ensures in
    plain_item _ _ _ tag.0 _ _ c.split_count.ensures (sym c.is_empty.ensures ∙ c.if-is_empty.true) tag.1 tag.2

pub count-requires : goal.count-requires
count-requires c = rw c.split_count.ensures.digits_are (every_front is_digit (after_white InLine c.args.bytes.now))

pub returns-in_default-count : goal.returns-in_default-count
returns-in_default-count c = zero_fault _ _ _ c.split_count.ensures (sym c.is_empty.ensures ∙ c.if-is_empty.false) c.in_default-count.ensures

pub returns-in_err-tag-2 : goal.returns-in_err-tag-2
returns-in_err-tag-2 c =
    let p = err_from_is_err_and c.from_residual-in_err-tag-2.result c.from_residual-in_err-tag-2.ensures.1 in rw (p.1, p.2) (counted_tag_fault _ _ _ _ _ c.split_count.ensures (sym c.is_empty.ensures ∙ c.if-is_empty.false) c.in-Some-count.ensures.0 c.after_white.ensures c.in_err-tag-2.ensures)

pub returns-in_default-2 : goal.returns-in_default-2
returns-in_default-2 c =
    let mark = rw c.in_default-2.is at c.in_ok-tag-2.ensures in
    counted_end _ _ _ _ _ c.split_count.ensures (sym c.is_empty.ensures ∙ c.if-is_empty.false) c.in-Some-count.ensures.0 c.after_white.ensures mark.1

pub returns : goal.returns
returns c =
    let tag = rw c.in-Some-2.is at c.in_ok-tag-2.ensures in
    counted_item _ _ _ tag.0 _ _ _ c.split_count.ensures (sym c.is_empty.ensures ∙ c.if-is_empty.false) c.in-Some-count.ensures tag.1 (sym c.after_white.ensures ∙ tag.2)
