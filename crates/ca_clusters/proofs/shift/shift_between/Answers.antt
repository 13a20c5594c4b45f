use Rattle.std.proofs.Common.{◌≡◌, length, true, false, sym, ap, ◌∙◌}
use Rattle.ca_plane.specs.Prelude.{Picture, shifted}
use Rattle.ca_clusters.proofs.MovedLists.{shifted_from_same, length_from_same, shifted_by_first}
use Rattle.ca_clusters.proofs.shift.shift_between.Goals as goal

pub returns-then-from-to-clause-none : goal.returns-then-from-to-clause-none
returns-then-from-to-clause-none c = λ _ dx dy same.
    let p = c.args.one.now in
    let q = c.args.other.now in
    let long : length p ≡ length q = length_from_same p q dx dy c.as_slice-from.ensures.sparse c.as_slice-to.ensures.sparse same in
    let from : length c.as_slice-from.result.now ≡ length p = ap length c.as_slice-from.ensures.all in
    let to : length c.as_slice-to.result.now ≡ length q = ap length c.as_slice-to.ensures.all in
    c.if-from-to.true (from ∙ long ∙ sym to)

pub returns-else-are_moved-clause-none : goal.returns-else-are_moved-clause-none
returns-else-are_moved-clause-none c = λ _ dx dy same.
    let p = c.args.one.now in
    let q = c.args.other.now in
    let is : q ≡ shifted p dx dy = shifted_from_same p q dx dy c.as_slice-from.ensures.sparse c.as_slice-to.ensures.sparse same in
    let lists : c.as_slice-to.result.now ≡ shifted c.as_slice-from.result.now dx dy =
    c.as_slice-to.ensures.all ∙ is ∙ ap (λ (l : Picture). shifted l dx dy) (sym c.as_slice-from.ensures.all) in
    let no : false ≡ true = c.if-are_moved.ensures.1 (shifted_by_first _ _ dx dy _ _ c.shift_of-shift.result c.in_ok-first.ensures.item.3.0 c.in_ok-first.ensures.item.3.1 c.in_ok-first-2.ensures.item.3.1 c.shift_of-shift.ensures lists) in
    cc
