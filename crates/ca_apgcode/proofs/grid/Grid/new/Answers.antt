use Rattle.std.proofs.Common.{◌≡◌, replicate, ap, ◌∙◌}
use Rattle.ca_apgcode.proofs.Columns.{IsGrid-dead}
use Rattle.ca_apgcode.proofs.grid.Grid.new.Goals as goal

pub invariant_of-result : goal.invariant_of-result
invariant_of-result c =
    let dead : c.in_ok-columns.columns.items ≡ replicate c.args.width 0 = c.in_ok-columns.ensures.items_if_clones_equal (λ y e. e) ∙ ap (λ w. replicate w 0) c.from.ensures in
    IsGrid-dead c.args.height c.args.width c.in_ok-columns.columns.items c.requires.width c.requires.height dead
