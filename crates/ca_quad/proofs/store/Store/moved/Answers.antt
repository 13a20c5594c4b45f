use Rattle.std.proofs.Common.{◌≡◌, ◌-◌, length, subst, arith}
use Rattle.std.proofs.lemmas.Int.{ints}
use Rattle.ca_quad.specs.declared.tree.Tree.{Tree}
use Rattle.ca_quad.specs.Prelude.{IsSoundStore, shifted_cells, cell}
use Rattle.ca_quad.proofs.Cuts.{quarters_at}
use Rattle.ca_quad.proofs.Growth.{grows_on}
use Rattle.ca_quad.proofs.Shifts.{eighth, quarter_low, parts_of_tree, cut_tree, tree_moved, tree_quarters}
use Rattle.ca_quad.proofs.Trims.{cells_as}
use Rattle.ca_quad.proofs.store.Store.moved.Goals as goal

pub offset_back-offset-requires-clause-most : goal.offset_back-offset-requires-clause-most
offset_back-offset-requires-clause-most c = omega (arith, c.half_side.ensures.half, quarter_low c.args.tree.level c.requires.least c.requires.most)

pub offset_back-offset-requires-clause-near_x : goal.offset_back-offset-requires-clause-near_x
offset_back-offset-requires-clause-near_x c = omega (arith, ints, c.half_side.ensures.half, eighth c.args.tree.level c.requires.least, c.requires.near_x)

pub offset_back-offset-requires-clause-near_y : goal.offset_back-offset-requires-clause-near_y
offset_back-offset-requires-clause-near_y c = omega (arith, ints, c.half_side.ensures.half, eighth c.args.tree.level c.requires.least, c.requires.near_y)

pub cut_out-requires-clause-four : goal.cut_out-requires-clause-four
cut_out-requires-clause-four c =
    let old = c.args.self.now in
    let four : length c.children.result ≡ 4 = omega (arith, c.children.type_inv) in
    let quarters = quarters_at old c.args.tree.root (c.args.tree.level - 1) c.children.result _ _ _ _ four (tree_quarters old c.args.tree c.args.to c.requires c.children.result c.children.ensures.quarters) in
    (c.args.tree.level - 1, parts_of_tree old c.args.tree c.args.to c.requires _ _ _ _ quarters)

pub trim-requires : goal.trim-requires
trim-requires c =
    let old = c.args.self.now in
    let sound : IsSoundStore old = subst IsSoundStore c.self.view_is c.self.invariant in
    let four : length c.children.result ≡ 4 = omega (arith, c.children.type_inv) in
    let quarters = quarters_at old c.args.tree.root (c.args.tree.level - 1) c.children.result _ _ _ _ four (tree_quarters old c.args.tree c.args.to c.requires c.children.result c.children.ensures.quarters) in
    record { tree = cut_tree old c.cut_out.new.self sound c.cut_out.ensures.grows c.args.tree c.args.to c.requires _ quarters c.offset_back-offset.result c.in_ok-root.root c.in_ok-root.ensures.cut }

pub returns-clause-cells : goal.returns-clause-cells
returns-clause-cells c =
    let old = c.args.self.now in
    let sound : IsSoundStore old = subst IsSoundStore c.self.view_is c.self.invariant in
    let four : length c.children.result ≡ 4 = omega (arith, c.children.type_inv) in
    let quarters = quarters_at old c.args.tree.root (c.args.tree.level - 1) c.children.result _ _ _ _ four (tree_quarters old c.args.tree c.args.to c.requires c.children.result c.children.ensures.quarters) in
    let small : Tree = record { root = c.in_ok-root.root; level = c.args.tree.level - 1 } in
    cells_as c.trim.new.self c.trim.result (cell c.cut_out.new.self small) (shifted_cells (cell old c.args.tree) c.args.to.x c.args.to.y)
    (tree_moved old c.cut_out.new.self sound c.cut_out.ensures.grows c.args.tree c.args.to c.requires _ quarters c.offset_back-offset.result c.in_ok-root.root c.in_ok-root.ensures.cut
    c.half_side.result c.half_side.ensures.half c.offset_back-offset.ensures.x c.offset_back-offset.ensures.y)
    c.trim.ensures.cells

pub returns-clause-grows : goal.returns-clause-grows
returns-clause-grows c = grows_on c.args.self.now c.cut_out.new.self c.trim.new.self c.cut_out.ensures.grows c.trim.ensures.grows
