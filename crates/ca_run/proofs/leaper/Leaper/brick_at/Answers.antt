use Rattle.std.proofs.Common.{◌≡◌, ℕ, ◌≤◌, ◌+◌, ◌-◌, ◌*◌, ◌/◌, ◌%◌, ◌^◌, ap, subst, sym, ◌∙◌, arith}
use Rattle.std.specs.Prelude.{ℤ, pos, neg_ℤ, ◌+ℤ◌}
use Rattle.std.proofs.lemmas.Int.{ints}
use Rattle.std.proofs.lemmas.Nat.{pow-add}
use Rattle.ca_quad.specs.Prelude.{IsOf, cell}
use Rattle.ca_run.specs.inner.Shown.{ShowsAt}
use Rattle.ca_run.specs.inner.Frames.{piece_start, row_start}
use Rattle.ca_run.proofs.Trees.{tree_dies, root_at}
use Rattle.ca_run.proofs.GridBricks.{blank_shows, blank_piece, column_dead, row_dead, eight_from}
use Rattle.ca_run.proofs.leaper.Leaper.brick_at.Goals as goal

pub returns-in_default : goal.returns-in_default
returns-in_default g c =
    let tree = c.args.tree.now in
    let p = cell c.args.self.now.nodes tree in
    let bit = g.P.StatePlane.bit_of c.args.plane in
    let half = c.bricks_in_half-half in
    let dies = tree_dies c.args.self.now.nodes tree (omega (arith, c.requires.tree.least)) in
    blank_shows (λ x y. bit (p x y)) (piece_start c.args.column) (row_start c.args.row)
    (λ x y h k. ap bit (column_dead p (2 ^ (tree.level - 1)) half.result c.args.column half.ensures.cells half.ensures.most dies c.in_default.ensures x h _) ∙ c.requires.none)

pub returns-in_default-place_from : goal.returns-in_default-place_from
returns-in_default-place_from g c =
    let tree = c.args.tree.now in
    let p = cell c.args.self.now.nodes tree in
    let bit = g.P.StatePlane.bit_of c.args.plane in
    let half = c.bricks_in_half-half in
    let dies = tree_dies c.args.self.now.nodes tree (omega (arith, c.requires.tree.least)) in
    blank_shows (λ x y. bit (p x y)) (piece_start c.args.column) (row_start c.args.row)
    (λ x y h k. ap bit (row_dead p (2 ^ (tree.level - 1)) half.result c.args.row half.ensures.cells half.ensures.most dies c.in_default-place_from.ensures y k _) ∙ c.requires.none)

-- how many pieces lie side by side in a tree
pieces : (level half : ℕ) → 7 ≤ level → 64 * half ≡ 2 ^ (level - 1) → 2 ^ (level - 6) ≡ 2 * half
pieces level half least cells =
    let split : level - 1 ≡ (level - 6) + 5 = omega (arith, least) in
    let all : 2 ^ (level - 1) ≡ 2 ^ (level - 6) * 2 ^ 5 = ap (λ n. 2 ^ n) split ∙ pow-add 2 (level - 6) 5 in
    omega (arith, cells, all)

pub part_at-piece-requires-clause-place_x : goal.part_at-piece-requires-clause-place_x
part_at-piece-requires-clause-place_x g c =
    let wide = pieces c.args.tree.now.level c.bricks_in_half-half.result c.requires.tree.least c.bricks_in_half-half.ensures.cells in
    omega (arith, wide, c.in-Some.ensures.1)

pub part_at-piece-requires-clause-place_y : goal.part_at-piece-requires-clause-place_y
part_at-piece-requires-clause-place_y g c =
    let wide = pieces c.args.tree.now.level c.bricks_in_half-half.result c.requires.tree.least c.bricks_in_half-half.ensures.cells in
    omega (arith, wide, c.in-Some-place_from.ensures.1)

pub returns-then-is_empty : goal.returns-then-is_empty
returns-then-is_empty g c =
    let tree = c.args.tree.now in
    let nodes = c.args.self.now.nodes in
    let p = cell nodes tree in
    let bit = g.P.StatePlane.bit_of c.args.plane in
    let half = c.bricks_in_half-half in
    let i = c.in-Some.i in
    let j = c.in-Some-place_from.j in
    let corner = neg_ℤ (pos (2 ^ (tree.level - 1))) in
    let six : tree.level - 6 + 6 ≡ tree.level = omega (arith, c.requires.tree.least) in
    let root = subst (λ k. ShowsAt nodes tree.root k p corner corner) (sym six) (root_at nodes tree c.requires.tree.is_tree) in
    let cells = half.ensures.cells in
    let most = half.ensures.most in
    let at_i = c.in-Some.ensures.0 in
    let at_j = c.in-Some-place_from.ensures.0 in
    let piece = c.part_at-piece.ensures.shows p corner corner root in
    let store = ap (λ l. l.nodes) c.self.view_is in
    let empty = (c.is_empty.ensures 6 (subst (λ n. IsOf n c.part_at-piece.result 6) (sym store) c.part_at-piece.ensures.square)).0 c.if-is_empty.true in
    blank_piece c.self.inside.store c.part_at-piece.result p bit (corner +ℤ pos (64 * i)) (corner +ℤ pos (64 * (j / 4))) (piece_start c.args.column) (row_start c.args.row) (16 * (j % 4))
    c.requires.none (omega arith) empty (subst (λ n. ShowsAt n c.part_at-piece.result 6 p (corner +ℤ pos (64 * i)) (corner +ℤ pos (64 * (j / 4)))) (sym store) piece)
    (omega (arith, ints, cells, most, at_i)) (omega (arith, ints, cells, most, at_j))

pub returns : goal.returns
returns g c =
    let tree = c.args.tree.now in
    let nodes = c.args.self.now.nodes in
    let p = cell nodes tree in
    let bit = g.P.StatePlane.bit_of c.args.plane in
    let q = λ (x y : ℤ). bit (p x y) in
    let half = c.bricks_in_half-half in
    let i = c.in-Some.i in
    let j = c.in-Some-place_from.j in
    let column = c.args.column in
    let row = c.args.row in
    let corner = neg_ℤ (pos (2 ^ (tree.level - 1))) in
    let six : tree.level - 6 + 6 ≡ tree.level = omega (arith, c.requires.tree.least) in
    let root = subst (λ k. ShowsAt nodes tree.root k p corner corner) (sym six) (root_at nodes tree c.requires.tree.is_tree) in
    let piece = c.part_at-piece.ensures.shows p corner corner root in
    let west = corner +ℤ pos (64 * i) in
    let north = corner +ℤ pos (64 * (j / 4)) in
    let cells = half.ensures.cells in
    let most = half.ensures.most in
    let at_i = c.in-Some.ensures.0 in
    let at_j = c.in-Some-place_from.ensures.0 in
    c.brick_of.ensures q (piece_start column) (row_start row)
    (eight_from c.in_ok-north.north q west (north +ℤ pos (8 * (2 * (j % 4)))) (piece_start column) (row_start row)
    (omega (arith, ints, cells, most, at_i)) (omega (arith, ints, cells, most, at_j)) (c.in_ok-north.ensures p west north piece))
    (eight_from c.in_ok-south.south q west (north +ℤ pos (8 * (2 * (j % 4) + 1))) (piece_start column) (row_start row +ℤ pos 8)
    (omega (arith, ints, cells, most, at_i)) (omega (arith, ints, cells, most, at_j)) (c.in_ok-south.ensures p west north piece))
