-- A tree is empty just where its root is.
use Rattle.std.proofs.Common.{◌≡◌, ℕ, ◌-◌, ◌^◌, List, refl, sym, ◌∙◌, arith}
use Rattle.std.specs.Prelude.{ℤ, pos, negsuc, ◌+ℤ◌, ◌-ℤ◌}
use Rattle.std.proofs.lemmas.Int.{ints}
use Rattle.ca_quad.specs.declared.{node.Node.Node, tree.Tree.Tree}
use Rattle.ca_quad.specs.Prelude.{cell_of, IsEmpty, cell, IsDead}
use Rattle.ca_plane.specs.Prelude.{from_corner}
use Rattle.ca_quad.proofs.Differ.{cell_at}

-- cells that are all 0 from a corner onwards
corner_dead : (p : ℕ → ℕ → ℕ) → IsEmpty p → (u v : ℤ) → from_corner p u v ≡ 0
corner_dead p empty (pos x) (pos y) = empty x y
corner_dead p empty (pos x) (negsuc y) = refl
corner_dead p empty (negsuc x) (pos y) = refl
corner_dead p empty (negsuc x) (negsuc y) = refl

-- a tree with an empty root is
pub dead_corner : (nodes : List Node) (tree : Tree) → IsEmpty (cell_of nodes tree.level tree.root) → IsDead (cell nodes tree)
dead_corner nodes tree empty = λ x y. corner_dead (cell_of nodes tree.level tree.root) empty (x +ℤ pos (2 ^ (tree.level - 1))) (y +ℤ pos (2 ^ (tree.level - 1)))

-- and an empty tree's root is
pub not_empty : (nodes : List Node) (tree : Tree) → IsDead (cell nodes tree) → IsEmpty (cell_of nodes tree.level tree.root)
not_empty nodes tree dead = λ x y.
    let half : ℕ = 2 ^ (tree.level - 1) in
    let across : (pos x -ℤ pos half) +ℤ pos half ≡ pos x = omega (arith, ints) in
    let down : (pos y -ℤ pos half) +ℤ pos half ≡ pos y = omega (arith, ints) in
    sym (cell_at nodes tree half refl (pos x -ℤ pos half) (pos y -ℤ pos half) x y across down) ∙ dead (pos x -ℤ pos half) (pos y -ℤ pos half)
