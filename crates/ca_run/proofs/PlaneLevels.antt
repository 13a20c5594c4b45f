-- The level of a plane's tree.
use Rattle.std.proofs.Common.{◌≡◌, ◌≤◌, inl, inr, List, ◌∙◌, arith}
use Rattle.std.specs.Prelude.{ℤ, neg_ℤ, ◌≤ℤ◌, Result, Ok, Err, IfOk}
use Rattle.std.proofs.lemmas.Int.{ints}
use Rattle.std.proofs.lemmas.List.Elements.{All-contains}
use Rattle.ca_plane.specs.Prelude.{Picture, cell as plane_cell, reach, IsInPlane, IsSparse}
use Rattle.ca_plane.proofs.Pictures.{Contains-cell}
use Rattle.ca_quad.specs.declared.{node.Node.Node, tree.Tree.Tree}
use Rattle.ca_quad.specs.Prelude.{cell, IsWithinLevel, IsTrimmed}
use Rattle.ca_plane.proofs.Numbers.{below_or_not}

-- a coordinate of a plane lies within a tree of level 64
is_within : (n : ℤ) → neg_ℤ reach ≤ℤ n → n ≤ℤ reach → IsWithinLevel 64 n
is_within n low high = (omega (arith, ints), omega (arith, ints))

-- a trimmed tree that shows a plane has a level of 64 at most
pub level_low : (nodes : List Node) (tree : Tree) (p : Picture) → IsSparse p
    → ((x y : ℤ) → cell nodes tree x y ≡ plane_cell p x y) → IsTrimmed nodes tree → tree.level ≤ 64
level_low nodes tree p sparse same trimmed =
    elim (below_or_not 64 tree.level) [
      | inl high ↦ absurd (trimmed 64 (omega arith) high (λ x y live.
          let at = All-contains (λ e. IsInPlane e.0) p _ sparse.places (Contains-cell p x y (λ e. live (same x y ∙ e))) in
          (is_within x at.0 at.1, is_within y at.2 at.3)))
      | inr low ↦ low
    ]

-- and so of what was loaded
pub loaded_low : {E : Type 0} (nodes : List Node) (loaded : Result Tree E) (p : Picture) → IsSparse p
    → IfOk loaded (λ t. (x y : ℤ) → cell nodes t x y ≡ plane_cell p x y) → IfOk loaded (IsTrimmed nodes) → IfOk loaded (λ t. t.level ≤ 64)
loaded_low nodes (Ok tree) p sparse same trimmed = level_low nodes tree p sparse same trimmed
loaded_low nodes (Err _) p sparse same trimmed = tt
