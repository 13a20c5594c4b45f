-- Results whose squares are copied from one store to another.
use Rattle.std.proofs.Common.{◌≡◌, ℕ, suc, ◌-◌, ◌^◌, false, Result, Ok, Err, OnOk, List, sym, ap, subst, ◌∙◌, arith}
use Rattle.std.proofs.lemmas.Bool.{false≢true}
use Rattle.std.specs.Result.{is_err}
use Rattle.std.specs.Prelude.{pos, ◌+ℤ◌}
use Rattle.ca_quad.specs.declared.{node.Node.Node, tree.Tree.Tree}
use Rattle.ca_quad.specs.Prelude.{level_of, cell_of, IsSoundStore, Grows, ShowsSquare, IsCopy}
use Rattle.ca_plane.specs.Prelude.{from_corner}
use Rattle.ca_quad.proofs.ShownSquares.{shows_stays}
use Rattle.ca_quad.proofs.Cells.{cells_stay, of_stays}
use Rattle.ca_run.specs.Prelude.{centre, IsCentre, LeaperView, LeaperGrows}
use Rattle.ca_run.specs.declared.leaper.full_leap.FullLeap.{FullLeap}
use Rattle.ca_run.specs.inner.OwnStore.{IsCopyOfTree}
use Rattle.ca_run.specs.inner.InUse.{IsTrueLeap}

-- what holds anyway holds where a call succeeds
pub also_ok : {A E P : Type 0} (r : Result A E) → P → OnOk r P
also_ok (Ok value) holds = holds
also_ok (Err e) holds = tt

-- what holds where a call succeeds holds where it doesn't fail
pub no_error : {A E : Type 0} (r : Result A E) (P : Type 0) → is_err r ≡ false → OnOk r P → P
no_error (Ok value) P e holds = holds
no_error (Err error) P e holds = absurd (false≢true (sym e))

-- the centre of a square is that of its copy, copied
centre_copied : (next : List ℕ → ℕ) (from new : List Node) (k id result_id square centre_id : ℕ) → IsCentre next from id k k result_id → ShowsSquare new square (suc (suc k)) (cell_of from (suc (suc k)) id) → ShowsSquare new centre_id (suc k) (cell_of from (suc k) result_id)
    → IsCentre next new square k k centre_id
centre_copied next from new k id result_id square centre_id h a b = record {
  in_time = h.in_time;
  is_square = a.is_square;
  is_result = b.is_square;
  has_cells = λ u v s t.
      b.has_cells u v ∙ (h.has_cells u v s t ∙ ap (λ f. centre next f (2 ^ k) (2 ^ k) u v) (sym (λ i x y. a.has_cells x y i)));
}

-- also where one is copied after the other
pub leap_copied : {Rule : Type 0} (next_of : Rule → List ℕ → ℕ) (from : List Node) (l0 l1 l2 : LeaperView Rule) → LeaperGrows Rule l0 l1 → LeaperGrows Rule l1 l2 → (leap : FullLeap) (level square centre_id : ℕ) → IsTrueLeap (next_of l0.rule) from leap → level ≡ level_of from leap.square
    → IsCopy from l1.nodes leap.square square → IsCopy from l2.nodes leap.centre centre_id → IsCentre (next_of l2.rule) l2.nodes square (level - 2) (level - 2) centre_id
leap_copied next_of from l0 l1 l2 g1 g2 leap level square centre_id true_leap e first second =
    let k = true_leap.0 in
    let h = true_leap.1 in
    let known : level_of from leap.square ≡ suc (suc k) = h.is_square.is_level in
    let half_known : level_of from leap.centre ≡ suc k = h.is_result.is_level in
    let here : k ≡ level - 2 = omega (arith, e, known) in
    let a0 : ShowsSquare l1.nodes square (suc (suc k)) (cell_of from (suc (suc k)) leap.square) = subst (λ l. ShowsSquare l1.nodes square l (cell_of from l leap.square)) known first in
    let a = shows_stays l1.nodes l2.nodes g1.grows.sound g2.grows square (suc (suc k)) (cell_of from (suc (suc k)) leap.square) a0 in
    let b : ShowsSquare l2.nodes centre_id (suc k) (cell_of from (suc k) leap.centre) = subst (λ l. ShowsSquare l2.nodes centre_id l (cell_of from l leap.centre)) half_known second in
    subst (λ n. IsCentre (next_of l2.rule) l2.nodes square n n centre_id) here
    (subst (λ f. IsCentre f l2.nodes square k k centre_id) (ap next_of (sym (g2.rule ∙ g1.rule))) (centre_copied (next_of l0.rule) from l2.nodes k leap.square leap.centre square centre_id h a b))

-- the copy of a tree stays one
pub copied_tree_stays : (from mid new : List Node) (tree copy : Tree) → IsSoundStore mid → Grows mid new → IsCopyOfTree from tree mid copy → IsCopyOfTree from tree new copy
copied_tree_stays from mid new tree copy sound grows h = record {
  is_tree = of_stays mid new sound grows copy.root copy.level h.is_tree;
  level = h.level;
  cells = λ x y.
      ap (λ f. from_corner f (x +ℤ pos (2 ^ (copy.level - 1))) (y +ℤ pos (2 ^ (copy.level - 1)))) (cells_stay mid new sound grows copy.level copy.root h.is_tree) ∙ h.cells x y;
}
