-- Squares that a walk adds are copies of those that lie in its root.
use Rattle.std.proofs.Common.{◌≡◌, ℕ, inl, inr, Result, Ok, Err, IfOk, OnErr, List, length, refl, ap, subst, arith}
use Rattle.ca_quad.specs.declared.node.Node.{Node}
use Rattle.ca_quad.specs.declared.square.Square.TheVariants.{Parts}
use Rattle.ca_quad.specs.Prelude.{place_id, square_of, level_of, cell_of, IsSoundStore, Grows, AddsOnly, IsPartOf, itself, in_part, IsCopy, AddsCopies}
use Rattle.ca_plane.proofs.Numbers.{below_or_not}
use Rattle.ca_quad.proofs.ShownSquares.{shows_stays}

-- nothing is added
pub none_added : (from : List Node) (root : ℕ) (old new : List Node) → new ≡ old → AddsCopies from root old new
none_added from root old new e place low high = absurd (omega (arith, ap length e))

-- what is added to a store stays a copy when more copies are added
pub added_on : (from : List Node) (root : ℕ) (old mid new : List Node) → IsSoundStore mid → Grows mid new → AddsCopies from root old mid → AddsCopies from root mid new → AddsCopies from root old new
added_on from root old mid new sound grows first more place low high =
    elim (below_or_not place (length mid)) [
      | inl h ↦
          let f = first place low h in
          (f.0, (f.1.0, shows_stays mid new sound grows (place_id place) (level_of from f.0) (cell_of from (level_of from f.0) f.0) f.1.1))
      | inr h ↦ more place h high
    ]

-- what lies in a part lies in the square
pub added_in_part : (from : List Node) (root part : ℕ) (old new : List Node) → IsPartOf (square_of from root) part → AddsCopies from part old new → AddsCopies from root old new
added_in_part from root part old new is added place low high =
    let f = added place low high in
    (f.0, (in_part root part f.0 is f.1.0, f.1.1))

-- the copy of the square itself is added
pub ok_added : (from : List Node) (root : ℕ) (old new : List Node) (id : ℕ) → AddsOnly old new id → IsCopy from new root id → AddsCopies from root old new
ok_added from root old new id only copy place low high = (root, (itself root, subst (IsCopy from new root) (only place low high) copy))

-- or nothing is
pub one_added : {E : Type 0} (from : List Node) (root : ℕ) (old new : List Node) (r : Result ℕ E) → IfOk r (AddsOnly old new) → IfOk r (IsCopy from new root) → OnErr r (new ≡ old) → AddsCopies from root old new
one_added from root old new (Ok id) only copy err = ok_added from root old new id only copy
one_added from root old new (Err e) only copy err = none_added from root old new err

-- what the copies of four parts add, made one after the other
module _ (from : List Node) (id m nw ne sw se : ℕ) (e : Parts m nw ne sw se ≡ square_of from id) (s0 s1 s2 : List Node) (g1 : Grows s0 s1) (g2 : Grows s1 s2)
    (a1 : AddsCopies from nw s0 s1) (a2 : AddsCopies from ne s1 s2) where
  pub added_two : AddsCopies from id s0 s2
  added_two =
      added_on from id s0 s1 s2 g1.sound g2 (added_in_part from id nw s0 s1 (subst (λ s. IsPartOf s nw) e (inl refl)) a1)
      (added_in_part from id ne s1 s2 (subst (λ s. IsPartOf s ne) e (inr (inl refl))) a2)

  pub added_three : (s3 : List Node) → Grows s2 s3 → AddsCopies from sw s2 s3 → AddsCopies from id s0 s3
  added_three s3 g3 a3 =
      added_on from id s0 s2 s3 g2.sound g3 added_two (added_in_part from id sw s2 s3 (subst (λ s. IsPartOf s sw) e (inr (inr (inl refl)))) a3)

  pub added_four : (s3 s4 : List Node) → Grows s2 s3 → Grows s3 s4 → AddsCopies from sw s2 s3 → AddsCopies from se s3 s4 → AddsCopies from id s0 s4
  added_four s3 s4 g3 g4 a3 a4 =
      added_on from id s0 s3 s4 g3.sound g4 (added_three s3 g3 a3) (added_in_part from id se s3 s4 (subst (λ s. IsPartOf s se) e (inr (inr (inr refl)))) a4)
