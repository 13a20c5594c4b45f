-- The claims that a census makes.
use Rattle.std.proofs.Common.{◌≡◌, ℕ, ◌+◌, Bool, List, sym, ap₂, subst, ◌∙◌, arith}
use Rattle.std.specs.Prelude.{pos, ◌-ℤ◌, flat_map}
use Rattle.std.specs.List.{All}
use Rattle.std.proofs.lemmas.Int.{ints}
use Rattle.ca_plane.specs.Prelude.{Picture, cell, IsAfter}
use Rattle.ca_plane.proofs.Shifts.{cell-shifted}
use Rattle.ca_parts.specs.Prelude.{Course}
use Rattle.ca_parts.proofs.Lists.{All-zip}
use Rattle.ca_text.specs.Prelude.{IsTrueClaim, asks_of}
use Rattle.ca_text.specs.declared.kind.Kind.TheVariants.{Becomes}
use Rattle.ca_census.specs.declared.{census.Census.Census, reach.Reach.Reach, settling.Settling.Settling}
use Rattle.ca_census.specs.Prelude.{IsSettling, IsEntryOf, IsCensusOf}

-- cells become what the plane is after some generations
becomes_later : (next : List ℕ → ℕ) (cells plane : Picture) (n : ℕ) → IsAfter next cells n plane → IsTrueClaim next cells plane (asks_of (Becomes n))
becomes_later next cells plane n stands = record {
  live = λ no. absurd (let never : ⊥ = cc in never);
  stands = λ x y.
      let ax : x ≡ x -ℤ pos 0 = omega (arith, ints) in
      let ay : y ≡ y -ℤ pos 0 = omega (arith, ints) in
      stands x y ∙ ap₂ (cell plane) ax ay ∙ sym (cell-shifted plane (pos 0) (pos 0) x y);
  least = λ m some less. tt;
}

module _ (next : List ℕ → ℕ) (coded : Bool) (settling : Settling) (census : Census) (is : IsCensusOf next coded settling census) where
  -- so they become the plane of a census
  pub becomes_plane : (cells : Picture) (reach : Reach) → IsSettling next cells reach settling → IsTrueClaim next cells census.plane (asks_of (Becomes (reach.start + census.generations)))
  becomes_plane cells reach settles =
      subst (λ (p : Picture). IsTrueClaim next cells p (asks_of (Becomes (reach.start + census.generations)))) (sym is.plane)
      (subst (λ n. IsTrueClaim next cells settling.plane (asks_of (Becomes (reach.start + n)))) (sym is.generations)
      (becomes_later next cells settling.plane (reach.start + settling.generations) settles.settled.plane))

  -- each object is what is told of it
  pub objects_hold : All (λ o. IsTrueClaim next o.plane o.plane (asks_of o.kind)) census.objects.items
  objects_hold =
      All-zip (IsEntryOf next coded) (λ course. Unit {0}) (λ o. IsTrueClaim next o.plane o.plane (asks_of o.kind))
      (λ course o on _. subst (λ (p : Picture). IsTrueClaim next p p (asks_of o.kind)) (sym on.plane) on.identity.1.holds)
      (flat_map (λ (of : List Course). of) is.objects) census.objects.items is.entries (λ k d low. tt)
