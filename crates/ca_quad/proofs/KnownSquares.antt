-- Squares that are known after a walk.
use Rattle.std.proofs.Common.{◌≡◌, ◌≢◌, ℕ, ◌==◌, ◌⊎◌, true, cond, inl, inr, None, Some, Option, Result, Ok, Err, OnOk, List, refl, sym, subst, ◌∙◌, arith}
use Rattle.std.proofs.lemmas.Bool.{cases_Bool, eqb-true}
use Rattle.std.proofs.lemmas.Bool.Decides.{nat_tests}
use Rattle.ca_quad.specs.declared.node.Node.{Node}
use Rattle.ca_quad.specs.declared.square.Square.TheVariants.{Four, Parts}
use Rattle.ca_quad.specs.Prelude.{IsParted, square_of, IsPartOf, square_value, KeepValues, IsClosedUnderParts}

-- a square of four cells has no parts
pub four_unparted : (nodes : List Node) (id nw ne sw se : ℕ) → Four nw ne sw se ≡ square_of nodes id → IsParted (square_of nodes id) → ⊥
four_unparted nodes id nw ne sw se e h = subst IsParted (sym e) h

-- what is so anyway is so where something succeeds
pub so_on_ok : {T E P : Type 0} (r : Result T E) → P → OnOk r P
so_on_ok (Ok value) p = p
so_on_ok (Err e) p = tt

-- with one value put, its square has one, and the others have theirs
module _ {V : Type 0} (old new : List (ℕ × V)) (id : ℕ) (value : V) (put : (other : ℕ) → square_value new other ≡ cond (id == other) (Some value) (square_value old other)) where
  at_put : (other : ℕ) → id == other ≡ true → square_value new other ≡ None → ⊥
  at_put other e none =
      let f : cond (id == other) (Some value) (square_value old other) ≡ Some value = rw e refl in
      let g : Some value ≡ None = sym f ∙ (sym (put other) ∙ none) in
      cc

  pub put_known : square_value new id ≢ None
  put_known = at_put id (grind (arith, nat_tests))

  pub put_keeps : KeepValues old new
  put_keeps other some none =
      elim (cases_Bool (id == other)) [
        | inl e ↦ at_put other e none
        | inr e ↦
            let f : cond (id == other) (Some value) (square_value old other) ≡ square_value old other = rw e refl in
            some (sym f ∙ (sym (put other) ∙ none))
      ]

  pub put_adds : (other : ℕ) → square_value new other ≢ None → (id ≡ other) ⊎ (square_value old other ≢ None)
  put_adds other some =
      elim (cases_Bool (id == other)) [
        | inl e ↦ inl (eqb-true id other e)
        | inr e ↦
            let f : cond (id == other) (Some value) (square_value old other) ≡ square_value old other = rw e refl in
            inr (λ none. some (put other ∙ (f ∙ none)))
      ]

-- with one more whose parts are known, what is known stays closed under parts
pub closed_with : {Whole V : Type 0} (IsPart : Whole → Whole → Type 0) (old new : Whole → Option V) (more : Whole) → ((one : Whole) → old one ≢ None → new one ≢ None)
    → ((one : Whole) → new one ≢ None → (more ≡ one) ⊎ (old one ≢ None)) → ((part : Whole) → IsPart more part → old part ≢ None)
    → IsClosedUnderParts IsPart old → IsClosedUnderParts IsPart new
closed_with IsPart old new more keeps adds parts closed whole part some is =
    keeps part (elim (adds whole some) [ inl e ↦ parts part (subst (λ one. IsPart one part) (sym e) is) | inr known ↦ closed whole part known is ])

-- a walk over four parts, and then their square is put
module _ {V : Type 0} (nodes : List Node) (id m nw ne sw se : ℕ) (e : Parts m nw ne sw se ≡ square_of nodes id) (IsMeant : ℕ → Type 0) (v1 v2 v3 v4 : List (ℕ × V))
    (a : IsMeant nw → square_value v1 nw ≢ None) (b : IsMeant ne → square_value v2 ne ≢ None) (c : IsMeant sw → square_value v3 sw ≢ None) (d : IsMeant se → square_value v4 se ≢ None)
    (g : KeepValues v1 v2) (h : KeepValues v2 v3) (i : KeepValues v3 v4) where
  parts_known : (part : ℕ) → IsPartOf (square_of nodes id) part → IsMeant part → square_value v4 part ≢ None
  parts_known part is meant =
      let one : IsPartOf (Parts m nw ne sw se) part = subst (λ s. IsPartOf s part) (sym e) is in
      let at : (other : ℕ) → part ≡ other → (IsMeant other → square_value v4 other ≢ None) → square_value v4 part ≢ None =
      λ other p known. subst (λ n. square_value v4 n ≢ None) (sym p) (known (subst IsMeant p meant))
      in
      elim one [
        | inl p ↦ at nw p (λ j. i nw (h nw (g nw (a j))))
        | inr q ↦ elim q [
          | inl p ↦ at ne p (λ j. i ne (h ne (b j)))
          | inr r ↦ elim r [ inl p ↦ at sw p (λ j. i sw (c j)) | inr p ↦ at se p d ]
        ]
      ]

  pub walk_closed : (new : List (ℕ × V)) (value : V) → ((other : ℕ) → square_value new other ≡ cond (id == other) (Some value) (square_value v4 other))
      → IsClosedUnderParts (λ whole part. IsPartOf (square_of nodes whole) part × IsMeant part) (square_value v4)
      → IsClosedUnderParts (λ whole part. IsPartOf (square_of nodes whole) part × IsMeant part) (square_value new)
  walk_closed new value put =
      closed_with (λ whole part. IsPartOf (square_of nodes whole) part × IsMeant part) (square_value v4) (square_value new) id
      (put_keeps v4 new id value put) (put_adds v4 new id value put) (λ part is. parts_known part is.0 is.1)
