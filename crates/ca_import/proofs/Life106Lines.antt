-- What the words of a Life 1.06 line say.
use Rattle.std.proofs.Common.{◌≡◌, ℕ, List, [], ◌∷◌, true, false, nat_eq, codes, sym, subst, ◌∙◌}
use Rattle.std.specs.List.{starts_with}
use Rattle.std.proofs.lemmas.Bool.{true≢false}
use Rattle.ca_plane.specs.declared.point.Point.{Point}
use Rattle.ca_plane.specs.Prelude.{IsInteger}
use Rattle.ca_import.specs.declared.fault.ImportFault.{ImportFault}
use Rattle.ca_import.specs.declared.fault.ImportFault.TheVariants.{Syntax, Range}
use Rattle.ca_import.specs.Prelude.{CellLine, Nothing, LiveCell, Row, Corner, Rule, is_remark, Life106WordsSay}
use Rattle.ca_import.specs.inner.Lines.{WritePoint, HavePointFault, IsAloneFault}

module _ (words : List (List ℕ)) (x y : List ℕ) (are : words ≡ x ∷ y ∷ []) where
  written : (at : Point) → Life106WordsSay words (LiveCell at) → WritePoint x y at
  written at h =
      let e = h.2 in
      let x_is : h.0 ≡ x = cc in
      let y_is : h.1 ≡ y = cc in
      record { x_is = subst (λ l. IsInteger l at.x) x_is h.3; y_is = subst (λ l. IsInteger l at.y) y_is h.4 }

  no_cell : starts_with nat_eq x (codes "#") ≡ false → ((at : Point) → WritePoint x y at → ⊥) → (s : CellLine) → Life106WordsSay words s → ⊥
  no_cell plain none Nothing h = true≢false (sym (subst (λ l. is_remark l ≡ true) are h) ∙ plain)
  no_cell plain none (LiveCell at) h = none at (written at h)
  no_cell plain none (Row cells) h = h
  no_cell plain none (Corner at) h = h
  no_cell plain none (Rule rule) h = h

  -- two words whose point has a fault
  pub cell_fault : starts_with nat_eq x (codes "#") ≡ false → (f : ImportFault) → HavePointFault x y f → IsAloneFault (Life106WordsSay words) f
  cell_fault plain Syntax h = no_cell plain h
  cell_fault plain Range h = (LiveCell h.0, (x, y, are, h.1.x_is, h.1.y_is), λ place. (tt, h.2))
  cell_fault plain f h = absurd h
