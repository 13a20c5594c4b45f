-- Objects that are too large for any of their phases to fit into 40 by 40 cells.
use Rattle.std.proofs.Common.{Result, Ok, Err, IfOk, Option, Some, IfSome, Vec, Global, ◌≡◌, ◌≢◌, ℕ, ◌+◌, ◌-◌, ◌<◌, ◌≤◌, inl, inr, List, None, sym, ap, ap₂, ◌∙◌, ℤ, ◌+ℤ◌, ◌-ℤ◌, arith}
use Rattle.std.specs.Prelude.{replicate}
use Rattle.std.proofs.lemmas.Bool.{cases_eq}
use Rattle.std.proofs.lemmas.Int.{ints}
use Rattle.ca_plane.specs.Prelude.{IsWithin, cells_after, after, IsAfter, Picture, cell, shifted}
use Rattle.ca_plane.proofs.After.{after_again, after_dead, after_same}
use Rattle.ca_plane.proofs.Shifts.{cell-shifted}
use Rattle.ca_quad.specs.declared.tree.WideBounds.{WideBounds}
use Rattle.ca_quad.specs.Prelude.{IsLeastWideBox}
use Rattle.ca_apgcode.specs.Prelude.{IsPhaseText, IsLeastOfPhases, IsObjectCode}
use Rattle.ca_apgcode.specs.declared.object.ObjectKind.{ObjectKind}
use Rattle.ca_apgcode.proofs.Copies.{code_of_same}
use Rattle.ca_apgcode.proofs.PhaseTexts.{near_each_other}
use Rattle.ca_apgcode_search.specs.inner.Large.{IsBackBy, IsTooLarge}

module _ (next : List ℕ → ℕ) (quiet : next (replicate 9 0) ≡ 0) (f : ℤ → ℤ → ℕ) (period : ℕ) (dx dy : ℤ) (back : IsBackBy next f period dx dy) where
  -- what is live now is live a period later, moved
  live_again : (x y : ℤ) → f x y ≢ 0 → cells_after next f period (x +ℤ dx) (y +ℤ dy) ≢ 0
  live_again x y some none =
      let u : (x +ℤ dx) -ℤ dx ≡ x = omega (arith, ints) in
      let v : (y +ℤ dy) -ℤ dy ≡ y = omega (arith, ints) in
      some (sym (ap₂ f u v) ∙ (sym (back (x +ℤ dx) (y +ℤ dy)) ∙ none))

  -- two live cells of a phase before aren't both so near to two live cells now that are far from each other
  module _ (n : ℕ) (early : n < period) (x y x' y' : ℤ) (some : f x y ≢ 0) (other : f x' y' ≢ 0) where
    abbrev pub m : ℕ
    m = period - n

    abbrev pub phase : ℤ → ℤ → ℕ
    phase = cells_after next f n

    on : (u v : ℤ) → cells_after next phase m u v ≡ cells_after next f period u v
    on u v = let sum : n + (period - n) ≡ period = omega (arith, early) in after_again next f n m u v ∙ ap (λ k. cells_after next f k u v) sum

    pub not_both : ((u v u' v' : ℤ) → IsWithin m (x +ℤ dx) (y +ℤ dy) u v → IsWithin m (x' +ℤ dx) (y' +ℤ dy) u' v' → phase u v ≢ 0 → phase u' v' ≢ 0 → ⊥) → ⊥
    not_both far = live_again x y some (sym (on (x +ℤ dx) (y +ℤ dy)) ∙ after_dead next phase quiet m (x +ℤ dx) (y +ℤ dy) (λ u v within. elim (cases_eq (phase u v) 0) [
      | inl none ↦ none
      | inr lives ↦ absurd (live_again x' y' other (sym (on (x' +ℤ dx) (y' +ℤ dy)) ∙ after_dead next phase quiet m (x' +ℤ dx) (y' +ℤ dy) (λ u' v' within'. elim (cases_eq (phase u' v') 0) [
        | inl none ↦ none
        | inr lives' ↦ absurd (far u v u' v' within within' lives lives')
      ])))
    ]))

  -- so no phase has a text
  module _ (some_period : 1 ≤ period) (box : WideBounds) (least : IsLeastWideBox f box) (large : IsTooLarge box period) where
    none_has : (text : List ℕ) → IsPhaseText (cells_after next f) period text → ⊥
    none_has text is =
        let n = is.0 in
        let early = is.1 in
        let o = is.2.0 in
        let grid = is.2.1.0 in
        let round = is.2.1.1 in
        elim (cases_eq n 0) [
          | inl first ↦ elim large [
            | inl wide ↦
                let near = near_each_other (cells_after next f n) grid box.x0 least.left.0 box.x1 least.right.0 (λ z. least.left.1 (sym (now_is first box.x0 least.left.0) ∙ z)) (λ z. least.right.1 (sym (now_is first box.x1 least.right.0) ∙ z)) o round in
                omega (arith, ints, near, wide)
            | inr high ↦
                let near = near_each_other (cells_after next f n) grid least.top.0 box.y0 least.bottom.0 box.y1 (λ z. least.top.1 (sym (now_is first least.top.0 box.y0) ∙ z)) (λ z. least.bottom.1 (sym (now_is first least.bottom.0 box.y1) ∙ z)) o round in
                omega (arith, ints, near, high)
          ]
          | inr later ↦ elim large [
            | inl wide ↦ not_both n early box.x0 least.left.0 box.x1 least.right.0 least.left.1 least.right.1
                (λ u v u' v' within within' lives lives'. let near = near_each_other (cells_after next f n) grid u v u' v' lives lives' o round in omega (arith, ints, near, wide, within, within', later, early))
            | inr high ↦ not_both n early least.top.0 box.y0 least.bottom.0 box.y1 least.top.1 least.bottom.1
                (λ u v u' v' within within' lives lives'. let near = near_each_other (cells_after next f n) grid u v u' v' lives lives' o round in omega (arith, ints, near, high, within, within', later, early))
          ]
        ]
      where
        now_is : {n : ℕ} → n ≡ 0 → (x y : ℤ) → cells_after next f n x y ≡ f x y
        now_is first x y = ap (λ k. cells_after next f k x y) first

    pub no_phase : IsLeastOfPhases (cells_after next f) period None
    no_phase = none_has

-- ---- objects

-- a picture that is back is a plane that is
pub back_by : (next : List ℕ → ℕ) (cells : Picture) (p : ℤ → ℤ → ℕ) → ((x y : ℤ) → cell cells x y ≡ p x y) → (period : ℕ) (dx dy : ℤ) → IsAfter next cells period (shifted cells dx dy) → IsBackBy next p period dx dy
back_by next cells p shows period dx dy stands x y =
    after_same next p (cell cells) period (λ u v. sym (shows u v)) x y ∙ (stands x y ∙ (cell-shifted cells dx dy x y ∙ shows (x -ℤ dx) (y -ℤ dy)))

-- what holds of what is found, if something is
pub found_weaker : {T E : Type 0} (r : Result (Option T) E) (P Q : T → Type 0) → ((t : T) → P t → Q t) → IfOk r (λ found. IfSome found P) → IfOk r (λ found. IfSome found Q)
found_weaker (Ok (Some t)) P Q weaker is = weaker t is
found_weaker (Ok None) P Q weaker is = tt
found_weaker (Err e) P Q weaker is = tt

-- the code of a plane is that of a picture that shows it
pub shown_code : {E : Type 0} (r : Result (Option (Vec ℕ Global)) E) (kind : ObjectKind) (next : List ℕ → ℕ) (cells : Picture) (p : ℤ → ℤ → ℕ) → ((x y : ℤ) → cell cells x y ≡ p x y) → (period : ℕ)
    → IfOk r (λ found. IfSome found (λ code. IsObjectCode kind period (cells_after next p) period code.items)) → IfOk r (λ found. IfSome found (λ code. IsObjectCode kind period (after next cells) period code.items))
shown_code r kind next cells p shows period =
    found_weaker r (λ code. IsObjectCode kind period (cells_after next p) period code.items) (λ code. IsObjectCode kind period (after next cells) period code.items)
    (λ code is. code_of_same kind period (cells_after next p) (after next cells) period code.items (λ n x y. after_same next p (cell cells) n (λ u v. sym (shows u v)) x y) is)
