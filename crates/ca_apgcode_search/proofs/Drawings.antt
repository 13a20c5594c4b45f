-- Live cells that are put into a grid.
use Rattle.std.proofs.Common.{◌≡◌, ◌≢◌, ℕ, [], ◌∷◌, ◌++◌, get_or, sym, ap, ap₂, ◌∙◌, inl, inr, pos, ◌+ℤ◌, arith}
use Rattle.std.specs.List.{All}
use Rattle.std.proofs.lemmas.Bool.{cases_eq}
use Rattle.std.proofs.lemmas.Int.{ints}
use Rattle.std.proofs.lemmas.List.Elements.{All-contains, All-push, All-weaker}
use Rattle.std.proofs.lemmas.Nat.Bits.{bit_at-lt}
use Rattle.ca_plane.specs.declared.point.Point.{Point}
use Rattle.ca_plane.specs.Prelude.{Picture}
use Rattle.ca_plane.specs.Plane as plane
use Rattle.ca_plane.proofs.Pictures.{Contains-cell}
use Rattle.ca_apgcode.specs.Prelude.{GridCells, cell, live}
use Rattle.ca_apgcode.proofs.PlaneBoxes.{live_one}
use Rattle.ca_apgcode_search.specs.declared.drawing.Window.{Window}
use Rattle.ca_apgcode_search.specs.inner.Drawn.{FitsWindow, PutsCell, IsLiveAt, ShowsNoOther, IsDrawn}

-- ---- a cell more

module _ (window : Window) (at : Point) (old new : GridCells) (put : PutsCell window at old new) where
  -- what was live stays so
  stays_live : (u v : ℕ) → cell old u v ≡ 1 → cell new u v ≡ 1
  stays_live u v lives = elim (cases_eq u put.u) [
    | inl column ↦ elim (cases_eq v put.v) [
      | inl row ↦ ap₂ (cell new) column row ∙ put.makes.live
      | inr other ↦ put.makes.others u v (λ _ row. other row) ∙ lives
    ]
    | inr other ↦ put.makes.others u v (λ column _. other column) ∙ lives
  ]

  pub live_still : (place : Point) → IsLiveAt window old place → IsLiveAt window new place
  live_still place is = record { u = is.u; v = is.v; place = is.place; lives = stays_live is.u is.v is.lives }

  -- and this one is
  pub live_now : IsLiveAt window new at
  live_now = record { u = put.u; v = put.v; place = put.place; lives = put.makes.live }

  -- if it is one of the plane, so is each
  pub no_other_still : (cells : Picture) → plane.cell cells at.x at.y ≢ 0 → ShowsNoOther cells window old → ShowsNoOther cells window new
  no_other_still cells some before u v lives none = elim (cases_eq u put.u) [
    | inl column ↦ elim (cases_eq v put.v) [
      | inl row ↦
          let x : at.x ≡ window.x0 +ℤ pos u = put.place.x ∙ ap (λ k. window.x0 +ℤ pos k) (sym column) in
          let y : at.y ≡ window.y0 +ℤ pos v = put.place.y ∙ ap (λ k. window.y0 +ℤ pos k) (sym row) in
          some (ap₂ (plane.cell cells) x y ∙ none)
      | inr other ↦ before u v (sym (put.makes.others u v (λ _ row. other row)) ∙ lives) none
    ]
    | inr other ↦ before u v (sym (put.makes.others u v (λ column _. other column)) ∙ lives) none
  ]

-- so all the places are
pub all_live : (window : Window) (old new : GridCells) (at : Point) (state : ℕ) (done : Picture) → PutsCell window at old new → All (λ e. IsLiveAt window old e.0) done → All (λ e. IsLiveAt window new e.0) (done ++ (at, state) ∷ [])
all_live window old new at state done put before =
    All-push (λ e. IsLiveAt window new e.0) done (at, state)
    (All-weaker (λ e. IsLiveAt window old e.0) (λ e. IsLiveAt window new e.0) (λ e is. live_still window at old new put e.0 is) done before)
    (live_now window at old new put)

-- ---- all of them

pub IsDrawn-all : (cells : Picture) (window : Window) (grid : GridCells) → FitsWindow window grid → All (λ e. IsLiveAt window grid e.0) cells → ShowsNoOther cells window grid → IsDrawn cells window grid
IsDrawn-all cells window grid fits each no_other = record { fits = fits; same = same }
  where
    same : (u v : ℕ) → cell grid u v ≡ live (plane.cell cells (window.x0 +ℤ pos u) (window.y0 +ℤ pos v))
    same u v =
        let x = window.x0 +ℤ pos u in
        let y = window.y0 +ℤ pos v in
        elim (cases_eq (plane.cell cells x y) 0) [
          | inl none ↦ elim (cases_eq (cell grid u v) 1) [
            | inl lives ↦ absurd (no_other u v lives none)
            | inr dead ↦
                let zero : cell grid u v ≡ 0 = omega (arith, dead, bit_at-lt (get_or grid.columns u 0) v) in
                zero ∙ sym (ap live none)
          ]
          | inr some ↦
              let is = All-contains (λ (e : Point × ℕ). IsLiveAt window grid e.0) cells (record { y = y; x = x }, plane.cell cells x y) each (Contains-cell cells x y some) in
              let column : u ≡ is.u = omega (arith, ints, is.place.x) in
              let row : v ≡ is.v = omega (arith, ints, is.place.y) in
              ap₂ (cell grid) column row ∙ (is.lives ∙ sym (live_one (plane.cell cells x y) some))
        ]
