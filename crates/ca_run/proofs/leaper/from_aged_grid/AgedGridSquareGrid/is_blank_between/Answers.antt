use Rattle.std.proofs.Common.{◌≡◌, ℕ, ◌<◌, inl, inr, length, get_or, ap, subst, ◌∙◌, arith}
use Rattle.std.specs.Prelude.{ℤ, pos, ◌+ℤ◌}
use Rattle.std.proofs.lemmas.Bool.{cases_eq}
use Rattle.ca_plane.specs.Prelude.{liveness}
use Rattle.ca_bricks.specs.declared.grid.BrickGrid.{BrickGrid}
use Rattle.ca_bricks.specs.Prelude.{dying_digit, GridShows}
use Rattle.ca_bricks.proofs.AgedSquares.{digit_dead, dead_there}
use Rattle.ca_run.proofs.leaper.from_aged_grid.AgedGridSquareGrid.is_blank_between.Goals as goal

pub digits-preserved : goal.digits-preserved
digits-preserved c = λ m p shows k h x y west east north south.
    let grid = c.args.self.now in
    let index = c.digits.digit-index in
    let digit = c.digit-item.result in
    let long : index < length grid.dying.items = subst (λ l. index < length l) c.deref-digit-items.ensures.value c.digits-test.true in
    let is : digit ≡ get_or grid.dying.items index digit = c.digit-item.is ∙ ap (λ l. get_or l index digit) c.deref-digit-items.ensures.value in
    let blank : (m : ℕ) (q : ℤ → ℤ → ℕ) → GridShows digit m q → q (digit.x +ℤ pos x) (digit.y +ℤ pos y) ≡ 0
    = λ m q shows. c.is_blank_between-in-digits.ensures c.if-not-is_blank_between-2.false m q shows x y west east north south in
    let told = subst (λ (w : BrickGrid). (m : ℕ) (q : ℤ → ℤ → ℕ) → GridShows w m q → q (w.x +ℤ pos x) (w.y +ℤ pos y) ≡ 0) is blank in
    elim (cases_eq k index) [
      | inl same ↦
          ap (λ n. dying_digit grid.states n (p (grid.live.x +ℤ pos x) (grid.live.y +ℤ pos y))) same ∙ digit_dead grid m p index x y digit shows long told
      | inr apart ↦ c.digits.invariant m p shows k (omega (arith, h, apart)) x y west east north south
    ]

pub returns : goal.returns
returns c = λ _ m p shows x y west east north south.
    let grid = c.args.self.now in
    let size : length c.deref-digit-items.result.now ≡ length grid.dying.items = ap length c.deref-digit-items.ensures.value in
    dead_there grid m p (grid.live.x +ℤ pos x) (grid.live.y +ℤ pos y) shows
    (c.is_blank_between.ensures c.if-not-is_blank_between.false m (λ x y. liveness (p x y)) shows.live x y west east north south)
    (λ k h. c.digits.invariant m p shows k (omega (arith, h, size, c.digits-test.false)) x y west east north south)
