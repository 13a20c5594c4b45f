use Rattle.std.proofs.Common.{◌≡◌, ℕ, ◌+◌, ◌*◌, ◌<◌, inl, inr, length, get_or, sym, ap, subst, ◌∙◌, arith}
use Rattle.std.specs.Prelude.{ℤ, pos, ◌+ℤ◌}
use Rattle.std.specs.Int.{bit_at}
use Rattle.std.proofs.lemmas.Bool.{cases_eq}
use Rattle.std.proofs.lemmas.Nat.Bits.{bit_at-zero}
use Rattle.ca_bricks.specs.declared.grid.BrickGrid.{BrickGrid}
use Rattle.ca_bricks.specs.Prelude.{dying_digit, GridShows, WordShows, eight}
use Rattle.ca_bricks.proofs.AgedSquares.{digit_word, word_cell, live_alone, no_number}
use Rattle.ca_bricks.proofs.aged.AgedGrid.is_without_dying.Goals as goal

pub digits-preserved : goal.digits-preserved
digits-preserved c = λ m p shows k h x y low_x low_y.
    let grid = c.args.self.now in
    let at = c.args.at in
    let index = c.digits.digit-index in
    let digit = c.digit-item.result in
    let word = c.word.result in
    let long : index < length grid.dying.items = subst (λ l. index < length l) c.deref-digit-items.ensures.value c.digits-test.true in
    let is : digit ≡ get_or grid.dying.items index digit = c.digit-item.is ∙ ap (λ l. get_or l index digit) c.deref-digit-items.ensures.value in
    let told = subst (λ (w : BrickGrid). (m : ℕ) (q : ℤ → ℤ → ℕ) → GridShows w m q → WordShows word q (w.x +ℤ eight at.i) (w.y +ℤ eight at.j)) is c.word.ensures in
    let looks = (digit_word grid m p index word digit at.i at.j shows long told).looks in
    let none : word ≡ 0 = c.if-word-ne0.false in
    elim (cases_eq k index) [
      | inl same ↦
          let place_x = (grid.live.x +ℤ eight at.i) +ℤ pos x in
          let place_y = (grid.live.y +ℤ eight at.j) +ℤ pos y in
          ap (λ n. dying_digit grid.states n (p place_x place_y)) same ∙ sym (looks x y low_x low_y) ∙ word_cell word x y low_x ∙ ap (λ w. bit_at w (8 * y + x)) none ∙ bit_at-zero (8 * y + x)
      | inr apart ↦ c.digits.invariant m p shows k (omega (arith, h, apart)) x y low_x low_y
    ]

pub returns : goal.returns
returns c = λ _ m live p shows word. record {
  looks = λ x y low_x low_y.
      let grid = c.args.self.now in
      let u = (grid.live.x +ℤ eight c.args.at.i) +ℤ pos x in
      let v = (grid.live.y +ℤ eight c.args.at.j) +ℤ pos y in
      let size : length c.deref-digit-items.result.now ≡ length grid.dying.items = ap length c.deref-digit-items.ensures.value in
      let none = no_number grid m p u v shows (λ k h. c.digits.invariant m p shows k (omega (arith, h, size, c.digits-test.false)) x y low_x low_y) in
      word.looks x y low_x low_y ∙ live_alone grid.states (p u v) (shows.low u v) none;
}
