use Rattle.std.proofs.Common.{◌≡◌, ℕ, suc, ◌+◌, ◌-◌, ◌*◌, ◌/◌, ◌%◌, ◌<◌, ◌^◌, length, slice_index, sym, ap, ap₂, subst, ◌∙◌, arith}
use Rattle.std.specs.Prelude.{ℤ, pos, ◌+ℤ◌}
use Rattle.std.specs.Int.{bit_at}
use Rattle.std.proofs.lemmas.List.{get_or-replicate}
use Rattle.ca_plane.specs.Prelude.{liveness}
use Rattle.ca_bricks.specs.declared.grid.BrickGrid.{BrickGrid}
use Rattle.ca_bricks.specs.Prelude.{remaining, GridShows, told_state, WordShows, eight}
use Rattle.ca_bricks.proofs.AgedSquares.{digit_word, word_cell, digits_from, none_from, number_fits, number_low, told_is}
use Rattle.ca_bricks.proofs.aged.AgedGrid.states_at.Goals as goal

pub digits-init : goal.digits-init
digits-init c = λ m p shows x y low_x low_y.
    let grid = c.args.self.now in
    let u = (grid.live.x +ℤ eight c.args.at.i) +ℤ pos x in
    let v = (grid.live.y +ℤ eight c.args.at.j) +ℤ pos y in
    let n = remaining grid.states (p u v) in
    let digits = length grid.dying.items in
    let size : c.len-k.result ≡ digits = omega (arith, c.len-k.ensures, grid.dying.ok.0) in
    get_or-replicate 64 (8 * y + x) 0 0 (omega (arith, low_x, low_y))
    ∙ sym (ap (λ k. n / 2 ^ k) size ∙ none_from n digits (number_fits grid.states digits (p u v) (shows.low u v) shows.enough))

pub digits-preserved : goal.digits-preserved
digits-preserved c = λ m p shows x y low_x low_y.
    let grid = c.args.self.now in
    let at = c.args.at in
    let u = (grid.live.x +ℤ eight at.i) +ℤ pos x in
    let v = (grid.live.y +ℤ eight at.j) +ℤ pos y in
    let n = remaining grid.states (p u v) in
    let k = c.digits.k - 1 in
    let i = 8 * y + x in
    let digit = c.index.result.now in
    let word = c.word.result in
    let next : c.digits.k ≡ suc k = omega (arith, c.digits-test.true) in
    let long : k < length grid.dying.items = omega (arith, c.digits-test.true, c.digits.auto.k, c.len-k.ensures, grid.dying.ok.0) in
    let told = subst (λ (w : BrickGrid). (m : ℕ) (q : ℤ → ℤ → ℕ) → GridShows w m q → WordShows word q (w.x +ℤ eight at.i) (w.y +ℤ eight at.j)) c.index.ensures c.word.ensures in
    let looks = (digit_word grid m p k word digit at.i at.j shows long told).looks in
    let so_far : slice_index c.digits.numbers i ≡ n / 2 ^ suc k = c.digits.invariant m p shows x y low_x low_y ∙ ap (λ k. n / 2 ^ k) next in
    let bit : bit_at word i ≡ bit_at n k = sym (word_cell word x y low_x) ∙ looks x y low_x low_y in
    let low = number_low grid.states c.args.greatest (p u v) (shows.low u v) c.requires.greatest c.ranges.greatest.fits in
    c.with_digit-numbers.ensures i (omega (arith, low_x, low_y)) ∙ ap₂ (λ n b. 2 * n % 256 + b) so_far bit ∙ digits_from n k low

pub returns : goal.returns
returns c = λ m p shows word. record {
  looks = λ x y low_x low_y.
      let grid = c.args.self.now in
      let u = (grid.live.x +ℤ eight c.args.at.i) +ℤ pos x in
      let v = (grid.live.y +ℤ eight c.args.at.j) +ℤ pos y in
      let n = remaining grid.states (p u v) in
      let i = 8 * y + x in
      let here : 0 + i ≡ i = omega arith in
      let none : c.digits.k ≡ 0 = omega (arith, c.digits-test.false) in
      let whole : n / 2 ^ 0 ≡ n = omega arith in
      let number : slice_index c.digits.numbers i ≡ n = c.digits.invariant m p shows x y low_x low_y ∙ ap (λ k. n / 2 ^ k) none ∙ whole in
      let live : bit_at c.args.live i ≡ liveness (p u v) = sym (word_cell c.args.live x y low_x) ∙ word.looks x y low_x low_y in
      ap (slice_index c.states_of.result) here ∙ c.states_of.ensures i (omega (arith, low_x, low_y)) ∙ ap₂ (told_state c.args.greatest) live number
      ∙ told_is grid.states c.args.greatest (p u v) (shows.low u v) c.requires.greatest;
}
