use Rattle.std.proofs.Common.{◌≡◌, ℕ, suc, ◌+◌, ◌<◌, sym, ap, ◌∙◌, arith, slice_index}
use Rattle.std.proofs.lemmas.List.{length-set}
use Rattle.ca_bricks.specs.Prelude.{round_cells, count_at, counted_cell_at, sum_round, sum_above, sum_beside, sum_below}
use Rattle.ca_bricks.proofs.BrickRows.{rows_grow, row_made}
use Rattle.ca_bricks.proofs.round.Round.next.Goals as goal

pub rows-preserved : goal.rows-preserved
rows-preserved g c =
    let y = c.rows.y in
    let word = c.next_word.result in
    let at = round_cells c.args.self.now in
    let counted = g.C.CountInRow.counted in
    let inv = c.rows.invariant in
    let one : y + 1 ≡ suc y = omega arith in
    let more : y + 2 ≡ suc (y + 1) = omega arith in
    let last : y + 2 ≡ suc (suc y) = omega arith in
    let sums : (x : ℕ) → x < 64 → count_at c.neighbours-count.result x ≡ sum_round counted at x y = λ x h.
    let south = c.sums-south.ensures.below x h ∙ ap (λ v. sum_below counted (λ u. at u v) x) last in
    omega (arith, c.neighbours-count.ensures x, inv.north_above x h, inv.here_beside x h, south) in
    record {
      made = λ counting x j by same.
          let f = counted_cell_at counting at in
          let row = row_made counting.neighbourhood c.args.self.now counting.birth counting.survival y word (slice_index c.args.self.now.here (y + 1)) (count_at c.neighbours-count.result) f (ap (slice_index c.args.self.now.here) one)
          (λ x h. sums x h ∙ ap (λ n. sum_round n at x y) same) (λ x. c.next_word.ensures counting x by) in
          rows_grow f c.rows.next y word (omega (arith, inv.size, c.rows-test.true)) (λ x j. inv.made counting x j by same) row x j;
      size = length-set c.rows.next y word ∙ inv.size;
      north_above = λ x h. inv.here_above x h ∙ ap (λ v. sum_above counted (λ u. at u v) x) (sym one);
      here_beside = λ x h. c.sums-south.ensures.beside x h ∙ ap (λ v. sum_beside (λ u. at u v) x) more;
      here_above = λ x h. c.sums-south.ensures.above x h ∙ ap (λ v. sum_above counted (λ u. at u v) x) more;
    }

pub returns : goal.returns
returns g c = λ counting x y by same h k. c.rows.invariant.made counting x y by same h (omega (arith, c.rows-test.false, k))
