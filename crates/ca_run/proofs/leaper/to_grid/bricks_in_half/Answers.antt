use Rattle.std.proofs.Common.{◌≡◌, ◌+◌, ◌-◌, ◌*◌, ◌≤◌, ◌^◌, sym, ap, ◌∙◌, arith}
use Rattle.std.proofs.Math.Pow.{pow_mono}
use Rattle.ca_run.proofs.ReadWords.{half_is}
use Rattle.ca_run.proofs.GridBricks.{sixty_four_times}
use Rattle.ca_run.proofs.leaper.to_grid.bricks_in_half.Goals as goal

pub returns-clause-cells : goal.returns-clause-cells
returns-clause-cells c =
    let k = c.args.level - 7 in
    let six : k + 6 ≡ c.args.level - 1 = omega (arith, c.requires.least) in
    ap (λ n. 64 * n) (half_is k (omega (arith, c.requires.greatest))) ∙ sym (sixty_four_times k) ∙ ap (λ n. 2 ^ n) six

pub returns-clause-most : goal.returns-clause-most
returns-clause-most c =
    let k = c.args.level - 7 in
    let low : k ≤ 55 = omega (arith, c.requires.greatest) in
    let few : 2 ^ k ≤ 2 ^ 55 = pow_mono low in
    let is = half_is k (omega (arith, c.requires.greatest)) in
    omega (arith, is, few)
