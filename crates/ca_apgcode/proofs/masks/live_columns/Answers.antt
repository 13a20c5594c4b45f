use Rattle.std.proofs.Common.{◌≡◌, ℕ, ◌-◌, List, length, get_or, ap, subst, arith}
use Rattle.ca_apgcode.proofs.LiveMasks.{ShowsFrom, ShowsFrom-none, ShowsFrom-next, AreLiveBefore-all}
use Rattle.ca_apgcode.proofs.masks.live_columns.Goals as goal

pub columns-init : goal.columns-init
columns-init c =
    let grid = c.args.grid.now in
    let all : length grid.columns ≡ length grid.columns - 0 = omega arith in
    subst (λ k. ShowsFrom grid c.args.end k 0) all (ShowsFrom-none grid c.args.end)

pub columns-preserved : goal.columns-preserved
columns-preserved c =
    let columns = c.columns-columns.result.now in
    let same = c.columns-columns.ensures.columns in
    let size = ap (length {A = ℕ}) same in
    ShowsFrom-next c.args.grid.now c.args.end c.columns.n (get_or columns (length columns - 1 - c.columns.n) 0) c.five_bits_before-rows.result c.columns.mask c.from.result c.share_a_bit.result
    (omega (arith, c.columns-test.true, size)) (ap (λ (l : List ℕ). get_or l (length l - 1 - c.columns.n) 0) same) c.five_bits_before-rows.ensures c.share_a_bit.ensures c.from.ensures c.columns.invariant

pub returns-clause-live : goal.returns-clause-live
returns-clause-live c =
    let grid = c.args.grid.now in
    let size = ap (length {A = ℕ}) c.columns-columns.ensures.columns in
    let none : length grid.columns - c.columns.n ≡ 0 = omega (arith, c.columns-test.false, size) in
    AreLiveBefore-all grid c.args.end c.columns.mask (subst (λ k. ShowsFrom grid c.args.end k c.columns.mask) none c.columns.invariant)
