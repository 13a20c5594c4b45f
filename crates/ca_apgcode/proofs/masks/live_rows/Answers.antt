use Rattle.std.proofs.Common.{◌-◌, refl, sym, subst, arith}
use Rattle.ca_apgcode.proofs.LiveMasks.{ShowsBetween, ShowsBetween-none, ShowsBetween-more, AreLiveBefore-rows}
use Rattle.ca_apgcode.proofs.PlaneBoxes.{east_dead}
use Rattle.ca_apgcode.proofs.masks.live_rows.Goals as goal

pub columns-init : goal.columns-init
columns-init c = record {
  within = omega (arith, c.saturating_sub-x.ensures);
  shows = subst (λ x. ShowsBetween c.args.grid.now (c.args.end - 5) x 0) (sym c.saturating_sub-x.ensures) (ShowsBetween-none c.args.grid.now (c.args.end - 5));
}

pub columns-preserved : goal.columns-preserved
columns-preserved c = record {
  within = omega (arith, c.columns-test.true, c.min-x-end.ensures);
  shows = ShowsBetween-more c.args.grid.now (c.args.end - 5) c.columns.x c.columns.mask c.column-mask.result (omega (arith, c.columns.auto.x, c.saturating_sub-x.ensures)) c.column-mask.ensures.column c.column-mask.ensures.low c.columns.invariant.shows;
}

pub returns-clause-live : goal.returns-clause-live
returns-clause-live c =
    AreLiveBefore-rows c.args.grid.now c.args.end (c.args.end - 5) c.columns.x c.columns.mask refl
    (λ k y below from. east_dead c.args.grid.now k y (omega (arith, below, from, c.columns-test.false, c.min-x-end.ensures, c.width.ensures.width)))
    c.columns.invariant.within c.columns.invariant.shows

pub returns-clause-low : goal.returns-clause-low
returns-clause-low c = c.columns.invariant.shows.low
