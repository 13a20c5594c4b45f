use Rattle.std.proofs.Common.{rules, ◌≡◌, ℕ, suc, ◌+◌, ◌-◌, ◌*◌, ◌<◌, ◌^◌, IfOk, sym, ap, subst, ◌∙◌, arith}
use Rattle.std.specs.Prelude.{ℤ, pos, ◌+ℤ◌}
use Rattle.std.proofs.lemmas.Int.{ints}
use Rattle.std.proofs.Math.Nat.{two-pow-succ}
use Rattle.ca_quad.specs.Prelude.{AreFour}
use Rattle.ca_run.specs.inner.Shown.{ShowsAt, FourShow}
use Rattle.ca_bricks.specs.Prelude.{side, eight}
use Rattle.ca_run.proofs.ShownPlanes.{four_made, four_are, at_from}
use Rattle.ca_bricks.proofs.Words.{side_words}
use Rattle.ca_bricks.proofs.Grids.{near_grid_at, near_grid_as, blank_square}
use Rattle.ca_run.proofs.Costs.{at_cost_more}
use Rattle.ca_run.proofs.GridCosts.{at_cost_of_four, at_cost_of_parts, one_of_each}
use Rattle.ca_run.proofs.leaper.Leaper.+from_grid.Goals as goal

up : (k : ℕ) → k + 3 ≡ suc (suc (suc k))
up k = omega arith

pub from_grid-returns-then-halvings-eq0-clause-shows : goal.from_grid-returns-then-halvings-eq0-clause-shows
from_grid-returns-then-halvings-eq0-clause-shows g t c = λ m p shows.
    let grid = g.S.SquareGrid.live_grid c.args.grid.now in
    let none : 0 ≡ c.args.halvings = omega (arith, c.if-halvings-eq0.true) in
    subst (λ k. IfOk c.square.result (λ id. ShowsAt c.square.new.leaper.nodes id (suc (suc (suc k))) p (grid.x +ℤ eight c.args.at.i) (grid.y +ℤ eight c.args.at.j))) none
    (c.square.ensures.shows m p shows)

pub from_grid-returns-then-halvings-eq0-clause-at_cost : goal.from_grid-returns-then-halvings-eq0-clause-at_cost
from_grid-returns-then-halvings-eq0-clause-at_cost g t c =
    at_cost_more c.square.ensures.at_cost (one_of_each (g.S.SquareGrid.units c.args.grid.now) c.args.halvings) (omega arith)

pub from_grid-returns-then-is_blank_between-clause-shows : goal.from_grid-returns-then-is_blank_between-clause-shows
from_grid-returns-then-is_blank_between-clause-shows g t c = λ m p shows.
    let grid = g.S.SquareGrid.live_grid c.args.grid.now in
    let i = c.args.at.i in
    let j = c.args.at.j in
    let n = c.width-count.result in
    let none = blank_square grid m p (g.met.S.SquareGrid.margin c.args.grid.now m p shows) i j n c.naturals.result.0 c.naturals.result.1 c.naturals.ensures.words c.naturals.ensures.rows
    (c.is_blank_between.ensures c.if-is_blank_between.true m p shows) in
    let wide : 2 ^ (c.args.halvings + 3) ≡ 8 * n = ap (λ k. 2 ^ k) (up c.args.halvings) ∙ side_words c.args.halvings ∙ ap (λ n. 8 * n) (sym c.width-count.ensures) in
    subst (λ k. ShowsAt c.empty_square.new.self.nodes c.in_ok-empty_square.field-0 k p (grid.x +ℤ eight i) (grid.y +ℤ eight j)) (up c.args.halvings)
    (c.in_ok-empty_square.ensures.shows p (grid.x +ℤ eight i) (grid.y +ℤ eight j) (λ x y low_x low_y. none x y (subst (λ m. x < m) wide low_x) (subst (λ m. y < m) wide low_y)))

pub from_grid-from_grid_parts-requires : goal.from_grid-from_grid_parts-requires
from_grid-from_grid_parts-requires g t c κs within =
    let next : suc (c.args.halvings - 1) ≡ c.args.halvings = omega (arith, c.if-halvings-eq0.false) in
    let whole : 2 ^ c.args.halvings ≡ 2 ^ (c.args.halvings - 1) + 2 ^ (c.args.halvings - 1) = ap (λ n. 2 ^ n) (sym next) ∙ two-pow-succ (c.args.halvings - 1) in
    let near = near_grid_as (2 ^ c.args.halvings) (2 ^ (c.args.halvings - 1) + 2 ^ (c.args.halvings - 1)) c.args.at whole c.requires.near in
    search rules

pub from_grid-returns-clause-shows : goal.from_grid-returns-clause-shows
from_grid-returns-clause-shows g t c = λ m p shows.
    let grid = g.S.SquareGrid.live_grid c.args.grid.now in
    let next : suc (c.args.halvings - 1) ≡ c.args.halvings = omega (arith, c.if-halvings-eq0.false) in
    subst (λ k. IfOk c.from_grid_parts.result (λ id. ShowsAt c.from_grid_parts.new.self.nodes id (suc (suc (suc k))) p (grid.x +ℤ eight c.args.at.i) (grid.y +ℤ eight c.args.at.j))) next
    (c.from_grid_parts.ensures.shows m p shows)

pub from_grid-returns-clause-at_cost : goal.from_grid-returns-clause-at_cost
from_grid-returns-clause-at_cost g t c =
    at_cost_of_parts (1 + g.S.SquareGrid.units c.args.grid.now) c.args.halvings (omega arith) (omega (arith, c.if-halvings-eq0.false)) c.from_grid_parts.ensures.at_cost

up2 : (k : ℕ) → suc (k + 2) ≡ suc (suc (suc k))
up2 k = omega arith

pub from_grid_parts-from_grid-requires-2 : goal.from_grid_parts-from_grid-requires-2
from_grid_parts-from_grid-requires-2 g t c κs within =
    let h = 2 ^ c.args.halvings in
    let there = c.quarters-places.ensures.ne in
    let near = near_grid_at h h 0 c.args.at c.quarters-places.result.ne c.requires.near (omega arith) (omega arith) (omega (arith, ints, there.0, c.width.ensures)) (omega (arith, ints, there.1)) in
    search rules

pub from_grid_parts-from_grid-requires-3 : goal.from_grid_parts-from_grid-requires-3
from_grid_parts-from_grid-requires-3 g t c κs within =
    let h = 2 ^ c.args.halvings in
    let there = c.quarters-places.ensures.sw in
    let near = near_grid_at h 0 h c.args.at c.quarters-places.result.sw c.requires.near (omega arith) (omega arith) (omega (arith, ints, there.0)) (omega (arith, ints, there.1, c.width.ensures)) in
    search rules

pub from_grid_parts-from_grid-requires-4 : goal.from_grid_parts-from_grid-requires-4
from_grid_parts-from_grid-requires-4 g t c κs within =
    let h = 2 ^ c.args.halvings in
    let there = c.quarters-places.ensures.se in
    let near = near_grid_at h h h c.args.at c.quarters-places.result.se c.requires.near (omega arith) (omega arith) (omega (arith, ints, there.0, c.width.ensures)) (omega (arith, ints, there.1, c.width.ensures)) in
    search rules

pub from_grid_parts-join-requires : goal.from_grid_parts-join-requires
from_grid_parts-join-requires g t c =
    subst (λ k. AreFour c.from_grid-4.new.self.nodes k c.in_ok-nw.nw c.in_ok-ne.ne c.in_ok-sw.sw c.in_ok-se.se) (sym (up2 c.args.halvings))
    (four_are _ _ _ _ c.in_ok-nw.ensures.at_cost.goes_on.grows.sound c.in_ok-ne.ensures.at_cost.goes_on.grows c.in_ok-sw.ensures.at_cost.goes_on.grows c.in_ok-se.ensures.at_cost.goes_on.grows _ _ _ _ _ (omega (arith, c.requires.low))
    c.in_ok-nw.ensures.square c.in_ok-ne.ensures.square c.in_ok-sw.ensures.square c.in_ok-se.ensures.square)

pub from_grid_parts-returns-clause-shows : goal.from_grid_parts-returns-clause-shows
from_grid_parts-returns-clause-shows g t c = λ m p shows.
    let grid = g.S.SquareGrid.live_grid c.args.grid.now in
    let a = grid.x in
    let b = grid.y in
    let k = suc (suc (suc c.args.halvings)) in
    let i = c.args.at.i in
    let j = c.args.at.j in
    let places = c.quarters-places.ensures in
    let x = a +ℤ eight i in
    let y = b +ℤ eight j in
    let wide : side k ≡ pos (8 * c.width.result) = ap pos (side_words c.args.halvings ∙ ap (λ n. 8 * n) (sym c.width.ensures)) in
    let east : (u : ℤ) → u ≡ i +ℤ pos c.width.result → a +ℤ eight u ≡ x +ℤ side k = λ u e. omega (arith, ints, e, wide) in
    let south : (v : ℤ) → v ≡ j +ℤ pos c.width.result → b +ℤ eight v ≡ y +ℤ side k = λ v e. omega (arith, ints, e, wide) in
    let same_x : (u : ℤ) → u ≡ i → a +ℤ eight u ≡ x = λ u e. ap (λ u. a +ℤ eight u) e in
    let same_y : (v : ℤ) → v ≡ j → b +ℤ eight v ≡ y = λ v e. ap (λ v. b +ℤ eight v) e in
    subst (λ k. ShowsAt c.join.new.self.nodes c.in_ok-join.field-0 (suc k) p x y) (up2 c.args.halvings)
    (c.in_ok-join.ensures.shows p x y (subst (λ k. FourShow c.from_grid-4.new.self.nodes k c.in_ok-nw.nw c.in_ok-ne.ne c.in_ok-sw.sw c.in_ok-se.se p x y) (sym (up2 c.args.halvings))
    (four_made _ _ _ _ c.in_ok-nw.ensures.at_cost.goes_on.grows.sound c.in_ok-ne.ensures.at_cost.goes_on.grows c.in_ok-sw.ensures.at_cost.goes_on.grows c.in_ok-se.ensures.at_cost.goes_on.grows k _ _ _ _ p x y
    (c.in_ok-nw.ensures.shows m p shows)
    (at_from _ _ k p _ _ _ _ (east _ places.ne.0) (same_y _ places.ne.1) (c.in_ok-ne.ensures.shows m p shows))
    (at_from _ _ k p _ _ _ _ (same_x _ places.sw.0) (south _ places.sw.1) (c.in_ok-sw.ensures.shows m p shows))
    (at_from _ _ k p _ _ _ _ (east _ places.se.0) (south _ places.se.1) (c.in_ok-se.ensures.shows m p shows)))))

pub from_grid_parts-returns-clause-at_cost : goal.from_grid_parts-returns-clause-at_cost
from_grid_parts-returns-clause-at_cost g t c =
    let paid = c.in_ok-charge.ensures in
    at_cost_of_four ((1 + g.S.SquareGrid.units c.args.grid.now) * 14 ^ c.args.halvings) paid.at_cost paid.counts paid.same c.in_ok-nw.ensures.at_cost c.in_ok-ne.ensures.at_cost c.in_ok-sw.ensures.at_cost c.in_ok-se.ensures.at_cost
    c.join.ensures.at_cost
