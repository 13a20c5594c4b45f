use Rattle.std.proofs.Common.{◌≡◌, ◌-◌, inl, inr, sym, subst, arith}
use Rattle.std.proofs.lemmas.Bool.Decides.{nat_tests}
use Rattle.ca_quad.specs.inner.Drawn.{AreReady, IsLiveIn}
use Rattle.ca_quad.proofs.PaintedCells.{paints_last, rows_live}
use Rattle.ca_quad.proofs.store.Store.+draw_band.Goals as goal

pub returns-then-level-eq1 : goal.returns-then-level-eq1
returns-then-level-eq1 t c = λ all are.
    let nodes = c.args.self.now in
    let squares = c.args.squares.now in
    let one : c.args.level ≡ 1 = grind (arith, nat_tests) in
    let ready = subst (λ l. AreReady nodes all l squares) one are in
    paints_last all c.draw_row-then-level-eq1.result c.args.plane.now c.draw_row.new.plane c.draw_row-then-level-eq1.new.plane _ _ _ (c.in_ok-draw_row.ensures all ready) (c.draw_row-then-level-eq1.ensures all ready) (rows_live nodes all squares ready)

pub returns : goal.returns
returns t c = λ all are.
    let nodes = c.args.self.now in
    let halves = c.in_ok-halves.ensures in
    let ready = halves.ready all are in
    let north = subst (AreReady nodes all (c.args.level - 1)) (sym c.deref.ensures.value) ready.0 in
    let south = subst (AreReady nodes all (c.args.level - 1)) (sym c.deref-2.ensures.value) ready.1 in
    paints_last all c.draw_band-2.result c.args.plane.now c.draw_band.new.plane c.draw_band-2.new.plane _ _ _ (c.in_ok-draw_band.ensures all north) (c.draw_band-2.ensures all south)
    (λ x y l. elim (halves.live x y l) [
      | inl h ↦ inl (subst (λ rs. IsLiveIn nodes rs x y) (sym c.deref.ensures.value) h)
      | inr h ↦ inr (subst (λ rs. IsLiveIn nodes rs x y) (sym c.deref-2.ensures.value) h)
    ])
