use Rattle.std.proofs.Common.{Some, None, ℕ, ◌-◌, ◌+◌, suc, sym, ◌∙◌, arith}
use Rattle.std.proofs.lemmas.Bool.Decides.{nat_tests}
use Rattle.ca_quad.specs.Prelude.{level_of, IsOf}
use Rattle.ca_quad.proofs.Differ.{at_level, differ_within, differ_some, place_fits}
use Rattle.ca_quad.proofs.store.Store.+difference_in.Goals as goal
use Rattle.ca_quad.proofs.store.Store.+difference_in.Goals.{After-unequal_quarters}

-- the square has quarters
large : (t : ℕ) (c : After-unequal_quarters t) → IsOf c.args.self.now c.args.a (suc (level_of c.args.self.now c.args.a - 1))
large t c = record { before = c.requires.a; is_level = grind (arith, nat_tests) }

pub returns-in_err-p : goal.returns-in_err-p
returns-in_err-p t c =
    let h = large t (goal.at.returns-in_err-p t c).After-unequal_quarters in
    rw c.from_residual.ensures (at_level c.args.self.now c.args.a c.args.b _ h None (c.in_err-p.ensures.tells _ h))

pub difference_in-requires : goal.difference_in-requires
difference_in-requires t c =
    let w = c.in_ok-p.ensures.tells _ (large t (goal.at.difference_in-requires t c).After-unequal_quarters) in
    let e = w.first.is_square.is_level in
    (omega arith, (w.first.is_square.before, (w.second.is_square.before, w.first.is_square.is_level ∙ sym w.second.is_square.is_level)))

pub returns-in_err-x : goal.returns-in_err-x
returns-in_err-x t c =
    let w = c.in_ok-p.ensures.tells _ (large t (goal.at.returns-in_err-x t c).After-unequal_quarters) in
    absurd (differ_some c.args.self.now _ c.args.a c.args.b c.in_ok-p.p c.in_ok-p.q c.in_ok-p.left c.in_ok-p.top w c.in_ok-p.ensures.sound (c.in_err-x.ensures _ w.first.is_square))

pub overflow_add-result : goal.overflow_add-result
overflow_add-result t c =
    let w = c.in_ok-p.ensures.tells _ (large t (goal.at.overflow_add-result t c).After-unequal_quarters) in
    let f = place_fits _ c.in_ok-p.left c.in_ok-x.x (omega (arith, c.level.ensures.level, c.level.ensures.most)) w.x_low (c.in_ok-x.ensures _ w.first.is_square).x_in in
    omega arith

pub overflow_add-result-2 : goal.overflow_add-result-2
overflow_add-result-2 t c =
    let w = c.in_ok-p.ensures.tells _ (large t (goal.at.overflow_add-result-2 t c).After-unequal_quarters) in
    let f = place_fits _ c.in_ok-p.top c.in_ok-x.y (omega (arith, c.level.ensures.level, c.level.ensures.most)) w.y_low (c.in_ok-x.ensures _ w.first.is_square).y_in in
    omega arith

pub returns : goal.returns
returns t c =
    let h = large t (goal.at.returns t c).After-unequal_quarters in
    let w = c.in_ok-p.ensures.tells _ h in
    at_level c.args.self.now c.args.a c.args.b _ h (Some (c.in_ok-p.left + c.in_ok-x.x, c.in_ok-p.top + c.in_ok-x.y))
    (differ_within c.args.self.now _ c.args.a c.args.b c.in_ok-p.p c.in_ok-p.q c.in_ok-p.left c.in_ok-p.top w c.in_ok-x.x c.in_ok-x.y (c.in_ok-x.ensures _ w.first.is_square))
