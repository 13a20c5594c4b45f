use Rattle.std.proofs.Common.{IfOk, sym, subst}
use Rattle.ca_quad.specs.inner.Ring.{TellsMiddle}
use Rattle.ca_quad.proofs.Quarters.{parts_whole, quarter_nw}
use Rattle.ca_quad.proofs.store.Store.middle.Goals as goal

pub returns-clause-tells : goal.returns-clause-tells
returns-clause-tells c = λ k h.
    let a = c.in-Parts in
    let first = quarter_nw c.args.self.now c.args.id k h a.level a.nw a.ne a.sw a.se a.ensures.shows a.ensures.whole in
    let whole = parts_whole c.args.self.now c.args.id k h a.level a.nw a.ne a.sw a.se a.ensures.shows a.ensures.whole in
    subst (λ f. IfOk c.middle_parts.result (TellsMiddle c.middle_parts.new.self k f)) (sym whole) (c.middle_parts.ensures.tells k first.is_square)
