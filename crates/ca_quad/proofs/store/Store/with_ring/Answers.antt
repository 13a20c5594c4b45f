use Rattle.std.proofs.Common.{◌≡◌, ◌-◌, ap, ◌∙◌, arith}
use Rattle.ca_quad.specs.Prelude.{one_cell, level, cell_of}
use Rattle.ca_quad.proofs.Walks.{four_show, parts_show}
use Rattle.ca_quad.proofs.ShownSquares.{rings_ok}
use Rattle.ca_quad.proofs.store.Store.with_ring.Goals as goal

pub returns-in-Four-clause-shows : goal.returns-in-Four-clause-shows
returns-in-Four-clause-shows c = λ k h.
    let a = c.in-Four in
    let one : 1 ≡ k = ap level a.ensures.shows ∙ h.is_level in
    rings_ok c.args.self.now c.ringed_cells.new.self k 0 c.args.id c.ringed_cells.result one (one_cell a.nw) (one_cell a.ne) (one_cell a.sw) (one_cell a.se)
    (four_show c.args.self.now c.args.id k h a.nw a.ne a.sw a.se a.ensures.shows) c.ringed_cells.ensures.shows

pub returns-in-Parts-clause-shows : goal.returns-in-Parts-clause-shows
returns-in-Parts-clause-shows c = λ k h.
    let a = c.in-Parts in
    let part = cell_of c.args.self.now (a.level - 1) in
    let e : a.level ≡ k = ap level a.ensures.shows ∙ h.is_level in
    rings_ok c.args.self.now c.ringed_parts.new.self k (a.level - 1) c.args.id c.ringed_parts.result (omega (arith, a.ensures.whole.least)) (part a.nw) (part a.ne) (part a.sw) (part a.se)
    (parts_show c.args.self.now c.args.id k h a.level a.nw a.ne a.sw a.se (omega (arith, a.ensures.whole.least)) a.ensures.shows) c.ringed_parts.ensures.shows
