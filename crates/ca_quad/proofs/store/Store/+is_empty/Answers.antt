use Rattle.std.proofs.Common.{◌≡◌, ◌-◌, ◌^◌, sym, subst, arith}
use Rattle.std.proofs.lemmas.Bool.{eqb-true}
use Rattle.std.proofs.lemmas.Bool.Decides.{nat_tests}
use Rattle.ca_quad.specs.Prelude.{cell_of, one_cell, IsEmpty}
use Rattle.ca_quad.proofs.Walks.{four_show, parts_show, together_empty, corners_empty, dot_empty, nw_empty, parts_one}
use Rattle.ca_quad.proofs.store.Store.+is_empty.Goals as goal

pub returns-in-Four : goal.returns-in-Four
returns-in-Four t c = λ k h.
    let nw = c.in-Four.nw in
    let ne = c.in-Four.ne in
    let sw = c.in-Four.sw in
    let se = c.in-Four.se in
    let e = four_show c.args.self.now c.args.id k h nw ne sw se c.in-Four.ensures.shows in (
      λ i.
          let z : c.max-in-Four-2.result ≡ 0 = eqb-true _ _ i in
          subst IsEmpty (sym e) (together_empty 1 (one_cell nw) (one_cell ne) (one_cell sw) (one_cell se) (dot_empty nw (omega arith)) (dot_empty ne (omega arith)) (dot_empty sw (omega arith)) (dot_empty se (omega arith))),
      λ i. let z = corners_empty nw ne sw se (subst IsEmpty e i) in grind (arith, nat_tests),
    )

pub returns-then-not-are_one : goal.returns-then-not-are_one
returns-then-not-are_one t c = λ k h.
    let nodes = c.args.self.now in
    let m = c.in-Parts.field-0 in
    let w = c.in-Parts.ensures.whole in
    let e = parts_show nodes c.args.id k h m c.in-Parts.nw c.in-Parts.ne c.in-Parts.sw c.in-Parts.se (omega (arith, w.least)) c.in-Parts.ensures.shows in (
      λ i. cc,
      λ i.
          let one = parts_one nodes c.in-Parts.ensures.sound (m - 1) c.in-Parts.nw c.in-Parts.ne c.in-Parts.sw c.in-Parts.se w.is_nw w.is_ne w.is_sw w.is_se (subst IsEmpty e i) in
          let yes = c.are_one.ensures.1 one in
          cc,
    )

pub returns-else-not-are_one : goal.returns-else-not-are_one
returns-else-not-are_one t c = λ k h.
    let nodes = c.args.self.now in
    let m = c.in-Parts.field-0 in
    let w = c.in-Parts.ensures.whole in
    let part = cell_of nodes (m - 1) in
    let e = parts_show nodes c.args.id k h m c.in-Parts.nw c.in-Parts.ne c.in-Parts.sw c.in-Parts.se (omega (arith, w.least)) c.in-Parts.ensures.shows in
    let one = c.are_one.ensures.0 c.if-not-are_one.false in
    let first = c.is_empty.ensures (m - 1) w.is_nw in (
      λ i.
          subst IsEmpty (sym e)
          (together_empty (2 ^ (m - 1)) (part c.in-Parts.nw) (part c.in-Parts.ne) (part c.in-Parts.sw) (part c.in-Parts.se) (first.0 i)
          (subst (λ id. IsEmpty (part id)) one.0 (first.0 i)) (subst (λ id. IsEmpty (part id)) one.1 (first.0 i)) (subst (λ id. IsEmpty (part id)) one.2 (first.0 i))),
      λ i. first.1 (nw_empty nodes c.in-Parts.ensures.sound (m - 1) c.in-Parts.nw c.in-Parts.ne c.in-Parts.sw c.in-Parts.se w.is_nw w.is_ne w.is_sw w.is_se (subst IsEmpty e i)),
    )
