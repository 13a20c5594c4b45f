use Rattle.ca_quad.proofs.JoinedSquares.{four_at}
use Rattle.ca_quad.proofs.Middle.{outer_known, outer_empty, inner_middle}
use Rattle.ca_quad.proofs.store.Store.middle_parts.Goals as goal

pub are_empty-requires : goal.are_empty-requires
are_empty-requires c =
    let p = c.in-Parts in let q = c.in-Parts-square in let s = c.in-Parts-square-2 in let t = c.in-Parts-square-3 in
    outer_known c.args.self.now c.args.nw c.args.ne c.args.sw c.args.se _ c.requires.four p.a p.b p.c p.north_west q.d q.e q.north_east q.f s.g s.south_west s.h s.i t.south_east t.j t.k t.l
    (record { level = p.field-0; is = p.ensures.shows; whole = p.ensures.whole }) (record { level = q.field-0; is = q.ensures.shows; whole = q.ensures.whole })
    (record { level = s.field-0; is = s.ensures.shows; whole = s.ensures.whole }) (record { level = t.field-0; is = t.ensures.shows; whole = t.ensures.whole })

pub returns-then-not-are_empty-clause-tells : goal.returns-then-not-are_empty-clause-tells
returns-then-not-are_empty-clause-tells c = λ k h small r.
    let p = c.in-Parts in let q = c.in-Parts-square in let s = c.in-Parts-square-2 in let t = c.in-Parts-square-3 in
    let empty = outer_empty c.args.self.now c.args.nw c.args.ne c.args.sw c.args.se k (four_at c.args.self.now _ k c.args.nw c.args.ne c.args.sw c.args.se c.requires.four h)
    p.a p.b p.c p.north_west q.d q.e q.north_east q.f s.g s.south_west s.h s.i t.south_east t.j t.k t.l
    (record { level = p.field-0; is = p.ensures.shows; whole = p.ensures.whole }) (record { level = q.field-0; is = q.ensures.shows; whole = q.ensures.whole })
    (record { level = s.field-0; is = s.ensures.shows; whole = s.ensures.whole }) (record { level = t.field-0; is = t.ensures.shows; whole = t.ensures.whole }) small r in
    let yes = c.are_empty.ensures.1 empty in
    cc

pub returns-clause-tells : goal.returns-clause-tells
returns-clause-tells c = λ k h.
    let p = c.in-Parts in let q = c.in-Parts-square in let s = c.in-Parts-square-2 in let t = c.in-Parts-square-3 in
    inner_middle c.args.self.now c.args.nw c.args.ne c.args.sw c.args.se k (four_at c.args.self.now _ k c.args.nw c.args.ne c.args.sw c.args.se c.requires.four h)
    p.a p.b p.c p.north_west q.d q.e q.north_east q.f s.g s.south_west s.h s.i t.south_east t.j t.k t.l
    (record { level = p.field-0; is = p.ensures.shows; whole = p.ensures.whole }) (record { level = q.field-0; is = q.ensures.shows; whole = q.ensures.whole })
    (record { level = s.field-0; is = s.ensures.shows; whole = s.ensures.whole }) (record { level = t.field-0; is = t.ensures.shows; whole = t.ensures.whole })
    c.join.new.self c.in_ok-join.field-0 c.in_ok-join.ensures.shows (c.are_empty.ensures.0 c.if-not-are_empty.false)
