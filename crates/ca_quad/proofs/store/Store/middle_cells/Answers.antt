use Rattle.std.proofs.Common.{◌≡◌, arith}
use Rattle.std.proofs.lemmas.Bool.Decides.{nat_tests}
use Rattle.ca_quad.proofs.Middle.{cells_hollow, inner_cells}
use Rattle.ca_quad.proofs.Walks.{dot_empty}
use Rattle.ca_quad.proofs.store.Store.middle_cells.Goals as goal

pub returns-then-max-gt0-clause-tells : goal.returns-then-max-gt0-clause-tells
returns-then-max-gt0-clause-tells c = λ small r.
    let p = c.in-Four in let q = c.in-Four-square in let s = c.in-Four-square-2 in let t = c.in-Four-square-3 in
    let z = cells_hollow c.args.self.now c.args.nw c.args.ne c.args.sw c.args.se c.requires.four p.a p.b p.c p.north_west q.d q.e q.north_east q.f s.g s.south_west s.h s.i t.south_east t.j t.k t.l
    p.ensures.shows q.ensures.shows s.ensures.shows t.ensures.shows small r in
    let (a, b, d) : (p.a ≡ 0) × (p.b ≡ 0) × (p.c ≡ 0) = (z.nw.0 0 0, z.nw.1 0 0, z.nw.2 0 0) in
    let (e, f, g) : (q.d ≡ 0) × (q.e ≡ 0) × (q.f ≡ 0) = (z.ne.0 0 0, z.ne.1 0 0, z.ne.2 0 0) in
    let (h, i, j) : (s.g ≡ 0) × (s.h ≡ 0) × (s.i ≡ 0) = (z.sw.0 0 0, z.sw.1 0 0, z.sw.2 0 0) in
    let (k, l, m) : (t.j ≡ 0) × (t.k ≡ 0) × (t.l ≡ 0) = (z.se.0 0 0, z.se.1 0 0, z.se.2 0 0) in
    grind (arith, nat_tests)

pub returns-clause-tells : goal.returns-clause-tells
returns-clause-tells c =
    let p = c.in-Four in let q = c.in-Four-square in let s = c.in-Four-square-2 in let t = c.in-Four-square-3 in
    inner_cells c.args.self.now c.args.nw c.args.ne c.args.sw c.args.se c.requires.four p.a p.b p.c p.north_west q.d q.e q.north_east q.f s.g s.south_west s.h s.i t.south_east t.j t.k t.l
    p.ensures.shows q.ensures.shows s.ensures.shows t.ensures.shows c.leaf.new.self c.in_ok-leaf.field-0
    (record {
      nw = (dot_empty p.a (grind (arith, nat_tests)), dot_empty p.b (grind (arith, nat_tests)), dot_empty p.c (grind (arith, nat_tests)));
      ne = (dot_empty q.d (grind (arith, nat_tests)), dot_empty q.e (grind (arith, nat_tests)), dot_empty q.f (grind (arith, nat_tests)));
      sw = (dot_empty s.g (grind (arith, nat_tests)), dot_empty s.h (grind (arith, nat_tests)), dot_empty s.i (grind (arith, nat_tests)));
      se = (dot_empty t.j (grind (arith, nat_tests)), dot_empty t.k (grind (arith, nat_tests)), dot_empty t.l (grind (arith, nat_tests)));
    })
    c.in_ok-leaf.ensures.shows
