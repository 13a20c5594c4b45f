use Rattle.std.proofs.Common.{rules, ◌≡◌, suc, ◌+◌, ◌-◌, ◌≤◌, ◌^◌, IfOk, IfSome, refl, sym, ap, subst, ◌∙◌, arith}
use Rattle.std.specs.Prelude.{◌+ℤ◌}
use Rattle.std.proofs.lemmas.Bool.Decides.{nat_tests}
use Rattle.std.proofs.Math.Nat.{two-pow-succ}
use Rattle.ca_plane.specs.Prelude.{cells_after}
use Rattle.ca_quad.specs.Prelude.{IsOf, IsSoundStore, AreFour}
use Rattle.ca_quad.proofs.Growth.{grows_on}
use Rattle.ca_quad.proofs.Cells.{of_stays}
use Rattle.ca_run.specs.Prelude.{IsCentre, IsLeap}
use Rattle.ca_run.specs.inner.Centres.{ShowsCentre}
use Rattle.ca_run.specs.inner.Shown.{ShowsAt, FourShow, generations}
use Rattle.ca_bricks.specs.Prelude.{side}
use Rattle.ca_run.proofs.ShownPlanes.{at_stays, three_stay, three_are, four_of, four_go, four_there, four_stay}
use Rattle.ca_bricks.proofs.Overlaps.{west_four, east_four, four_between, four_halfway, four_inner}
use Rattle.ca_run.proofs.Leap.{rule_on, leap_shows, leap_square, leap_of_join, centre_ok, nine_centre, trio_are, nine_are, pair_at, trio_at, nine_at, four_at}
use Rattle.ca_run.proofs.Costs.{at_cost_none, at_cost_more, at_cost_as, at_both_costs, at_cost_of_thirteen, at_cost_of_nine, at_cost_of_centre}
use Rattle.ca_budget.proofs.Powers.{power_some}
use Rattle.ca_run.proofs.leaper.Leaper.+leap.Goals as goal

pub centre-returns-in-Some-clause-at_cost : goal.centre-returns-in-Some-clause-at_cost
centre-returns-in-Some-clause-at_cost g t c =
    at_cost_as refl c.recall.ensures.same (at_cost_none c.args.self.now (subst (λ l. IsSoundStore l.nodes) c.self.view_is c.self.invariant.squares))

pub first_centre-returns-in-Some-clause-shows : goal.first_centre-returns-in-Some-clause-shows
first_centre-returns-in-Some-clause-shows g t c = λ next p a b e shows.
    let sound = subst (λ l. IsSoundStore l.nodes) c.self.view_is c.self.invariant.squares in
    let new = c.centre.new.self.nodes in
    rw c.in-Some.is
    (centre_ok next c.args.self.now.nodes new sound c.centre.ensures.at_cost.goes_on.grows c.centre.result c.args.id c.args.part_level c.in-Some.j p a b shows
    (subst (λ f. IfOk c.centre.result (IsCentre f new c.args.id c.args.part_level c.in-Some.j)) (sym e) c.centre.ensures.centre))

pub new_centre-returns-then-j-part_level-clause-centre : goal.new_centre-returns-then-j-part_level-clause-centre
new_centre-returns-then-j-part_level-clause-centre g t c =
    let some : 1 ≤ c.args.part_level = grind (arith, nat_tests) in
    let all : c.args.j ≡ c.args.part_level = grind (arith, nat_tests) in
    let up : suc (c.args.part_level - 1) ≡ c.args.part_level = omega arith in
    let one : suc (c.args.j - 1) ≡ c.args.j = omega arith in
    let sum : 2 ^ (c.args.j - 1) + 2 ^ (c.args.j - 1) ≡ 2 ^ c.args.j = sym (two-pow-succ (c.args.j - 1)) ∙ ap (λ n. 2 ^ n) one in
    let sound = subst (λ l. IsSoundStore l.nodes) c.self.view_is c.self.invariant.squares in
    let next = g.A.Automaton.next_of c.args.self.now.rule in
    nine_centre next c.args.self.now.nodes c.centre_of_nine.new.self.nodes sound c.centre_of_nine.ensures.at_cost.goes_on.grows c.centre_of_nine.result c.args.id (c.args.part_level - 1) c.args.part_level (2 ^ (c.args.j - 1)) (2 ^ (c.args.j - 1)) c.args.j up
    c.requires.centre.is_square c.requires.centre.in_time sum (λ p a b shows. c.centre_of_nine.ensures.shows next p a b refl shows)

pub new_centre-returns-clause-centre : goal.new_centre-returns-clause-centre
new_centre-returns-clause-centre g t c =
    let some : 1 ≤ c.args.part_level = grind (arith, nat_tests) in
    let up : suc (c.args.part_level - 1) ≡ c.args.part_level = omega arith in
    let sum : 0 + 2 ^ c.args.j ≡ 2 ^ c.args.j = omega arith in
    let sound = subst (λ l. IsSoundStore l.nodes) c.self.view_is c.self.invariant.squares in
    let next = g.A.Automaton.next_of c.args.self.now.rule in
    nine_centre next c.args.self.now.nodes c.centre_of_nine-2.new.self.nodes sound c.centre_of_nine-2.ensures.at_cost.goes_on.grows c.centre_of_nine-2.result c.args.id (c.args.part_level - 1) c.args.part_level 0 (2 ^ c.args.j) c.args.j up
    c.requires.centre.is_square c.requires.centre.in_time sum (λ p a b shows. c.centre_of_nine-2.ensures.shows next p a b refl shows)

pub pair-first_inner-requires-2 : goal.pair-first_inner-requires-2
pair-first_inner-requires-2 g t c κs within =
    let sound = subst (λ l. IsSoundStore l.nodes) c.self.view_is c.self.invariant.squares in
    let four = four_there _ _ sound c.in_ok-west.ensures.at_cost.goes_on.grows (suc c.args.part_level) _ _ _ _ (omega (arith, c.requires.low))
    c.requires.north.middle c.requires.north.east c.requires.south.middle c.requires.south.east in
    search rules

pub pair-returns-clause-shows : goal.pair-returns-clause-shows
pair-returns-clause-shows g t c = λ next p a b e north south.
    let k = c.args.part_level in
    let g1 = c.in_ok-west.ensures.at_cost.goes_on in
    let sound = subst (λ l. IsSoundStore l.nodes) c.self.view_is c.self.invariant.squares in
    let n = c.args.north.now in
    let s = c.args.south.now in
    let west = c.in_ok-west.ensures.shows next p a b e (west_four north south) in
    let east = c.in_ok-east.ensures.shows next p (a +ℤ side (suc k)) b (rule_on (g.A.Automaton.next_of) e g1)
    (east_four (three_stay _ _ sound g1.grows (suc k) n p a b north) (three_stay _ _ sound g1.grows (suc k) s p a (b +ℤ side (suc k)) south)) in
    pair_at k g1.grows c.in_ok-east.ensures.at_cost.goes_on.grows c.in_ok-west.west c.in_ok-east.east (cells_after next p (2 ^ c.args.j)) a b (b +ℤ side k) west east

pub trio-first_inner-requires : goal.trio-first_inner-requires
trio-first_inner-requires g t c κs within =
    let sound = c.quarters-nw.ensures.sound in
    let four = four_there _ _ sound c.in_ok-west.ensures.at_cost.goes_on.grows (suc c.args.part_level) _ _ _ _ (omega (arith, c.requires.low))
    c.quarters-nw.ensures.ne c.quarters-ne.ensures.nw c.quarters-nw.ensures.se c.quarters-ne.ensures.sw in
    search rules

pub trio-returns-clause-shows : goal.trio-returns-clause-shows
trio-returns-clause-shows g t c = λ next p a b e two.
    let k = c.args.part_level in
    let sound = c.quarters-nw.ensures.sound in
    let between = four_between (suc k) (c.quarters-nw.ensures.shows p a b two.at_west) (c.quarters-ne.ensures.shows p (a +ℤ side (suc (suc k))) b two.at_east) in
    trio_at k (g.A.Automaton.next_of) e c.in_ok-west.ensures.at_cost.goes_on c.in_ok-middle.ensures.at_cost.goes_on c.in_ok-east.ensures.at_cost.goes_on _ (cells_after next p (generations c.args.first)) a (b +ℤ side k)
    (c.in_ok-west.ensures.shows next p a b e two.at_west)
    (λ e1 grows. c.in_ok-middle.ensures.shows next p (a +ℤ side (suc k)) b e1 (four_stay _ _ sound grows (suc k) _ _ _ _ p (a +ℤ side (suc k)) b between))
    (λ e2 grows. c.in_ok-east.ensures.shows next p (a +ℤ side (suc (suc k))) b e2 (at_stays _ _ sound grows c.args.east (suc (suc k)) p (a +ℤ side (suc (suc k))) b two.at_east))

pub middle_trio-first_inner-requires-2 : goal.middle_trio-first_inner-requires-2
middle_trio-first_inner-requires-2 g t c κs within =
    let sound = c.quarters-a.ensures.sound in
    let four = four_there _ _ sound c.in_ok-west.ensures.at_cost.goes_on.grows (suc c.args.part_level) _ _ _ _ (omega (arith, c.requires.low))
    c.quarters-a.ensures.se c.quarters-c.ensures.sw c.quarters-e.ensures.ne c.quarters-g.ensures.nw in
    search rules

pub middle_trio-first_inner-requires-3 : goal.middle_trio-first_inner-requires-3
middle_trio-first_inner-requires-3 g t c κs within =
    let sound = c.quarters-a.ensures.sound in
    let grows = grows_on _ _ _ c.in_ok-west.ensures.at_cost.goes_on.grows c.in_ok-middle.ensures.at_cost.goes_on.grows in
    let four = four_there _ _ sound grows (suc c.args.part_level) _ _ _ _ (omega (arith, c.requires.low)) c.quarters-c.ensures.sw c.quarters-c.ensures.se c.quarters-g.ensures.nw c.quarters-g.ensures.ne in
    search rules

pub middle_trio-returns-clause-shows : goal.middle_trio-returns-clause-shows
middle_trio-returns-clause-shows g t c = λ next p a b e four.
    let k = c.args.part_level in
    let sound = c.quarters-a.ensures.sound in
    let x = a +ℤ side (suc (suc k)) in
    let y = b +ℤ side (suc (suc k)) in
    let nw = c.quarters-a.ensures.shows p a b four.at_nw in
    let ne = c.quarters-c.ensures.shows p x b four.at_ne in
    let sw = c.quarters-e.ensures.shows p a y four.at_sw in
    let se = c.quarters-g.ensures.shows p x y four.at_se in
    let middle_y = b +ℤ side (suc k) in
    let inner = four_inner (suc k) nw ne sw se in
    let last = four_halfway (suc k) ne se in
    trio_at k (g.A.Automaton.next_of) e c.in_ok-west.ensures.at_cost.goes_on c.in_ok-middle.ensures.at_cost.goes_on c.in_ok-east.ensures.at_cost.goes_on _ (cells_after next p (generations c.args.first)) a (middle_y +ℤ side k)
    (c.in_ok-west.ensures.shows next p a middle_y e (four_halfway (suc k) nw sw))
    (λ e1 grows. c.in_ok-middle.ensures.shows next p (a +ℤ side (suc k)) middle_y e1 (four_stay _ _ sound grows (suc k) _ _ _ _ p (a +ℤ side (suc k)) middle_y inner))
    (λ e2 grows. c.in_ok-east.ensures.shows next p x middle_y e2 (four_stay _ _ sound grows (suc k) _ _ _ _ p x middle_y last))

pub first_centre-returns-in_ok-inner_square-in-None-clause-shows : goal.first_centre-returns-in_ok-inner_square-in-None-clause-shows
first_centre-returns-in_ok-inner_square-in-None-clause-shows g t c = λ next p a b e shows. rw c.in-None.is (c.in_ok-inner_square-in-None.ensures.shows p a b shows)

pub new_centre-returns-then-part_level-eq0-clause-centre : goal.new_centre-returns-then-part_level-eq0-clause-centre
new_centre-returns-then-part_level-eq0-clause-centre g t c =
    let least : 0 ≡ c.args.part_level = omega (arith, c.if-part_level-eq0.true) in
    let now : 0 ≡ c.args.j = omega (arith, c.if-part_level-eq0.true, c.requires.centre.in_time) in
    let next = g.A.Automaton.next_of c.args.self.now.rule in
    let new = c.next_four.new.self.nodes in
    let result_id = c.in_ok-next_four.field-0 in
    subst (λ j. IsCentre next new c.args.id c.args.part_level j result_id) now (subst (λ k. IsCentre next new c.args.id k 0 result_id) least c.in_ok-next_four.ensures.centre)

pub middle_trio-returns-clause-squares : goal.middle_trio-returns-clause-squares
middle_trio-returns-clause-squares g t c =
    trio_are c.in_ok-west.ensures.at_cost.goes_on c.in_ok-middle.ensures.at_cost.goes_on c.in_ok-east.ensures.at_cost.goes_on _ _ c.in_ok-west.ensures.square c.in_ok-middle.ensures.square c.in_ok-east.ensures.square

pub trio-returns-clause-squares : goal.trio-returns-clause-squares
trio-returns-clause-squares g t c =
    trio_are c.in_ok-west.ensures.at_cost.goes_on c.in_ok-middle.ensures.at_cost.goes_on c.in_ok-east.ensures.at_cost.goes_on _ _ c.in_ok-west.ensures.square c.in_ok-middle.ensures.square c.in_ok-east.ensures.square

pub leap_of_four-returns-in-Some-clause-at_cost : goal.leap_of_four-returns-in-Some-clause-at_cost
leap_of_four-returns-in-Some-clause-at_cost g t c = at_cost_none c.args.self.now (subst (λ l. IsSoundStore l.nodes) c.self.view_is c.self.invariant.squares)

pub nine-middle_trio-requires : goal.nine-middle_trio-requires
nine-middle_trio-requires g t c κs within =
    let one : c.args.part_level + 1 ≡ suc c.args.part_level = omega arith in
    let q = c.quarters-nw.result in
    let is = c.quarters-nw.ensures in
    let four = subst (λ n. AreFour c.args.self.now.nodes (suc n) q.0 q.1 q.2 q.3) one (four_of (omega (arith, c.requires.low)) is.nw is.ne is.sw is.se) in
    let there = four_go _ _ is.sound c.in_ok-north.ensures.at_cost.goes_on.grows (suc (suc c.args.part_level)) q.0 q.1 q.2 q.3 four in
    search rules

pub nine-trio-requires-2 : goal.nine-trio-requires-2
nine-trio-requires-2 g t c κs within =
    let s0 = c.args.self.now.nodes in
    let s1 = c.trio.new.self.nodes in
    let s2 = c.middle_trio.new.self.nodes in
    let one : c.args.part_level + 1 ≡ suc c.args.part_level = omega arith in
    let grows = grows_on s0 s1 s2 c.in_ok-north.ensures.at_cost.goes_on.grows c.in_ok-middle.ensures.at_cost.goes_on.grows in
    let k = suc (suc c.args.part_level) in
    let west : IsOf s2 c.quarters-nw.result.2 k = of_stays s0 s2 c.quarters-nw.ensures.sound grows c.quarters-nw.result.2 k (subst (λ n. IsOf s0 c.quarters-nw.result.2 (suc n)) one c.quarters-nw.ensures.sw) in
    let east : IsOf s2 c.quarters-nw.result.3 k = of_stays s0 s2 c.quarters-nw.ensures.sound grows c.quarters-nw.result.3 k (subst (λ n. IsOf s0 c.quarters-nw.result.3 (suc n)) one c.quarters-nw.ensures.se) in
    search rules

pub nine-returns-clause-shows : goal.nine-returns-clause-shows
nine-returns-clause-shows g t c = λ next p a b e shows.
    let k = c.args.part_level in
    let sound = c.quarters-nw.ensures.sound in
    let one : k + 1 ≡ suc k = omega arith in
    let q = c.quarters-nw.result in
    let l = suc (suc k) in
    let s0 = c.args.self.now.nodes in
    let parts = subst (λ n. FourShow s0 (suc n) q.0 q.1 q.2 q.3 p a b) one (c.quarters-nw.ensures.shows p a b (subst (λ n. ShowsAt s0 c.args.id (suc (suc n)) p a b) (sym one) shows)) in
    nine_at k (g.A.Automaton.next_of) e c.in_ok-north.ensures.at_cost.goes_on c.in_ok-middle.ensures.at_cost.goes_on c.in_ok-south.ensures.at_cost.goes_on _ (cells_after next p (generations c.args.first)) (a +ℤ side k) b
    (c.in_ok-north.ensures.shows next p a b e (record { at_west = parts.at_nw; at_east = parts.at_ne }))
    (λ e1 grows. c.in_ok-middle.ensures.shows next p a b e1 (four_stay _ _ sound grows l q.0 q.1 q.2 q.3 p a b parts))
    (λ e2 grows. c.in_ok-south.ensures.shows next p a (b +ℤ side l) e2
    (record { at_west = at_stays _ _ sound grows q.2 l p a (b +ℤ side l) parts.at_sw; at_east = at_stays _ _ sound grows q.3 l p (a +ℤ side l) (b +ℤ side l) parts.at_se }))

pub nine-returns-clause-squares : goal.nine-returns-clause-squares
nine-returns-clause-squares g t c =
    nine_are c.in_ok-north.ensures.at_cost.goes_on c.in_ok-middle.ensures.at_cost.goes_on c.in_ok-south.ensures.at_cost.goes_on _ _ c.in_ok-north.ensures.squares c.in_ok-middle.ensures.squares c.in_ok-south.ensures.squares

pub centre_of_nine-pair-requires-2 : goal.centre_of_nine-pair-requires-2
centre_of_nine-pair-requires-2 g t c κs within =
    let stays = three_are _ _ c.in_ok-rows.ensures.at_cost.goes_on.grows.sound c.in_ok-nw.ensures.at_cost.goes_on.grows (suc c.args.part_level) in
    let middle = stays c.in_ok-rows.rows.middle c.in_ok-rows.ensures.squares.middle in
    let south = stays c.in_ok-rows.rows.south c.in_ok-rows.ensures.squares.south in
    search rules

pub centre_of_nine-join-requires : goal.centre_of_nine-join-requires
centre_of_nine-join-requires g t c =
    let sound = c.in_ok-nw.ensures.at_cost.goes_on.grows.sound in
    let grows = c.in_ok-sw.ensures.at_cost.goes_on.grows in
    let k = suc c.args.part_level in
    four_of (omega (arith, c.requires.low)) (of_stays _ _ sound grows c.in_ok-nw.nw k c.in_ok-nw.ensures.west) (of_stays _ _ sound grows c.in_ok-nw.ne k c.in_ok-nw.ensures.east)
    c.in_ok-sw.ensures.west c.in_ok-sw.ensures.east

pub centre_of_nine-returns-clause-shows : goal.centre_of_nine-returns-clause-shows
centre_of_nine-returns-clause-shows g t c = λ next p a b e shows.
    let k = c.args.part_level in
    let g1 = c.in_ok-rows.ensures.at_cost.goes_on in
    let g2 = c.in_ok-nw.ensures.at_cost.goes_on in
    let e1 = rule_on (g.A.Automaton.next_of) e g1 in
    let mid = cells_after next p (generations c.args.first) in
    let last = cells_after next mid (2 ^ c.args.j) in
    let x = a +ℤ side k in
    let y = b +ℤ side k in
    let rows = c.in_ok-rows.rows in
    let nine = c.in_ok-rows.ensures.shows next p a b e shows in
    let stays = three_stay _ _ g1.grows.sound g2.grows (suc k) in
    let north = c.in_ok-nw.ensures.shows next mid x y e1 nine.at_north nine.at_middle in
    let south = c.in_ok-sw.ensures.shows next mid x (y +ℤ side (suc k)) (rule_on (g.A.Automaton.next_of) e1 g2)
    (stays rows.middle mid x (y +ℤ side (suc k)) nine.at_middle) (stays rows.south mid x (y +ℤ side (suc k) +ℤ side (suc k)) nine.at_south) in
    c.in_ok-join.ensures.shows last (a +ℤ side (suc k)) (b +ℤ side (suc k))
    (four_at k g2.grows c.in_ok-sw.ensures.at_cost.goes_on.grows c.in_ok-nw.nw c.in_ok-nw.ne c.in_ok-sw.sw c.in_ok-sw.se last a b north south)

pub centre_of_nine-returns-clause-at_cost : goal.centre_of_nine-returns-clause-at_cost
centre_of_nine-returns-clause-at_cost g t c = at_cost_of_thirteen (14 ^ c.args.part_level) c.in_ok-rows.ensures.at_cost c.in_ok-nw.ensures.at_cost c.in_ok-sw.ensures.at_cost c.join.ensures.at_cost

pub centre_of_nine-returns-in_err-join-clause-at_cost : goal.centre_of_nine-returns-in_err-join-clause-at_cost
centre_of_nine-returns-in_err-join-clause-at_cost g t c = at_cost_of_thirteen (14 ^ c.args.part_level) c.in_ok-rows.ensures.at_cost c.in_ok-nw.ensures.at_cost c.in_ok-sw.ensures.at_cost c.join.ensures.at_cost

pub centre-returns-in_err-charge_watched-clause-at_cost : goal.centre-returns-in_err-charge_watched-clause-at_cost
centre-returns-in_err-charge_watched-clause-at_cost g t c = at_cost_as c.recall.ensures.same refl (at_cost_more c.charge_watched.ensures.at_cost (power_some c.args.part_level) (omega arith))

pub centre-returns-in_err-result_id-clause-at_cost : goal.centre-returns-in_err-result_id-clause-at_cost
centre-returns-in_err-result_id-clause-at_cost g t c =
    let charged = c.in_ok-charge_watched.ensures in
    at_cost_of_centre c.args.part_level c.recall.ensures.same refl charged.at_cost charged.counts charged.same c.new_centre.ensures.at_cost

pub centre-returns-in_err-remember-clause-at_cost : goal.centre-returns-in_err-remember-clause-at_cost
centre-returns-in_err-remember-clause-at_cost g t c =
    at_cost_as refl (c.remember.ensures ∙ c.recall.ensures.same) (at_cost_none c.args.self.now (subst (λ l. IsSoundStore l.nodes) c.self.view_is c.self.invariant.squares))

pub centre-returns-in_err-remember-2-clause-at_cost : goal.centre-returns-in_err-remember-2-clause-at_cost
centre-returns-in_err-remember-2-clause-at_cost g t c =
    let charged = c.in_ok-charge_watched.ensures in
    at_cost_of_centre c.args.part_level c.recall.ensures.same c.remember-2.ensures charged.at_cost charged.counts charged.same c.new_centre.ensures.at_cost

pub centre-returns-clause-at_cost : goal.centre-returns-clause-at_cost
centre-returns-clause-at_cost g t c =
    let charged = c.in_ok-charge_watched.ensures in
    at_cost_of_centre c.args.part_level c.recall.ensures.same c.remember-2.ensures charged.at_cost charged.counts charged.same c.new_centre.ensures.at_cost

pub new_centre-returns-then-j-part_level-clause-at_cost : goal.new_centre-returns-then-j-part_level-clause-at_cost
new_centre-returns-then-j-part_level-clause-at_cost g t c = at_cost_of_nine c.args.part_level (grind (arith, nat_tests, c.if-part_level-eq0.false)) c.centre_of_nine.ensures.at_cost

pub new_centre-returns-clause-at_cost : goal.new_centre-returns-clause-at_cost
new_centre-returns-clause-at_cost g t c = at_cost_of_nine c.args.part_level (grind (arith, nat_tests, c.if-part_level-eq0.false)) c.centre_of_nine-2.ensures.at_cost

pub first_inner-returns-in_ok-inner_of_four-in-None-clause-shows : goal.first_inner-returns-in_ok-inner_of_four-in-None-clause-shows
first_inner-returns-in_ok-inner_of_four-in-None-clause-shows g t c = λ next p a b e four. rw c.in-None.is (c.in_ok-inner_of_four-in-None.ensures.shows p a b four)

pub first_inner-returns-in_ok-id-in-Some-clause-shows : goal.first_inner-returns-in_ok-id-in-Some-clause-shows
first_inner-returns-in_ok-id-in-Some-clause-shows g t c = λ next p a b e four.
    let joined = c.in_ok-id-in-Some.ensures.at_cost.goes_on in
    let same = e ∙ sym (ap (g.A.Automaton.next_of) joined.rule) in
    let new = c.centre.new.self.nodes in
    rw c.in-Some.is
    (centre_ok next c.join.new.self.nodes new joined.grows.sound c.centre.ensures.at_cost.goes_on.grows c.centre.result c.in_ok-id-in-Some.id c.args.part_level c.in-Some.j p a b (c.in_ok-id-in-Some.ensures.shows p a b four)
    (subst (λ f. IfOk c.centre.result (IsCentre f new c.in_ok-id-in-Some.id c.args.part_level c.in-Some.j)) (sym same) c.centre.ensures.centre))

pub first_inner-returns-then-j-part_level-clause-shows : goal.first_inner-returns-then-j-part_level-clause-shows
first_inner-returns-then-j-part_level-clause-shows g t c = λ next p a b e four.
    let k = c.args.part_level in
    let all : k ≡ c.in-Some.j = grind (arith, nat_tests) in
    let sound = subst (λ l. IsSoundStore l.nodes) c.self.view_is c.self.invariant.squares in
    let new = c.leap_of_four.new.self.nodes in
    let r = c.leap_of_four.result in
    rw c.in-Some.is
    (subst (λ j. IfOk r (λ result_id. ShowsAt new result_id (suc k) (cells_after next p (2 ^ j)) (a +ℤ side k) (b +ℤ side k))) all
    (leap_shows next c.args.self.now.nodes new sound c.leap_of_four.ensures.at_cost.goes_on.grows r k c.args.nw c.args.ne c.args.sw c.args.se p a b four
    (subst (λ f. IfOk r (IsLeap f new k c.args.nw c.args.ne c.args.sw c.args.se)) (sym e) c.leap_of_four.ensures.leap)))

pub first_inner-returns-then-j-part_level-clause-square : goal.first_inner-returns-then-j-part_level-clause-square
first_inner-returns-then-j-part_level-clause-square g t c =
    leap_square (g.A.Automaton.next_of c.args.self.now.rule) c.leap_of_four.new.self.nodes c.leap_of_four.result c.args.part_level c.args.nw c.args.ne c.args.sw c.args.se c.leap_of_four.ensures.leap

pub leap_of_four-remember_leap-requires : goal.leap_of_four-remember_leap-requires
leap_of_four-remember_leap-requires g t c =
    let sound = subst (λ l. IsSoundStore l.nodes) c.self.view_is c.self.invariant.squares in
    let joined = c.in_ok-id.ensures.at_cost.goes_on in
    let on = c.in_ok-result_id.ensures.at_cost.goes_on in (
      c.args.part_level,
      subst (λ r. IsLeap (g.A.Automaton.next_of r) c.centre.new.self.nodes c.args.part_level c.args.nw c.args.ne c.args.sw c.args.se c.in_ok-result_id.result_id) (sym (on.rule ∙ joined.rule))
          (leap_of_join (g.A.Automaton.next_of) c.args.self.now c.join.new.self c.centre.new.self sound joined on c.in_ok-id.id c.in_ok-result_id.result_id c.args.part_level c.args.nw c.args.ne c.args.sw c.args.se
          c.requires.four c.in_ok-id.ensures.shows c.in_ok-result_id.ensures.centre),
    )

pub leap_of_four-returns-clause-leap : goal.leap_of_four-returns-clause-leap
leap_of_four-returns-clause-leap g t c =
    let sound = subst (λ l. IsSoundStore l.nodes) c.self.view_is c.self.invariant.squares in
    subst (λ l. IsLeap (g.A.Automaton.next_of c.args.self.now.rule) l.nodes c.args.part_level c.args.nw c.args.ne c.args.sw c.args.se c.in_ok-result_id.result_id) (sym c.remember_leap.ensures)
    (leap_of_join (g.A.Automaton.next_of) c.args.self.now c.join.new.self c.centre.new.self sound c.in_ok-id.ensures.at_cost.goes_on c.in_ok-result_id.ensures.at_cost.goes_on c.in_ok-id.id c.in_ok-result_id.result_id c.args.part_level c.args.nw c.args.ne c.args.sw c.args.se
    c.requires.four c.in_ok-id.ensures.shows c.in_ok-result_id.ensures.centre)

pub leap_of_four-returns-clause-at_cost : goal.leap_of_four-returns-clause-at_cost
leap_of_four-returns-clause-at_cost g t c =
    at_cost_as refl c.remember_leap.ensures (at_cost_more (at_both_costs c.in_ok-id.ensures.at_cost c.in_ok-result_id.ensures.at_cost) (omega arith) (omega arith))

pub new_centre-returns-in-Some-clause-centre : goal.new_centre-returns-in-Some-clause-centre
new_centre-returns-in-Some-clause-centre g t c =
    let shown = subst (λ found. IfSome found (ShowsCentre (g.A.Automaton.next_of c.args.self.now.rule) c.args.self.now.nodes c.args.id c.args.part_level c.args.j)) c.in-Some.is c.in_ok-words.ensures in
    c.in_ok-from_centre_words.ensures.centre c.args.id c.args.part_level c.args.j c.requires.centre shown
