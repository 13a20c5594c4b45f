use Rattle.std.proofs.Common.{◌≡◌, ℕ, suc, IfOk, ◌-◌, ◌≤◌, refl, sym, subst, arith}
use Rattle.std.proofs.lemmas.Bool.Decides.{nat_tests}
use Rattle.ca_quad.specs.Prelude.{IsSoundStore}
use Rattle.ca_quad.specs.inner.Cut.{AreNeighbours, cells_of_four, IsCut}
use Rattle.ca_quad.specs.inner.Window.{ShowsFrom}
use Rattle.ca_quad.proofs.Cuts.{still_cuts, cuts_stay, one_cut_more, first_cut, made_cut, are_four, rest_low, group_stays, lead_to_parts, can_join_cuts, cuts_joined}
use Rattle.ca_quad.proofs.CutWords.{word_window}
use Rattle.ca_quad.proofs.KnownCuts.{cut_known, cut_keeps, is_apart, has_parts, has_no_word, closed_stays, fours_are, cuts_closed}
use Rattle.ca_quad.proofs.KnownSquares.{so_on_ok}
use Rattle.ca_quad.proofs.FilledSquares.{grows_three, grows_four, grows_five}
use Rattle.ca_quad.proofs.Growth.{grows_same, grows_on}
use Rattle.ca_quad.proofs.store.Store.+cut_out.Goals as goal

pub returns-then-place-eq0-2-clause-grows : goal.returns-then-place-eq0-2-clause-grows
returns-then-place-eq0-2-clause-grows t c = grows_same c.args.self.now (subst IsSoundStore c.self.view_is c.self.invariant)

pub returns-in-Some-get-clause-grows : goal.returns-in-Some-get-clause-grows
returns-in-Some-get-clause-grows t c = grows_same c.args.self.now (subst IsSoundStore c.self.view_is c.self.invariant)

pub returns-in-Some-get-clause-cut : goal.returns-in-Some-get-clause-cut
returns-in-Some-get-clause-cut t c = c.requires.cuts c.args.four c.in-Some-get.cut (sym c.in-Some-get.ensures)

pub returns-then-place-eq0-2-clause-cut : goal.returns-then-place-eq0-2-clause-cut
returns-then-place-eq0-2-clause-cut t c =
    let zero_x : c.remainders-place.result.x ≡ 0 = grind (arith, nat_tests) in
    let zero_y : c.remainders-place.result.y ≡ 0 = grind (arith, nat_tests) in
    first_cut c.args.self.now (subst IsSoundStore c.self.view_is c.self.invariant) c.args.four c.args.offset c.remainders-place.result c.level-level.result c.level-level.ensures.level c.requires.four c.remainders-place.ensures.x c.remainders-place.ensures.y zero_x zero_y

pub returns-in-Some-clause-cut : goal.returns-in-Some-clause-cut
returns-in-Some-clause-cut t c =
    made_cut c.args.self.now (subst IsSoundStore c.self.view_is c.self.invariant) c.args.four c.args.offset c.remainders-place.result c.level-level.result c.level-level.ensures.level c.requires.four c.remainders-place.ensures.x c.remainders-place.ensures.y c.from_word.new.self c.from_word.ensures.grows c.from_word.result
    (word_window c.args.self.now c.from_word.new.self c.args.four c.remainders-place.result c.level-level.result c.in-Some.word c.from_word.result c.in-Some.ensures.word c.from_word.ensures.shows)

pub returns-in-Some-clause-cuts : goal.returns-in-Some-clause-cuts
returns-in-Some-clause-cuts t c = still_cuts c.args.self.now c.from_word.new.self c.from_word.result (subst IsSoundStore c.self.view_is c.self.invariant) c.from_word.ensures.grows c.args.offset c.args.cuts.now c.requires.cuts

pub returns-then-level-eq1-clause-cut : goal.returns-then-level-eq1-clause-cut
returns-then-level-eq1-clause-cut t c =
    let at = c.remainders-place.result in
    let one : 1 ≡ c.level-level.result = grind (arith, nat_tests) in
    made_cut c.args.self.now (subst IsSoundStore c.self.view_is c.self.invariant) c.args.four c.args.offset c.remainders-place.result c.level-level.result c.level-level.ensures.level c.requires.four c.remainders-place.ensures.x c.remainders-place.ensures.y c.cut_cells.new.self c.cut_cells.ensures.grows c.cut_cells.result
    (subst (λ (l : ℕ). IfOk c.cut_cells.result (λ id. ShowsFrom c.cut_cells.new.self id l (cells_of_four c.args.self.now l c.args.four) at.x at.y)) one c.cut_cells.ensures.shows)

pub returns-then-level-eq1-clause-cuts : goal.returns-then-level-eq1-clause-cuts
returns-then-level-eq1-clause-cuts t c = still_cuts c.args.self.now c.cut_cells.new.self c.cut_cells.result (subst IsSoundStore c.self.view_is c.self.invariant) c.cut_cells.ensures.grows c.args.offset c.args.cuts.now c.requires.cuts

pub sixteen_parts-parts-requires : goal.sixteen_parts-parts-requires
sixteen_parts-parts-requires t c =
    let two : c.level-level.result ≡ suc (suc (c.level-level.result - 2)) = grind (arith, nat_tests) in
    (c.level-level.result - 2, subst (λ l. AreNeighbours c.args.self.now l c.args.four) two (are_four c.args.self.now (subst IsSoundStore c.self.view_is c.self.invariant) c.args.four c.args.offset c.remainders-place.result c.level-level.result c.level-level.ensures.level c.requires.four c.remainders-place.ensures.x c.remainders-place.ensures.y))

pub cut_out-requires : goal.cut_out-requires
cut_out-requires t c =
    let large : 2 ≤ c.level-level.result = grind (arith, nat_tests) in
    let leads = lead_to_parts c.args.self.now (subst IsSoundStore c.self.view_is c.self.invariant) c.args.four c.args.offset c.remainders-place.result c.level-level.result c.level-level.ensures.level c.requires.four c.remainders-place.ensures.x c.remainders-place.ensures.y large c.sixteen_parts-parts.result c.sixteen_parts-parts.ensures.cells c.half_side-half.result c.half_side-half.ensures.half c.overlapping_fours.result c.overlapping_fours.ensures in
    let group = group_stays c.args.self.now c.args.self.now (subst IsSoundStore c.self.view_is c.self.invariant) (grows_same c.args.self.now (subst IsSoundStore c.self.view_is c.self.invariant)) leads.nw (omega (arith, c.level-level.ensures.most)) in
    (omega (arith, c.decreases, c.level-level.ensures.level, group.0), (group.1, c.requires.cuts))

pub cut_out-requires-2 : goal.cut_out-requires-2
cut_out-requires-2 t c =
    let large : 2 ≤ c.level-level.result = grind (arith, nat_tests) in
    let leads = lead_to_parts c.args.self.now (subst IsSoundStore c.self.view_is c.self.invariant) c.args.four c.args.offset c.remainders-place.result c.level-level.result c.level-level.ensures.level c.requires.four c.remainders-place.ensures.x c.remainders-place.ensures.y large c.sixteen_parts-parts.result c.sixteen_parts-parts.ensures.cells c.half_side-half.result c.half_side-half.ensures.half c.overlapping_fours.result c.overlapping_fours.ensures in
    let group = group_stays c.args.self.now c.cut_out.new.self (subst IsSoundStore c.self.view_is c.self.invariant) (c.cut_out.ensures.grows) leads.ne (omega (arith, c.level-level.ensures.most)) in
    (omega (arith, c.decreases, c.level-level.ensures.level, group.0), (group.1, c.in_ok-nw.ensures.cuts))

pub cut_out-requires-3 : goal.cut_out-requires-3
cut_out-requires-3 t c =
    let large : 2 ≤ c.level-level.result = grind (arith, nat_tests) in
    let leads = lead_to_parts c.args.self.now (subst IsSoundStore c.self.view_is c.self.invariant) c.args.four c.args.offset c.remainders-place.result c.level-level.result c.level-level.ensures.level c.requires.four c.remainders-place.ensures.x c.remainders-place.ensures.y large c.sixteen_parts-parts.result c.sixteen_parts-parts.ensures.cells c.half_side-half.result c.half_side-half.ensures.half c.overlapping_fours.result c.overlapping_fours.ensures in
    let group = group_stays c.args.self.now c.cut_out-2.new.self (subst IsSoundStore c.self.view_is c.self.invariant) (grows_on c.args.self.now c.cut_out.new.self c.cut_out-2.new.self c.cut_out.ensures.grows c.cut_out-2.ensures.grows) leads.sw (omega (arith, c.level-level.ensures.most)) in
    (omega (arith, c.decreases, c.level-level.ensures.level, group.0), (group.1, c.in_ok-ne.ensures.cuts))

pub cut_out-requires-4 : goal.cut_out-requires-4
cut_out-requires-4 t c =
    let large : 2 ≤ c.level-level.result = grind (arith, nat_tests) in
    let leads = lead_to_parts c.args.self.now (subst IsSoundStore c.self.view_is c.self.invariant) c.args.four c.args.offset c.remainders-place.result c.level-level.result c.level-level.ensures.level c.requires.four c.remainders-place.ensures.x c.remainders-place.ensures.y large c.sixteen_parts-parts.result c.sixteen_parts-parts.ensures.cells c.half_side-half.result c.half_side-half.ensures.half c.overlapping_fours.result c.overlapping_fours.ensures in
    let group = group_stays c.args.self.now c.cut_out-3.new.self (subst IsSoundStore c.self.view_is c.self.invariant) (grows_three c.args.self.now c.cut_out.new.self c.cut_out-2.new.self c.cut_out-3.new.self c.cut_out.ensures.grows c.cut_out-2.ensures.grows c.cut_out-3.ensures.grows) leads.se (omega (arith, c.level-level.ensures.most)) in
    (omega (arith, c.decreases, c.level-level.ensures.level, group.0), (group.1, c.in_ok-sw.ensures.cuts))

pub returns-in_err-sw-clause-grows : goal.returns-in_err-sw-clause-grows
returns-in_err-sw-clause-grows t c = grows_three c.args.self.now c.cut_out.new.self c.cut_out-2.new.self c.cut_out-3.new.self c.cut_out.ensures.grows c.cut_out-2.ensures.grows c.cut_out-3.ensures.grows

pub returns-in_err-se-clause-grows : goal.returns-in_err-se-clause-grows
returns-in_err-se-clause-grows t c =
    grows_four c.args.self.now c.cut_out.new.self c.cut_out-2.new.self c.cut_out-3.new.self c.cut_out.ensures.grows c.cut_out-2.ensures.grows c.cut_out-3.ensures.grows c.cut_out-4.new.self c.cut_out-4.ensures.grows

pub returns-in_err-cut-clause-grows : goal.returns-in_err-cut-clause-grows
returns-in_err-cut-clause-grows t c = grows_five c.args.self.now c.cut_out.new.self c.cut_out-2.new.self c.cut_out-3.new.self c.cut_out.ensures.grows c.cut_out-2.ensures.grows c.cut_out-3.ensures.grows c.cut_out-4.new.self c.join.new.self c.cut_out-4.ensures.grows c.join.ensures.grows

pub returns-in_err-put-clause-grows : goal.returns-in_err-put-clause-grows
returns-in_err-put-clause-grows t c = grows_five c.args.self.now c.cut_out.new.self c.cut_out-2.new.self c.cut_out-3.new.self c.cut_out.ensures.grows c.cut_out-2.ensures.grows c.cut_out-3.ensures.grows c.cut_out-4.new.self c.join.new.self c.cut_out-4.ensures.grows c.join.ensures.grows

pub returns-clause-grows : goal.returns-clause-grows
returns-clause-grows t c = grows_five c.args.self.now c.cut_out.new.self c.cut_out-2.new.self c.cut_out-3.new.self c.cut_out.ensures.grows c.cut_out-2.ensures.grows c.cut_out-3.ensures.grows c.cut_out-4.new.self c.join.new.self c.cut_out-4.ensures.grows c.join.ensures.grows

pub join-requires : goal.join-requires
join-requires t c =
    let large : 2 ≤ c.level-level.result = grind (arith, nat_tests) in
    let leads = lead_to_parts c.args.self.now (subst IsSoundStore c.self.view_is c.self.invariant) c.args.four c.args.offset c.remainders-place.result c.level-level.result c.level-level.ensures.level c.requires.four c.remainders-place.ensures.x c.remainders-place.ensures.y large c.sixteen_parts-parts.result c.sixteen_parts-parts.ensures.cells c.half_side-half.result c.half_side-half.ensures.half c.overlapping_fours.result c.overlapping_fours.ensures in
    (c.level-level.result - 1, can_join_cuts c.args.self.now c.cut_out.new.self c.cut_out-2.new.self c.cut_out-3.new.self c.cut_out-4.new.self (subst IsSoundStore c.self.view_is c.self.invariant) c.cut_out.ensures.grows c.cut_out-2.ensures.grows c.cut_out-3.ensures.grows c.cut_out-4.ensures.grows c.level-level.result large leads c.in_ok-nw.nw c.in_ok-ne.ne c.in_ok-sw.sw c.in_ok-se.se c.in_ok-nw.ensures.cut c.in_ok-ne.ensures.cut c.in_ok-sw.ensures.cut c.in_ok-se.ensures.cut c.level-level.ensures.most)

pub returns-clause-cut : goal.returns-clause-cut
returns-clause-cut t c =
    let large : 2 ≤ c.level-level.result = grind (arith, nat_tests) in
    let leads = lead_to_parts c.args.self.now (subst IsSoundStore c.self.view_is c.self.invariant) c.args.four c.args.offset c.remainders-place.result c.level-level.result c.level-level.ensures.level c.requires.four c.remainders-place.ensures.x c.remainders-place.ensures.y large c.sixteen_parts-parts.result c.sixteen_parts-parts.ensures.cells c.half_side-half.result c.half_side-half.ensures.half c.overlapping_fours.result c.overlapping_fours.ensures in
    let shows = cuts_joined c.args.self.now c.cut_out.new.self c.cut_out-2.new.self c.cut_out-3.new.self c.cut_out-4.new.self (subst IsSoundStore c.self.view_is c.self.invariant) c.cut_out.ensures.grows c.cut_out-2.ensures.grows c.cut_out-3.ensures.grows c.cut_out-4.ensures.grows c.level-level.result large leads c.in_ok-nw.nw c.in_ok-ne.ne c.in_ok-sw.sw c.in_ok-se.se c.in_ok-nw.ensures.cut c.in_ok-ne.ensures.cut c.in_ok-sw.ensures.cut c.in_ok-se.ensures.cut c.join.new.self c.join.result c.join.ensures.shows in
    subst (λ r. IfOk r (IsCut c.join.new.self c.args.offset c.args.four)) c.in_ok-cut.was
    (made_cut c.args.self.now (subst IsSoundStore c.self.view_is c.self.invariant) c.args.four c.args.offset c.remainders-place.result c.level-level.result c.level-level.ensures.level c.requires.four c.remainders-place.ensures.x c.remainders-place.ensures.y c.join.new.self (grows_five c.args.self.now c.cut_out.new.self c.cut_out-2.new.self c.cut_out-3.new.self c.cut_out.ensures.grows c.cut_out-2.ensures.grows c.cut_out-3.ensures.grows c.cut_out-4.new.self c.join.new.self c.cut_out-4.ensures.grows c.join.ensures.grows) c.join.result shows)

pub returns-clause-cuts : goal.returns-clause-cuts
returns-clause-cuts t c =
    let cuts = c.cut_out-4.new.cuts in
    one_cut_more c.join.new.self c.args.offset cuts c.put.new.self c.args.four c.in_ok-cut.cut
    (cuts_stay c.cut_out-4.new.self c.join.new.self c.cut_out-4.ensures.grows.sound c.join.ensures.grows c.args.offset cuts c.in_ok-se.ensures.cuts) (returns-clause-cut t c) c.in_ok-put.ensures

pub cut_word-requires-clause-x : goal.cut_word-requires-clause-x
cut_word-requires-clause-x t c = rest_low c.args.offset.x c.level-level.result c.remainders-place.result.x c.remainders-place.ensures.x

pub cut_word-requires-clause-y : goal.cut_word-requires-clause-y
cut_word-requires-clause-y t c = rest_low c.args.offset.y c.level-level.result c.remainders-place.result.y c.remainders-place.ensures.y

pub returns-then-place-eq0-2-clause-remembered : goal.returns-then-place-eq0-2-clause-remembered
returns-then-place-eq0-2-clause-remembered t c = λ parts.
    let zero_x : c.remainders-place.result.x ≡ 0 = grind (arith, nat_tests) in
    let zero_y : c.remainders-place.result.y ≡ 0 = grind (arith, nat_tests) in
    absurd (is_apart c.args.self.now c.args.offset c.remainders-place.result c.args.four c.level-level.result c.level-level.ensures.level c.remainders-place.ensures.x c.remainders-place.ensures.y parts zero_x zero_y)

pub returns-then-level-eq1-clause-remembered : goal.returns-then-level-eq1-clause-remembered
returns-then-level-eq1-clause-remembered t c =
    let one : c.level-level.result ≡ 1 = grind (arith, nat_tests) in
    so_on_ok c.cut_cells.result (λ parts. absurd (has_parts c.args.self.now c.args.offset c.remainders-place.result c.args.four c.level-level.result c.level-level.ensures.level c.remainders-place.ensures.x c.remainders-place.ensures.y parts one))

pub returns-then-level-eq1-clause-again : goal.returns-then-level-eq1-clause-again
returns-then-level-eq1-clause-again t c = λ parts some.
    let one : c.level-level.result ≡ 1 = grind (arith, nat_tests) in
    absurd (has_parts c.args.self.now c.args.offset c.remainders-place.result c.args.four c.level-level.result c.level-level.ensures.level c.remainders-place.ensures.x c.remainders-place.ensures.y parts one)

pub returns-in-Some-clause-remembered : goal.returns-in-Some-clause-remembered
returns-in-Some-clause-remembered t c =
    so_on_ok c.from_word.result (λ parts. absurd (has_no_word c.args.self.now c.args.offset c.remainders-place.result c.args.four c.level-level.result c.level-level.ensures.level c.remainders-place.ensures.x c.remainders-place.ensures.y parts c.in-Some.ensures.word.is_level (c.in-Some.ensures.states refl)))

pub returns-in-Some-clause-again : goal.returns-in-Some-clause-again
returns-in-Some-clause-again t c = λ parts some.
    absurd (has_no_word c.args.self.now c.args.offset c.remainders-place.result c.args.four c.level-level.result c.level-level.ensures.level c.remainders-place.ensures.x c.remainders-place.ensures.y parts c.in-Some.ensures.word.is_level (c.in-Some.ensures.states refl))

pub returns-clause-remembered : goal.returns-clause-remembered
returns-clause-remembered t c = λ parts. cut_known c.cut_out-4.new.cuts c.put.new.self c.args.four c.in_ok-cut.cut c.in_ok-put.ensures

pub returns-clause-kept : goal.returns-clause-kept
returns-clause-kept t c = λ four some.
    cut_keeps c.cut_out-4.new.cuts c.put.new.self c.args.four c.in_ok-cut.cut c.in_ok-put.ensures four
    (c.in_ok-se.ensures.kept four (c.in_ok-sw.ensures.kept four (c.in_ok-ne.ensures.kept four (c.in_ok-nw.ensures.kept four some))))

pub returns-then-level-eq1-clause-closed : goal.returns-then-level-eq1-clause-closed
returns-then-level-eq1-clause-closed t c =
    so_on_ok c.cut_cells.result (closed_stays c.args.self.now c.cut_cells.new.self (subst IsSoundStore c.self.view_is c.self.invariant) c.cut_cells.ensures.grows c.args.offset c.args.cuts.now c.requires.cuts)

pub returns-in-Some-clause-closed : goal.returns-in-Some-clause-closed
returns-in-Some-clause-closed t c =
    so_on_ok c.from_word.result (closed_stays c.args.self.now c.from_word.new.self (subst IsSoundStore c.self.view_is c.self.invariant) c.from_word.ensures.grows c.args.offset c.args.cuts.now c.requires.cuts)

pub returns-clause-closed : goal.returns-clause-closed
returns-clause-closed t c = λ closed.
    let fours = fours_are c.args.self.now c.args.offset c.remainders-place.result c.args.four c.level-level.result c.half_side-half.result c.level-level.ensures.level c.remainders-place.ensures.x c.remainders-place.ensures.y c.half_side-half.ensures.half
    c.sixteen_parts-parts.result c.sixteen_parts-parts.ensures.parts c.overlapping_fours.result c.overlapping_fours.ensures
    in
    cuts_closed c.args.self.now c.cut_out.new.self c.cut_out-2.new.self c.cut_out-3.new.self c.cut_out-4.new.self c.join.new.self (subst IsSoundStore c.self.view_is c.self.invariant)
    c.cut_out.ensures.grows c.cut_out-2.ensures.grows c.cut_out-3.ensures.grows c.cut_out-4.ensures.grows c.join.ensures.grows c.args.offset c.args.four c.requires.four c.overlapping_fours.result fours
    c.cut_out.new.cuts c.cut_out-2.new.cuts c.cut_out-3.new.cuts c.cut_out-4.new.cuts c.in_ok-nw.ensures.remembered c.in_ok-ne.ensures.remembered c.in_ok-sw.ensures.remembered c.in_ok-se.ensures.remembered
    c.in_ok-ne.ensures.kept c.in_ok-sw.ensures.kept c.in_ok-se.ensures.kept c.in_ok-se.ensures.cuts c.put.new.self c.in_ok-cut.cut c.in_ok-put.ensures
    (c.in_ok-se.ensures.closed (c.in_ok-sw.ensures.closed (c.in_ok-ne.ensures.closed (c.in_ok-nw.ensures.closed closed))))
