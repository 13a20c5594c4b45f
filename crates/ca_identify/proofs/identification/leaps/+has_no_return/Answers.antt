use Rattle.std.proofs.Common.{rules, ◌<◌, ◌≤◌, sym, subst, arith}
use Rattle.std.specs.Prelude.{IsTrue, IfOk}
use Rattle.ca_quad.specs.Prelude.{cell}
use Rattle.ca_identify.specs.inner.Stages.{EndsWithin, HasNoReturn}
use Rattle.ca_pattern.specs.Prelude.{ShowsTree}
use Rattle.ca_identify.proofs.LaterPlanes.{tree_picture}
use Rattle.ca_pattern.proofs.LeaptTrees.{ok_as}
use Rattle.ca_identify.proofs.NoReturn.{tree_ended}
use Rattle.ca_identify.proofs.LaterLeapers.{pictures_before, search_stays}
use Rattle.ca_identify.proofs.Stages.{low_start}
use Rattle.ca_identify.proofs.identification.leaps.+has_no_return.Goals as goal

pub returns-in_default-clause-never : goal.returns-in_default-clause-never
returns-in_default-clause-never g t c = λ cells shows without _. c.in_ok-found.ensures.gone cells shows without c.in_default.is

pub is_back_soon-requires : goal.is_back_soon-requires
is_back_soon-requires g t c =
    let can = search_stays g.A.Automaton.next_of c.in_ok-found.ensures.goes_on c.requires.first c.args.seen c.requires.within in
    let later = rw c.in-Some.is at c.in_ok-found.ensures.later in
    let tree = later.tree in
    let low = c.if-later-gt62.false in
    record {
      settled = record {
        sound = can.sound;
        quiet = can.quiet;
        is_first = record { start = low_start c.later_plane.new.leaper.nodes c.in-Some.later.tree can.sound tree.near.is_tree tree.trimmed (omega (arith, low)); box = later.box };
        most = can.most;
      };
    }

pub returns-clause-never : goal.returns-clause-never
returns-clause-never g t c = λ cells shows without.
    let next = g.A.Automaton.next_of in
    let nodes = c.later_plane.new.leaper.nodes in
    let found = rw c.in-Some.is at c.in_ok-found.ensures.later in
    let end = c.in-Some.later.tree in
    let (later, same) = tree_picture nodes end in
    let shown : ShowsTree nodes end later = λ x y. sym (same x y) in
    let back = subst (λ r. IfOk c.is_back_soon.result (λ back. IsTrue back → EndsWithin (next r) later c.args.seen)) c.in_ok-found.ensures.goes_on.rule (c.is_back_soon.ensures.back later shown) in
    ok_as c.is_back_soon.result (λ back. IsTrue back → EndsWithin (next c.args.leaper.now.rule) later c.args.seen) _
    (λ b ends told. tree_ended (next c.args.leaper.now.rule) c.requires.first.quiet (cell c.args.leaper.now.nodes c.args.first.now.tree) cells shows _
    nodes end found.tree c.args.seen c.args.limit c.requires.some without later shown (ends told)) back

pub has_no_return-requires : goal.has_no_return-requires
has_no_return-requires g t c κs within =
    let first = search_stays g.A.Automaton.next_of c.in_ok-found.ensures.goes_on c.requires.first c.args.limit (omega arith) in
    let far : c.min.result ≤ 64 = omega (arith, c.min.ensures) in
    let more : c.args.times < c.min.result = omega (arith, c.min.ensures, c.requires.once, c.if-times-lt-FAR.true) in
    search rules

pub returns-then-times-lt-FAR-clause-never : goal.returns-then-times-lt-FAR-clause-never
returns-then-times-lt-FAR-clause-never g t c =
    pictures_before g.A.Automaton.next_of c.in_ok-found.ensures.goes_on c.requires.first
    (λ n p. HasNoReturn n p c.args.seen → IfOk c.has_no_return.result (λ never. IsTrue never → HasNoReturn n p c.args.limit)) c.has_no_return.ensures.never
