use Rattle.std.proofs.Common.{◌≡◌, ◌+◌, ◌≤◌, List, [], ◌∷◌, length, refl, sym, ap, ◌∙◌, subst, arith}
use Rattle.std.proofs.lemmas.List.{get_or_append_left, length_push}
use Rattle.ca_plane.specs.Prelude.{Picture, IsAfter, IsSame, shifted, longest_period}
use Rattle.ca_parts.specs.Prelude.{Course, plane_at}
use Rattle.ca_parts.specs.Phases.{IsShortStep}
use Rattle.ca_parts.proofs.RowOrder.{true_and_false}
use Rattle.ca_clusters.specs.Prelude.{GoesRound}
use Rattle.ca_clusters.specs.inner.Runs.{IsBeginning}
use Rattle.ca_clusters.proofs.PartRuns.{IsBeginning-more, GoesRound-back, short_steps, is_first, back_by}
use Rattle.ca_clusters.proofs.part.run_part.Given.{Over}
use Rattle.ca_clusters.proofs.part.run_part.Goals as goal
use Rattle.ca_clusters.proofs.part.run_part.Goals.{In-Some}

-- the later plane is the first one, moved
back : (g : Over) (c : In-Some g) → IsAfter (g.A.Automaton.next_of c.args.rule.now) (plane_at c.generations.planes.items 0) (length c.generations.planes.items) (shifted (plane_at c.generations.planes.items 0) c.in-Some.shift.dx c.in-Some.shift.dy)
back g c =
    let next = g.A.Automaton.next_of c.args.rule.now in
    let planes = c.generations.planes.items in
    let later = c.in_ok-later.later in
    back_by next planes c.index.result.now later c.in-Some.shift.dx c.in-Some.shift.dy
    (is_first planes c.index.result.now c.generations.invariant.beginning.some c.index.ensures)
    (subst (λ (l : List Picture). IsAfter next (plane_at l 0) (length l) later) c.deref.ensures.value c.in_ok-later.ensures.later.after)
    c.in-Some.ensures.some

short : (g : Over) (c : In-Some g) → IsShortStep c.in-Some.shift.dx × IsShortStep c.in-Some.shift.dy
short g c =
    let quiet = g.met.A.Automaton.quiet c.args.rule.now c.states-states.ensures.sound in
    let few : length c.generations.planes.items ≤ longest_period = omega (arith, c.requires.most, c.generations-test.true, c.len.ensures) in
    short_steps (g.A.Automaton.next_of c.args.rule.now) quiet (plane_at c.generations.planes.items 0) (length c.generations.planes.items) _ _ c.generations.invariant.beginning.live few (back g c)

pub round_part-requires-clause-across : goal.round_part-requires-clause-across
round_part-requires-clause-across g c = (short g c).0

pub round_part-requires-clause-down : goal.round_part-requires-clause-down
round_part-requires-clause-down g c = (short g c).1

pub returns-in-Some-clause-run : goal.returns-in-Some-clause-run
returns-in-Some-clause-run g c =
    let a = goal.at.returns-in-Some-clause-run g c in
    let next = g.A.Automaton.next_of c.args.rule.now in
    let count = g.A.Automaton.state_count c.args.rule.now in
    let beginning = c.generations.invariant.beginning in
    let shows = c.round_part.ensures.shows in
    record {
      run = record {
        beginning = subst (λ (course : Course). IsBeginning next count course.planes) (sym shows) beginning;
        round = λ _. subst (GoesRound next) (sym shows) (GoesRound-back next count c.generations.planes.items _ _ beginning (back g a.In-Some));
      };
      far = λ open_yet. absurd (true_and_false c.round_part.result.is_back c.round_part.ensures.back open_yet);
    }

pub generations-preserved : goal.generations-preserved
generations-preserved g c =
    let next = g.A.Automaton.next_of c.args.rule.now in
    let count = g.A.Automaton.state_count c.args.rule.now in
    let planes = c.generations.planes.items in
    let later = c.in_ok-later.later in
    let inv = c.generations.invariant in
    let items = c.in_ok-push.ensures.items in
    let long : length c.push.new.self.items ≡ length planes + 1 = ap length items ∙ length_push planes later in
    let first = is_first planes c.index.result.now inv.beginning.some c.index.ensures in
    record {
      beginning = subst (IsBeginning next count) (sym items)
          (IsBeginning-more next count planes later inv.beginning
          (subst (λ (l : List Picture). IsAfter next (plane_at l 0) (length l) later) c.deref.ensures.value c.in_ok-later.ensures.later.after)
          c.in_ok-later.ensures.later.states
          (λ dx dy same. c.in_default.ensures.none refl dx dy (subst (λ (q : Picture). IsSame later (shifted q dx dy)) (sym first) same)));
      first = ap (λ (l : List Picture). plane_at l 0) items ∙ get_or_append_left planes (later ∷ []) [] 0 inv.beginning.some ∙ inv.first;
      most = omega (arith, long, c.generations-test.true, c.len.ensures);
      budget = omega (arith, inv.budget, c.in_ok-later.ensures.budget);
    }
