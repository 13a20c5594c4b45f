use Rattle.std.proofs.Common.{◌≡◌, ℕ, ◌+◌, ◌-◌, refl, sym, subst, ◌∙◌, arith}
use Rattle.std.specs.Prelude.{ℤ}
use Rattle.ca_plane.specs.Prelude.{cells_after}
use Rattle.ca_quad.specs.Prelude.{cell}
use Rattle.ca_run.proofs.LeaperGrowth.{goes_on_same, goes_on_again}
use Rattle.ca_identify.specs.inner.Stages.{IsStage, IsHalted}
use Rattle.ca_evolution.specs.Prelude.{TakesSteps}
use Rattle.ca_pattern.specs.Prelude.{IsLaterTree}
use Rattle.ca_identify.proofs.Identities.{found_ending, ending_time, no_ending}
use Rattle.ca_identify.proofs.LaterPlanes.{on_err}
use Rattle.ca_identify.proofs.LaterLeapers.{as_before, as_then, search_stays}
use Rattle.ca_identify.proofs.Stages.{one_more_other, later_stays}
use Rattle.ca_evolution.proofs.Steps.{no_step, one_more_step, fewer_steps}
use Rattle.ca_identify.proofs.identification.walk.look_on.Goals as goal
use Rattle.ca_identify.proofs.identification.walk.look_on.Goals.{In_ok-later}

-- after one generation more
module _ (g : _) (c : In_ok-later g) where
  abbrev first : ℤ → ℤ → ℕ
  first = cell c.args.leaper.now.nodes c.args.first.now.tree

  abbrev stages : ℕ → ℤ → ℤ → ℕ
  stages = cells_after (g.A.Automaton.next_of c.args.leaper.now.rule) first

  -- what the first pattern's plane shows
  told : IsStage first (stages (c.generations.walk.generations + 1)) c.in_ok-later.later.stage
  told =
      let inv = c.generations.invariant in
      as_before g.A.Automaton.next_of inv.goes_on c.requires.walk.pattern (λ n p. IsStage p (cells_after n p (c.generations.walk.generations + 1)) c.in_ok-later.later.stage) c.in_ok-later.ensures.stage

  -- what it took so far
  took : TakesSteps c.args.leaper.now.spent.used c.step.new.leaper.spent.used stages c.args.end (c.generations.walk.generations - c.args.walk.now.generations + 1)
  took =
      let inv = c.generations.invariant in
      one_more_step _ _ _ stages c.args.end (c.generations.walk.generations - c.args.walk.now.generations) c.generations.walk.generations c.generations.leaper.nodes c.generations.walk.tree
      inv.walk.now.trimmed inv.walk.now.shows (omega (arith, c.generations-test.true)) inv.takes c.step.ensures.takes

  -- and what may be taken till the end
  takes : TakesSteps c.args.leaper.now.spent.used c.step.new.leaper.spent.used stages c.args.end (c.args.end - c.args.walk.now.generations)
  takes =
      let begun = c.generations.invariant.begun in
      fewer_steps _ _ stages c.args.end (c.generations.walk.generations - c.args.walk.now.generations + 1) (c.args.end - c.args.walk.now.generations) (omega (arith, begun, c.generations-test.true)) took

pub generations-init : goal.generations-init
generations-init g c = record {
  goes_on = goes_on_same _ c.args.leaper.now c.requires.walk.pattern.sound;
  walk = c.requires.walk.is_walk;
  begun = omega arith;
  within = c.requires.walk.within;
  bounded = omega arith;
  takes = no_step _ _ _ c.args.end (c.args.walk.now.generations - c.args.walk.now.generations) refl;
}

pub step-requires-clause-first : goal.step-requires-clause-first
step-requires-clause-first g c = search_stays g.A.Automaton.next_of c.generations.invariant.goes_on c.requires.walk.pattern (c.generations.walk.generations + 1) (omega (arith, c.generations-test.true))

pub step-requires-clause-now : goal.step-requires-clause-now
step-requires-clause-now g c =
    let inv = c.generations.invariant in
    as_then g.A.Automaton.next_of inv.goes_on c.requires.walk.pattern (λ n p. IsLaterTree n p c.generations.walk.generations c.generations.leaper.nodes c.generations.walk.tree) inv.walk.now

pub returns-in_err-later-clause-halted : goal.returns-in_err-later-clause-halted
returns-in_err-later-clause-halted g c =
    let inv = c.generations.invariant in
    let next = g.A.Automaton.next_of c.args.leaper.now.rule in
    let p = cell c.args.leaper.now.nodes c.args.first.now.tree in
    let halted : IsHalted next p c.step.new.leaper.nodes c.args.walk.now.generations c.args.end
    (record { tree = c.generations.walk.tree; generations = c.generations.walk.generations; boxes = c.step.new.boxes }) = record {
      now = later_stays inv.goes_on.grows.sound c.in_err-later.ensures.goes_on.grows inv.walk.now;
      others = inv.walk.others;
      later = inv.begun;
      within = inv.within;
    } in
    on_err _ _ halted

pub returns-in_err-later-clause-takes : goal.returns-in_err-later-clause-takes
returns-in_err-later-clause-takes g c =
    let inv = c.generations.invariant in
    let begun = inv.begun in
    let stages = cells_after (g.A.Automaton.next_of c.args.leaper.now.rule) (cell c.args.leaper.now.nodes c.args.first.now.tree) in
    fewer_steps _ _ stages c.args.end (c.generations.walk.generations - c.args.walk.now.generations + 1) (c.args.end - c.args.walk.now.generations) (omega (arith, begun, c.generations-test.true))
    (one_more_step _ _ _ stages c.args.end (c.generations.walk.generations - c.args.walk.now.generations) c.generations.walk.generations c.generations.leaper.nodes c.generations.walk.tree
    inv.walk.now.trimmed inv.walk.now.shows (omega (arith, c.generations-test.true)) inv.takes c.step.ensures.takes)

pub returns-in-Some-clause-found : goal.returns-in-Some-clause-found
returns-in-Some-clause-found g c =
    let a = (goal.at.returns-in-Some-clause-found g c).In_ok-later in
    let n = c.generations.walk.generations in
    let pattern = c.requires.walk.pattern in
    let ends = sym c.ending.ensures ∙ c.in-Some.is in
    let time = ending_time c.in_ok-later.later.stage (n + 1) c.in-Some.ending ends in (
      λ cells shows.
          found_ending (g.A.Automaton.next_of c.args.leaper.now.rule) pattern.quiet c.args.leaper.now.nodes c.args.first.now pattern.is_first cells shows n c.generations.invariant.walk.others
          c.args.end (omega (arith, c.generations-test.true)) pattern.most c.in_ok-later.later.stage c.in-Some.ending ends (told g a),
      omega (arith, time, c.generations-test.true),
    )

pub returns-in-Some-clause-goes_on : goal.returns-in-Some-clause-goes_on
returns-in-Some-clause-goes_on g c = goes_on_again _ _ _ _ c.generations.invariant.goes_on c.in_ok-later.ensures.goes_on

pub returns-in-Some-clause-takes : goal.returns-in-Some-clause-takes
returns-in-Some-clause-takes g c = takes g (goal.at.returns-in-Some-clause-takes g c).In_ok-later

pub generations-preserved : goal.generations-preserved
generations-preserved g c =
    let inv = c.generations.invariant in
    let n = c.generations.walk.generations in
    let a = (goal.at.generations-preserved g c).In_ok-later in
    let begun = inv.begun in
    let sum : n - c.args.walk.now.generations + 1 ≡ n + 1 - c.args.walk.now.generations = omega (arith, begun) in
    record {
      goes_on = goes_on_again _ _ _ _ inv.goes_on c.in_ok-later.ensures.goes_on;
      walk = record {
        now = as_before g.A.Automaton.next_of inv.goes_on c.requires.walk.pattern (λ m p. IsLaterTree m p (n + 1) c.step.new.leaper.nodes c.in_ok-later.later.tree) c.in_ok-later.ensures.tree;
        others = one_more_other (g.A.Automaton.next_of c.args.leaper.now.rule) (first g a) n inv.walk.others (subst (IsStage (first g a) (stages g a (n + 1))) (no_ending c.in_ok-later.later.stage (n + 1) (sym c.ending.ensures ∙ c.in_default.is)) (told g a));
        boxes = c.in_ok-later.ensures.boxes;
      };
      begun = omega (arith, begun);
      within = omega (arith, c.generations-test.true);
      bounded = let bounded = inv.bounded in omega (arith, bounded, c.in_ok-later.ensures.bounded);
      takes = subst (TakesSteps c.args.leaper.now.spent.used c.step.new.leaper.spent.used (stages g a) c.args.end) sum (took g a);
    }

pub returns-clause-found : goal.returns-clause-found
returns-clause-found g c = (c.generations.invariant.walk, omega (arith, c.generations-test.false), c.generations.invariant.within)

pub returns-clause-takes : goal.returns-clause-takes
returns-clause-takes g c =
    let inv = c.generations.invariant in
    let begun = inv.begun in
    let within = inv.within in
    fewer_steps _ _ (cells_after (g.A.Automaton.next_of c.args.leaper.now.rule) (cell c.args.leaper.now.nodes c.args.first.now.tree)) c.args.end (c.generations.walk.generations - c.args.walk.now.generations)
    (c.args.end - c.args.walk.now.generations) (omega (arith, begun, within)) inv.takes
