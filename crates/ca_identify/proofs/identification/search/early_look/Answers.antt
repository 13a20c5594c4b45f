use Rattle.std.proofs.Common.{◌+◌, ◌≤◌, ℕ, arith}
use Rattle.ca_plane.specs.Prelude.{cells_after}
use Rattle.ca_quad.specs.Prelude.{cell}
use Rattle.ca_identify.specs.inner.Stages.{IsHalted, IsLookedAt, TakesEarly, early_work}
use Rattle.ca_identify.proofs.LaterLeapers.{as_before, walk_nearer, walks_on}
use Rattle.ca_identify.proofs.LaterPlanes.{on_err}
use Rattle.ca_identify.proofs.Stages.{halted_within, looked_from, step_then_early}
use Rattle.ca_identify.proofs.identification.search.early_look.Goals as goal
use Rattle.ca_identify.proofs.identification.search.early_look.Goals.{In_ok-one}

module _ (g : _) (c : In_ok-one g) where
  -- what all takes
  pub all_take : (new : ℕ) → new ≤ c.look_on.new.leaper.spent.used + early_work c.args.reach.limit
      → TakesEarly c.args.leaper.now.spent.used new (cells_after (g.A.Automaton.next_of c.args.leaper.now.rule) (cell c.args.leaper.now.nodes c.args.first.now.tree)) c.args.walk.now.generations c.args.sure c.args.reach.limit
  all_take new takes =
      step_then_early _ c.look_on.new.leaper.spent.used new (cells_after (g.A.Automaton.next_of c.args.leaper.now.rule) (cell c.args.leaper.now.nodes c.args.first.now.tree)) c.args.walk.now.generations c.args.sure c.args.reach.limit
      (omega (arith, c.requires.sure, c.requires.within)) c.in_ok-one.ensures.takes takes

pub look_on-requires : goal.look_on-requires
look_on-requires g c = record { walk = walk_nearer c.requires.walk c.args.sure (omega (arith, c.requires.sure, c.requires.within)) c.requires.begun }

pub returns-in_err-one-clause-takes : goal.returns-in_err-one-clause-takes
returns-in_err-one-clause-takes g c =
    step_then_early _ _ _ (cells_after (g.A.Automaton.next_of c.args.leaper.now.rule) (cell c.args.leaper.now.nodes c.args.first.now.tree)) c.args.walk.now.generations c.args.sure c.args.reach.limit
    (omega (arith, c.requires.sure, c.requires.within)) c.in_err-one.ensures.takes (omega arith)

pub returns-in_err-one-clause-halted : goal.returns-in_err-one-clause-halted
returns-in_err-one-clause-halted g c = on_err _ _ (halted_within c.in_err-one.ensures.halted c.args.walk.now.generations c.args.early (omega arith) c.requires.sure)

pub returns-in-Some-clause-found : goal.returns-in-Some-clause-found
returns-in-Some-clause-found g c =
    let found = rw c.in-Some.is at c.in_ok-one.ensures.found in
    let time = found.1 in
    (found.0, omega (arith, time, c.requires.sure))

pub returns-in-Some-clause-takes : goal.returns-in-Some-clause-takes
returns-in-Some-clause-takes g c = all_take g (goal.at.returns-in-Some-clause-takes g c).In_ok-one _ (omega arith)

pub look_within_share-requires-clause-walk : goal.look_within_share-requires-clause-walk
look_within_share-requires-clause-walk g c =
    let walked = rw c.in_default.is at c.in_ok-one.ensures.found in
    let end = walked.2 in
    walks_on g.A.Automaton.next_of c.in_ok-one.ensures.goes_on c.requires.walk.pattern c.look_on.new.walk c.args.reach.limit (omega arith) (omega (arith, end, c.requires.sure, c.requires.within)) walked.0

pub look_within_share-requires-clause-begun : goal.look_within_share-requires-clause-begun
look_within_share-requires-clause-begun g c =
    let walked = rw c.in_default.is at c.in_ok-one.ensures.found in
    let end = walked.2 in
    omega (arith, end, c.requires.sure)

pub returns-in_err-found-clause-halted : goal.returns-in_err-found-clause-halted
returns-in_err-found-clause-halted g c =
    let walked = rw c.in_default.is at c.in_ok-one.ensures.found in
    let sure = walked.1 in
    let told = as_before g.A.Automaton.next_of c.in_ok-one.ensures.goes_on c.requires.walk.pattern
    (λ n p. IsHalted n p c.look_within_share.new.leaper.nodes c.look_on.new.walk.generations c.args.early c.look_within_share.new.walk) c.in_err-found.ensures.halted in
    on_err _ _ (halted_within told c.args.walk.now.generations c.args.early (omega (arith, sure, c.requires.begun)) (omega arith))

pub returns-in_err-found-clause-takes : goal.returns-in_err-found-clause-takes
returns-in_err-found-clause-takes g c = all_take g (goal.at.returns-in_err-found-clause-takes g c).In_ok-one _ c.in_err-found.ensures.takes

pub returns-clause-takes : goal.returns-clause-takes
returns-clause-takes g c = all_take g (goal.at.returns-clause-takes g c).In_ok-one _ c.in_ok-found.ensures.takes

pub returns-clause-found : goal.returns-clause-found
returns-clause-found g c =
    let walked = rw c.in_default.is at c.in_ok-one.ensures.found in
    let sure = walked.1 in
    let s2 = c.look_within_share.new.leaper.nodes in
    let walk = c.look_within_share.new.walk in
    let told = as_before g.A.Automaton.next_of c.in_ok-one.ensures.goes_on c.requires.walk.pattern
    (λ n p. IsLookedAt n p s2 c.look_on.new.walk.generations c.args.early walk c.in_ok-found.found) c.in_ok-found.ensures.found in
    looked_from (g.A.Automaton.next_of c.args.leaper.now.rule) (cell c.args.leaper.now.nodes c.args.first.now.tree) s2 c.args.sure c.look_on.new.walk.generations c.args.early walk c.in_ok-found.found sure told
