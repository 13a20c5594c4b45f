use Rattle.std.proofs.Common.{None, Some, refl, sym, subst}
use Rattle.std.specs.Prelude.{MatchOption}
use Rattle.ca_plane.specs.Prelude.{cells_after}
use Rattle.ca_quad.specs.Prelude.{cell}
use Rattle.ca_evolution.specs.Prelude.{TakesSteps}
use Rattle.ca_pattern.proofs.Starts.{near_start}
use Rattle.ca_answers.specs.Prelude.{IsNoObject, IsCodeOf, steps_of}
use Rattle.ca_identify_runs.specs.inner.CodedLooks.{IsFoundCode}
use Rattle.ca_apgcode_search.proofs.FrameShows.{later_by}
use Rattle.ca_identify_runs.proofs.CodedFiles.{found_period, found_steps, found_shows, found_code, look_alone, look_then_steps}
use Rattle.ca_identify_runs.proofs.coded_files.look_and_code.Goals as goal

pub code_of_tree-requires-clause-period : goal.code_of_tree-requires-clause-period
code_of_tree-requires-clause-period g c =
    found_period (g.A.Automaton.next_of c.args.leaper.now.rule) c.args.leaper.now.nodes c.look_at_plane.new.leaper.nodes c.args.pattern c.args.generations c.args.scope c.in_ok-found.found c.in_ok-found.ensures.look

pub quick_code-requires-clause-period : goal.quick_code-requires-clause-period
quick_code-requires-clause-period g c =
    found_period (g.A.Automaton.next_of c.args.leaper.now.rule) c.args.leaper.now.nodes c.look_at_plane.new.leaper.nodes c.args.pattern c.args.generations c.args.scope c.in_ok-found.found c.in_ok-found.ensures.look

pub quick_code-requires-clause-tree : goal.quick_code-requires-clause-tree
quick_code-requires-clause-tree g c = near_start c.look_at_plane.new.leaper.nodes c.in_ok-found.found.tree c.in_ok-found.ensures.start

pub returns-in-Some-clause-found : goal.returns-in-Some-clause-found
returns-in-Some-clause-found g c = λ cells shows.
    let next = g.A.Automaton.next_of c.args.leaper.now.rule in
    let old = c.args.leaper.now.nodes in
    let new = c.look_at_plane.new.leaper.nodes in
    let found = c.in_ok-found.found in
    let identity = found.look.identity in
    let (later, stands, shown, look) = c.in_ok-found.ensures.look cells shows in
    let by = later_by next c.args.counting (cell old c.args.pattern) (cell new found.tree) c.args.generations (found_shows next old new c.args.pattern c.args.generations c.args.scope found c.in_ok-found.ensures.look) c.requires.counting in
    let quick = rw c.in-Some.is at (c.in_ok-quick.ensures next later found.look.limit (g.met.A.Automaton.quiet c.args.leaper.now.rule c.store.ensures.rule) by look.identity shown) in (
      later,
      stands,
      look,
      subst (λ b. IsFoundCode next later identity b (Some c.in-Some.quick)) (sym c.if-not-coded.false) quick,
    )

pub returns-in_err-quick-clause-takes : goal.returns-in_err-quick-clause-takes
returns-in_err-quick-clause-takes g c = look_alone (g.A.Automaton.next_of c.args.leaper.now.rule) (cell c.args.leaper.now.nodes c.args.pattern) _ _ _ _ _ c.in_ok-found.ensures.takes

pub returns-in-Some-clause-takes : goal.returns-in-Some-clause-takes
returns-in-Some-clause-takes g c = look_alone (g.A.Automaton.next_of c.args.leaper.now.rule) (cell c.args.leaper.now.nodes c.args.pattern) _ _ _ _ _ c.in_ok-found.ensures.takes

pub returns-then-not-coded-clause-found : goal.returns-then-not-coded-clause-found
returns-then-not-coded-clause-found g c = λ cells shows.
    let next = g.A.Automaton.next_of c.args.leaper.now.rule in
    let found = c.in_ok-found.found in
    let (later, stands, shown, look) = c.in_ok-found.ensures.look cells shows in
    (later, stands, look, subst (λ b. IsFoundCode next later found.look.identity b None) (sym c.if-not-coded.true) refl)

pub returns-clause-found : goal.returns-clause-found
returns-clause-found g c = λ cells shows.
    let next = g.A.Automaton.next_of in
    let old = c.args.leaper.now.rule in
    let tree = c.in_ok-found.found.tree in
    let identity = c.in_ok-found.found.look.identity in
    let code = c.in_ok-code.code in
    let (later, stands, shown, look) = c.in_ok-found.ensures.look cells shows in
    let rule = c.in_ok-found.ensures.goes_on.rule in (
      later,
      stands,
      look,
      subst (λ b. IsFoundCode (next old) later identity b code) (sym c.if-not-coded.false)
          (found_code (next old) later identity code
          (subst (λ r. MatchOption code (IsNoObject identity) (λ text. IsCodeOf (next r) later identity text.items)) rule (c.in_ok-code.ensures.code later shown))),
    )

pub returns-in_err-found-clause-takes : goal.returns-in_err-found-clause-takes
returns-in_err-found-clause-takes g c = look_alone (g.A.Automaton.next_of c.args.leaper.now.rule) (cell c.args.leaper.now.nodes c.args.pattern) _ _ _ _ _ c.look_at_plane.ensures.takes

pub returns-then-not-coded-clause-takes : goal.returns-then-not-coded-clause-takes
returns-then-not-coded-clause-takes g c = look_alone (g.A.Automaton.next_of c.args.leaper.now.rule) (cell c.args.leaper.now.nodes c.args.pattern) _ _ _ _ _ c.in_ok-found.ensures.takes

pub returns-in_err-code-clause-takes : goal.returns-in_err-code-clause-takes
returns-in_err-code-clause-takes g c =
    let next = g.A.Automaton.next_of in
    let old = c.args.leaper.now in
    let mid = c.look_at_plane.new.leaper in
    let new = c.code_of_tree.new.leaper in
    let found = c.in_ok-found.found in
    let steps = steps_of found.look.identity in
    look_then_steps (next old.rule) (cell old.nodes c.args.pattern) old.spent.used mid.spent.used new.spent.used c.args.pattern.level c.args.generations c.args.scope.limit steps mid.nodes found.tree
    c.in_ok-found.ensures.takes (found_shows (next old.rule) old.nodes mid.nodes c.args.pattern c.args.generations c.args.scope found c.in_ok-found.ensures.look)
    (found_steps (next old.rule) old.nodes mid.nodes c.args.pattern c.args.generations c.args.scope found c.in_ok-found.ensures.look)
    (subst (λ r. TakesSteps mid.spent.used new.spent.used (cells_after (next r) (cell mid.nodes found.tree)) steps steps) c.in_ok-found.ensures.goes_on.rule c.code_of_tree.ensures.takes)

pub returns-clause-takes : goal.returns-clause-takes
returns-clause-takes g c =
    let next = g.A.Automaton.next_of in
    let old = c.args.leaper.now in
    let mid = c.look_at_plane.new.leaper in
    let new = c.code_of_tree.new.leaper in
    let found = c.in_ok-found.found in
    let steps = steps_of found.look.identity in
    look_then_steps (next old.rule) (cell old.nodes c.args.pattern) old.spent.used mid.spent.used new.spent.used c.args.pattern.level c.args.generations c.args.scope.limit steps mid.nodes found.tree
    c.in_ok-found.ensures.takes (found_shows (next old.rule) old.nodes mid.nodes c.args.pattern c.args.generations c.args.scope found c.in_ok-found.ensures.look)
    (found_steps (next old.rule) old.nodes mid.nodes c.args.pattern c.args.generations c.args.scope found c.in_ok-found.ensures.look)
    (subst (λ r. TakesSteps mid.spent.used new.spent.used (cells_after (next r) (cell mid.nodes found.tree)) steps steps) c.in_ok-found.ensures.goes_on.rule c.in_ok-code.ensures.takes)
