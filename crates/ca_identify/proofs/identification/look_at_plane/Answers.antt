use Rattle.std.proofs.Common.{ℕ, Ok, subst, ◌∙◌, arith}
use Rattle.ca_plane.specs.Prelude.{cells_after}
use Rattle.ca_quad.specs.Prelude.{IsDead, IsLeastWideBox, cell}
use Rattle.ca_answers.specs.declared.identity.Identity.TheVariants.{Empty}
use Rattle.ca_identify.specs.declared.tree_look.TreeLook.{TreeLook}
use Rattle.ca_answers.specs.Prelude.{IsLook}
use Rattle.ca_identify.specs.inner.Stages.{TakesSearch}
use Rattle.ca_identify.specs.TreeLooks.{TakesRunAndSearch}
use Rattle.ca_identify.proofs.Identities.{found_later, whole_look, no_work_needed}
use Rattle.ca_pattern.specs.Prelude.{ShowsTree, IsStart}
use Rattle.ca_pattern.proofs.LeaptTrees.{shows_stays}
use Rattle.ca_pattern.proofs.Nearby.{later_outside}
use Rattle.ca_identify.proofs.Stages.{run_alone, run_then_steps}
use Rattle.ca_pattern.proofs.Starts.{later_start, start_stays}
use Rattle.ca_identify.proofs.identification.look_at_plane.Goals as goal
use Rattle.ca_identify.proofs.identification.look_at_plane.Goals.{In_ok-start}

pub later_tree-requires : goal.later_tree-requires
later_tree-requires g c =
    let pattern = c.requires.pattern in
    record {
      is_tree = pattern.is_tree;
      low = let low = pattern.low in omega (arith, low);
      trimmed = pattern.trimmed;
      few = c.requires.few;
      near = later_outside (g.A.Automaton.next_of c.args.leaper.now.rule) (cell c.args.leaper.now.nodes c.args.pattern) c.args.generations
          (g.met.A.Automaton.quiet c.args.leaper.now.rule c.store.ensures.rule) pattern.range c.requires.few;
    }

-- the plane that is looked at
module _ (g : _) (c : In_ok-start g) where
  pub is_start : IsStart c.later_tree.new.leaper.nodes c.in_ok-start.start
  is_start =
      later_start (g.A.Automaton.next_of c.args.leaper.now.rule) (cell c.args.leaper.now.nodes c.args.pattern) c.args.generations c.later_tree.new.leaper.nodes c.in_ok-start.start
      (g.met.A.Automaton.quiet c.args.leaper.now.rule c.store.ensures.rule) c.requires.pattern.range c.requires.few c.in_ok-start.ensures.later

  -- what the run to it takes, and a search from there
  pub all_take : (new : ℕ)
      → TakesSearch c.later_tree.new.leaper.spent.used new (cells_after (g.A.Automaton.next_of c.later_tree.new.leaper.rule) (cell c.later_tree.new.leaper.nodes c.in_ok-start.start)) c.args.scope.limit
      → TakesRunAndSearch c.args.leaper.now.spent.used new c.args.pattern.level c.args.generations (cells_after (g.A.Automaton.next_of c.args.leaper.now.rule) (cell c.args.leaper.now.nodes c.args.pattern)) c.args.scope.limit
  all_take new takes =
      let next = g.A.Automaton.next_of in
      let mid = c.later_tree.new.leaper in
      let start = c.in_ok-start.start in
      run_then_steps (next c.args.leaper.now.rule) (cell c.args.leaper.now.nodes c.args.pattern) c.args.leaper.now.spent.used mid.spent.used new
      c.args.pattern.level c.args.generations c.args.scope.limit mid.nodes start c.in_ok-start.ensures.later c.in_ok-start.ensures.takes
      (subst (λ r. TakesSearch mid.spent.used new (cells_after (next r) (cell mid.nodes start)) c.args.scope.limit) c.in_ok-start.ensures.goes_on.rule takes)

pub look-requires-clause-first : goal.look-requires-clause-first
look-requires-clause-first g c = record {
  sound = c.store-2.ensures.sound;
  quiet = g.met.A.Automaton.quiet c.later_tree.new.leaper.rule c.store-2.ensures.rule;
  is_first = record {
    start = is_start g (goal.at.look-requires-clause-first g c).In_ok-start;
    box = subst (λ s. IsLeastWideBox (cell s c.in_ok-start.start) c.in-Some.bounds) c.store-2.ensures.nodes (rw c.in-Some.is at c.in_ok-bounds.ensures);
  };
  most = c.requires.most;
}

pub returns-in_default-clause-look : goal.returns-in_default-clause-look
returns-in_default-clause-look g c = λ cells shows.
    let next = g.A.Automaton.next_of c.args.leaper.now.rule in
    let mid = c.later_tree.new.leaper.nodes in
    let start = c.in_ok-start.start in
    let dead = subst (λ s. IsDead (cell s start)) c.store-2.ensures.nodes (rw c.in_default.is at c.in_ok-bounds.ensures) in
    let (later, stands, told) = found_later next (cell c.args.leaper.now.nodes c.args.pattern) cells c.args.generations mid start (λ last (found : TreeLook). ShowsTree mid found.tree last × IsLook next last c.args.scope found.look)
    (Ok (record { tree = start; look = record { identity = Empty; limit = c.args.scope.limit; work = 0 } })) shows c.in_ok-start.ensures.later
    (λ last shown. (shown, whole_look next last c.args.scope Empty 0 (λ live. live.2 (shown live.0 live.1 ∙ dead live.0 live.1)) (no_work_needed _ c.args.scope.limit))) in
    (later, stands, told.0, told.1)

pub returns-in_default-clause-start : goal.returns-in_default-clause-start
returns-in_default-clause-start g c = is_start g (goal.at.returns-in_default-clause-start g c).In_ok-start

pub returns-clause-look : goal.returns-clause-look
returns-clause-look g c = λ cells shows.
    let next = g.A.Automaton.next_of in
    let mid = c.later_tree.new.leaper.nodes in
    let new = c.look.new.leaper.nodes in
    let start = c.in_ok-start.start in
    let found = c.in_ok-found.found in
    let later = c.in_ok-start.ensures.later in
    let (last, stands, told) = found_later (next c.args.leaper.now.rule) (cell c.args.leaper.now.nodes c.args.pattern) cells c.args.generations mid start
    (λ last (found : TreeLook). ShowsTree new found.tree last × IsLook (next c.args.leaper.now.rule) last c.args.scope found.look) (Ok (record { tree = start; look = found })) shows later
    (λ last shown. (
      shows_stays mid new c.store-2.ensures.sound c.in_ok-found.ensures.goes_on.grows start last later.near.is_tree shown,
      subst (λ r. IsLook (next r) last c.args.scope found) c.in_ok-start.ensures.goes_on.rule (c.in_ok-found.ensures.look last shown),
    )) in
    (last, stands, told.0, told.1)

pub returns-clause-start : goal.returns-clause-start
returns-clause-start g c =
    start_stays c.later_tree.new.leaper.nodes c.look.new.leaper.nodes c.store-2.ensures.sound c.in_ok-found.ensures.goes_on.grows c.in_ok-start.start (is_start g (goal.at.returns-clause-start g c).In_ok-start)

pub returns-in_err-bounds-clause-takes : goal.returns-in_err-bounds-clause-takes
returns-in_err-bounds-clause-takes g c =
    run_alone (g.A.Automaton.next_of c.args.leaper.now.rule) (cell c.args.leaper.now.nodes c.args.pattern) _ _ c.args.pattern.level c.args.generations c.args.scope.limit c.in_ok-start.ensures.takes

pub returns-in_default-clause-takes : goal.returns-in_default-clause-takes
returns-in_default-clause-takes g c =
    run_alone (g.A.Automaton.next_of c.args.leaper.now.rule) (cell c.args.leaper.now.nodes c.args.pattern) _ _ c.args.pattern.level c.args.generations c.args.scope.limit c.in_ok-start.ensures.takes

pub returns-in_err-found-clause-takes : goal.returns-in_err-found-clause-takes
returns-in_err-found-clause-takes g c = all_take g (goal.at.returns-in_err-found-clause-takes g c).In_ok-start _ c.look.ensures.takes

pub returns-clause-takes : goal.returns-clause-takes
returns-clause-takes g c = all_take g (goal.at.returns-clause-takes g c).In_ok-start _ c.in_ok-found.ensures.takes

pub returns-in_default-clause-counted : goal.returns-in_default-clause-counted
returns-in_default-clause-counted g c = (c.later_tree.new.leaper.spent.used, c.in_ok-start.ensures.takes, c.in_ok-start.ensures.goes_on.spends.rises, omega arith)

pub returns-clause-counted : goal.returns-clause-counted
returns-clause-counted g c = (c.later_tree.new.leaper.spent.used, c.in_ok-start.ensures.takes, c.in_ok-start.ensures.goes_on.spends.rises, c.in_ok-found.ensures.counted)
