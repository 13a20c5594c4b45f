use Rattle.std.proofs.Common.{◌≡◌, ℕ, refl, sym, subst, arith}
use Rattle.ca_plane.specs.Prelude.{cells_after}
use Rattle.ca_quad.specs.Prelude.{cell}
use Rattle.ca_run.specs.Prelude.{LeaperGrows}
use Rattle.ca_run.proofs.LeaperGrowth.{goes_on_again}
use Rattle.ca_answers.specs.Prelude.{IsIdentity}
use Rattle.ca_pattern.specs.Prelude.{IsLowTree, HasLive}
use Rattle.ca_identify.specs.inner.Stages.{IsHalted, IsGrowthOf, TakesSearch, TakesSearchFrom}
use Rattle.ca_identify.proofs.Identities.{last_live, found_none, whole_look, search_needs}
use Rattle.ca_identify.proofs.LaterLeapers.{as_before, pictures_before, later_low, walk_begins, walk_nearer, walks_on}
use Rattle.ca_identify.proofs.Spending.{ends_at_limit}
use Rattle.ca_identify.proofs.Stages.{first_search, step_then_search}
use Rattle.ca_identify.proofs.identification.patience.find.Goals as goal
use Rattle.ca_identify.proofs.identification.patience.find.Goals.{In_default-soon, In_default-found}

-- ---- without an end to patience

pub search-requires-clause-walk : goal.search-requires-clause-walk
search-requires-clause-walk g c = walk_begins c.requires.first c.from-walk.result c.from-walk.ensures.tree c.from-walk.ensures.generations (c.from-walk.ensures.boxes c.args.leaper.now.nodes)

pub returns-in_default-clause-look : goal.returns-in_default-clause-look
returns-in_default-clause-look g c = λ cells work shows took.
    let next = g.A.Automaton.next_of c.args.leaper.now.rule in
    let old = c.args.leaper.now in
    let new = c.search.new.leaper.spent.used in
    let p = cell old.nodes c.args.first.tree in
    let takes : TakesSearch old.spent.used new (cells_after next p) c.args.scope.limit = λ level some holds. let most = c.in_ok-identity.ensures.takes level some holds in omega (arith, most) in
    whole_look next cells c.args.scope c.in_ok-identity.identity work (c.in_ok-identity.ensures.identity cells shows)
    (search_needs next p cells shows old.spent.used new work c.args.scope.limit took takes)

-- ---- the first generations

pub look_on-requires : goal.look_on-requires
look_on-requires g c =
    record {
      walk = walk_nearer (walk_begins c.requires.first c.from-walk.result c.from-walk.ensures.tree c.from-walk.ensures.generations (c.from-walk.ensures.boxes c.args.leaper.now.nodes)) c.first_generations-sure.result
          (omega (arith, c.first_generations-sure.ensures, c.min-early.ensures)) (omega (arith, c.from-walk.ensures.generations));
    }

pub returns-in_err-soon-clause-takes : goal.returns-in_err-soon-clause-takes
returns-in_err-soon-clause-takes g c =
    first_search _ _ (cells_after (g.A.Automaton.next_of c.args.leaper.now.rule) (cell c.args.leaper.now.nodes c.args.first.tree)) c.from-walk.result.generations c.first_generations-sure.result c.args.scope.limit
    (omega (arith, c.from-walk.ensures.generations)) (omega (arith, c.first_generations-sure.ensures, c.min-early.ensures)) c.in_err-soon.ensures.takes

pub returns-in-Some-soon-clause-takes : goal.returns-in-Some-soon-clause-takes
returns-in-Some-soon-clause-takes g c =
    first_search _ _ (cells_after (g.A.Automaton.next_of c.args.leaper.now.rule) (cell c.args.leaper.now.nodes c.args.first.tree)) c.from-walk.result.generations c.first_generations-sure.result c.args.scope.limit
    (omega (arith, c.from-walk.ensures.generations)) (omega (arith, c.first_generations-sure.ensures, c.min-early.ensures)) c.in_ok-soon.ensures.takes

pub returns-in-Some-soon-clause-look : goal.returns-in-Some-soon-clause-look
returns-in-Some-soon-clause-look g c = λ cells work shows took.
    let found = rw c.in-Some-soon.is at c.in_ok-soon.ensures.found in
    let time = found.1 in
    let next = g.A.Automaton.next_of c.args.leaper.now.rule in
    let old = c.args.leaper.now in
    let new = c.look_on.new.leaper.spent.used in
    let p = cell old.nodes c.args.first.tree in
    let takes = first_search _ _ (cells_after next p) c.from-walk.result.generations c.first_generations-sure.result c.args.scope.limit
    (omega (arith, c.from-walk.ensures.generations)) (omega (arith, c.first_generations-sure.ensures, c.min-early.ensures)) c.in_ok-soon.ensures.takes in
    whole_look next cells c.args.scope c.identity_of-identity.result work
    (c.identity_of-identity.ensures next cells c.args.scope.limit (omega (arith, time, c.first_generations-sure.ensures, c.min-early.ensures)) c.requires.first.most (found.0 cells shows))
    (search_needs next p cells shows old.spent.used new work c.args.scope.limit took takes)

-- ---- while patience lasts

module _ (g : _) (c : In_default-soon g) where
  -- the walk is at the last of the first generations
  pub at_sure : c.look_on.new.walk.generations ≡ c.first_generations-sure.result
  at_sure =
      let walked = rw c.in_default-soon.is at c.in_ok-soon.ensures.found in
      let least = walked.1 in
      let most = walked.2 in
      omega (arith, least, most)

  -- what all takes, with a search from there
  pub all_take : (new : ℕ)
      → TakesSearchFrom c.look_on.new.leaper.spent.used new (cells_after (g.A.Automaton.next_of c.look_on.new.leaper.rule) (cell c.look_on.new.leaper.nodes c.args.first.tree)) c.look_on.new.walk.generations c.args.scope.limit
      → TakesSearch c.args.leaper.now.spent.used new (cells_after (g.A.Automaton.next_of c.args.leaper.now.rule) (cell c.args.leaper.now.nodes c.args.first.tree)) c.args.scope.limit
  all_take new takes =
      let stages = cells_after (g.A.Automaton.next_of c.args.leaper.now.rule) (cell c.args.leaper.now.nodes c.args.first.tree) in
      let mid = c.look_on.new.leaper.spent.used in
      let limit = c.args.scope.limit in
      let rest = as_before g.A.Automaton.next_of c.in_ok-soon.ensures.goes_on c.requires.first (λ n p. TakesSearchFrom mid new (cells_after n p) c.look_on.new.walk.generations limit) takes in
      step_then_search _ mid new stages c.from-walk.result.generations c.first_generations-sure.result limit (omega (arith, c.first_generations-sure.ensures, c.min-early.ensures)) c.in_ok-soon.ensures.takes
      (subst (λ k. TakesSearchFrom mid new stages k limit) at_sure rest)

pub patient_search-requires-clause-walk : goal.patient_search-requires-clause-walk
patient_search-requires-clause-walk g c =
    let walked = rw c.in_default-soon.is at c.in_ok-soon.ensures.found in
    let most = walked.2 in
    walks_on g.A.Automaton.next_of c.in_ok-soon.ensures.goes_on c.requires.first c.look_on.new.walk c.args.scope.limit (omega arith) (omega (arith, most, c.first_generations-sure.ensures, c.min-early.ensures)) walked.0

pub patient_search-requires-clause-begun : goal.patient_search-requires-clause-begun
patient_search-requires-clause-begun g c =
    let one = at_sure g (goal.at.patient_search-requires-clause-begun g c).In_default-soon in
    omega (arith, one, c.first_generations-sure.ensures)

pub returns-in_err-found-clause-takes : goal.returns-in_err-found-clause-takes
returns-in_err-found-clause-takes g c = all_take g (goal.at.returns-in_err-found-clause-takes g c).In_default-soon _ c.in_err-found.ensures.takes

pub returns-in-Some-found-clause-takes : goal.returns-in-Some-found-clause-takes
returns-in-Some-found-clause-takes g c = all_take g (goal.at.returns-in-Some-found-clause-takes g c).In_default-soon _ c.in_ok-found.ensures.takes

pub returns-in-Some-found-clause-look : goal.returns-in-Some-found-clause-look
returns-in-Some-found-clause-look g c = λ cells work shows took.
    let told = rw c.in-Some-found.is at c.in_ok-found.ensures.identity in
    let a = goal.at.returns-in-Some-found-clause-look g c in
    let next = g.A.Automaton.next_of c.args.leaper.now.rule in
    let old = c.args.leaper.now in
    let new = c.patient_search.new.leaper.spent.used in
    let p = cell old.nodes c.args.first.tree in
    let takes = all_take g a.In_default-soon _ c.in_ok-found.ensures.takes in
    whole_look next cells c.args.scope c.in-Some-found.identity work
    (pictures_before g.A.Automaton.next_of c.in_ok-soon.ensures.goes_on c.requires.first (λ n p. IsIdentity n p c.args.scope.limit c.in-Some-found.identity) told cells shows)
    (search_needs next p cells shows old.spent.used new work c.args.scope.limit took takes)

-- ---- where it is out of patience

module _ (g : _) (c : In_default-found g) where
  pub on : LeaperGrows _ c.args.leaper.now c.patient_search.new.leaper
  on = goes_on_again _ _ _ _ c.in_ok-soon.ensures.goes_on c.in_ok-found.ensures.goes_on

  -- what was looked at, over the first cells as they were
  pub halted : IsHalted (g.A.Automaton.next_of c.args.leaper.now.rule) (cell c.args.leaper.now.nodes c.args.first.tree) c.patient_search.new.leaper.nodes c.look_on.new.walk.generations c.args.scope.limit c.patient_search.new.walk
  halted =
      as_before g.A.Automaton.next_of c.in_ok-soon.ensures.goes_on c.requires.first
      (λ n p. IsHalted n p c.patient_search.new.leaper.nodes c.look_on.new.walk.generations c.args.scope.limit c.patient_search.new.walk) (c.in_ok-found.ensures.halted c.in_default-found.is)

pub growth_of-requires-clause-low : goal.growth_of-requires-clause-low
growth_of-requires-clause-low g c =
    let walk = halted g (goal.at.growth_of-requires-clause-low g c).In_default-found in
    subst (λ s. IsLowTree s c.patient_search.new.walk.tree) (sym c.store-2.ensures.nodes) (later_low c.requires.first walk.now walk.within)

pub growth_of-requires-clause-live : goal.growth_of-requires-clause-live
growth_of-requires-clause-live g c =
    let a = goal.at.growth_of-requires-clause-live g c in
    let walk = halted g a.In_default-found in
    let later = walk.later in
    let one = at_sure g a.In_default-soon in
    let tree = c.patient_search.new.walk.tree in
    subst (λ s. HasLive (cell s tree)) (sym c.store-2.ensures.nodes)
    (last_live _ _ c.patient_search.new.walk.generations c.patient_search.new.leaper.nodes tree walk.now walk.others (omega (arith, later, one, c.first_generations-sure.ensures, c.min-early.ensures, c.early_generations.ensures, c.requires.some)))

pub returns-in_err-growth-clause-takes : goal.returns-in_err-growth-clause-takes
returns-in_err-growth-clause-takes g c = all_take g (goal.at.returns-in_err-growth-clause-takes g c).In_default-soon _ c.in_ok-found.ensures.takes

pub returns-clause-takes : goal.returns-clause-takes
returns-clause-takes g c = all_take g (goal.at.returns-clause-takes g c).In_default-soon _ c.in_ok-found.ensures.takes

pub returns-in_err-growth-clause-goes_on : goal.returns-in_err-growth-clause-goes_on
returns-in_err-growth-clause-goes_on g c = on g (goal.at.returns-in_err-growth-clause-goes_on g c).In_default-found

pub returns-clause-goes_on : goal.returns-clause-goes_on
returns-clause-goes_on g c = on g (goal.at.returns-clause-goes_on g c).In_default-found

pub returns-clause-look : goal.returns-clause-look
returns-clause-look g c = λ cells work shows took.
    let a = goal.at.returns-clause-look g c in
    let next = g.A.Automaton.next_of c.args.leaper.now.rule in
    let nodes = c.args.leaper.now.nodes in
    let p = cell nodes c.args.first.tree in
    let walk = halted g a.In_default-found in
    let later = walk.later in
    let one = at_sure g a.In_default-soon in
    let new = c.patient_search.new.leaper.nodes in
    let last = c.patient_search.new.walk in
    let takes = all_take g a.In_default-soon _ c.in_ok-found.ensures.takes in
    let rises = c.in_ok-soon.ensures.goes_on.spends.rises in
    let used = c.in_ok-found.ensures.used c.in_default-found.is in
    record {
      least = omega (arith, later, one, c.first_generations-sure.ensures, c.min-early.ensures, c.early_generations.ensures);
      most = walk.within;
      identity = found_none next c.requires.first.quiet nodes c.args.first c.requires.first.is_first cells shows last.generations walk.others new last.tree walk.now c.in_ok-growth.growth
          (subst (λ s. IsGrowthOf s last.tree c.in_ok-growth.growth) c.store-2.ensures.nodes c.in_ok-growth.ensures);
      work = search_needs next p cells shows c.args.leaper.now.spent.used c.patient_search.new.leaper.spent.used work c.args.scope.limit took takes;
      early = λ less. (
        c.in_ok-growth.growth,
        refl,
        c.in-Some.units,
        c.in-Some.is,
        omega (arith, rises, used, took),
      );
    }

-- ---- where work is out

pub returns-in_err-identity-clause-work : goal.returns-in_err-identity-clause-work
returns-in_err-identity-clause-work g c =
    let fits = c.used-used.ensures.most in
    ends_at_limit c.from_residual.result c.in_err-identity.field-0.0 c.from_residual.ensures.1 c.work_limit-until.result c.args.leaper.now.spent c.search.new.leaper.spent c.work_limit-until.ensures
    (omega (arith, c.used-used.ensures.value, fits)) c.in_err-identity.ensures.goes_on.spends c.in_err-identity.ensures.bounded c.in_err-identity.ensures.work

pub returns-in_err-soon-clause-work : goal.returns-in_err-soon-clause-work
returns-in_err-soon-clause-work g c =
    let fits = c.used-used.ensures.most in
    ends_at_limit c.from_residual-in_err-soon.result c.in_err-soon.field-0.0 c.from_residual-in_err-soon.ensures.1 c.work_limit-until.result c.args.leaper.now.spent c.look_on.new.leaper.spent c.work_limit-until.ensures
    (omega (arith, c.used-used.ensures.value, fits)) c.in_err-soon.ensures.goes_on.spends c.in_err-soon.ensures.bounded c.in_err-soon.ensures.work
