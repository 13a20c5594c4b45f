use Rattle.std.proofs.Common.{◌≡◌, ℕ, ◌+◌, ◌-◌, ◌≤◌, List, refl, sym, subst, arith}
use Rattle.std.specs.Prelude.{ℤ}
use Rattle.ca_plane.specs.Prelude.{cells_after}
use Rattle.ca_quad.specs.Prelude.{cell}
use Rattle.ca_run.specs.Prelude.{LeaperView, LeaperGrows}
use Rattle.ca_run.proofs.LeaperGrowth.{goes_on_again}
use Rattle.ca_identify.specs.declared.identification.stage.First.{First}
use Rattle.ca_answers.specs.declared.identity.Identity.TheVariants.{Unknown}
use Rattle.ca_answers.specs.Prelude.{IsIdentity}
use Rattle.ca_pattern.specs.Prelude.{IsLowTree, HasLive, IsLaterTree}
use Rattle.ca_identify.specs.inner.Stages.{CanSearch, IsWalk, IsGrowthOf, AreOtherUpTo, IsHalted, HasNoReturn, AreEarly, TakesSearchFrom, EndSo, early_work, leap_work}
use Rattle.ca_evolution.specs.Prelude.{TakesSteps}
use Rattle.ca_identify.proofs.Identities.{picture_nowhere, last_live, found_none}
use Rattle.ca_identify.proofs.LaterLeapers.{as_before, as_then, pictures_before, search_stays, walks_on, later_low}
use Rattle.ca_identify.proofs.LaterPlanes.{on_err}
use Rattle.ca_identify.proofs.Stages.{walk_stays, halted_here, halted_within, whole_search, early_search}
use Rattle.ca_evolution.proofs.Steps.{no_step, fewer_steps}
use Rattle.ca_identify.proofs.Strides.{early_stays}
use Rattle.ca_identify.proofs.identification.search.search.Goals as goal
use Rattle.ca_identify.proofs.identification.search.search.Goals.{In_ok-soon, In_default, In_ok-planes, In_default-grown, In_default-strided, In_default-late}

-- ---- the first generations

module _ (g : _) (c : In_ok-soon g) where
  abbrev next : List ℕ → ℕ
  next = g.A.Automaton.next_of c.args.leaper.now.rule

  abbrev first : ℤ → ℤ → ℕ
  first = cell c.args.leaper.now.nodes c.args.first.now.tree

  -- the pattern can be searched from there
  pub from_early : CanSearch (g.A.Automaton.next_of c.early_look.new.leaper.rule) c.early_look.new.leaper.nodes c.args.first.now c.args.reach.limit
  from_early = search_stays g.A.Automaton.next_of c.in_ok-soon.ensures.goes_on c.requires.walk.pattern c.args.reach.limit (omega arith)

  -- what all takes, with planes, leaps and strides, and steps that are left
  pub all_take : (leapt new : ℕ) → leapt ≤ c.early_look.new.leaper.spent.used + early_work c.args.reach.limit + leap_work c.args.reach.limit + leap_work c.args.reach.limit
      → TakesSteps leapt new (cells_after next first) c.args.reach.limit (c.args.reach.limit - c.sure_generations-sure.result)
      → TakesSearchFrom c.args.leaper.now.spent.used new (cells_after next first) c.args.walk.now.generations c.args.reach.limit
  all_take leapt new leaps rest =
      whole_search _ c.early_look.new.leaper.spent.used leapt new (cells_after next first) c.args.walk.now.generations c.sure_generations-sure.result c.args.reach.limit
      (omega (arith, c.sure_generations-sure.ensures.begun)) (omega (arith, c.requires.within, c.sure_generations-sure.ensures.within)) c.in_ok-soon.ensures.takes leaps rest

  -- with no more steps
  pub leaps_take : (new : ℕ) → new ≤ c.early_look.new.leaper.spent.used + early_work c.args.reach.limit + leap_work c.args.reach.limit + leap_work c.args.reach.limit
      → TakesSearchFrom c.args.leaper.now.spent.used new (cells_after next first) c.args.walk.now.generations c.args.reach.limit
  leaps_take new leaps = all_take new new leaps (no_step new new (cells_after next first) c.args.reach.limit (c.args.reach.limit - c.sure_generations-sure.result) refl)

pub returns-in_err-soon-clause-takes : goal.returns-in_err-soon-clause-takes
returns-in_err-soon-clause-takes g c =
    early_search _ _ (cells_after (g.A.Automaton.next_of c.args.leaper.now.rule) (cell c.args.leaper.now.nodes c.args.first.now.tree)) c.args.walk.now.generations c.sure_generations-sure.result c.args.reach.limit
    (omega (arith, c.sure_generations-sure.ensures.begun)) (omega (arith, c.requires.within, c.sure_generations-sure.ensures.within)) c.in_err-soon.ensures.takes

pub returns-in_err-soon-clause-halted : goal.returns-in_err-soon-clause-halted
returns-in_err-soon-clause-halted g c = on_err _ _ (halted_within c.in_err-soon.ensures.halted c.args.walk.now.generations c.args.reach.limit (omega arith) (omega (arith, c.requires.within)))

pub returns-in-Some-clause-identity : goal.returns-in-Some-clause-identity
returns-in-Some-clause-identity g c = λ cells shows.
    let found = rw c.in-Some.is at c.in_ok-soon.ensures.found in
    let time = found.1 in
    c.identity_of.ensures (g.A.Automaton.next_of c.args.leaper.now.rule) cells c.args.reach.limit (omega (arith, time, c.requires.within)) c.requires.walk.pattern.most (found.0 cells shows)

pub returns-in-Some-clause-takes : goal.returns-in-Some-clause-takes
returns-in-Some-clause-takes g c = leaps_take g (goal.at.returns-in-Some-clause-takes g c).In_ok-soon _ (omega arith)

-- ---- their planes

pub planes_within_share-requires : goal.planes_within_share-requires
planes_within_share-requires g c =
    let walked = rw c.in_default.is at c.in_ok-soon.ensures.found in
    let sure = walked.1 in
    let end = walked.2 in
    record {
      first = from_early g (goal.at.planes_within_share-requires g c).In_ok-soon;
      some = omega (arith, sure, c.sure_generations-sure.ensures.some);
      within = omega (arith, end, c.requires.within);
    }

pub returns-in_err-planes-clause-takes : goal.returns-in_err-planes-clause-takes
returns-in_err-planes-clause-takes g c =
    let planes = c.in_err-planes.ensures.takes in
    leaps_take g (goal.at.returns-in_err-planes-clause-takes g c).In_ok-soon _ (omega (arith, planes))

-- the walk is halted there, wherever the leaper goes on to
module _ (g : _) (c : In_default g) where
  pub halted_there : {new : LeaperView _} → LeaperGrows _ c.early_look.new.leaper new
      → IsHalted (g.A.Automaton.next_of c.args.leaper.now.rule) (cell c.args.leaper.now.nodes c.args.first.now.tree) new.nodes c.args.walk.now.generations c.args.reach.limit c.early_look.new.walk
  halted_there on =
      let walked = rw c.in_default.is at c.in_ok-soon.ensures.found in
      let one = walked.1 in
      let end = walked.2 in
      halted_here (walk_stays c.in_ok-soon.ensures.goes_on.grows.sound on.grows walked.0) c.args.walk.now.generations c.args.reach.limit
      (omega (arith, one, c.sure_generations-sure.ensures.begun)) (omega (arith, end, c.requires.within))

pub returns-in_err-planes-clause-halted : goal.returns-in_err-planes-clause-halted
returns-in_err-planes-clause-halted g c = on_err _ _ (halted_there g (goal.at.returns-in_err-planes-clause-halted g c).In_default c.planes_within_share.ensures.goes_on)

pub returns-in_err-planes-clause-goes_on : goal.returns-in_err-planes-clause-goes_on
returns-in_err-planes-clause-goes_on g c = goes_on_again _ _ _ _ c.in_ok-soon.ensures.goes_on c.planes_within_share.ensures.goes_on

module _ (g : _) (c : In_ok-planes g) where
  -- how the leaper goes on till then
  pub on_planes : LeaperGrows _ c.args.leaper.now c.planes_within_share.new.leaper
  on_planes = goes_on_again _ _ _ _ c.in_ok-soon.ensures.goes_on c.in_ok-planes.ensures.goes_on

-- ---- leaps

pub growth_by_leaps-requires : goal.growth_by_leaps-requires
growth_by_leaps-requires g c =
    let walked = rw c.in_default.is at c.in_ok-soon.ensures.found in
    let sure = walked.1 in
    let end = walked.2 in
    record {
      first = search_stays g.A.Automaton.next_of (on_planes g (goal.at.growth_by_leaps-requires g c).In_ok-planes) c.requires.walk.pattern c.args.reach.limit (omega arith);
      some = omega (arith, sure, c.sure_generations-sure.ensures.some);
      within = omega (arith, end, c.requires.within);
    }

pub returns-in_err-grown-clause-takes : goal.returns-in_err-grown-clause-takes
returns-in_err-grown-clause-takes g c =
    let planes = c.in_ok-planes.ensures.takes in
    let leaps = c.in_err-grown.ensures.takes in
    leaps_take g (goal.at.returns-in_err-grown-clause-takes g c).In_ok-soon _ (omega (arith, planes, leaps))

pub returns-in_err-grown-clause-halted : goal.returns-in_err-grown-clause-halted
returns-in_err-grown-clause-halted g c =
    on_err _ _ (halted_there g (goal.at.returns-in_err-grown-clause-halted g c).In_default (goes_on_again _ _ _ _ c.in_ok-planes.ensures.goes_on c.growth_by_leaps.ensures.goes_on))

pub returns-in_err-grown-clause-goes_on : goal.returns-in_err-grown-clause-goes_on
returns-in_err-grown-clause-goes_on g c = goes_on_again _ _ _ _ (on_planes g (goal.at.returns-in_err-grown-clause-goes_on g c).In_ok-planes) c.growth_by_leaps.ensures.goes_on

pub returns-in-Some-grown-clause-goes_on : goal.returns-in-Some-grown-clause-goes_on
returns-in-Some-grown-clause-goes_on g c = goes_on_again _ _ _ _ (on_planes g (goal.at.returns-in-Some-grown-clause-goes_on g c).In_ok-planes) c.growth_by_leaps.ensures.goes_on

pub returns-in-Some-grown-clause-identity : goal.returns-in-Some-grown-clause-identity
returns-in-Some-grown-clause-identity g c = λ cells shows.
    let a = goal.at.returns-in-Some-grown-clause-identity g c in
    let walked = rw c.in_default.is at c.in_ok-soon.ensures.found in
    let told = rw c.in-Some-grown.is at c.in_ok-grown.ensures.growth in
    pictures_before g.A.Automaton.next_of (on_planes g a.In_ok-planes) c.requires.walk.pattern
    (λ n p. HasNoReturn n p c.early_look.new.walk.generations → IsIdentity n p c.args.reach.limit (Unknown c.in-Some-grown.growth)) told cells shows
    (λ m some within. picture_nowhere (next g a.In_ok-soon) (first g a.In_ok-soon) cells shows m (walked.0.others m some within).1)

pub returns-in-Some-grown-clause-takes : goal.returns-in-Some-grown-clause-takes
returns-in-Some-grown-clause-takes g c =
    let planes = c.in_ok-planes.ensures.takes in
    let leaps = c.in_ok-grown.ensures.takes in
    leaps_take g (goal.at.returns-in-Some-grown-clause-takes g c).In_ok-soon _ (omega (arith, planes, leaps))

-- ---- strides

module _ (g : _) (c : In_default-grown g) where
  -- how the leaper goes on from the early generations till then
  from : LeaperGrows _ c.early_look.new.leaper c.growth_by_leaps.new.leaper
  from = goes_on_again _ _ _ _ c.in_ok-planes.ensures.goes_on c.in_ok-grown.ensures.goes_on

  -- and from the beginning
  on : LeaperGrows _ c.args.leaper.now c.growth_by_leaps.new.leaper
  on = goes_on_again _ _ _ _ c.in_ok-soon.ensures.goes_on from

pub identity_by_strides-requires-clause-walk : goal.identity_by_strides-requires-clause-walk
identity_by_strides-requires-clause-walk g c =
    let a = (goal.at.identity_by_strides-requires-clause-walk g c).In_default-grown in
    let walked = rw c.in_default.is at c.in_ok-soon.ensures.found in
    let end = walked.2 in
    walks_on g.A.Automaton.next_of (on g a) c.requires.walk.pattern c.early_look.new.walk c.args.reach.limit (omega arith) (omega (arith, end, c.requires.within))
    (walk_stays c.in_ok-soon.ensures.goes_on.grows.sound (from g a).grows walked.0)

pub identity_by_strides-requires-clause-early : goal.identity_by_strides-requires-clause-early
identity_by_strides-requires-clause-early g c =
    let a = goal.at.identity_by_strides-requires-clause-early g c in
    let rules = g.A.Automaton.next_of in
    let tree = c.args.first.now.tree in
    let s2 = c.planes_within_share.new.leaper.nodes in
    let s3 = c.growth_by_leaps.new.leaper.nodes in
    let planes = c.in_ok-planes.planes.items in
    let stay = early_stays (rules c.early_look.new.leaper.rule) (cell c.early_look.new.leaper.nodes tree) s2 s3 c.in_ok-planes.ensures.goes_on.grows.sound c.in_ok-grown.ensures.goes_on.grows planes c.in_ok-planes.ensures.planes in
    subst (λ (l : List First). AreEarly (rules c.growth_by_leaps.new.leaper.rule) (cell s3 tree) s3 l) (sym c.deref.ensures.value)
    (as_then rules (from g a.In_default-grown) (from_early g a.In_ok-soon) (λ n p. AreEarly n p s3 planes) stay)

pub returns-in_err-strided-clause-takes : goal.returns-in_err-strided-clause-takes
returns-in_err-strided-clause-takes g c =
    let planes = c.in_ok-planes.ensures.takes in
    let leaps = c.in_ok-grown.ensures.takes in
    let strides = c.identity_by_strides.ensures.takes in
    leaps_take g (goal.at.returns-in_err-strided-clause-takes g c).In_ok-soon _ (omega (arith, planes, leaps, strides))

pub returns-in-Some-strided-clause-takes : goal.returns-in-Some-strided-clause-takes
returns-in-Some-strided-clause-takes g c =
    let planes = c.in_ok-planes.ensures.takes in
    let leaps = c.in_ok-grown.ensures.takes in
    let strides = c.identity_by_strides.ensures.takes in
    leaps_take g (goal.at.returns-in-Some-strided-clause-takes g c).In_ok-soon _ (omega (arith, planes, leaps, strides))

pub returns-in-Some-strided-clause-identity : goal.returns-in-Some-strided-clause-identity
returns-in-Some-strided-clause-identity g c =
    pictures_before g.A.Automaton.next_of (on g (goal.at.returns-in-Some-strided-clause-identity g c).In_default-grown) c.requires.walk.pattern
    (λ n p. IsIdentity n p c.args.reach.limit c.in-Some-strided.identity) (rw c.in-Some-strided.is at c.in_ok-strided.ensures.identity)

pub returns-in-Some-strided-clause-goes_on : goal.returns-in-Some-strided-clause-goes_on
returns-in-Some-strided-clause-goes_on g c = goes_on_again _ _ _ _ (on g (goal.at.returns-in-Some-strided-clause-goes_on g c).In_default-grown) c.identity_by_strides.ensures.goes_on

pub returns-in_err-strided-clause-halted : goal.returns-in_err-strided-clause-halted
returns-in_err-strided-clause-halted g c =
    let walked = rw c.in_default.is at c.in_ok-soon.ensures.found in
    let one = walked.1 in
    let begun = c.identity_by_strides.ensures.begun in
    let told = as_before g.A.Automaton.next_of (on g (goal.at.returns-in_err-strided-clause-halted g c).In_default-grown) c.requires.walk.pattern
    (λ n p. IsWalk n p c.identity_by_strides.new.leaper.nodes c.identity_by_strides.new.walk) c.identity_by_strides.ensures.walk in
    on_err _ _ (halted_here told c.args.walk.now.generations c.args.reach.limit (omega (arith, begun, one, c.sure_generations-sure.ensures.begun)) c.identity_by_strides.ensures.within)

-- ---- the generations that are left

module _ (g : _) (c : In_default-strided g) where
  -- how the leaper goes on till then
  pub on_strides : LeaperGrows _ c.args.leaper.now c.identity_by_strides.new.leaper
  on_strides =
      goes_on_again _ _ _ _ c.in_ok-soon.ensures.goes_on
      (goes_on_again _ _ _ _ c.in_ok-planes.ensures.goes_on (goes_on_again _ _ _ _ c.in_ok-grown.ensures.goes_on c.in_ok-strided.ensures.goes_on))

  -- what all takes, with the last steps
  pub late_take : (new : ℕ)
      → TakesSteps c.identity_by_strides.new.leaper.spent.used new
      (cells_after (g.A.Automaton.next_of c.identity_by_strides.new.leaper.rule) (cell c.identity_by_strides.new.leaper.nodes c.args.first.now.tree)) c.args.reach.limit
      (c.args.reach.limit - c.identity_by_strides.new.walk.generations)
      → TakesSearchFrom c.args.leaper.now.spent.used new (cells_after (g.A.Automaton.next_of c.args.leaper.now.rule) (cell c.args.leaper.now.nodes c.args.first.now.tree)) c.args.walk.now.generations c.args.reach.limit
  late_take new takes =
      let stages = cells_after (g.A.Automaton.next_of c.args.leaper.now.rule) (cell c.args.leaper.now.nodes c.args.first.now.tree) in
      let limit = c.args.reach.limit in
      let leapt = c.identity_by_strides.new.leaper.spent.used in
      let left = limit - c.identity_by_strides.new.walk.generations in
      let walked = rw c.in_default.is at c.in_ok-soon.ensures.found in
      let one = walked.1 in
      let begun = c.in_ok-strided.ensures.begun in
      let planes = c.in_ok-planes.ensures.takes in
      let leaps = c.in_ok-grown.ensures.takes in
      let strides = c.in_ok-strided.ensures.takes in
      let rest = as_before g.A.Automaton.next_of on_strides c.requires.walk.pattern (λ n p. TakesSteps leapt new (cells_after n p) limit left) takes in
      whole_search _ c.early_look.new.leaper.spent.used leapt new stages c.args.walk.now.generations c.sure_generations-sure.result limit
      (omega (arith, c.sure_generations-sure.ensures.begun)) (omega (arith, c.requires.within, c.sure_generations-sure.ensures.within)) c.in_ok-soon.ensures.takes (omega (arith, planes, leaps, strides))
      (fewer_steps leapt new stages limit left (limit - c.sure_generations-sure.result) (omega (arith, one, begun)) rest)

pub look_on-requires : goal.look_on-requires
look_on-requires g c =
    let a = goal.at.look_on-requires g c in
    let rules = g.A.Automaton.next_of in
    let s3 = c.identity_by_strides.new.leaper.nodes in
    let walk = c.identity_by_strides.new.walk in
    let told = as_before rules (on g a.In_default-grown) c.requires.walk.pattern (λ n p. IsWalk n p s3 walk) c.in_ok-strided.ensures.walk in
    record { walk = walks_on rules (on_strides g a.In_default-strided) c.requires.walk.pattern walk c.args.reach.limit (omega arith) c.in_ok-strided.ensures.within told }

pub returns-in_err-late-clause-halted : goal.returns-in_err-late-clause-halted
returns-in_err-late-clause-halted g c =
    let walked = rw c.in_default.is at c.in_ok-soon.ensures.found in
    let one = walked.1 in
    let begun = c.in_ok-strided.ensures.begun in
    let told = as_before g.A.Automaton.next_of (on_strides g (goal.at.returns-in_err-late-clause-halted g c).In_default-strided) c.requires.walk.pattern
    (λ n p. IsHalted n p c.look_on.new.leaper.nodes c.identity_by_strides.new.walk.generations c.args.reach.limit c.look_on.new.walk) c.in_err-late.ensures.halted in
    on_err _ _ (halted_within told c.args.walk.now.generations c.args.reach.limit (omega (arith, begun, one, c.sure_generations-sure.ensures.begun)) (omega arith))

pub returns-in_err-late-clause-takes : goal.returns-in_err-late-clause-takes
returns-in_err-late-clause-takes g c = late_take g (goal.at.returns-in_err-late-clause-takes g c).In_default-strided _ c.in_err-late.ensures.takes

pub returns-in-Some-late-clause-takes : goal.returns-in-Some-late-clause-takes
returns-in-Some-late-clause-takes g c = late_take g (goal.at.returns-in-Some-late-clause-takes g c).In_default-strided _ c.in_ok-late.ensures.takes

pub returns-in_err-growth-clause-takes : goal.returns-in_err-growth-clause-takes
returns-in_err-growth-clause-takes g c = late_take g (goal.at.returns-in_err-growth-clause-takes g c).In_default-strided _ c.in_ok-late.ensures.takes

pub returns-clause-takes : goal.returns-clause-takes
returns-clause-takes g c = late_take g (goal.at.returns-clause-takes g c).In_default-strided _ c.in_ok-late.ensures.takes

pub returns-in_err-late-clause-goes_on : goal.returns-in_err-late-clause-goes_on
returns-in_err-late-clause-goes_on g c = goes_on_again _ _ _ _ (on_strides g (goal.at.returns-in_err-late-clause-goes_on g c).In_default-strided) c.look_on.ensures.goes_on

pub returns-in-Some-late-clause-goes_on : goal.returns-in-Some-late-clause-goes_on
returns-in-Some-late-clause-goes_on g c = goes_on_again _ _ _ _ (on_strides g (goal.at.returns-in-Some-late-clause-goes_on g c).In_default-strided) c.look_on.ensures.goes_on

pub returns-in_err-growth-clause-goes_on : goal.returns-in_err-growth-clause-goes_on
returns-in_err-growth-clause-goes_on g c = goes_on_again _ _ _ _ (on_strides g (goal.at.returns-in_err-growth-clause-goes_on g c).In_default-strided) c.look_on.ensures.goes_on

pub returns-clause-goes_on : goal.returns-clause-goes_on
returns-clause-goes_on g c = goes_on_again _ _ _ _ (on_strides g (goal.at.returns-clause-goes_on g c).In_default-strided) c.look_on.ensures.goes_on

pub returns-in-Some-late-clause-identity : goal.returns-in-Some-late-clause-identity
returns-in-Some-late-clause-identity g c = λ cells shows.
    let found = rw c.in-Some-late.is at c.in_ok-late.ensures.found in
    let ends = as_before g.A.Automaton.next_of (on_strides g (goal.at.returns-in-Some-late-clause-identity g c).In_default-strided) c.requires.walk.pattern (λ n p. EndSo n p c.in-Some-late.ending) found.0 in
    c.identity_of-in-Some-late.ensures (g.A.Automaton.next_of c.args.leaper.now.rule) cells c.args.reach.limit found.1 c.requires.walk.pattern.most (ends cells shows)

-- ---- none of all generations

module _ (g : _) (c : In_default-late g) (on_till : LeaperGrows _ c.args.leaper.now c.identity_by_strides.new.leaper) where
  -- what was looked at, over the first cells as they were
  pub last_walk : IsWalk (g.A.Automaton.next_of c.args.leaper.now.rule) (cell c.args.leaper.now.nodes c.args.first.now.tree) c.look_on.new.leaper.nodes c.look_on.new.walk
  last_walk =
      let walked = rw c.in_default-late.is at c.in_ok-late.ensures.found in
      as_before g.A.Automaton.next_of on_till c.requires.walk.pattern (λ n p. IsWalk n p c.look_on.new.leaper.nodes c.look_on.new.walk) walked.0

  -- all generations were
  pub last_time : c.look_on.new.walk.generations ≡ c.args.reach.limit
  last_time =
      let walked = rw c.in_default-late.is at c.in_ok-late.ensures.found in
      let least = walked.1 in
      let most = walked.2 in
      omega (arith, least, most)

pub growth_of-requires-clause-low : goal.growth_of-requires-clause-low
growth_of-requires-clause-low g c =
    let a = goal.at.growth_of-requires-clause-low g c in
    let on_till = on_strides g a.In_default-strided in
    let end = last_time g a.In_default-late on_till in
    subst (λ s. IsLowTree s c.look_on.new.walk.tree) (sym c.store.ensures.nodes) (later_low c.requires.walk.pattern (last_walk g a.In_default-late on_till).now (omega (arith, end)))

pub growth_of-requires-clause-live : goal.growth_of-requires-clause-live
growth_of-requires-clause-live g c =
    let a = goal.at.growth_of-requires-clause-live g c in
    let on_till = on_strides g a.In_default-strided in
    let walk = last_walk g a.In_default-late on_till in
    let end = last_time g a.In_default-late on_till in
    let tree = c.look_on.new.walk.tree in
    subst (λ s. HasLive (cell s tree)) (sym c.store.ensures.nodes)
    (last_live _ _ c.look_on.new.walk.generations c.look_on.new.leaper.nodes tree walk.now walk.others (omega (arith, end, c.requires.some, c.requires.within)))

pub returns-in_err-growth-clause-halted : goal.returns-in_err-growth-clause-halted
returns-in_err-growth-clause-halted g c =
    let a = goal.at.returns-in_err-growth-clause-halted g c in
    let on_till = on_strides g a.In_default-strided in
    let end = last_time g a.In_default-late on_till in
    on_err _ _ (halted_here (last_walk g a.In_default-late on_till) c.args.walk.now.generations c.args.reach.limit (omega (arith, end, c.requires.begun, c.requires.within)) (omega (arith, end)))

pub returns-clause-identity : goal.returns-clause-identity
returns-clause-identity g c = λ cells shows.
    let a = goal.at.returns-clause-identity g c in
    let next = g.A.Automaton.next_of c.args.leaper.now.rule in
    let p = cell c.args.leaper.now.nodes c.args.first.now.tree in
    let on_till = on_strides g a.In_default-strided in
    let walk = last_walk g a.In_default-late on_till in
    let end = last_time g a.In_default-late on_till in
    let new = c.look_on.new.leaper.nodes in
    let tree = c.look_on.new.walk.tree in
    found_none next c.requires.walk.pattern.quiet c.args.leaper.now.nodes c.args.first.now c.requires.walk.pattern.is_first cells shows c.args.reach.limit (subst (AreOtherUpTo next p) end walk.others) new tree
    (subst (λ n. IsLaterTree next p n new tree) end walk.now) c.in_ok-growth.growth (subst (λ s. IsGrowthOf s tree c.in_ok-growth.growth) c.store.ensures.nodes c.in_ok-growth.ensures)
