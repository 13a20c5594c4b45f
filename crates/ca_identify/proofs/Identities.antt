-- Which claims are true of pictures, by what their planes show after one generation after the other.
use Rattle.std.proofs.Common.{◌≡◌, ◌≢◌, ℕ, zero, suc, ◌+◌, ◌≤◌, ◌<◌, List, [], Result, Some, None, refl, sym, ap, subst, ◌∙◌, arith}
use Rattle.std.specs.Prelude.{ℤ, pos, ◌-ℤ◌, replicate, IfOk}
use Rattle.std.proofs.lemmas.Int.{ints}
use Rattle.std.proofs.lemmas.Option.{none-some, same_Some}
use Rattle.ca_plane.specs.Prelude.{Picture, shifted, IsLive, after, cells_after, IsAfter, IsLiveAfter, longest_period}
use Rattle.ca_plane.specs.Plane as plane
use Rattle.ca_plane.proofs.Shifts.{cell-shifted}
use Rattle.ca_quad.specs.declared.{node.Node.Node, tree.Tree.Tree}
use Rattle.ca_quad.specs.Prelude.{IsDead}
use Rattle.ca_quad.specs.Trees as trees
use Rattle.ca_budget.specs.declared.fault.LeapFault.{LeapFault}
use Rattle.ca_plane.proofs.After.{after_same}
use Rattle.ca_text.specs.declared.kind.Kind.TheVariants as kind
use Rattle.ca_identify.specs.declared.identification.{ending.Ending.Ending, ending.Recurrence.Recurrence, stage.First.First, stage.Stage.Stage}
use Rattle.ca_identify.specs.declared.identification.ending.Ending.TheVariants.{Death}
use Rattle.ca_identify.specs.declared.identification.stage.Stage.TheVariants.{Empty, Back, Other}
use Rattle.ca_answers.specs.declared.{identity.Growth.Growth, identity.Identity.Identity, scope.Scope.Scope}
use Rattle.ca_answers.specs.declared.identity.Identity.TheVariants.{Unknown}
use Rattle.ca_answers.specs.Prelude.{IsIdentity, IsTrueWithin, HasNoTrueClaim, IsLook, MayNeedWork}
use Rattle.ca_text.specs.Prelude.{IsChanged, IsNowhere}
use Rattle.ca_identify.specs.inner.Stages.{IsFirst, IsStage, IsReturn, IsGrowthOf, AreMoved, AreMovedNowhere, AreOtherUpTo, IsEnding, ending_of, generations_of, HasNoReturn, TakesSearch}
use Rattle.ca_pattern.specs.Prelude.{IsLaterTree, ShowsTree, HasLive}
use Rattle.ca_pattern.proofs.Deaths.{live_at_all}
use Rattle.ca_identify.proofs.LaterPlanes.{tree_picture}
use Rattle.ca_pattern.proofs.LeaptTrees.{ok_as}
use Rattle.ca_pattern.proofs.Starts.{near_start, start_near, picture_after}
use Rattle.ca_identify.proofs.Stages.{changes, least_right, most_right, least_down, most_down}

-- ---- a picture of the first cells

module _ (next : List ℕ → ℕ) (p : ℤ → ℤ → ℕ) (cells : Picture) (shows : (x y : ℤ) → plane.cell cells x y ≡ p x y) where
  -- what it has after m generations
  later : (m : ℕ) (x y : ℤ) → after next cells m x y ≡ cells_after next p m x y
  later m x y = after_same next (plane.cell cells) p m shows x y

  pub picture_live : HasLive p → IsLive cells
  picture_live live = (live.0, live.1, λ none. live.2 (sym (shows live.0 live.1) ∙ none))

  pub picture_moved : (m : ℕ) (dx dy : ℤ) → AreMoved p (cells_after next p m) dx dy → IsAfter next cells m (shifted cells dx dy)
  picture_moved m dx dy moved = λ x y. later m x y ∙ moved x y ∙ sym (shows (x -ℤ dx) (y -ℤ dy)) ∙ sym (cell-shifted cells dx dy x y)

  pub picture_nowhere : (m : ℕ) → AreMovedNowhere p (cells_after next p m) → IsNowhere next cells m
  picture_nowhere m nowhere = λ dx dy is. nowhere dx dy (λ x y. sym (later m x y) ∙ is x y ∙ cell-shifted cells dx dy x y ∙ shows (x -ℤ dx) (y -ℤ dy))

  pub picture_changed : (m : ℕ) → ((x : ℤ) × (y : ℤ) × (cells_after next p m x y ≢ p x y)) → IsChanged next cells m
  picture_changed m other = (other.0, other.1, λ e. other.2 (sym (later m other.0 other.1) ∙ e ∙ shows other.0 other.1))

  pub picture_lives : (m : ℕ) → HasLive (cells_after next p m) → IsLiveAfter next cells m
  picture_lives m live = (live.0, live.1, λ none. live.2 (sym (later m live.0 live.1) ∙ none))

  pub picture_dies : (m : ℕ) → IsDead (cells_after next p m) → IsAfter next cells m []
  picture_dies m dead = λ x y. later m x y ∙ dead x y

  -- where the cells are others after each generation, no claim is true
  pub none_true : (limit : ℕ) → AreOtherUpTo next p limit → HasNoTrueClaim next cells limit
  none_true limit others kind.Still one some within true = picture_nowhere 1 (others 1 some within).1 (pos 0) (pos 0) true.stands
  none_true limit others (kind.Oscillator n) one some within true = picture_nowhere n (others n some within).1 (pos 0) (pos 0) true.stands
  none_true limit others (kind.Spaceship n dx dy) one some within true = picture_nowhere n (others n some within).1 dx dy true.stands
  none_true limit others (kind.Dies n) one some within true =
      let live = picture_lives n (others n some within).0 in
      live.2 (true.stands live.0 live.1)
  none_true limit others kind one some within true = absurd one

  -- a plane that is live and no other one till then is live at each time before
  lives_before : (n : ℕ) → HasLive p → ((m : ℕ) → 1 ≤ m → m < n → IsStage p (cells_after next p m) Other) → (k : ℕ) → k < n → IsLiveAfter next cells k
  lives_before n live others zero less = picture_live live
  lives_before n live others (suc k) less = picture_lives (suc k) (others (suc k) (omega arith) less).0

  -- where they are dead then, and live before it, the pattern ends so
  pub death_ends : (n : ℕ) → HasLive p → 1 ≤ n → ((m : ℕ) → 1 ≤ m → m < n → IsStage p (cells_after next p m) Other) → IsDead (cells_after next p n) → IsEnding next cells (Death n)
  death_ends n live some others dead = (some, picture_live live, record { empty = picture_dies n dead; live = lives_before n live others })

-- ---- a pattern that dies

-- that it does is a true claim
pub death_true : (next : List ℕ → ℕ) (cells : Picture) (limit n : ℕ) → n ≤ limit → limit ≤ longest_period → IsEnding next cells (Death n) → IsTrueWithin next cells limit (kind.Dies n)
death_true next cells limit n within short is = record {
  numbers = (is.0, omega (arith, within, short));
  within = within;
  holds = record { live = λ _. is.1; stands = is.2.empty; least = λ m first less. is.2.live m less };
}

-- ---- a pattern that is never back, and lives

-- no claim is true of it
none_back : (next : List ℕ → ℕ) → next (replicate 9 0) ≡ 0 → (cells : Picture) (limit : ℕ) → HasNoReturn next cells limit → IsLiveAfter next cells limit → HasNoTrueClaim next cells limit
none_back next quiet cells limit without alive kind.Still one some within true = without 1 some within (pos 0) (pos 0) true.stands
none_back next quiet cells limit without alive (kind.Oscillator n) one some within true = without n some within (pos 0) (pos 0) true.stands
none_back next quiet cells limit without alive (kind.Spaceship n dx dy) one some within true = without n some within dx dy true.stands
none_back next quiet cells limit without alive (kind.Dies n) one some within true =
    let live = live_at_all next cells quiet n limit within alive in
    live.2 (true.stands live.0 live.1)
none_back next quiet cells limit without alive kind one some within true = absurd one

-- ---- a pattern that is back for the first time

module _ (next : List ℕ → ℕ) (cells : Picture) (limit : ℕ) (again : Recurrence) (within : again.generations ≤ limit) (short : limit ≤ longest_period) (is : IsReturn next cells again) where
  abbrev n : ℕ
  n = again.generations

  -- in its place
  in_place : again.dx ≡ pos 0 → again.dy ≡ pos 0 → IsAfter next cells n (shifted cells (pos 0) (pos 0))
  in_place right down = subst (λ d. IsAfter next cells n (shifted cells (pos 0) d)) down (subst (λ d. IsAfter next cells n (shifted cells d again.dy)) right is.stands)

  pub oscillator_true : again.dx ≡ pos 0 → again.dy ≡ pos 0 → n ≢ 1 → IsTrueWithin next cells limit (kind.Oscillator n)
  oscillator_true right down more = record {
    numbers = let some = is.some in (omega (arith, some, more), omega (arith, within, short));
    within = within;
    holds = record { live = λ _. is.live; stands = in_place right down; least = is.changed };
  }

-- where none of some generations is dead, the tree of the last one is live
pub last_live : (next : List ℕ → ℕ) (p : ℤ → ℤ → ℕ) (n : ℕ) (nodes : List Node) (now : Tree) → IsLaterTree next p n nodes now → AreOtherUpTo next p n → 1 ≤ n → HasLive (trees.cell nodes now)
last_live next p n nodes now is others some =
    let live = (others n some (omega arith)).0 in
    (live.0, live.1, λ none. live.2 (sym (is.shows live.0 live.1) ∙ none))

-- ---- a live pattern's tree, none of whose first n generations is dead or the pattern, moved

module _ (next : List ℕ → ℕ) (quiet : next (replicate 9 0) ≡ 0) (nodes : List Node) (first : First) (is : IsFirst nodes first) (cells : Picture) (shows : ShowsTree nodes first.tree cells) where
  abbrev pub p : ℤ → ℤ → ℕ
  p = trees.cell nodes first.tree

  first_live : HasLive p
  first_live = (first.bounds.x0, is.box.left.0, is.box.left.1)

  -- where none of all generations is, nothing is true of it, and the growth is that of the last one
  pub found_none : (limit : ℕ) → AreOtherUpTo next p limit → (new : List Node) (now : Tree) → IsLaterTree next p limit new now → (growth : Growth) → IsGrowthOf new now growth
      → IsIdentity next cells limit (Unknown growth)
  found_none limit others new now is growth (last, shown, grown) = (
    picture_live next p cells shows first_live,
    none_true next p cells shows limit others,
    last,
    (λ x y. later next p cells shows limit x y ∙ sym (is.shows x y) ∙ sym (shown x y)),
    grown,
  )

  -- where no time up to the limit brings it back, and a tree is live then, nothing is true of it, and the growth is that of the tree
  pub found_growth : (limit : ℕ) → HasNoReturn next cells limit → (new : List Node) (last : Tree) → IsLaterTree next p limit new last → HasLive (trees.cell new last) → (growth : Growth)
      → IsGrowthOf new last growth → IsIdentity next cells limit (Unknown growth)
  found_growth limit without new last is live growth (picture, shown, grown) = (
    picture_live next p cells shows first_live,
    none_back next quiet cells limit without (live.0, live.1, λ none. live.2 (is.shows live.0 live.1 ∙ sym (later next p cells shows limit live.0 live.1) ∙ none)),
    picture,
    (λ x y. later next p cells shows limit x y ∙ sym (is.shows x y) ∙ sym (shown x y)),
    grown,
  )

  module _ (n : ℕ) (others : AreOtherUpTo next p n) (limit : ℕ) (less : n < limit) (short : limit ≤ longest_period) where
    -- where the next one is dead, it ends then
    pub found_death : IsDead (cells_after next p (n + 1)) → IsEnding next cells (Death (n + 1))
    found_death dead = death_ends next p cells shows (n + 1) first_live (omega arith) (λ m some before. others m some (omega (arith, before))) dead

    -- where the next one is the pattern, moved, it is back for the first time
    pub found_return : (dx dy : ℤ) → AreMoved p (cells_after next p (n + 1)) dx dy → IsReturn next cells (record { generations = n + 1; dx = dx; dy = dy })
    found_return dx dy moved =
        let left = least_right next quiet p first.bounds is.box (n + 1) dx dy moved in
        let right = most_right next quiet p first.bounds is.box (n + 1) dx dy moved in
        let up = least_down next quiet p first.bounds is.box (n + 1) dx dy moved in
        let down = most_down next quiet p first.bounds is.box (n + 1) dx dy moved in
        let near = (near_start nodes first.tree is.start).near in
        record {
          live = picture_live next p cells shows first_live;
          some = omega arith;
          right = (omega (arith, ints, left, less, short), omega (arith, ints, right, less, short));
          down = (omega (arith, ints, up, less, short), omega (arith, ints, down, less, short));
          stands = picture_moved next p cells shows (n + 1) dx dy moved;
          changed = λ m some before. picture_changed next p cells shows m
              (changes p (cells_after next p m) near (start_near next p m quiet is.start.within (omega (arith, before, less, short))) (others m some (omega (arith, before))).1);
          nowhere = λ m some before. picture_nowhere next p cells shows m (others m some (omega (arith, before))).1;
        }

    -- so it ends as the next one shows it
    pub found_ending : (stage : Stage) (ending : Ending) → ending_of stage (n + 1) ≡ Some ending → IsStage p (cells_after next p (n + 1)) stage → IsEnding next cells ending
    found_ending Empty ending is dead = subst (IsEnding next cells) (same_Some _ _ is) (found_death dead)
    found_ending (Back dx dy) ending is moved = subst (IsEnding next cells) (same_Some _ _ is) (found_return dx dy moved)
    found_ending Other ending is other = absurd (none-some _ is)

-- an ending is after n generations
pub ending_time : (stage : Stage) (n : ℕ) (ending : Ending) → ending_of stage n ≡ Some ending → generations_of ending ≡ n
ending_time Empty n ending is = ap generations_of (sym (same_Some _ _ is))
ending_time (Back dx dy) n ending is = ap generations_of (sym (same_Some _ _ is))
ending_time Other n ending is = absurd (none-some _ is)

-- and where there is none, the plane is live, and another one
pub no_ending : (stage : Stage) (n : ℕ) → ending_of stage n ≡ None → stage ≡ Other
no_ending Empty n is = absurd (none-some _ (sym is))
no_ending (Back dx dy) n is = absurd (none-some _ (sym is))
no_ending Other n is = refl

-- ---- a plane after some generations

-- what is found of its tree is found of the plane
pub found_later : {T : Type 0} (next : List ℕ → ℕ) (p : ℤ → ℤ → ℕ) (cells : Picture) (n : ℕ) (nodes : List Node) (start : Tree) (IsFound : Picture → T → Type 0) (result : Result T LeapFault)
    → ((x y : ℤ) → plane.cell cells x y ≡ p x y) → IsLaterTree next p n nodes start
    → ((later : Picture) → ShowsTree nodes start later → IfOk result (IsFound later)) → IfOk result (λ found. (later : Picture) × IsAfter next cells n later × IsFound later found)
found_later next p cells n nodes start IsFound result shows is told =
    let (last, same) = tree_picture nodes start in
    let shown : ShowsTree nodes start last = λ x y. sym (same x y) in
    ok_as result _ _ (λ identity found. (last, picture_after next p cells last n nodes start shows is shown, found)) (told last shown)

-- ---- looks

-- one that goes to the end of its scope
pub whole_look : (next : List ℕ → ℕ) (cells : Picture) (scope : Scope) (identity : Identity) (work : ℕ) → IsIdentity next cells scope.limit identity → MayNeedWork work (after next cells) scope.limit
    → IsLook next cells scope (record { identity = identity; limit = scope.limit; work = work })
whole_look next cells scope identity work is needs = record { least = omega arith; most = omega arith; identity = is; work = needs; early = λ less. absurd (omega (arith, less)) }

-- no work is no more than any that may be needed
pub no_work_needed : (stages : ℕ → ℤ → ℤ → ℕ) (limit : ℕ) → MayNeedWork 0 stages limit
no_work_needed stages limit level some holds = omega arith

-- a search of some cells' tree may need as much work as it took
pub search_needs : (next : List ℕ → ℕ) (p : ℤ → ℤ → ℕ) (cells : Picture) → ((x y : ℤ) → plane.cell cells x y ≡ p x y) → (old new work limit : ℕ) → old + work ≡ new
    → TakesSearch old new (cells_after next p) limit → MayNeedWork work (after next cells) limit
search_needs next p cells shows old new work limit took takes level some holds =
    let most = takes level some (λ m less x y live. holds m less x y (λ none. live (sym (later next p cells shows m x y) ∙ none))) in
    omega (arith, took, most)
