use Rattle.std.proofs.Common.{◌≡◌, ℕ, ◌+◌, ◌-◌, ◌*◌, inl, inr, length, refl, sym, ap, subst, ◌∙◌, arith}
use Rattle.std.proofs.lemmas.Bool.{cases_eq}
use Rattle.std.proofs.lemmas.Bool.Decides.{nat_tests}
use Rattle.ca_plane.specs.Prelude.{cells_after}
use Rattle.ca_quad.specs.Prelude.{cell}
use Rattle.ca_bricks.specs.Prelude.{GridShows, HasNeighbours, AllHaveNeighbours, IsNotIn, IsNextBrick, BricksRest, HasBlankEdge, IsBlankRound}
use Rattle.ca_bricks.proofs.BrickMargins.{grid_less}
use Rattle.ca_run.specs.inner.AtCost.{SpendsAtMost}
use Rattle.ca_run.proofs.Costs.{charged_none, charged_more}
use Rattle.ca_bricks.proofs.BrickBlanks.{blank_rests, blank_again}
use Rattle.ca_bricks.proofs.LaterGrids.{edge_blank, grid_later, grid_seen, queue_inside}
use Rattle.ca_run.proofs.bricks.run.CellRuleGridRule.grid_after.Goals as goal

pub generations-init : goal.generations-init
generations-init g c =
    let across = c.args.grid.across in
    let bricks = c.args.grid.bricks.items in
    let count : c.len-count.result ≡ length bricks = omega (arith, c.len-count.ensures, c.args.grid.bricks.ok.0) in
    let made = c.in_ok-awake.ensures in
    let awake = c.in_ok-awake.awake.items in
    let others : (t : ℕ) → HasNeighbours across (length bricks) t → IsNotIn awake t → IsBlankRound across bricks t
    = subst (λ l. (t : ℕ) → HasNeighbours across (length l) t → IsNotIn awake t → IsBlankRound across l t) c.deref.ensures.value made.others in
    let p = cells_after (g.A.Automaton.next_of c.args.leaper.now.rule) (cell c.args.leaper.now.nodes c.args.first.now) in
    let n : c.args.n ≡ c.args.n - 0 = omega arith in
    let r : c.args.reached ≡ c.args.reached + 0 = omega arith in
    record {
      shows = subst (λ m. GridShows c.args.grid m (p (c.args.reached + 0))) n (subst (λ k. GridShows c.args.grid c.args.n (p k)) r c.requires.shows);
      place = record { x = refl; y = refl; across = refl; down = refl };
      count = refl;
      size = c.in_ok-before.ensures.length ∙ count;
      inside = subst (λ l. AllHaveNeighbours across (length l) awake) c.deref.ensures.value made.inside;
      empty = made.empty;
      rest = λ t has not_in. blank_rests (g.A.Automaton.next_of c.args.leaper.now.rule) c.args.self.now c.requires.rule c.requires.quiet across bricks c.in_ok-before.before.items t
          (others t has not_in) (c.in_ok-before.ensures.blank t);
      next = λ h t has. absurd (omega (arith, h));
      edge = edge_blank c.args.grid c.args.n (p c.args.reached) c.requires.shows;
      edge_before = λ t _. c.in_ok-before.ensures.blank t;
      first = λ _. others;
      blank = λ _. c.in_ok-before.ensures.blank;
      counted = omega (arith, c.requires.fresh.unstepped);
      charged = charged_none c.args.work.now;
    }

pub generations-preserved : goal.generations-preserved
generations-preserved g c =
    let inv = c.generations.invariant in
    let k = c.generations.k in
    let across = c.generations.grid.across in
    let old = c.generations.grid.bricks.items in
    let new = c.generation.new.now.items in
    let before = c.generation.new.before.items in
    let made = c.in_ok-generation.ensures in
    let woken = c.in_ok-wake_next.ensures in
    let next = g.A.Automaton.next_of c.args.leaper.now.rule in
    let count_now : c.len-count.result ≡ length old = omega (arith, c.len-count.ensures, c.args.grid.bricks.ok.0, inv.count) in
    let has_old = λ (t : ℕ) (has : HasNeighbours across (length new) t). subst (λ n. HasNeighbours across n t) made.size has in
    let p = cell c.args.leaper.now.nodes c.args.first.now in
    record {
      shows = grid_later (g.A.Automaton.next_of c.args.leaper.now.rule) c.args.self.now c.requires.rule c.requires.quiet c.generations.grid _ c.args.n k c.args.reached p (omega (arith, c.generations-test.true))
          inv.shows (record { x = refl; y = refl; across = refl; down = refl }) made.size made.next (made.edge inv.edge_before);
      place = record { x = inv.place.x; y = inv.place.y; across = inv.place.across; down = inv.place.down };
      count = made.size ∙ inv.count;
      size = ap length made.before ∙ sym made.size;
      inside = subst (λ n. AllHaveNeighbours across n c.wake_next.new.awake.items) (count_now ∙ sym made.size) woken.inside;
      empty = woken.empty;
      rest = λ t has not_in. subst (λ l. IsNextBrick c.args.self.now across new l t) (sym made.before) (elim (cases_eq k 0) [
        | inl begun ↦
            blank_again next c.args.self.now c.requires.rule c.requires.quiet across c.generations.before.items old new t (inv.blank begun)
            (inv.first begun t (has_old t has) (woken.again (grind (arith, nat_tests, begun)) t (subst (λ n. HasNeighbours across n t) (sym count_now) (has_old t has)) not_in))
            (made.same t (has_old t has) (woken.queue t not_in))
        | inr more ↦ made.rest (inv.next (omega (arith, more))) t has (woken.queue t not_in)
      ]);
      next = λ _ t has. subst (λ l. IsNextBrick c.args.self.now across l new t) (sym made.before) (made.next t (has_old t has));
      edge = made.edge inv.edge_before;
      edge_before = subst (λ l. HasBlankEdge across l) (sym made.before) inv.edge;
      first = λ e. absurd (omega (arith, e));
      blank = λ e. absurd (omega (arith, e));
      counted = omega (arith, inv.counted, c.count_steps.ensures.fits, c.in_ok-steps.ensures.counts, c.in_ok-steps.ensures.steps, c.saturating_add.ensures);
      charged = charged_more k (length c.args.grid.bricks.items) c.len-count.result (omega (arith, c.len-count.ensures, c.args.grid.bricks.ok.0)) inv.charged c.count_steps.ensures.charged;
    }

pub returns-clause-charged : goal.returns-clause-charged
returns-clause-charged g c =
    let all : c.generations.k ≡ c.args.n = grind (arith, nat_tests) in
    subst (λ n. SpendsAtMost c.args.work.now c.generations.work (n * length c.args.grid.bricks.items)) all c.generations.invariant.charged

pub with_grid-requires : goal.with_grid-requires
with_grid-requires g c =
    let inv = c.generations.invariant in
    let made = c.in_ok-generation.ensures in
    grid_seen (g.A.Automaton.next_of c.args.leaper.now.rule) c.args.self.now c.requires.rule c.requires.quiet c.generations.grid _ c.args.n c.generations.k c.args.reached
    (cell c.args.leaper.now.nodes c.args.first.now) (omega (arith, c.generations-test.true)) inv.shows (record { x = refl; y = refl; across = refl; down = refl }) made.size made.next (made.edge inv.edge_before)

pub returns-clause-shows : goal.returns-clause-shows
returns-clause-shows g c =
    let next = g.A.Automaton.next_of c.args.leaper.now.rule in
    let p = cell c.args.leaper.now.nodes c.args.first.now in
    let all : c.generations.k ≡ c.args.n = grind (arith, nat_tests) in
    let time : c.args.reached + c.generations.k ≡ c.args.reached + c.args.n = omega (arith, all) in
    grid_less c.generations.grid (c.args.n - c.generations.k) 0 (cells_after next p (c.args.reached + c.args.n)) (omega arith)
    (subst (λ r. GridShows c.generations.grid (c.args.n - c.generations.k) (cells_after next p r)) time c.generations.invariant.shows)

pub first_bricks-requires-clause-edge : goal.first_bricks-requires-clause-edge
first_bricks-requires-clause-edge g c =
    let p = cells_after (g.A.Automaton.next_of c.args.leaper.now.rule) (cell c.args.leaper.now.nodes c.args.first.now) in
    subst (HasBlankEdge c.args.grid.across) (sym c.deref.ensures.value) (edge_blank c.args.grid c.args.n (p c.args.reached) c.requires.shows)

pub generation-requires-clause-inside : goal.generation-requires-clause-inside
generation-requires-clause-inside g c =
    let grid = c.generations.grid in
    subst (AllHaveNeighbours grid.across (length grid.bricks.items)) (sym c.deref-in-generations-2.ensures.value) c.generations.invariant.inside

pub generation-requires-clause-rest : goal.generation-requires-clause-rest
generation-requires-clause-rest g c =
    let grid = c.generations.grid in
    subst (BricksRest c.args.self.now grid.across grid.bricks.items c.generations.before.items) (sym c.deref-in-generations-2.ensures.value) c.generations.invariant.rest

pub wake_next-requires-clause-inside : goal.wake_next-requires-clause-inside
wake_next-requires-clause-inside g c =
    let inv = c.generations.invariant in
    let across = c.generations.grid.across in
    let old = c.generations.grid.bricks.items in
    let count : length old ≡ c.len-count.result = omega (arith, c.len-count.ensures, c.args.grid.bricks.ok.0, inv.count) in
    subst (λ n. AllHaveNeighbours across n c.generation.new.queue) count (queue_inside across (length old) c.generations.queue c.generation.new.queue inv.empty c.in_ok-generation.ensures.grows)

pub returns-clause-place : goal.returns-clause-place
returns-clause-place g c = record { place = c.generations.invariant.place; size = c.generations.invariant.count }

pub returns-clause-counts : goal.returns-clause-counts
returns-clause-counts g c = c.generations.invariant.counted
