use Rattle.std.proofs.Common.{◌≡◌, ℕ, ◌+◌, ◌-◌, ◌*◌, inl, inr, length, refl, sym, subst, ◌∙◌, arith}
use Rattle.std.proofs.lemmas.Bool.{cases_eq}
use Rattle.std.proofs.lemmas.Bool.Decides.{nat_tests}
use Rattle.ca_plane.specs.Prelude.{GoesByAgeing, cells_after}
use Rattle.ca_quad.specs.Prelude.{cell}
use Rattle.ca_bricks.specs.Prelude.{AgedGridShows, AreAlike, CanAge, HasBlankEdges, IsNextAged, IsSameAged, HasNeighbours, AllHaveNeighbours}
use Rattle.ca_bricks.proofs.AgedGrids.{aged_edges}
use Rattle.ca_bricks.proofs.LaterAgedGrids.{aged_later, aged_less, blank_ages, blank_ages_again, aged_again, edges_stay, beside_again, alike_back, worked}
use Rattle.ca_run.specs.inner.AtCost.{SpendsAtMost}
use Rattle.ca_run.proofs.Costs.{charged_none, charged_more}
use Rattle.ca_bricks.proofs.LaterGrids.{queue_inside}
use Rattle.ca_run.proofs.bricks.aged.AgeingGridRule.grid_after.Goals as goal

pub generations-init : goal.generations-init
generations-init g c =
    let grid = c.args.grid in
    let next = g.A.Automaton.next_of c.args.leaper.now.rule in
    let p = cells_after next (cell c.args.leaper.now.nodes c.args.first.now) in
    let n : c.args.n ≡ c.args.n - 0 = omega arith in
    let r : c.args.reached ≡ c.args.reached + 0 = omega arith in
    let made = c.in_ok-before.ensures in
    record {
      shows = subst (λ m. AgedGridShows grid m (p (c.args.reached + 0))) n (subst (λ k. AgedGridShows grid c.args.n (p k)) r c.requires.shows);
      states = refl;
      place = record { place = record { x = refl; y = refl; across = refl; down = refl }; size = refl };
      alike = made.alike;
      inside = c.in_ok-awake.ensures.inside;
      empty = c.in_ok-awake.ensures.empty;
      rest = λ t has not_in. blank_ages next c.args.self.now grid c.in_ok-before.before (subst (λ s. GoesByAgeing s next c.args.self.now) (sym c.requires.suits) c.requires.rule.ages) c.requires.shows.least c.requires.quiet t made.alike.digits (c.in_ok-awake.ensures.others t has not_in) (made.blank t);
      next = λ h t has. absurd (omega (arith, h));
      edge = aged_edges grid c.args.n (p c.args.reached) c.requires.shows;
      edge_before = λ t _. made.blank t;
      first = λ _. c.in_ok-awake.ensures.others;
      blank = λ _. made.blank;
      counted = omega arith;
      charged = charged_none c.args.work.now;
    }

pub generations-preserved : goal.generations-preserved
generations-preserved g c =
    let inv = c.generations.invariant in
    let k = c.generations.k in
    let ageing = c.args.self.now in
    let next = g.A.Automaton.next_of c.args.leaper.now.rule in
    let now = c.generations.grid in
    let old = c.generations.before in
    let new = c.aged_generation.new.now in
    let before = c.in_ok-aged_generation.ensures.before in
    let made = c.in_ok-aged_generation.ensures.later in
    let woken = c.in_ok-wake_next.ensures in
    let goes_by : GoesByAgeing now.states next ageing = subst (λ s. GoesByAgeing s next ageing) (sym (inv.states ∙ c.requires.suits)) c.requires.rule.ages in
    let goes_on : GoesByAgeing new.states next ageing = subst (λ s. GoesByAgeing s next ageing) (sym made.alike.states) goes_by in
    let place = beside_again c.args.grid.live now.live new.live inv.place made.alike.live in
    let edge = edges_stay ageing now old new _ _ inv.alike made inv.edge_before in
    let count : c.len-count.result ≡ length c.args.grid.live.bricks.items = omega (arith, c.len-count.ensures, c.args.grid.live.bricks.ok.0) in
    let has_now = λ (t : ℕ) (has : HasNeighbours new.live.across (length new.live.bricks.items) t).
    subst (λ n. HasNeighbours n (length now.live.bricks.items) t) made.alike.live.place.across (subst (λ n. HasNeighbours new.live.across n t) made.alike.live.size has) in
    let has_first = λ (t : ℕ) (has : HasNeighbours new.live.across (length new.live.bricks.items) t).
    subst (λ n. HasNeighbours n c.len-count.result t) place.place.across (subst (λ n. HasNeighbours new.live.across n t) (place.size ∙ sym count) has) in
    record {
      shows = aged_later next ageing now new goes_by c.requires.quiet c.args.n k c.args.reached (cell c.args.leaper.now.nodes c.args.first.now) (omega (arith, c.generations-test.true)) inv.shows made.alike made.next edge;
      states = made.alike.states ∙ inv.states;
      place = place;
      alike = subst (AreAlike new) (sym before) (alike_back now new inv.shows.beside made.alike);
      inside = subst (λ n. AllHaveNeighbours n (length new.live.bricks.items) c.wake_next.new.awake.items) (sym place.place.across)
          (subst (λ n. AllHaveNeighbours c.args.grid.live.across n c.wake_next.new.awake.items) (count ∙ sym place.size) woken.inside);
      empty = woken.empty;
      rest = λ t has not_in. subst (λ w. IsNextAged ageing new w t) (sym before) (
          let same = made.same t (has_now t has) (woken.queue t not_in) in
          elim (cases_eq k 0) [
            | inl begun ↦
                blank_ages_again next ageing old now new goes_on (rw made.alike.states inv.shows.least) c.requires.quiet t inv.alike.digits made.alike.digits (sym made.alike.live.place.across)
                (inv.blank begun) (inv.first begun t (has_now t has) (woken.again (grind (arith, nat_tests, begun)) t (has_first t has) not_in))
                (subst (λ n. IsSameAged n old new t) (sym made.alike.live.place.across) same)
            | inr more ↦
                aged_again ageing old new now t (made.alike.live.place.across ∙ sym inv.alike.live.place.across) (made.alike.digits ∙ sym inv.alike.digits)
                (inv.next (omega (arith, more)) t (has_now t has)) (subst (λ n. IsSameAged n old new t) (sym inv.alike.live.place.across) same)
          ]);
      next = λ _ t has. subst (λ w. IsNextAged ageing w new t) (sym before) (made.next t (has_now t has));
      edge = edge;
      edge_before = subst HasBlankEdges (sym before) inv.edge;
      first = λ e. absurd (omega (arith, e));
      blank = λ e. absurd (omega (arith, e));
      counted = omega (arith, inv.counted, c.count_steps.ensures.fits, c.in_ok-steps.ensures.counts, c.in_ok-steps.ensures.steps, c.saturating_add-stepped.ensures);
      charged = charged_more k (length c.args.grid.live.bricks.items) c.len-count.result (omega (arith, count)) inv.charged c.count_steps.ensures.charged;
    }

pub first_bricks-requires-clause-edge : goal.first_bricks-requires-clause-edge
first_bricks-requires-clause-edge g c =
    aged_edges c.args.grid c.args.n (cells_after (g.A.Automaton.next_of c.args.leaper.now.rule) (cell c.args.leaper.now.nodes c.args.first.now) c.args.reached) c.requires.shows

pub aged_generation-requires : goal.aged_generation-requires
aged_generation-requires g c =
    let inv = c.generations.invariant in
    subst (CanAge c.args.self.now c.generations.grid c.generations.before) (sym c.deref-in-generations.ensures.value) (record {
      room = omega (arith, c.requires.fresh.room, inv.place.place.across, inv.place.size);
      beside = inv.shows.beside;
      alike = inv.alike;
      inside = inv.inside;
      rest = inv.rest;
    })

pub wake_next-requires-clause-inside : goal.wake_next-requires-clause-inside
wake_next-requires-clause-inside g c =
    let inv = c.generations.invariant in
    let now = c.generations.grid in
    let count : length now.live.bricks.items ≡ c.len-count.result = omega (arith, c.len-count.ensures, c.args.grid.live.bricks.ok.0, inv.place.size) in
    subst (λ n. AllHaveNeighbours c.args.grid.live.across n c.aged_generation.new.queue) count (subst (λ n. AllHaveNeighbours n (length now.live.bricks.items) c.aged_generation.new.queue) inv.place.place.across
    (queue_inside now.live.across (length now.live.bricks.items) c.generations.queue c.aged_generation.new.queue inv.empty c.in_ok-aged_generation.ensures.later.grows))

pub with_grid-requires : goal.with_grid-requires
with_grid-requires g c =
    let inv = c.generations.invariant in
    let k = c.generations.k in
    let next = g.A.Automaton.next_of c.args.leaper.now.rule in
    let first = cell c.args.leaper.now.nodes c.args.first.now in
    let now = c.generations.grid in
    let new = c.aged_generation.new.now in
    let made = c.in_ok-aged_generation.ensures.later in
    let time : c.args.reached + (k + 1) ≡ (c.args.reached + k) + 1 = omega arith in
    subst (λ r. AgedGridShows new 0 (cells_after next first r)) time
    (aged_less new (c.args.n - (k + 1)) 0 (cells_after next first (c.args.reached + (k + 1))) (omega arith)
    (aged_later next c.args.self.now now new (subst (λ s. GoesByAgeing s next c.args.self.now) (sym (inv.states ∙ c.requires.suits)) c.requires.rule.ages) c.requires.quiet c.args.n k c.args.reached first (omega (arith, c.generations-test.true)) inv.shows
    made.alike made.next (edges_stay c.args.self.now now c.generations.before new _ _ inv.alike made inv.edge_before)))

pub returns-clause-shows : goal.returns-clause-shows
returns-clause-shows g c =
    let next = g.A.Automaton.next_of c.args.leaper.now.rule in
    let p = cell c.args.leaper.now.nodes c.args.first.now in
    let all : c.generations.k ≡ c.args.n = grind (arith, nat_tests) in
    let time : c.args.reached + c.generations.k ≡ c.args.reached + c.args.n = omega (arith, all) in
    worked c.generations.grid c.generations.stepped (cells_after next p (c.args.reached + c.args.n))
    (aged_less c.generations.grid (c.args.n - c.generations.k) 0 (cells_after next p (c.args.reached + c.args.n)) (omega arith)
    (subst (λ r. AgedGridShows c.generations.grid (c.args.n - c.generations.k) (cells_after next p r)) time c.generations.invariant.shows))

pub returns-clause-charged : goal.returns-clause-charged
returns-clause-charged g c =
    let all : c.generations.k ≡ c.args.n = grind (arith, nat_tests) in
    subst (λ n. SpendsAtMost c.args.work.now c.generations.work (n * length c.args.grid.live.bricks.items)) all c.generations.invariant.charged

pub returns-clause-place : goal.returns-clause-place
returns-clause-place g c = let p = c.generations.invariant.place in record { place = record { x = p.place.x; y = p.place.y; across = p.place.across; down = p.place.down }; size = p.size }

pub returns-clause-counts : goal.returns-clause-counts
returns-clause-counts g c = c.generations.invariant.counted
