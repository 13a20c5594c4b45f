use Rattle.std.proofs.Common.{◌≡◌, ℕ, ◌-◌, ◌<◌, min, inl, inr, length, slice_set, get_or, [], slice_index, refl, sym, ap, ap₂, subst, ◌∙◌, arith}
use Rattle.std.specs.Int.{bit_at}
use Rattle.std.proofs.lemmas.Bool.{cases_eq}
use Rattle.std.proofs.lemmas.Grind.{get_or-set_at}
use Rattle.std.proofs.lemmas.List.{get_or-set_other, get_or_default}
use Rattle.std.proofs.lemmas.Nat.Bits.{bit_at-zero, bit_at-lt}
use Rattle.ca_plane.specs.Prelude.{row_cells}
use Rattle.ca_bricks.specs.Prelude.{IsNextAged, lives_at, begins_at, number_at, aged_digit, HasNeighbours, IsNotIn, IsUnseen, IsSameRound, QueueGrows, round_at, round_cells}
use Rattle.ca_bricks.proofs.AgedRounds.{AreSameBut, aged_more, same_aged_again}
use Rattle.ca_bricks.proofs.BrickQueues.{grows_by_none, grows_again}
use Rattle.ca_bricks.specs.declared.cell_rule.CellRule.TheVariants.{ByCounting}
use Rattle.ca_bricks.proofs.BrickRounds.{next_of_round, same_where_unseen}
use Rattle.ca_bricks.proofs.aged_step.step_by.Goals as goal

-- what lives by the counting and isn't dying
one_or_none : (row lives dying number life : ℕ) → lives ≡ life → dying ≡ min 1 number → lives < 2 → row ≡ lives - dying → row ≡ life - number
one_or_none row lives dying number life e d low is = omega (arith, e, d, low, is)

pub bricks-init : goal.bricks-init
bricks-init g c = record {
  alike = c.requires.can_age.alike;
  next = λ t has done. c.requires.can_age.rest t has (λ k h e. done k (omega arith) h e);
  same = λ t _ _. record { live = record { cells = λ x y _ _. refl }; dying = λ k d _ x y _ _. refl };
  grows = grows_by_none _ _ _;
  others = λ t _. refl;
  other_digits = λ k d _ t _. refl;
}

pub bricks-preserved : goal.bricks-preserved
bricks-preserved g c =
    let inv = c.bricks.invariant in
    let k = c.bricks.s-index in
    let now = c.args.now.now in
    let mid = c.bricks.old in
    let one = c.put_live.new.grid in
    let new = c.put_numbers-changed.new.old in
    let s = slice_index c.args.awake.now k in
    let across = now.live.across in
    let count = length now.live.bricks.items in
    let rows = c.bits_without-next.result in
    let ageing = c.args.ageing in
    let inside : HasNeighbours across count s = c.requires.can_age.inside k c.bricks-test.true in
    let long : s < length mid.live.bricks.items = omega (arith, inside.behind, inv.alike.live.size) in
    let size : c.len-count.result ≡ count = omega (arith, c.len-count.ensures, now.live.bricks.ok.0) in
    let written : new.live.bricks.items ≡ slice_set mid.live.bricks.items s rows = ap (λ w. w.bricks.items) c.put_numbers-changed.ensures.live ∙ c.put_live.ensures.bricks in
    let digits : one.dying ≡ mid.dying = c.put_live.ensures.dying in
    let round = subst (λ l. (x y : ℕ) → y < 18 → round_cells c.round_of.result x y ≡ round_at across l s x y) c.deref.ensures.value c.round_of.ensures in
    let lives : (x y : ℕ) → x < 64 → y < 16 → row_cells c.next-lives.result x y ≡ lives_at ageing now s x y
    = next_of_round (ByCounting ageing.counting) across now.live.bricks.items s c.round_of.result c.next-lives.result round (λ x y. c.next-lives.ensures ageing.counting x y c.of-cells.ensures c.requires.counted) in
    let dying : (x y : ℕ) → x < 64 → y < 16 → row_cells c.dying_cells-dying.result x y ≡ min 1 (number_at now.dying.items s x y)
    = λ x y h i. c.dying_cells-dying.ensures x y h i ∙ ap (λ l. min 1 (number_at l s x y)) c.deref-in-bricks.ensures.value in
    let row : (x y : ℕ) → x < 64 → y < 16 → row_cells rows x y ≡ lives_at ageing now s x y - number_at now.dying.items s x y
    = λ x y h i. one_or_none _ _ _ _ _ (lives x y h i) (dying x y h i) (bit_at-lt (slice_index c.next-lives.result y) x) (c.bits_without-next.ensures x y h i) in
    let begun : (x y : ℕ) → x < 64 → y < 16 → row_cells c.bits_without-begun.result x y ≡ begins_at ageing now s x y
    = λ x y h i. c.bits_without-begun.ensures x y h i
    ∙ ap₂ (λ a b. a - b) (ap (λ r. row_cells r x y) (c.index.ensures ∙ get_or_default now.live.bricks.items s c.index.result.now [] (omega (arith, inside.behind)))) (lives x y h i) in
    let made : IsNextAged ageing now new s = record {
      live = λ x y h i. ap (λ l. row_cells (get_or l s []) x y) written ∙ ap (λ r. row_cells r x y) (get_or-set_at mid.live.bricks.items s s rows [] refl long) ∙ row x y h i;
      dying = λ j d low x y h i. c.put_numbers-changed.ensures.digits j d low x y h i ∙ ap (aged_digit ageing.states j (number_at now.dying.items s x y)) (begun x y h i);
    } in
    let but : AreSameBut s mid new = record {
      live = λ t other. ap (λ l. get_or l t []) written ∙ get_or-set_other mid.live.bricks.items s t rows [] other;
      dying = λ j d t other. c.put_numbers-changed.ensures.others j d t other ∙ ap (λ v. get_or (get_or v.items j d).bricks.items t []) digits;
    } in
    let old_brick = c.index-in-bricks.ensures ∙ get_or_default mid.live.bricks.items s c.index-in-bricks.result.now [] long in
    let apart : (t : ℕ) → (HasNeighbours across count t → ⊥) → t ≡ s → ⊥ = λ t not e. not (subst (HasNeighbours across count) (sym e) inside) in
    record {
      alike = c.put_numbers-changed.ensures.alike;
      next = aged_more ageing now mid new c.args.awake.now k s across count refl made but inv.next;
      same = λ t has not_in.
          let there = subst (λ n. HasNeighbours across n t) (sym size) has in
          let here = subst (λ n. HasNeighbours across n s) (sym size) inside in
          let before = c.in_ok-wake_if.ensures.grows.not_in t not_in in
          let unseen = subst (λ l. IsUnseen across s l rows t) old_brick (c.in_ok-wake_round.ensures.unseen t there before) in
          same_aged_again across c.args.old.now mid new t (inv.alike.digits ∙ sym c.requires.can_age.alike.digits) (inv.same t has (c.in_ok-wake_round.ensures.grows.not_in t before)) (record {
            live = subst (λ l. IsSameRound across mid.live.bricks.items l t) (sym written) (same_where_unseen across s mid.live.bricks.items rows long t unseen);
            dying = λ j d low x y h i. elim (cases_eq t s) [
              | inl e ↦
                  let none = c.in_ok-wake_if.ensures.woken here (subst (IsNotIn c.wake_if.new.self) e not_in) in
                  let within : j < length now.dying.items = omega (arith, low, inv.alike.digits) in
                  let kept = c.put_numbers-changed.ensures.same j d within x y h i (ap (λ n. bit_at n x) none ∙ bit_at-zero x) in
                  ap (λ n. row_cells (get_or (get_or new.dying.items j d).bricks.items n []) x y) e ∙ kept
                  ∙ ap (λ v. row_cells (get_or (get_or v.items j d).bricks.items s []) x y) digits
                  ∙ ap (λ n. row_cells (get_or (get_or mid.dying.items j d).bricks.items n []) x y) (sym e)
              | inr other ↦ ap (λ r. row_cells r x y) (but.dying j d t other)
            ];
          });
      grows = subst (λ n. QueueGrows across n c.args.queue.now c.wake_if.new.self) size
          (grows_again _ _ _ _ _ (subst (λ n. QueueGrows across n c.args.queue.now c.bricks.queue) (sym size) inv.grows) (grows_again _ _ _ _ _ c.in_ok-wake_round.ensures.grows c.in_ok-wake_if.ensures.grows));
      others = λ t not. but.live t (apart t not) ∙ inv.others t not;
      other_digits = λ j d low t not. but.dying j d t (apart t not) ∙ inv.other_digits j d low t not;
    }

pub returns : goal.returns
returns g c = record {
  alike = c.bricks.invariant.alike;
  next = λ t has. c.bricks.invariant.next t has (λ k low high e. omega (arith, c.bricks-test.false, low, high));
  same = c.bricks.invariant.same;
  grows = c.bricks.invariant.grows;
  others = c.bricks.invariant.others;
  other_digits = c.bricks.invariant.other_digits;
}
