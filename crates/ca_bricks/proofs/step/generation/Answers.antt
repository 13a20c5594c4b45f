use Rattle.std.proofs.Common.{◌≡◌, arith, subst, sym, ap, ◌∙◌, length, get_or, []}
use Rattle.std.proofs.lemmas.List.{with_items_is}
use Rattle.ca_bricks.specs.Prelude.{HasNeighbours, IsSameRound, IsBlank}
use Rattle.ca_bricks.proofs.BrickRounds.{next_again}
use Rattle.ca_bricks.proofs.step.generation.Goals as goal

pub returns-clause-same : goal.returns-clause-same
returns-clause-same c = λ t has not_in.
    let before = c.args.before.now in
    let long : length c.step.new.old ≡ before.len = omega (arith, c.step.auto.old, ap length c.deref_mut.ensures.value, before.ok.0) in
    let items = ap (λ v. v.items) c.swap.ensures.x_after ∙ with_items_is before c.step.new.old long in
    let inside = subst (λ l. HasNeighbours c.args.across (length l) t) (sym c.deref.ensures.value) has in
    subst (λ l. IsSameRound c.args.across before.items l t) (sym items)
    (subst (λ l. IsSameRound c.args.across l c.step.new.old t) c.deref_mut.ensures.value (c.in_ok-step.ensures.same t inside not_in))

pub returns-clause-rest : goal.returns-clause-rest
returns-clause-rest c = λ is_next t has not_in.
    let before = c.args.before.now in
    let long : length c.step.new.old ≡ before.len = omega (arith, c.step.auto.old, ap length c.deref_mut.ensures.value, before.ok.0) in
    let items = ap (λ v. v.items) c.swap.ensures.x_after ∙ with_items_is before c.step.new.old long in
    let size : length c.swap.new.x.items ≡ length c.args.now.now.items = omega (arith, ap length items, long, before.ok.0, c.requires.size) in
    let has_now = subst (λ n. HasNeighbours c.args.across n t) size has in
    next_again c.args.rule.now c.args.across before.items c.swap.new.x.items c.args.now.now.items t (is_next t has_now) (returns-clause-same c t has_now not_in)

pub returns-clause-edge : goal.returns-clause-edge
returns-clause-edge c = λ blank t outer.
    let before = c.args.before.now in
    let long : length c.step.new.old ≡ before.len = omega (arith, c.step.auto.old, ap length c.deref_mut.ensures.value, before.ok.0) in
    let items = ap (λ v. v.items) c.swap.ensures.x_after ∙ with_items_is before c.step.new.old long in
    let size : length c.swap.new.x.items ≡ length before.items = omega (arith, ap length items, long, before.ok.0) in
    let now_size : length c.swap.new.x.items ≡ length c.args.now.now.items = omega (arith, size, c.requires.size) in
    let same = c.in_ok-step.ensures.others t (λ has. outer (subst (λ n. HasNeighbours c.args.across n t) (sym now_size) (subst (λ l. HasNeighbours c.args.across (length l) t) c.deref.ensures.value has))) in
    let row = ap (λ l. get_or l t []) items ∙ same ∙ ap (λ l. get_or l t []) c.deref_mut.ensures.value in
    subst IsBlank (sym row) (blank t (λ has. outer (subst (λ n. HasNeighbours c.args.across n t) (sym size) has)))
