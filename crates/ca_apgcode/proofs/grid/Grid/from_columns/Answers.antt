use Rattle.std.proofs.Common.{◌≡◌, ℕ, ◌-◌, ◌%◌, ◌<◌, ◌^◌, get_or, refl, ap, subst, ◌∙◌, arith}
use Rattle.std.specs.Int.{bit_at}
use Rattle.std.proofs.lemmas.Bool.{false≢true}
use Rattle.ca_apgcode.proofs.LeastBoxes.{IsLeastOf-columns, IsLeastOf-west, IsLeastOf-north}
use Rattle.ca_apgcode.proofs.grid.Grid.from_columns.Goals as goal

pub returns-then-not-begin_box-clause-none : goal.returns-then-not-begin_box-clause-none
returns-then-not-begin_box-clause-none c = λ g least.
    let same = λ (x : ℕ). ap (λ l. get_or l x 0) c.deref.ensures.value ∙ c.without_last_dead-columns.ensures.same x in
    false≢true (c.if-not-begin_box.ensures.1 (IsLeastOf-west c.args.columns.items c.deref.result.now g same least, IsLeastOf-north c.args.columns.items c.deref.result.now g same least))

pub returns-clause-some : goal.returns-clause-some
returns-clause-some c =
    let cut = c.without_last_dead-columns.result.items in
    let h = c.height_of-height.result in
    let begins = c.if-not-begin_box.ensures.0 refl in
    IsLeastOf-columns c.args.columns.items cut h
    (omega (arith, c.without_last_dead-columns.ensures.width, c.requires.width))
    c.without_last_dead-columns.ensures.same
    c.without_last_dead-columns.ensures.last
    c.requires.height
    (subst (λ l. 0 < get_or l 0 0) c.deref.ensures.value begins.0)
    begins.1.0
    (subst (λ l. get_or l begins.1.0 0 % 2 ≡ 1) c.deref.ensures.value begins.1.2)
    c.height_of-height.ensures.most
    (λ x. subst (λ l. get_or l x 0 < 2 ^ h) c.deref-2.ensures.value (c.height_of-height.ensures.all x))
    (subst (λ l. 0 < h → (x : ℕ) × (bit_at (get_or l x 0) (h - 1) ≡ 1)) c.deref-2.ensures.value c.height_of-height.ensures.last)
