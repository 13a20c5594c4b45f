use Rattle.std.proofs.Common.{◌≡◌, Some, refl, sym, ap, ◌∙◌, length, slice_get, arith, ◌/◌}
use Rattle.std.proofs.lemmas.Option.{slice_get_read}
use Rattle.ca_memo.proofs.MemoKeys.{changed-held, written-far}
use Rattle.ca_memo.proofs.memo.Memo.write.Goals.{In-Some}
use Rattle.ca_memo.proofs.memo.Memo.write.Goals as goal

-- the page that is written stands
stands : (c : In-Some) → slice_get c.self.inside.pages.items (c.number-place.result / 64) ≡ Some (Some c.in-Some.page.now)
stands c = slice_get_read c.self.inside.pages.items (length c.self.inside.pages.items) _ c.index_mut.result.now refl (omega (arith, c.len.ensures, c.self.inside.pages.ok.0, c.if-number-len.false)) c.index_mut.ensures.value ∙ ap (λ page. Some page) (sym c.in-Some.ensures.value)

pub invariant_of-self-2 : goal.invariant_of-self-2
invariant_of-self-2 c = record { held = changed-held c.self.inside.pages.items _ _ _ (stands (goal.at.invariant_of-self-2 c).In-Some) c.self.inside.order.entries c.self.invariant.held; most = c.self.invariant.most }

pub returns-clause-full_leaps : goal.returns-clause-full_leaps
returns-clause-full_leaps c = λ other centre f.
    rw (sym c.self.view_is) (written-far c.self.inside.pages.items _ _ _ (stands (goal.at.returns-clause-full_leaps c).In-Some) c.args.id c.number-place.result c.args.result_id c.number-place.ensures.value refl refl other centre f)

pub returns-clause-bounded : goal.returns-clause-bounded
returns-clause-bounded c = record { held = changed-held c.self.inside.pages.items _ _ _ (stands (goal.at.returns-clause-bounded c).In-Some) c.self.inside.order.entries c.self.invariant.held; most = c.self.invariant.most }
