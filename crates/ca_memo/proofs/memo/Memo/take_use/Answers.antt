use Rattle.std.proofs.Common.{◌≡◌, Some, refl, sym, ap, ◌∙◌, length, slice_get, arith}
use Rattle.std.proofs.lemmas.Option.{slice_get_read}
use Rattle.ca_memo.proofs.MemoKeys.{changed-held, changed-far}
use Rattle.ca_memo.proofs.memo.Memo.take_use.Goals.{After-take_use}
use Rattle.ca_memo.proofs.memo.Memo.take_use.Goals as goal

-- the page that is looked at stands
stands : (c : After-take_use) → slice_get c.self.inside.pages.items c.args.page ≡ Some (Some c.in-Some.page.now)
stands c = slice_get_read c.self.inside.pages.items (length c.self.inside.pages.items) _ c.index_mut.result.now refl (omega (arith, c.len.ensures, c.self.inside.pages.ok.0, c.if-index-len.false)) c.index_mut.ensures.value ∙ ap (λ page. Some page) (sym c.in-Some.ensures.value)

pub invariant_of-self-2 : goal.invariant_of-self-2
invariant_of-self-2 c = record {
  held = changed-held c.self.inside.pages.items _ _ c.take_use.new.self (stands (goal.at.invariant_of-self-2 c).After-take_use) c.self.inside.order.entries c.self.invariant.held;
  most = c.self.invariant.most;
}

pub returns-clause-no_more : goal.returns-clause-no_more
returns-clause-no_more c = record {
  full_leaps = λ id result_id f. rw (sym c.self.view_is) (changed-far c.self.inside.pages.items _ _ c.take_use.new.self (stands (goal.at.returns-clause-no_more c).After-take_use) c.take_use.ensures id result_id f);
  singles = λ id j result_id d. rw (sym c.self.view_is) d;
  capacity = rw (sym c.self.view_is) refl;
}
