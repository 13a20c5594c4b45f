use Rattle.std.proofs.Common.{◌≡◌, Some, refl, sym, ap, ◌∙◌, length, slice_get, arith, ◌/◌}
use Rattle.std.proofs.lemmas.Option.{slice_get_read}
use Rattle.ca_memo.proofs.MemoKeys.{changed-held, changed-far}
use Rattle.ca_memo.proofs.memo.Memo.full_leap.Goals.{After-look_up}
use Rattle.ca_memo.proofs.memo.Memo.full_leap.Goals as goal

-- the page that is looked into stands
stands : (c : After-look_up) → slice_get c.self.inside.pages.items (c.number-place.result / 64) ≡ Some (Some c.in_ok-page.page.now)
stands c = slice_get_read c.self.inside.pages.items (length c.self.inside.pages.items) _ c.index_mut.result.now refl (omega (arith, c.len.ensures, c.self.inside.pages.ok.0, c.if-number-len.false)) c.index_mut.ensures.value ∙ ap (λ page. Some page) (sym c.in_ok-page.ensures.value)

pub returns-in_err-result_id-clause-no_more : goal.returns-in_err-result_id-clause-no_more
returns-in_err-result_id-clause-no_more c = record {
  full_leaps = λ id result_id f. rw (sym c.self.view_is) (changed-far c.self.inside.pages.items _ _ c.look_up.new.self (stands (goal.at.returns-in_err-result_id-clause-no_more c).After-look_up) c.look_up.ensures.same id result_id f);
  singles = λ id j result_id d. rw (sym c.self.view_is) d;
  capacity = rw (sym c.self.view_is) refl;
}

pub returns-in_err-result_id-clause-bounded : goal.returns-in_err-result_id-clause-bounded
returns-in_err-result_id-clause-bounded c = record {
  held = changed-held c.self.inside.pages.items _ _ c.look_up.new.self (stands (goal.at.returns-in_err-result_id-clause-bounded c).After-look_up) c.self.inside.order.entries c.self.invariant.held;
  most = c.self.invariant.most;
}

pub returns-clause-no_more : goal.returns-clause-no_more
returns-clause-no_more c = record {
  full_leaps = λ id result_id f. rw (sym c.self.view_is) (changed-far c.self.inside.pages.items _ _ c.look_up.new.self (stands (goal.at.returns-clause-no_more c).After-look_up) c.look_up.ensures.same id result_id f);
  singles = λ id j result_id d. rw (sym c.self.view_is) d;
  capacity = rw (sym c.self.view_is) refl;
}

pub returns-clause-bounded : goal.returns-clause-bounded
returns-clause-bounded c = record {
  held = changed-held c.self.inside.pages.items _ _ c.look_up.new.self (stands (goal.at.returns-clause-bounded c).After-look_up) c.self.inside.order.entries c.self.invariant.held;
  most = c.self.invariant.most;
}
