use Rattle.std.proofs.Common.{refl, subst, sym, arith, ◌/◌}
use Rattle.ca_memo.specs.Prelude.{MemoView, HasPageKey, HasFullLeap, HasSingle}
use Rattle.ca_memo.proofs.MemoKeys.{opened-held, opened-far, none-put}
use Rattle.ca_memo.proofs.memo.Memo.ensure_page.Goals as goal

pub returns-in_err-admit-clause-no_more : goal.returns-in_err-admit-clause-no_more
returns-in_err-admit-clause-no_more c = record {
  full_leaps = λ id result_id f. c.in_ok-make_room.ensures.no_more.full_leaps id result_id (c.admit.ensures.full_leaps id result_id f);
  singles = λ id j result_id d. c.in_ok-make_room.ensures.no_more.singles id j result_id (none-put (c.admit.ensures.singles id j result_id d));
  capacity = grind (arith, c.admit.ensures.capacity, c.in_ok-make_room.ensures.no_more.capacity);
}

pub invariant_of-self : goal.invariant_of-self
invariant_of-self c = let there = c.in_ok-admit.ensures.there _ refl in record {
  held = opened-held c.self-then-is_none.inside.pages.items c.self-then-is_none.inside.order.entries (c.number-number.result / 64) c.empty.result (subst (λ (m : MemoView). HasPageKey m.order.entries (c.number-number.result / 64)) (sym c.self-then-is_none.view_is) there) c.self-then-is_none.invariant.held;
  most = c.self-then-is_none.invariant.most;
}

pub returns-in_ok-admit-clause-no_more : goal.returns-in_ok-admit-clause-no_more
returns-in_ok-admit-clause-no_more c = record {
  full_leaps = λ id result_id f. c.in_ok-make_room.ensures.no_more.full_leaps id result_id (c.admit.ensures.full_leaps id result_id
      (subst (λ m. HasFullLeap m id result_id) c.self-then-is_none.view_is (opened-far c.self-then-is_none.inside.pages.items _ c.empty.result c.empty.ensures id result_id f)));
  singles = λ id j result_id d. c.in_ok-make_room.ensures.no_more.singles id j result_id (none-put (c.admit.ensures.singles id j result_id (subst (λ m. HasSingle m id j result_id) c.self-then-is_none.view_is d)));
  capacity = grind (arith, c.self-then-is_none.view_is, c.admit.ensures.capacity, c.in_ok-make_room.ensures.no_more.capacity);
}

pub returns-in_ok-admit-clause-bounded : goal.returns-in_ok-admit-clause-bounded
returns-in_ok-admit-clause-bounded c = let there = c.in_ok-admit.ensures.there _ refl in record {
  held = opened-held c.self-then-is_none.inside.pages.items c.self-then-is_none.inside.order.entries (c.number-number.result / 64) c.empty.result (subst (λ (m : MemoView). HasPageKey m.order.entries (c.number-number.result / 64)) (sym c.self-then-is_none.view_is) there) c.self-then-is_none.invariant.held;
  most = c.self-then-is_none.invariant.most;
}
