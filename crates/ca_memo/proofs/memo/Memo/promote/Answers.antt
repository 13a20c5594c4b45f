use Rattle.std.proofs.Common.{arith, sym}
use Rattle.ca_memo.proofs.MemoKeys.{promoted-held, same}
use Rattle.lru.proofs.CallerLemmas.{Contains-promoted}
use Rattle.ca_memo.proofs.memo.Memo.promote.Goals as goal

pub invariant_of-self : goal.invariant_of-self
invariant_of-self c = record {
  held = rw c.promote.ensures.entries (promoted-held c.self.inside.pages.items c.self.inside.order (same c.args.key) c.self.invariant.held);
  most = c.len-keys.ensures.valid.1;
}

pub returns-clause-no_more : goal.returns-clause-no_more
returns-clause-no_more c = record {
  full_leaps = λ id result_id f. rw (sym c.self.view_is) f;
  singles = λ id j result_id d. rw (sym c.self.view_is) (Contains-promoted (same c.args.key) c.self.inside.order.entries _ (rw c.promote.ensures.entries at d));
  capacity = grind (arith, c.promote.ensures.entries, c.self.view_is);
}
