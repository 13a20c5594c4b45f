use Rattle.ca_memo.proofs.memo.Memo.spare_used.Goals as goal

pub pages-preserved : goal.pages-preserved
pages-preserved c = let a = c.pages.invariant.no_more in let b = c.take_use.ensures.no_more in let d = c.promote.ensures.no_more in record {
  no_more = record {
    full_leaps = λ id result_id f. a.full_leaps id result_id (b.full_leaps id result_id (d.full_leaps id result_id f));
    singles = λ id j result_id f. a.singles id j result_id (b.singles id j result_id (d.singles id j result_id f));
    capacity = cc;
  };
  room = cc;
}
