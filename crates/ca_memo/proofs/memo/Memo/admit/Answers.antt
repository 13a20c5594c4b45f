use Rattle.std.proofs.Common.{subst, ◌∙◌, inl, inr}
use Rattle.ca_memo.specs.Prelude.{HasSingle}
use Rattle.ca_memo.proofs.MemoKeys.{put-held, put-near, put-there}
use Rattle.ca_memo.proofs.memo.Memo.admit.Goals as goal

pub invariant_of-self-2 : goal.invariant_of-self-2
invariant_of-self-2 c = record {
  held = rw c.in_ok-gone.ensures.entries (put-held c.self.inside.order c.args.key c.args.result_id c.self.inside.pages.items c.drop_page.new.pages.items c.self.invariant.most c.self.invariant.held
      (λ n page e. let r = c.drop_page.ensures.rest n page e in (r.0, λ w d. r.1 w (c.in_ok-gone.ensures.old ∙ d))));
  most = c.len-keys.ensures.valid.1;
}

pub returns-clause-singles : goal.returns-clause-singles
returns-clause-singles c = λ other j centre d. elim (put-near c.self.inside.order c.args.key c.args.result_id other j centre (rw c.in_ok-gone.ensures.entries at d)) [
  | inl was ↦ inl (c.spare_used.ensures.no_more.singles other j centre (subst (λ m. HasSingle m other j centre) c.self.view_is was))
  | inr put ↦ inr put
]

pub returns-clause-there : goal.returns-clause-there
returns-clause-there c = λ n e. rw c.in_ok-gone.ensures.entries (put-there c.self.inside.order c.args.key c.args.result_id n e)

pub returns-clause-bounded : goal.returns-clause-bounded
returns-clause-bounded c = record {
  held = rw c.in_ok-gone.ensures.entries (put-held c.self.inside.order c.args.key c.args.result_id c.self.inside.pages.items c.drop_page.new.pages.items c.self.invariant.most c.self.invariant.held
      (λ n page e. let r = c.drop_page.ensures.rest n page e in (r.0, λ w d. r.1 w (c.in_ok-gone.ensures.old ∙ d))));
  most = c.len-keys.ensures.valid.1;
}
