use Rattle.std.proofs.Common.{inl, inr}
use Rattle.ca_memo.proofs.memo.Memo.put_full_leap.Goals as goal

pub returns-clause-full_leaps : goal.returns-clause-full_leaps
returns-clause-full_leaps c = λ other centre f. elim (c.write.ensures.full_leaps other centre f) [
  | inl was ↦ inl (c.in_ok-ensure_page.ensures.no_more.full_leaps other centre was)
  | inr put ↦ inr put
]
