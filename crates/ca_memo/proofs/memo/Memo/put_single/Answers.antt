use Rattle.std.proofs.Common.{inl, inr}
use Rattle.ca_memo.proofs.MemoKeys.{single-is}
use Rattle.ca_memo.proofs.memo.Memo.put_single.Goals as goal

pub returns-clause-singles : goal.returns-clause-singles
returns-clause-singles c = λ other time centre d. elim (c.admit.ensures.singles other time centre d) [
  | inl was ↦ inl was
  | inr put ↦ inr (single-is c.args.id c.args.j c.args.result_id other time centre put.0 put.1)
]
