use Rattle.std.proofs.Common.{sym, inl, inr}
use Rattle.ca_memo.proofs.RecentResults.{put-either}
use Rattle.ca_memo.proofs.slots.Slots.put.Goals as goal

pub returns-then-place-len-clause-results : goal.returns-then-place-len-clause-results
returns-then-place-len-clause-results g c = λ other any h. elim (put-either c.self.inside.slots.items c.place-place.result c.args.key other c.args.square any h) [
  | inl was ↦ inl (c.count_one.ensures.results other any (rw (sym c.self.view_is) was))
  | inr put ↦ inr put
]

pub returns-else-place-len-clause-results : goal.returns-else-place-len-clause-results
returns-else-place-len-clause-results g c = λ other any h. inl (c.count_one.ensures.results other any h)
