use Rattle.std.proofs.Common.{sym, ◌∙◌, ap}
use Rattle.std.specs.Option.{option_copied}
use Rattle.ca_memo.proofs.MemoKeys.{near-found}
use Rattle.ca_memo.proofs.memo.Memo.single.Goals as goal

pub returns : goal.returns
returns c = rw (sym c.self.view_is) (near-found c.self.inside.order.entries c.args.id c.args.j c.in_ok-peek.field-0.now (sym c.peek.ensures ∙ ap option_copied c.in_ok-peek.was))
