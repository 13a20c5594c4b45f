use Rattle.std.proofs.Common.{◌≡◌, length}
use Rattle.ca_memo.specs.Prelude.{RemembersNoMore}
use Rattle.ca_memo.proofs.memo.Memo.spare_used.Given as goal

abbrev pub invariant-pages : goal.invariant-pages
invariant-pages l = record { no_more : RemembersNoMore l.fn.self l.self; room : length l.self.pages ≡ length l.fn.self.pages }
