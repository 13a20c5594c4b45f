use Rattle.std.proofs.Common.{◌≡◌}
use Rattle.ca_quad.specs.Prelude.{AreCopies}
use Rattle.ca_run.specs.Prelude.{LeaperGrows}
use Rattle.ca_run.proofs.leaper.Leaper.keep_leaps.Given as goal

-- the copies that are known are copies
abbrev pub invariant-leaps : goal.invariant-leaps
invariant-leaps g l = record {
  copies : AreCopies l.from l.self.nodes l.copies;
  goes_on : LeaperGrows _ l.fn.self l.self;
  spent : l.self.spent ≡ l.fn.self.spent;
}
