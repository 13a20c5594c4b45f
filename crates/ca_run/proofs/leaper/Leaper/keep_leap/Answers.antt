use Rattle.std.proofs.Common.{sym, subst}
use Rattle.ca_quad.specs.Prelude.{AreCopies}
use Rattle.ca_run.specs.Prelude.{LeaperGrows}
use Rattle.ca_run.proofs.LeaperGrowth.{goes_on_again}
use Rattle.ca_run.proofs.CopiedLeaps.{also_ok, leap_copied}
use Rattle.ca_run.proofs.leaper.Leaper.keep_leap.Goals as goal

pub remember-requires : goal.remember-requires
remember-requires g c =
    leap_copied g.A.Automaton.next_of c.args.from.now c.args.self.now c.import_square.new.self c.import_square-2.new.self c.import_square.ensures.goes_on c.import_square-2.ensures.goes_on
    c.args.leap c.level-part_level.result c.in_ok-square.square c.in_ok-centre.centre c.requires.leap c.level-part_level.ensures.level c.in_ok-square.ensures.copy c.in_ok-centre.ensures.copy

pub returns-clause-copies : goal.returns-clause-copies
returns-clause-copies g c =
    also_ok c.remember.result (subst (λ l. AreCopies c.args.from.now l.nodes c.import_square-2.new.copies) (sym c.remember.ensures) c.in_ok-centre.ensures.copies)

pub returns-clause-goes_on : goal.returns-clause-goes_on
returns-clause-goes_on g c =
    subst (λ l. LeaperGrows _ c.args.self.now l) (sym c.remember.ensures)
    (goes_on_again _ c.args.self.now c.import_square.new.self c.import_square-2.new.self c.import_square.ensures.goes_on c.import_square-2.ensures.goes_on)
