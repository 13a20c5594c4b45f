use Rattle.std.proofs.Common.{◌∷◌, codes}
use Rattle.ca_plane.specs.Prelude.{words_of}
use Rattle.ca_import.proofs.Life105Lines.{unnamed_life, rule_fault}
use Rattle.ca_import.proofs.life105.life_line.Goals as goal

pub returns-clause-fault : goal.returns-clause-fault
returns-clause-fault c =
    let line = c.args.line.now in
    rule_fault (codes "#N" ∷ words_of line) c.rule_line.result _ (unnamed_life (words_of line)) c.rule_line.ensures
