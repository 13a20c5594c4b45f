use Rattle.std.proofs.Common.{codes, refl}
use Rattle.ca_rule_files.specs.WrittenTables.{neighbourhoods}
use Rattle.ca_rule_files.proofs.Neighbourhoods.{same-kinds}
use Rattle.ca_rule_files.proofs.laws.all_letters.Goals as goal

pub returns : goal.returns
unfolding neighbourhoods
returns c = record {
  one = same-kinds (codes "1ce") (codes "1") refl;
  two = same-kinds (codes "2ceaikn") (codes "2") refl;
  three = same-kinds (codes "3ceaiknjqry") (codes "3") refl;
  four = same-kinds (codes "4ceaiknjqrytwz") (codes "4") refl;
  five = same-kinds (codes "5ceaiknjqry") (codes "5") refl;
  six = same-kinds (codes "6ceaikn") (codes "6") refl;
  seven = same-kinds (codes "7ce") (codes "7") refl;
}
