use Rattle.std.proofs.Common.{codes, refl}
use Rattle.ca_rle.proofs.ReadItems.{items_found}
use Rattle.ca_rle.proofs.examples.worked_items.Goals as goal

pub returns-clause-block : goal.returns-clause-block
returns-clause-block c = items_found 4 (codes "2o$2o!") _ refl

pub returns-clause-states : goal.returns-clause-states
returns-clause-states c = items_found 4 (codes "pAxXyO!") _ refl

pub returns-clause-comment : goal.returns-clause-comment
returns-clause-comment c = items_found 2 (codes "3\n# c!\no!") _ refl

pub returns-clause-glider : goal.returns-clause-glider
returns-clause-glider c = (items_found 8 (codes "bo$2bo$3o!") _ refl, refl)
