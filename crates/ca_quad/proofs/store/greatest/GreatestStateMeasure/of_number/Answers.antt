use Rattle.std.proofs.Common.{sym, subst}
use Rattle.ca_quad.specs.inner.Greatest.{IsGreatestOf}
use Rattle.ca_quad.proofs.NumberedSquares.{greatest_of_number}
use Rattle.ca_quad.proofs.store.greatest.GreatestStateMeasure.of_number.Goals as goal

pub returns : goal.returns
returns c = λ nodes id sound known number.
    subst (IsGreatestOf nodes id) (sym c.one_if_any.ensures) (greatest_of_number nodes sound id c.args.cells known number)
