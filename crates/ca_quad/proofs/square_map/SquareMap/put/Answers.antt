use Rattle.std.proofs.Common.{◌≡◌, ◌==◌, None, Some, cond, subst}
use Rattle.ca_quad.specs.Prelude.{square_value}
use Rattle.ca_quad.proofs.square_map.SquareMap.put.Goals as goal

pub returns-clause-ok : goal.returns-clause-ok
returns-clause-ok g c = λ other.
    subst (λ l. square_value c.insert.new.self.entries other ≡ cond (c.args.id == other) (Some c.args.value) (square_value l other)) c.self.view_is (c.in_ok-insert.ensures.updates.0 other)

pub returns-in_err-insert-clause-over : goal.returns-in_err-insert-clause-over
returns-in_err-insert-clause-over g c = λ some. absurd (some (subst (λ l. square_value l c.args.id ≡ None) c.self.view_is c.in_err-insert.ensures.absent))
