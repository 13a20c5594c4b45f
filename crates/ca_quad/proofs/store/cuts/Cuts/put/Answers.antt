use Rattle.std.proofs.Common.{◌≡◌, Some, cond, subst}
use Rattle.ca_quad.specs.contracts.neighbours.NeighboursPartialEq.TheImpl.{eq-value}
use Rattle.ca_quad.specs.inner.Cut.{cut_value}
use Rattle.ca_quad.proofs.store.cuts.Cuts.put.Goals as goal

pub returns : goal.returns
returns c = λ other.
    subst (λ l. cut_value c.insert.new.self.entries other ≡ cond ((eq-value).it c.args.four other) (Some c.args.cut) (cut_value l other)) c.self.view_is (c.in_ok-insert.ensures.updates.0 other)
