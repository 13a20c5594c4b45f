use Rattle.std.proofs.Common.{◌-◌, length}
use Rattle.ca_quad.specs.Prelude.{Grows}
use Rattle.ca_macro.specs.inner.Reading.{AreEmpties}
use Rattle.ca_macro.proofs.read.empties.Empties.square.Given as goal

abbrev pub invariant-levels : goal.invariant-levels
invariant-levels l = record { empties : AreEmpties l.store l.self.ids.items; grows : Grows l.fn.store l.store }

abbrev pub decreases-levels : goal.decreases-levels
decreases-levels l = l.count - length l.self.ids.items
