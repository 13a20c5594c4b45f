use Rattle.std.proofs.Common.{subst}
use Rattle.ca_macro.specs.inner.Reading.{HasFaultOn}
use Rattle.ca_macro.proofs.OneMeaning.{not_memory}
use Rattle.ca_macro.proofs.fault.LineFault.at_line.Goals as goal

pub returns-in-Memory : goal.returns-in-Memory
returns-in-Memory c = λ bytes h. (c.in-Memory.is, subst (λ f. HasFaultOn bytes f c.args.number) c.in-Memory.is h)

pub returns-in_default : goal.returns-in_default
returns-in_default c = λ bytes. not_memory bytes c.args.fault c.args.number c.in_default.not-Memory
