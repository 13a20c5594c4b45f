use Rattle.ca_identify.proofs.Identities.{oscillator_true}
use Rattle.ca_identify.proofs.Times.{no_shift_reads}
use Rattle.ca_identify.proofs.identification.ending.identity_of_return.Goals as goal

pub returns : goal.returns
returns c = λ next cells limit within short is. (
  tt,
  oscillator_true next cells limit c.args.again within short is
      (no_shift_reads c.args.again.dx is.right c.if-dx-ne0.false) (no_shift_reads c.args.again.dy is.down c.if-dy-ne0.false) c.if-generations-eq1.false,
)
