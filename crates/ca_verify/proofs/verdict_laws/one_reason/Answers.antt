use Rattle.ca_text.specs.Prelude.{asks_of}
use Rattle.ca_verify.proofs.OneReason.{one_reason}
use Rattle.ca_verify.proofs.verdict_laws.one_reason.Goals as goal

pub returns : goal.returns
returns c = λ next cells other claim. one_reason next cells other (asks_of claim)
