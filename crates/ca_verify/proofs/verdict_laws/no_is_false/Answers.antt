use Rattle.ca_text.specs.Prelude.{asks_of}
use Rattle.ca_verify.proofs.Verdicts.{false_from_reason}
use Rattle.ca_verify.proofs.verdict_laws.no_is_false.Goals as goal

pub returns : goal.returns
returns c = λ next cells other claim refutation. false_from_reason next cells other (asks_of claim) refutation
