use Rattle.ca_pattern.proofs.OneMeaning.{one_meaning}
use Rattle.ca_verify.proofs.verdict_laws.one_meaning_of_a_file.Goals as goal

pub returns : goal.returns
returns c = λ bytes p q t u g h a b. one_meaning bytes p q t u g h a b
