use Rattle.std.proofs.lemmas.Result.{IfOk-weaker}
use Rattle.ca_host.proofs.files.read_source.Goals as goal

-- what was opened gave them
pub returns : goal.returns
returns g c = IfOk-weaker c.read_all.result _ _ (λ v given. (_, _, given)) c.read_all.ensures.found
