use Rattle.ca_text.specs.Prelude.{map_patterns, path_at}
use Rattle.ca_verify.proofs.verifier.verdict_on.Goals as goal

pub returns-then-is_empty : goal.returns-then-is_empty
returns-then-is_empty g c = λ files paths rules on. c.as_judged-judged.ensures files paths rules c.args.task.now.limits.work (map_patterns (path_at paths) c.args.task.now.claim.now) (c.judge.ensures files paths rules on)

pub returns : goal.returns
returns g c = λ files paths rules on. c.as_judged.ensures files paths rules c.args.task.now.limits.work (map_patterns (path_at paths) c.args.task.now.claim.now) (c.judge-2.ensures files paths rules on)
