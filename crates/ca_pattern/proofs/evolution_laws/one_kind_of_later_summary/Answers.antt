use Rattle.ca_pattern.proofs.OneRun.{one_summary_after, summary_after_or_fault}
use Rattle.ca_pattern.proofs.evolution_laws.one_kind_of_later_summary.Goals as goal

pub returns-clause-one_summary : goal.returns-clause-one_summary
returns-clause-one_summary c = λ bytes tables n one two h k. one_summary_after bytes tables n one two h k

pub returns-clause-summary_or_fault : goal.returns-clause-summary_or_fault
returns-clause-summary_or_fault c = λ bytes tables n work summary fault m w h k. summary_after_or_fault bytes tables n work summary fault m w h k
