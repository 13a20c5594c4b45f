use Rattle.ca_pattern.proofs.OneRun.{one_pattern_after, pattern_or_fault, one_reach_fault}
use Rattle.ca_pattern.proofs.evolution_laws.one_kind_of_run.Goals as goal

pub returns-clause-one_pattern : goal.returns-clause-one_pattern
returns-clause-one_pattern c = λ bytes tables n one two h k. one_pattern_after bytes tables n one two h k

pub returns-clause-pattern_or_fault : goal.returns-clause-pattern_or_fault
returns-clause-pattern_or_fault c = λ bytes tables n work pattern fault m w h k. pattern_or_fault bytes tables n work pattern fault m w h k

pub returns-clause-one_fault : goal.returns-clause-one_fault
returns-clause-one_fault c = λ bytes tables n work one two m w o v h k. one_reach_fault bytes tables n work one two m w o v h k
