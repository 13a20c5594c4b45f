use Rattle.ca_pattern.proofs.OneRun.{one_text_after, text_after_or_fault, one_fault_after}
use Rattle.ca_pattern.proofs.evolution_laws.one_kind_of_later_conversion.Goals as goal

pub returns-clause-one_text : goal.returns-clause-one_text
returns-clause-one_text c = λ bytes tables n target one two h k. one_text_after bytes tables n target one two h k

pub returns-clause-text_or_fault : goal.returns-clause-text_or_fault
returns-clause-text_or_fault c = λ bytes tables n work target text fault m w h k. text_after_or_fault bytes tables n target work text fault m w h k

pub returns-clause-one_fault : goal.returns-clause-one_fault
returns-clause-one_fault c = λ bytes tables n work target one two m w o v h k. one_fault_after bytes tables n target work one two m w o v h k
