use Rattle.ca_pattern.proofs.OneConversion.{text_or_fault, one_convert_fault}
use Rattle.ca_pattern.proofs.OneRun.{one_text_after}
use Rattle.ca_pattern.proofs.conversion_laws.one_kind_of_conversion.Goals as goal

pub returns-clause-one_text : goal.returns-clause-one_text
returns-clause-one_text c = λ bytes tables target one two h k. one_text_after bytes tables 0 target one two h k

pub returns-clause-text_or_fault : goal.returns-clause-text_or_fault
returns-clause-text_or_fault c = λ bytes tables target text fault m h k. text_or_fault bytes tables target text fault m h k

pub returns-clause-one_fault : goal.returns-clause-one_fault
returns-clause-one_fault c = λ bytes tables target one two m n h k. one_convert_fault bytes tables target one two m n h k
