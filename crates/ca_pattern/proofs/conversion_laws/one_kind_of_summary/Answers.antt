use Rattle.ca_pattern.proofs.OneConversion.{evolved_or_fault, one_summary_fault}
use Rattle.ca_pattern.proofs.OneRun.{one_summary_after}
use Rattle.ca_pattern.proofs.conversion_laws.one_kind_of_summary.Goals as goal

pub returns-clause-one_summary : goal.returns-clause-one_summary
returns-clause-one_summary c = λ bytes tables one two h k. one_summary_after bytes tables 0 one two h k

pub returns-clause-summary_or_fault : goal.returns-clause-summary_or_fault
returns-clause-summary_or_fault c = λ bytes tables summary fault m h k. evolved_or_fault bytes tables h.later h.rule summary.generation fault m h.evolved k

pub returns-clause-one_fault : goal.returns-clause-one_fault
returns-clause-one_fault c = λ bytes tables one two m n h k. one_summary_fault bytes tables one two m n h k
