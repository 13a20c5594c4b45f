use Rattle.ca_answers.specs.declared.cause.Cause.TheVariants.{Work}
use Rattle.ca_text.specs.Prelude.{asks_of}
use Rattle.ca_verify.proofs.Verdicts.{yes_or_no, judged_or_cause, one_cause, no_file_or_memory, bad_table_or_memory}
use Rattle.ca_verify.proofs.verdict_laws.one_kind_of_verdict.Goals as goal

pub returns-clause-yes_or_no : goal.returns-clause-yes_or_no
returns-clause-yes_or_no c = λ files rules claim refutation y n. yes_or_no files rules claim (asks_of claim.kind) refutation y.0 n.0 y.1 n.1 y.2 n.2 y.3 n.3 y.4 n.4

pub returns-clause-yes_or_refused : goal.returns-clause-yes_or_refused
returns-clause-yes_or_refused c = λ files rules claim cause no idle y r. judged_or_cause files rules claim y.0 y.1 y.2 cause no idle y.3 r

pub returns-clause-no_or_refused : goal.returns-clause-no_or_refused
returns-clause-no_or_refused c = λ files rules claim refutation cause no idle n r. judged_or_cause files rules claim n.0 n.1 n.2 cause no idle n.3 r

pub returns-clause-work_or_refused : goal.returns-clause-work_or_refused
returns-clause-work_or_refused c = λ files rules claim cause no idle h k. idle (one_cause files rules (asks_of claim.kind) claim.patterns cause Work no (λ is. cc) k h)

pub returns-clause-one_cause : goal.returns-clause-one_cause
returns-clause-one_cause c = λ files rules claim one two m n h k. one_cause files rules (asks_of claim.kind) claim.patterns one two m n h k

pub returns-clause-no_file_or_memory : goal.returns-clause-no_file_or_memory
returns-clause-no_file_or_memory c = λ files rules claim h k. no_file_or_memory files rules (asks_of claim.kind) claim.patterns h k

pub returns-clause-bad_table_or_memory : goal.returns-clause-bad_table_or_memory
returns-clause-bad_table_or_memory c = λ files rules claim fault h k. bad_table_or_memory files rules (asks_of claim.kind) claim.patterns fault h k
