use Rattle.ca_rle.proofs.TidyFile.{tidy_file}
use Rattle.ca_rle.proofs.TidyRange.{tidy_within_range, file_in_range, only_in_range}
use Rattle.ca_rle.proofs.tidy_laws.tidy_in_range.Goals as goal

pub returns-clause-file : goal.returns-clause-file
returns-clause-file c text cells rule_text generation states t word low within =
    (tidy_file text cells rule_text generation states t, file_in_range text cells rule_text generation states t word low within, tidy_within_range text cells rule_text generation states t within)

pub returns-clause-only : goal.returns-clause-only
returns-clause-only c = only_in_range
