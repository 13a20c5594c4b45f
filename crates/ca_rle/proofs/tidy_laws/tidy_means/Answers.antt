use Rattle.ca_rle.proofs.TidyFile.{tidy_file, file_of_tidy, tidy_holds, only_of_tidy}
use Rattle.ca_rle.proofs.tidy_laws.tidy_means.Goals as goal

pub returns-clause-file : goal.returns-clause-file
returns-clause-file c text cells rule_text generation states t word low within =
    let holds = tidy_holds text cells rule_text generation states t in
    (tidy_file text cells rule_text generation states t, file_of_tidy text cells rule_text generation states t word low within, holds.0, holds.1, holds.2)

pub returns-clause-only : goal.returns-clause-only
returns-clause-only c = only_of_tidy
