use Rattle.ca_macro.proofs.TidyFiles.{tidy_file, file_of_tidy, tidy_holds, tidy_within}
use Rattle.ca_macro.proofs.tidy_laws.tidy_means.Goals as goal

pub returns-clause-file : goal.returns-clause-file
returns-clause-file c text cells rule generation states t word low short =
    (tidy_file t.nodes rule generation, file_of_tidy text cells rule generation states t word low short, tidy_holds text cells rule generation states t)

pub returns-clause-range : goal.returns-clause-range
returns-clause-range c text cells rule generation states t word low short range =
    (tidy_file t.nodes rule generation, file_of_tidy text cells rule generation states t word low short, tidy_within text cells rule generation states t range, tidy_holds text cells rule generation states t)
