use Rattle.ca_census_runs.proofs.PlacedFiles.{unfiled_answer}
use Rattle.ca_census_runs.proofs.file_lines.put_file.Goals as goal

pub returns-clause-none : goal.returns-clause-none
returns-clause-none g c =
    unfiled_answer c.args.rules.now c.args.task c.args.subject.now c.outcome_of-outcome.result c.put_outcome.result c.outcome_of-outcome.ensures.outcome c.put_outcome.ensures.none
