use Rattle.ca_census_runs.proofs.Answered.{in_any_case}
use Rattle.ca_census_runs.proofs.PlacedFiles.{fileable_placed, placed_files, no_placed_files}
use Rattle.ca_census_runs.proofs.file_lines.put_census.Goals as goal

pub files_of_census-requires-clause-fileable : goal.files_of_census-requires-clause-fileable
files_of_census-requires-clause-fileable c =
    fileable_placed c.args.found.origin c.args.found.census c.push_census.new.census c.in-Ok.ensures.sorted c.requires.fileable

pub returns-in-Some-clause-text : goal.returns-in-Some-clause-text
returns-in-Some-clause-text c = in_any_case c.files_of_census.result _ c.in-Ok.ensures.text

pub returns-in-Some-clause-files : goal.returns-in-Some-clause-files
returns-in-Some-clause-files c =
    placed_files c.args.task c.args.rules.now c.args.name.now c.args.path.now c.args.found c.push_census.new.census c.in-Some.folder c.files_of_census.result c.in-Some.is
    c.in-Ok.ensures.sorted c.files_of_census.ensures.files

pub returns-in-Some-clause-none : goal.returns-in-Some-clause-none
returns-in-Some-clause-none c =
    no_placed_files c.args.task c.args.found c.push_census.new.census c.in-Some.folder c.files_of_census.result c.in-Some.is c.in-Ok.ensures.sorted c.files_of_census.ensures.none
