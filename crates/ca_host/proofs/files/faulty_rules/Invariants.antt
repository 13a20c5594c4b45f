use Rattle.std.proofs.Common.{◌≡◌, map, take}
use Rattle.ca_report.specs.declared.rule_folder.FaultyRule.{FaultyRule}
use Rattle.ca_host.specs.declared.files.FaultyFile.{FaultyFile}
use Rattle.ca_host.proofs.files.faulty_rules.Given as goal

-- the names, the paths and the faults of the files so far
abbrev pub invariant-files : goal.invariant-files
invariant-files l = record {
  names : map (λ (f : FaultyRule). f.name.now) l.rules.items ≡ map (λ (f : FaultyFile). f.name.items) (take l.file-index l.faulty);
  paths : map (λ (f : FaultyRule). f.path.now) l.rules.items ≡ map (λ (f : FaultyFile). f.path.items) (take l.file-index l.faulty);
  faults : map (λ (f : FaultyRule). f.fault) l.rules.items ≡ map (λ (f : FaultyFile). f.fault) (take l.file-index l.faulty);
}
