use Rattle.std.proofs.Common.{◌≡◌, [], length, take, drop}
use Rattle.cafile.specs.FolderRules.{FindsEach}
use Rattle.cafile.proofs.folder_rules.find_rules.Given as goal

-- the rule files of the files before this one were looked for, and the others are as they were
abbrev pub invariant-loop-index : goal.invariant-loop-index
invariant-loop-index g l = record {
  number : length l.loaded ≡ length l.initial.loaded;
  left : drop l.index l.loaded ≡ drop l.index l.initial.loaded;
  found : FindsEach g.D.WholeFiles.gives g.D.WholeFiles.lacks l.folder (take l.index l.initial.loaded) (take l.index l.loaded)
      (record { looks = []; rules = record { tables = l.initial.rules.tables.items; paths = l.initial.rules.paths.items } })
      (record { looks = l.looks.items; rules = record { tables = l.rules.tables.items; paths = l.rules.paths.items } });
}
