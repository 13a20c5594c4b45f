use Rattle.std.proofs.Common.{add-one, arith, rules}
use Rattle.cafile.proofs.FolderRules.{finds-more, rest-same}
use Rattle.cafile.proofs.folder_rules.find_rules.Goals as goal

-- one file more
pub loop-index-preserved : goal.loop-index-preserved
loop-index-preserved g c = record {
  number = search rules;
  left = rw add-one (rest-same c.args.loaded.now c.loop-index.loaded c.loop-index.index c.find_rule.new.file (omega arith) c.loop-index.invariant.left);
  found = rw add-one (finds-more g.D.WholeFiles.gives g.D.WholeFiles.lacks c.args.folder.now c.args.loaded.now c.loop-index.loaded c.loop-index.index
      c.index-loaded-index.result c.find_rule.new.file _ _ _ (omega arith) c.loop-index.invariant.left c.loop-index.invariant.found c.find_rule.ensures);
}
