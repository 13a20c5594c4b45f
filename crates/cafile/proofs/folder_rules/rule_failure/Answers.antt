use Rattle.cafile.proofs.FolderRules.{no-failure}
use Rattle.cafile.proofs.folder_rules.rule_failure.Goals as goal

-- the rule file is good, isn't there or isn't needed
pub returns-in-Ok-None : goal.returns-in-Ok-None
returns-in-Ok-None g c =
    no-failure g.D.WholeFiles.gives g.D.WholeFiles.lacks c.args.folder.now c.args.content.now c.in-Bytes.bytes c.deref.result.now c.in-Ok-None.field-0 _ _
    c.in-Bytes.is c.deref.ensures.value c.in-Ok-None.field-0-is c.in-Ok-None.ensures.found
