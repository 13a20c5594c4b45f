use Rattle.cafile.proofs.Handing.{read_more}
use Rattle.cafile.proofs.identify.read_files.Goals as goal

pub files-preserved : goal.files-preserved
files-preserved c = read_more c.args.loaded.now c.files.file-index c.file-item.result _ _ c.files-test.true c.file-item.is c.files.invariant c.in_ok-put_read.ensures
