use Rattle.ca_pattern_runs.proofs.OfFiles.{over_file}
use Rattle.ca_pattern_runs.proofs.pattern_run.form_run.Goals as goal

-- the file was read, and its bytes were gone through
pub returns : goal.returns
returns g c =
    over_file g.R.Read.remaining g.W.Write.contents _ _ _ _ _ _ _ _ _ _ c.write_text.result c.in_ok-bytes.ensures.takes c.in_ok-bytes.ensures.read c.deref.ensures.value c.write_text.ensures
