use Rattle.std.proofs.Common.{◌∙◌, ap, map}
use Rattle.cafile.specs.Contents.{handed_at}
use Rattle.cafile.proofs.Handing.{claims_written, claims_ended}
use Rattle.cafile.proofs.identify.write_text_of.Goals as goal

pub returns-clause-writes : goal.returns-clause-writes
returns-clause-writes g c =
    claims_written g.W.Write.contents c.args.output.now c.identify_run.new.device c.args.rules.now c.args.task c.args.loaded.now _ c.deref-3.result.now
    c.identify_run.result
    (record { paths = c.deref.ensures.value; tables = c.deref-2.ensures.value; files = ap (map handed_at) c.deref-3.ensures.value ∙ c.in-Ok.ensures.each })
    c.identify_run.ensures.writes

pub returns-clause-ends : goal.returns-clause-ends
returns-clause-ends g c =
    claims_ended g.W.Write.contents c.args.output.now c.identify_run.new.device c.args.rules.now c.args.task c.args.loaded.now _ c.deref-3.result.now
    c.identify_run.result
    (record { paths = c.deref.ensures.value; tables = c.deref-2.ensures.value; files = ap (map handed_at) c.deref-3.ensures.value ∙ c.in-Ok.ensures.each })
    c.identify_run.ensures.ends
