use Rattle.cafile.proofs.PatternRules.{names}
use Rattle.cafile.proofs.pattern_rules.named_file.Goals as goal

pub returns-in-Ok-clause-file : goal.returns-in-Ok-clause-file
returns-in-Ok-clause-file c =
    names c.args.path.now c.args.bytes.now c.in-Some-Some.path c.in-Some-Some.bytes c.as_bytes.result.now c.deref.result.now
    (record { tables = c.new-rules.result.tables.items; paths = c.new-rules.result.paths.items }) _ c.in-Some-Some.is-0 c.in-Some-Some.is-1
    c.as_bytes.ensures.value c.deref.ensures.value c.new-rules.ensures.tables c.new-rules.ensures.paths c.in-Ok.ensures.added c.in-Ok.ensures.path
