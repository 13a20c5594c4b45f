use Rattle.std.proofs.Common.{None, Some}
use Rattle.cafile.proofs.PatternRules.{finds_after}
use Rattle.cafile.proofs.pattern_rules.known_rules.Goals as goal

-- the rule file in the folder is good, isn't there or isn't needed
pub returns-in-Ok-None-clause-known : goal.returns-in-Ok-None-clause-known
returns-in-Ok-None-clause-known g c =
    finds_after g.D.WholeFiles.gives g.D.WholeFiles.lacks c.args.extras.now c.args.rule c.args.pattern.now c.in-Some.folder c.as_str.result.now
    c.in-Ok-None.field-0 None c.new-looks.result.items c.find.new.looks.items _ _ c.in-Ok.ensures.file c.in-Some.is c.as_str.ensures.value
    c.new-looks.ensures.items c.in-Ok-None.field-0-is c.in-Ok-None.ensures.found

-- it is faulty
pub returns-in-Ok-Some-clause-unknown : goal.returns-in-Ok-Some-clause-unknown
returns-in-Ok-Some-clause-unknown g c = (
  _,
  finds_after g.D.WholeFiles.gives g.D.WholeFiles.lacks c.args.extras.now c.args.rule c.args.pattern.now c.in-Some.folder c.as_str.result.now
      c.in-Ok-Some.field-0 (Some c.in-Ok-Some.faulty) c.new-looks.result.items c.find.new.looks.items _ _ c.in-Ok.ensures.file c.in-Some.is
      c.as_str.ensures.value c.new-looks.ensures.items c.in-Ok-Some.field-0-is c.in-Ok-Some.ensures.found,
)
