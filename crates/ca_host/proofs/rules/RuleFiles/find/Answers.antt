use Rattle.std.proofs.Common.{ℕ}
use Rattle.std.specs.Prelude.{Vec}
use Rattle.std.specs.declared.alloc.Global.{Global}
use Rattle.ca_host.specs.RuleFiles.{IsUnknownRuleOf, HasNoUnknownRule}
use Rattle.ca_host.proofs.Found.{at_some}
use Rattle.ca_host.proofs.Looks.{stands_at, finds, searches}
use Rattle.ca_host.proofs.rules.RuleFiles.find.Goals as goal

-- what there is for the name of the pattern's rule is told
pub returns-clause-found : goal.returns-clause-found
returns-clause-found g c =
    let name = c.in-Some.name in
    let path = c.in-Some-2.path in
    let unknown = at_some (HasNoUnknownRule c.args.pattern.now c.args.self.now.tables.items) c.in_ok-name.field-0
    (λ (n : Vec ℕ Global). IsUnknownRuleOf c.args.pattern.now c.args.self.now.tables.items n.items) name c.in-Some.is c.in_ok-name.ensures in
    finds g.D.WholeFiles.gives g.D.WholeFiles.lacks c.args.folder.now c.args.pattern.now name.items path.items _ _ _ _ c.in_ok-look.look _ _ _ _ c.told.result
    c.deref-2.ensures.value c.deref-3.ensures.value c.deref-4.ensures.value c.deref-5.ensures.value unknown
    (stands_at c.args.folder.now c.as_bytes.result.now name.items c.deref.result.now c.in_ok-path.field-0 path c.in-Some-2.is c.as_bytes.ensures.value c.deref.ensures.value c.in_ok-path.ensures.path)
    c.in_ok-look.ensures.once c.told.ensures.told

-- a name was looked for, and memory ran out
pub returns-clause-looks : goal.returns-clause-looks
returns-clause-looks g c =
    let name = c.in-Some.name in
    let path = c.in-Some-2.path in
    let unknown = at_some (HasNoUnknownRule c.args.pattern.now c.args.self.now.tables.items) c.in_ok-name.field-0
    (λ (n : Vec ℕ Global). IsUnknownRuleOf c.args.pattern.now c.args.self.now.tables.items n.items) name c.in-Some.is c.in_ok-name.ensures in
    searches g.D.WholeFiles.gives g.D.WholeFiles.lacks c.args.folder.now c.args.pattern.now name.items path.items _ _ c.in_ok-look.look _ _ _ _ c.told.result
    c.deref-2.ensures.value c.deref-3.ensures.value unknown
    (stands_at c.args.folder.now c.as_bytes.result.now name.items c.deref.result.now c.in_ok-path.field-0 path c.in-Some-2.is c.as_bytes.ensures.value c.deref.ensures.value c.in_ok-path.ensures.path)
    c.in_ok-look.ensures.once c.told.ensures.err
