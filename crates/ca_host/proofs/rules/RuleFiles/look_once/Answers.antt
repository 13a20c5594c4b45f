use Rattle.std.proofs.Common.{refl, ap, sym, ◌∙◌, inr, arith}
use Rattle.ca_host.specs.Lookups.{look_of}
use Rattle.ca_host.proofs.Looks.{set_last}
use Rattle.ca_host.proofs.rules.RuleFiles.look_once.Goals as goal

-- the name wasn't looked for, and is remembered
pub returns-clause-once : goal.returns-clause-once
returns-clause-once g c =
    let olds = c.args.looks.now.items in
    let none = sym (ap (λ ls. look_of ls c.args.name.now) c.deref.ensures.value) ∙ (sym c.look_of.ensures ∙ c.in_default.is) in
    inr (
      none,
      (
        record { name = c.in_ok-asked.asked; look = c.look-look.result },
        c.in_ok-asked.ensures.items,
        refl,
        set_last olds c.push.new.self.items c.len-place.result _ _ c.in_ok-push.ensures.items (omega (arith, c.len-place.ensures, c.args.looks.now.ok.0)),
      ),
      c.look-look.ensures,
    )
