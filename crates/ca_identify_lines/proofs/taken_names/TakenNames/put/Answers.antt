use Rattle.std.proofs.Common.{◌≡◌, false, [], ◌∷◌, ◌++◌, if◌then◌else◌, sym, ap, subst, ◌∙◌}
use Rattle.ca_identify_lines.specs.Prelude.{is_taken}
use Rattle.ca_identify_lines.specs.inner.Tried.{AreTried}
use Rattle.ca_identify_lines.proofs.TriedNames.{tried_more}
use Rattle.ca_identify_lines.proofs.taken_names.TakenNames.put.Goals as goal

pub invariant_of-self-2 : goal.invariant_of-self-2
invariant_of-self-2 c =
    let names = c.self.inside.names in
    let name = c.args.name.now in
    let tried = c.self.inside.tried.entries in
    let free : is_taken names name ≡ false = subst (λ taken. is_taken taken name ≡ false) (sym c.self.view_is) c.requires in
    let put : c.put.new.self ≡ names ++ name ∷ [] = c.in_ok-put.ensures.words ∙ ap (λ taken. if taken then names else names ++ name ∷ []) free in
    subst (λ taken. AreTried taken tried) (sym put) (tried_more names name tried c.self.invariant)
