use Rattle.std.proofs.Common.{◌++◌, [], ◌∷◌, ap, sym, subst, ◌∙◌, append_assoc, decimal}
use Rattle.ca_plane.specs.Prelude.{IsWord}
use Rattle.ca_rule.specs.Prelude.{digits_of}
use Rattle.ca_rule.proofs.GenerationsPrinted.{printed_is_word}
use Rattle.ca_rule.proofs.gen_rule.GenRule.text.Goals as goal

pub returns-clause-printed : goal.returns-clause-printed
returns-clause-printed c =
    let rule = c.args.self.now in
    let survival = c.in_ok-push_digits.ensures ∙ ap (λ l. l ++ digits_of rule.survival) c.new-out.ensures.items in
    let slash = c.in_ok-push.ensures.items ∙ ap (λ l. l ++ 47 ∷ []) survival in
    let birth = c.in_ok-push_digits-2.ensures ∙ ap (λ l. l ++ digits_of rule.birth) slash in
    let second = c.in_ok-push-2.ensures.items ∙ ap (λ l. l ++ 47 ∷ []) birth in
    let number = c.in_ok-push_number.ensures.whole ∙ ap (λ l. l ++ decimal c.from.result) second in
    let written = ap (λ n. (((digits_of rule.survival ++ 47 ∷ []) ++ digits_of rule.birth) ++ 47 ∷ []) ++ decimal n) c.from.ensures in
    number ∙ written ∙ simp append_assoc

pub returns-clause-word : goal.returns-clause-word
returns-clause-word c = subst IsWord (sym (returns-clause-printed c)) (printed_is_word c.args.self.now.survival c.args.self.now.birth c.args.self.now.states c.args.self.now.high)
