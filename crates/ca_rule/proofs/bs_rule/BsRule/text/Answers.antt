use Rattle.std.proofs.Common.{◌≡◌, sym, subst, arith}
use Rattle.std.proofs.lemmas.Grind.{common_steps}
use Rattle.ca_plane.specs.Prelude.{IsWord}
use Rattle.ca_rule.specs.Prelude.{printed_bs_rule}
use Rattle.ca_rule.proofs.PrintedWords.{printed_is_word}
use Rattle.ca_rule.proofs.bs_rule.BsRule.text.Goals as goal

pub returns-clause-word : goal.returns-clause-word
returns-clause-word c =
    let rule = c.args.self.now in
    let printed : c.push_suffix.new.out.items ≡ printed_bs_rule rule.hood rule.birth rule.survival = grind (arith, common_steps) in
    subst IsWord (sym printed) (printed_is_word rule.hood rule.birth rule.survival)
