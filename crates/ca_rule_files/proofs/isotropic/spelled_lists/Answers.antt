use Rattle.std.proofs.Common.{◌∙◌, sym, ap}
use Rattle.std.proofs.lemmas.Bool.{false≢true}
use Rattle.ca_rule.proofs.SpelledDigits.{IfNone-from}
use Rattle.ca_rule_files.specs.Prelude.{is_kind_list}
use Rattle.ca_rule_files.proofs.KindTexts.{spelled, spells-none, spells-read}
use Rattle.ca_rule_files.proofs.isotropic.spelled_lists.Goals as goal

pub returns-in_err-birth-clause-none : goal.returns-in_err-birth-clause-none
returns-in_err-birth-clause-none c = IfNone-from c.from_residual.result (λ b s is. spells-none c.args.text.now b s c.in_err-birth.ensures is)

pub returns-then-not-is_kind_list-clause-none : goal.returns-then-not-is_kind_list-clause-none
returns-then-not-is_kind_list-clause-none c = λ b s is.
    let e = spells-read c.args.text.now c.in_ok-birth.birth.now c.in_ok-birth.survival.now b s c.in_ok-birth.ensures is in
    false≢true (sym c.if-not-is_kind_list.true ∙ c.is_kind_list.ensures ∙ ap is_kind_list (sym e.0) ∙ is.birth_kinds)

pub returns-then-not-is_kind_list-2-clause-none : goal.returns-then-not-is_kind_list-2-clause-none
returns-then-not-is_kind_list-2-clause-none c = λ b s is.
    let e = spells-read c.args.text.now c.in_ok-birth.birth.now c.in_ok-birth.survival.now b s c.in_ok-birth.ensures is in
    false≢true (sym c.if-not-is_kind_list-2.true ∙ c.is_kind_list-2.ensures ∙ ap is_kind_list (sym e.1) ∙ is.survival_kinds)

pub returns-clause-found : goal.returns-clause-found
returns-clause-found c =
    spelled c.args.text.now c.in_ok-birth.birth.now c.in_ok-birth.survival.now c.in_ok-birth.ensures
    (sym c.is_kind_list.ensures ∙ c.if-not-is_kind_list.false) (sym c.is_kind_list-2.ensures ∙ c.if-not-is_kind_list-2.false)
