use Rattle.std.proofs.Common.{inl, sym, subst}
use Rattle.ca_rule.specs.inner.TableReading.{left_of, said_line}
use Rattle.ca_rule.specs.inner.TableSettings.{IsBehindSettings}
use Rattle.ca_rule.proofs.SettingsRead.{settings-end, set-again, one-setting}
use Rattle.std.proofs.lemmas.Result.{IfOk-weaker, IfErr-weaker}
use Rattle.ca_rule.proofs.table.settings.+read_values.Goals as goal

pub returns-then-not-has_some-clause-ends : goal.returns-then-not-has_some-clause-ends
returns-then-not-has_some-clause-ends t c =
    settings-end (left_of c.args.lines) (left_of c.in-Some.later) (said_line c.in-Some.line) c.of_line-given.result c.in-Some.ensures.lines (c.of_line-given.ensures c.in-Some.line.number) (sym c.if-not-has_some.ensures)

pub returns-then-has_one_of-clause-fault : goal.returns-then-has_one_of-clause-fault
returns-then-has_one_of-clause-fault t c = λ bytes name all has before.
    inl (set-again all (left_of c.args.lines) (left_of c.in-Some.later) (said_line c.in-Some.line) c.args.values c.of_line-given.result before c.in-Some.ensures.lines (c.of_line-given.ensures c.in-Some.line.number) bytes name has (sym c.if-has_one_of.ensures))

pub returns-clause-read : goal.returns-clause-read
returns-clause-read t c = IfOk-weaker c.read_values.result _ _ (λ r h all before. h all
    (subst (λ v. IsBehindSettings all v (left_of c.in-Some.later)) (sym c.with.ensures)
    (one-setting all (left_of c.args.lines) (left_of c.in-Some.later) (said_line c.in-Some.line) c.args.values c.of_line-given.result before c.in-Some.ensures.lines (c.of_line-given.ensures c.in-Some.line.number) (sym c.if-not-has_some.ensures) (sym c.if-has_one_of.ensures)))) c.read_values.ensures.read

pub returns-clause-fault : goal.returns-clause-fault
returns-clause-fault t c = IfErr-weaker c.read_values.result _ _ (λ f h bytes name all has before. h bytes name all has
    (subst (λ v. IsBehindSettings all v (left_of c.in-Some.later)) (sym c.with.ensures)
    (one-setting all (left_of c.args.lines) (left_of c.in-Some.later) (said_line c.in-Some.line) c.args.values c.of_line-given.result before c.in-Some.ensures.lines (c.of_line-given.ensures c.in-Some.line.number) (sym c.if-not-has_some.ensures) (sym c.if-has_one_of.ensures)))) c.read_values.ensures.fault
