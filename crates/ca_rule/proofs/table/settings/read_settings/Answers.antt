use Rattle.std.proofs.Common.{ℕ, List}
use Rattle.ca_rule.specs.Prelude.{HasTable, IsTableTextFault}
use Rattle.ca_rule.specs.inner.TableReading.{said_text, left_of}
use Rattle.ca_rule.specs.inner.TableSettings.{meaning_of}
use Rattle.ca_rule.proofs.SettingsRead.{no-settings, passed-on, all-meant, settings-fault}
use Rattle.ca_rule.proofs.table.settings.read_settings.Goals as goal

pub returns-in_err-values-clause-fault : goal.returns-in_err-values-clause-fault
returns-in_err-values-clause-fault c =
    passed-on c.from_residual.result c.in_err-values.field-0.0 (λ f. (name : List ℕ) → HasTable (said_text c.args.lines.now) name (left_of c.args.lines.now) → IsTableTextFault (said_text c.args.lines.now) f)
    c.from_residual.ensures.1 (λ name has. c.in_err-values.ensures.fault (said_text c.args.lines.now) name (left_of c.args.lines.now) has (no-settings (left_of c.args.lines.now) c.none.result c.none.ensures))

pub returns-in_err-settings-clause-fault : goal.returns-in_err-settings-clause-fault
returns-in_err-settings-clause-fault c =
    let before = c.in_ok-values.ensures.read (left_of c.args.lines.now) (no-settings (left_of c.args.lines.now) c.none.result c.none.ensures) in
    passed-on c.from_residual-in_err-settings.result c.in_err-settings.field-0.0 (λ f. (name : List ℕ) → HasTable (said_text c.args.lines.now) name (left_of c.args.lines.now) → IsTableTextFault (said_text c.args.lines.now) f)
    c.from_residual-in_err-settings.ensures.1 (λ name has.
    settings-fault (said_text c.args.lines.now) (said_text c.in_ok-values.tail_after) name c.number.result (left_of c.args.lines.now) (left_of c.in_ok-values.tail_after) c.in_ok-values.values c.in_err-settings.field-0.0 c.in_ok-values.ensures.text has before c.in_ok-values.ensures.ends c.number.ensures c.in_err-settings.ensures.fault)

pub returns-clause-found : goal.returns-clause-found
returns-clause-found c =
    let before = c.in_ok-values.ensures.read (left_of c.args.lines.now) (no-settings (left_of c.args.lines.now) c.none.result c.none.ensures) in
    all-meant (left_of c.args.lines.now) (left_of c.in_ok-values.tail_after) c.in_ok-values.values (meaning_of c.in_ok-settings.settings) before c.in_ok-settings.ensures.mean
