use Rattle.std.proofs.Common.{ap, sym, ◌∙◌}
use Rattle.std.proofs.lemmas.List.{take_rest}
use Rattle.ca_report.specs.inner.Parts.{begins_with_control}
use Rattle.ca_report.proofs.Escaping.{plain_next}
use Rattle.ca_report.proofs.escaped.plain_length.Goals as goal

-- the byte here is written as it is too
pub bytes-preserved : goal.bytes-preserved
bytes-preserved c =
    let text = c.args.text.now in
    let i = c.bytes.index in
    let plain = ap begins_with_control (sym (take_rest text i)) ∙ sym c.begins_with_control.ensures ∙ c.if-begins_with_control.false in
    plain_next text i c.bytes-test.true plain c.bytes.invariant
