use Rattle.std.proofs.Common.{eqb, length, Some, true, false, sym, subst, ◌≡◌, ◌∙◌}
use Rattle.ca_rle.specs.Prelude.{IsHeader}
use Rattle.ca_rle.proofs.HeaderLines.{no_sizes, no_rule_name, sizes_alone, rule_missing, rule_there}
use Rattle.ca_rle.proofs.front.header.read_header.Goals as goal

pub returns-in_err-rest : goal.returns-in_err-rest
returns-in_err-rest c = rw c.from_residual.ensures (no_sizes _ c.in_err-rest.ensures)

pub returns-then-is_empty : goal.returns-then-is_empty
returns-then-is_empty c = sizes_alone _ _ c.in_ok-rest.ensures (sym c.is_empty.ensures ∙ c.if-is_empty.true)

pub returns-in_err-text : goal.returns-in_err-text
returns-in_err-text c = rw c.from_residual-in_err-text.ensures (no_rule_name _ _ c.in_ok-rest.ensures (sym c.is_empty.ensures ∙ c.if-is_empty.false) c.in_err-text.ensures)

pub returns-then-is_empty-2 : goal.returns-then-is_empty-2
returns-then-is_empty-2 c =
    let none = subst (λ l. eqb (length l) 0 ≡ true) c.split_word.ensures.front (sym c.is_empty-2.ensures ∙ c.if-is_empty-2.true) in
    rule_missing _ _ _ c.requires c.in_ok-rest.ensures c.in_ok-text.ensures none

pub returns : goal.returns
returns c =
    let some = subst (λ l. eqb (length l) 0 ≡ false) c.split_word.ensures.front (sym c.is_empty-2.ensures ∙ c.if-is_empty-2.false) in
    subst (λ l. IsHeader c.args.line.now (Some l)) (sym c.split_word.ensures.front) (rule_there _ _ _ c.requires c.in_ok-rest.ensures c.in_ok-text.ensures some)
