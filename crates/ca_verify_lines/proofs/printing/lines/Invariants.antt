use Rattle.std.proofs.Common.{◌≡◌, take}
use Rattle.ca_verify_lines.specs.Prelude.{answer_lines}
use Rattle.ca_verify_lines.proofs.printing.lines.Given as goal

-- the lines of the answers so far
abbrev pub invariant-answers : goal.invariant-answers
invariant-answers l = l.text.items ≡ answer_lines (take l.answer-index l.answers)
