use Rattle.std.proofs.Common.{rules, ap, ◌∙◌, ◌++◌, ◌∷◌, [], codes}
use Rattle.std.specs.Fmt.{decimal}
use Rattle.ca_report.specs.Prelude.{piece_text}
use Rattle.ca_report.proofs.InPieces.{each_all}
use Rattle.ca_verify_lines.proofs.printing.answer_pieces.Goals as goal

-- the verdict's pieces one by one are its text
pub returns : goal.returns
returns c =
    ap (λ l. c.args.before.now ++ (codes "line " ++ (decimal c.args.answer.now.line ++ (codes ": " ++ l))))
    (each_all piece_text c.verdict_pieces.result _ 0 7 (10 ∷ []) (search rules) ∙ ap (λ l. l ++ 10 ∷ []) c.verdict_pieces.ensures)
