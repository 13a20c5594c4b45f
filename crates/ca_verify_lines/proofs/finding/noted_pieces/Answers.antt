use Rattle.std.proofs.Common.{rules, ap, ap₂, ◌∙◌, ◌++◌, ◌∷◌, [], codes}
use Rattle.ca_report.specs.Prelude.{escaped, piece_text}
use Rattle.ca_report.proofs.InPieces.{each_all}
use Rattle.ca_verify_lines.proofs.finding.noted_pieces.Goals as goal

-- the pieces of each part one by one are its text
pub returns : goal.returns
returns c =
    ap (λ l. c.args.style.now.before.now ++ (codes "  " ++ (escaped c.args.name.now ++ (codes ": " ++ (escaped c.args.path.now ++ l)))))
    (ap₂ (λ m l. m ++ l) c.missing_piece.ensures
    (each_all piece_text c.at_pieces.result _ 0 2 _ (search rules)
    ∙ ap₂ (λ a l. a ++ l) c.at_pieces.ensures
    (each_all piece_text c.rule_pieces.result _ 0 2 _ (search rules)
    ∙ ap₂ (λ a l. a ++ l) c.rule_pieces.ensures
    (each_all piece_text c.faulty_rule_pieces.result _ 0 5 (10 ∷ []) (search rules) ∙ ap (λ l. l ++ 10 ∷ []) c.faulty_rule_pieces.ensures))))
