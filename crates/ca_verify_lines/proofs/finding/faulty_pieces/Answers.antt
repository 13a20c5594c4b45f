use Rattle.std.proofs.Common.{rules, ◌++◌, [], codes, ap, sym, ◌∙◌}
use Rattle.std.specs.Fmt.{decimal}
use Rattle.std.proofs.lemmas.List.{append-nil}
use Rattle.ca_report.specs.Prelude.{escaped}
use Rattle.ca_pattern.specs.Prelude.{table_line}
use Rattle.ca_verify_lines.proofs.finding.faulty_pieces.Goals as goal

-- what is wrong stands behind the line
pub returns : goal.returns
returns c =
    let path = escaped c.args.file.path.now in
    let kind = c.table_kind.result.now in
    ap (λ l. codes ": " ++ (path ++ (codes ": " ++ (codes "line " ++ l))))
    (ap (λ n. decimal n ++ (kind ++ [])) c.table_line.ensures ∙ ap (λ k. decimal (table_line c.args.file.fault) ++ k) (append-nil kind))
    ∙ ap (λ l. codes ": " ++ (path ++ (codes ": " ++ l))) (sym (c.table_kind.ensures (λ line. codes "line " ++ decimal line) (search rules)))
