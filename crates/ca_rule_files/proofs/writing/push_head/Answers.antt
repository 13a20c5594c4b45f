use Rattle.std.proofs.Common.{[], ◌∷◌, ◌++◌, codes, decimal, sym, ap, ◌∙◌, append_assoc}
use Rattle.ca_plane.specs.Prelude.{text_of}
use Rattle.ca_rule_files.specs.WrittenTables.{head_lines}
use Rattle.ca_rule_files.proofs.PutTexts.{then-puts}
use Rattle.ca_rule_files.proofs.writing.push_head.Goals as goal

pub returns : goal.returns
returns c =
    let old = c.args.out.now.items in
    let one = c.push_text.new.out.items in
    let two = c.push_text-2.new.out.items in
    let three = c.push_text-3.new.out.items in
    let four = c.push_number.new.out.items in
    let last = c.push_text-4.new.out.items in
    let name = c.args.name.now in
    let states = decimal c.from.result in
    let table = codes "@TABLE" ++ 10 ∷ codes "n_states:" in
    let others = text_of (codes "neighborhood:Moore" ∷ codes "symmetries:none" ∷ []) in
    let named = then-puts old one two (codes "@RULE ") name c.in_ok-push_text.ensures c.in_ok-push_text-2.ensures in
    let begun = then-puts old two three (codes "@RULE " ++ name) (10 ∷ table) named c.in_ok-push_text-3.ensures in
    let counted = then-puts old three four ((codes "@RULE " ++ name) ++ 10 ∷ table) states begun c.in_ok-push_number.ensures in
    let all = then-puts old four last (((codes "@RULE " ++ name) ++ 10 ∷ table) ++ states) (10 ∷ others) counted c.in_ok-push_text-4.ensures in
    record {
      whole = all.whole ∙ ap (λ l. old ++ (codes "@RULE " ++ l))
          (append_assoc (name ++ 10 ∷ table) states (10 ∷ others) ∙ append_assoc name (10 ∷ table) (states ++ 10 ∷ others)
          ∙ ap (λ l. name ++ 10 ∷ (table ++ l)) (sym (append_assoc states (10 ∷ []) others)) ∙ sym (append_assoc name (10 ∷ []) (table ++ ((states ++ 10 ∷ []) ++ others))))
          ∙ (λ t. old ++ text_of (head_lines name (c.from.ensures t)));
    }
