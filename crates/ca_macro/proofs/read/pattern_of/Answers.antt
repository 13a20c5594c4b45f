use Rattle.std.proofs.Common.{inl, inr, sym, ◌∙◌, rules}
use Rattle.std.specs.List.{flat_map}
use Rattle.ca_plane.specs.Prelude.{default_rule, cell}
use Rattle.ca_quad.specs.Prelude.{cell as tree_cell}
use Rattle.ca_macro.specs.Prelude.{added_nodes, picture_of_nodes}
use Rattle.ca_macro.proofs.KeptSquares.{picture_states}
use Rattle.ca_macro.proofs.Ranges.{entries_in_range, cells_in_range, range_as}
use Rattle.ca_macro.proofs.Saying.{passed_on}
use Rattle.ca_macro.proofs.read.pattern_of.Goals as goal

pub returns-in_err-tree-clause-fault : goal.returns-in_err-tree-clause-fault
returns-in_err-tree-clause-fault c =
    passed_on _ c.in_err-tree.field-0.0 _ c.from_residual-in_err-tree.ensures.1 (λ said read.
    let picture = picture_of_nodes (flat_map added_nodes said) in
    let root = tree_cell c.root.new.store c.in_ok-root.root in
    elim c.in_err-tree.ensures.fault [
      | inl memory ↦ inl memory
      | inr range ↦ inr (range.0, λ within. range.1 (range_as (cell picture) root (λ x y. sym (c.in_ok-root.ensures.cells (flat_map added_nodes said) read.squares x y)) (cells_in_range picture within)))
    ])

pub returns-clause-found : goal.returns-clause-found
returns-clause-found c = λ said read.
    let nodes = flat_map added_nodes said in
    let picture = picture_of_nodes nodes in
    let root = tree_cell c.root.new.store c.in_ok-root.root in
    let shown = c.in_ok-root.ensures.cells nodes read.squares in
    let states = picture_states c.args.store.now nodes c.args.reading.now.squares read.squares in (
      entries_in_range picture states (range_as root (cell picture) shown c.in_ok-tree.ensures.range),
      record {
        tree = c.in_ok-tree.ensures.tree;
        trimmed = c.in_ok-tree.ensures.trimmed;
        cells = λ x y. c.in_ok-tree.ensures.cells x y ∙ shown x y;
        states = states;
        rule_text = c.in-Ok.ensures ∙ sym (read.rule default_rule);
        generation = sym read.generation;
        low_generation = read.limit;
        is_word = let word = read.word in search rules;
      },
    )
