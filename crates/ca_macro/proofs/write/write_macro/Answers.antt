use Rattle.std.proofs.Common.{sym, arith}
use Rattle.ca_quad.specs.Prelude.{cell}
use Rattle.ca_macro.proofs.Roots.{least_as, level_in_range}
use Rattle.ca_macro.proofs.TidyFiles.{tidy_file, file_of_tidy, tidy_holds, tidy_within, tidy_text}
use Rattle.ca_macro.proofs.write.write_macro.Goals as goal

pub nodes_of-requires-clause-level : goal.nodes_of-requires-clause-level
nodes_of-requires-clause-level c =
    least_as c.args.states c.in_ok-root.root.level (cell c.args.store.now c.args.tree) (cell c.root_of.new.store c.in_ok-root.root) (λ x y. sym (c.in_ok-root.ensures.cells x y)) c.in_ok-root.ensures.level

pub nodes_of-requires-clause-most : goal.nodes_of-requires-clause-most
nodes_of-requires-clause-most c =
    let cells = cell c.args.store.now c.args.tree in
    let level = c.in_ok-root.root.level in
    let low = level_in_range c.args.states level cells c.requires.in_range c.in_ok-root.ensures.level in
    omega arith

pub returns-clause-tidy : goal.returns-clause-tidy
returns-clause-tidy c =
    tidy_text _ _ _ (cell c.root_of.new.store c.in_ok-root.root) (cell c.args.store.now c.args.tree) c.args.generation c.args.states _ _ c.new-text.ensures.items c.deref.ensures.value c.in_ok-push_lines.ensures
    c.in_ok-root.ensures.cells c.in_ok-nodes.ensures

pub returns-clause-means : goal.returns-clause-means
returns-clause-means c =
    let tidy = returns-clause-tidy c in
    let generation = c.args.generation in
    let cells = cell c.args.store.now c.args.tree in (
      tidy_file tidy.nodes c.args.rule_text.now generation,
      file_of_tidy _ cells _ generation c.args.states tidy c.requires.is_word c.requires.low_generation
          (omega (arith, c.push_lines.new.out.small)),
      tidy_within _ cells _ generation c.args.states tidy c.requires.in_range,
      tidy_holds _ cells _ generation c.args.states tidy,
    )
