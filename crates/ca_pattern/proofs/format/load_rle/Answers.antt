use Rattle.std.proofs.Common.{◌≡◌, ◌<◌, ℤ, sym, subst, ◌∙◌}
use Rattle.ca_quad.specs.Trees as trees
use Rattle.ca_plane.specs.Prelude.{IsWord, cell, generation_limit}
use Rattle.ca_rle.specs.Prelude.{picture_of_items}
use Rattle.ca_pattern.specs.Prelude.{HoldsPattern}
use Rattle.ca_pattern.proofs.OpenedCells.{text_cells, text_in_range}
use Rattle.ca_pattern.proofs.RleFiles.{text_holds}
use Rattle.ca_pattern.proofs.format.load_rle.Goals as goal

pub returns-clause-read : goal.returns-clause-read
returns-clause-read c =
    let bytes = c.args.bytes.now in
    let text = c.in-Ok.text in
    let is = c.in-Ok.ensures.found in
    let cells = picture_of_items is.file.corner is.file.items in
    let named = c.in-Ok-rule_text.ensures ∙ is.rule_text in
    let shows : (x y : ℤ) → trees.cell c.tree_of.new.store c.in-Ok-tree_of.tree x y ≡ cell (picture_of_items text.corner is.file.items) x y = λ x y. c.in-Ok-tree_of.ensures.cells x y ∙ c.in-Ok-draw_text.ensures.cells bytes is x y in
    record {
      cells = cells;
      loaded = record {
        kind = sym c.requires;
        tree = c.in-Ok-tree_of.ensures.tree;
        trimmed = c.in-Ok-tree_of.ensures.trimmed;
        shows = λ x y. shows x y ∙ text_cells bytes text is x y;
        holds = subst (λ t. HoldsPattern bytes cells t text.generation) (sym named) (text_holds bytes text is c.requires);
      };
      range = text_in_range bytes text is _ (λ x y. sym (shows x y));
      generation = subst (λ n. n < generation_limit) (sym is.generation) is.low_generation;
      word = subst IsWord (sym named) is.is_word;
    }
