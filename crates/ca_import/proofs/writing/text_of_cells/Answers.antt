use Rattle.std.proofs.Common.{ℤ, ◌≡◌, ◌≤◌, ◌<◌, sym, subst, arith}
use Rattle.ca_plane.specs.Prelude.{IsWord, bit_cell}
use Rattle.ca_quad.specs.Prelude.{cell}
use Rattle.ca_macro.proofs.Ranges.{range_as}
use Rattle.ca_pattern.specs.declared.located_fault.LocatedFault.TheVariants.{TooManyCells}
use Rattle.ca_pattern.specs.Prelude.{AreUnwritten}
use Rattle.ca_pattern.proofs.EqualCells.{many_shown}
use Rattle.ca_import.proofs.WrittenCells.{bits_low}
use Rattle.ca_import.proofs.writing.text_of_cells.Goals as goal

pub text_of_tree-requires : goal.text_of_tree-requires
text_of_tree-requires c =
    let drawn = bit_cell c.args.cells in
    let tree = cell c.from_bits.new.self c.in_ok-tree.tree in
    let same : (x y : ℤ) → drawn x y ≡ tree x y = λ x y. sym (c.in_ok-tree.ensures.cells x y) in
    let states = c.args.rule.now.states in
    record {
      is_tree = c.in_ok-tree.ensures.tree;
      in_range = range_as drawn tree same c.requires.range;
      low_states = λ x y. let low : drawn x y < 2 = bits_low c.args.cells x y in let most : 2 ≤ states = c.requires.rule.states in subst (λ s. s < states) (same x y) (omega (low, most, arith));
      is_word = subst IsWord (sym c.deref.ensures.value) c.requires.rule.is_word;
      low_generation = omega arith;
    }

pub returns-in-Err-TooManyCells-clause-fault : goal.returns-in-Err-TooManyCells-clause-fault
returns-in-Err-TooManyCells-clause-fault c =
    let tree = cell c.from_bits.new.self c.in_ok-tree.tree in
    let fault : AreUnwritten c.args.target tree TooManyCells = subst (AreUnwritten c.args.target tree) c.in-Err-TooManyCells.field-0-is c.in-Err-TooManyCells.ensures.fault in
    (fault.0, many_shown tree (bit_cell c.args.cells) c.in_ok-tree.ensures.cells fault.2)
