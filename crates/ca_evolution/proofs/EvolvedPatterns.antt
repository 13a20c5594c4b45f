-- Patterns of files that are advanced by some generations.
use Rattle.std.proofs.Common.{◌≡◌, ℕ, ◌+◌, ◌<◌, ◌≤◌, List, Result, Ok, Err, refl, sym, ap, subst, ◌∙◌, arith}
use Rattle.std.specs.Prelude.{ℤ, IfOk, IfErr}
use Rattle.ca_plane.specs.Prelude.{cell, after, cells_after, generation_limit}
use Rattle.ca_plane.proofs.After.{after_same}
use Rattle.ca_quad.specs.Trees as trees
use Rattle.ca_rule.specs.Prelude.{TableRule, rule_value, next_of}
use Rattle.ca_pattern.specs.declared.{located_fault.LocatedFault.LocatedFault, pattern.Pattern.Pattern, pattern.StoredTree.StoredTree}
use Rattle.ca_pattern.specs.declared.convert_fault.ConvertFault.TheVariants as convert
use Rattle.ca_pattern.specs.declared.located_fault.LocatedFault.TheVariants.{Unread, UnnamedRule, StateTooLarge, GenTooLarge, Work, Range, TooManyCells, Memory}
use Rattle.ca_pattern.specs.declared.pattern.Cells.TheVariants.{Squares}
use Rattle.ca_pattern.specs.Prelude.{HoldsSmallRuledPattern, IsPatternAfter, IsReachFault, MayNeedRun, IsTreeOf, IsPatternOf, HasSmallStates, IsLaterTree}
use Rattle.ca_pattern.proofs.EqualCells.{small_shown}
use Rattle.ca_pattern.proofs.PatternsRead.{reads_may_want}
use Rattle.ca_pattern.proofs.CellsNearMiddle.{trimmed_low}
use Rattle.ca_budget.proofs.Powers.{power_more}
use Rattle.ca_evolution.specs.Prelude.{IsEvolvedFrom, IsUnreachedFor, Takes}

-- ---- from a file

module _ (bytes : List ℕ) (tables : List TableRule) (first : Pattern) (is : IsPatternAfter bytes tables 0 first) where
  pub first_evolved : (n : ℕ) (later : Pattern) → IsEvolvedFrom first (cell is.cells) n later → IsPatternAfter bytes tables n later
  first_evolved n later on =
      let rule : rule_value first.rule ≡ rule_value later.rule = sym (ap rule_value on.rule) in
      let begun = is.added in
      let added = on.added in
      record {
        cells = is.cells;
        begun = is.begun;
        begins = subst (λ r. HoldsSmallRuledPattern bytes tables is.cells r is.begun) rule is.begins;
        kind = on.kind ∙ is.kind;
        added = omega (arith, begun, added);
        is_pattern = subst (λ r. IsPatternOf (after (next_of r) is.cells n) later) rule on.is_pattern;
      }

  pub first_unreached : (n work : ℕ) (fault : LocatedFault) → IsUnreachedFor first (cell is.cells) n work fault → IsReachFault bytes tables n work fault
  first_unreached n work GenTooLarge h = let begun = is.added in (is.cells, rule_value first.rule, is.begun, is.begins, omega (arith, begun, h))
  first_unreached n work Work h = let begun = is.added in let low = h.0 in (is.cells, rule_value first.rule, is.begun, is.begins, omega (arith, begun, low), h.1)
  first_unreached n work Memory h = reads_may_want bytes is.begins.holds.holds.readable
  first_unreached n work (Unread bad) h = absurd h
  first_unreached n work (UnnamedRule unnamed) h = absurd h
  first_unreached n work StateTooLarge h = absurd h
  first_unreached n work Range h = absurd h
  first_unreached n work TooManyCells h = absurd h

  pub evolved_ok : (n : ℕ) (r : Result Pattern LocatedFault) → IfOk r (IsEvolvedFrom first (cell is.cells) n) → IfOk r (IsPatternAfter bytes tables n)
  evolved_ok n (Ok later) on = first_evolved n later on
  evolved_ok n (Err fault) on = on

  pub unreached_err : (n work : ℕ) (r : Result Pattern LocatedFault) → IfErr r (IsUnreachedFor first (cell is.cells) n work) → IfErr r (IsReachFault bytes tables n work)
  unreached_err n work (Ok later) h = h
  unreached_err n work (Err fault) h = first_unreached n work fault h

-- ---- trees

-- the tree that is reached from it is a later pattern
pub later_pattern : (first : Pattern) (cells : ℤ → ℤ → ℕ) (n generation : ℕ) (stored end : StoredTree) → IsTreeOf cells stored → generation ≡ first.generation + n → generation < generation_limit → end.tree.level ≤ 62
    → IsLaterTree (next_of (rule_value first.rule)) (trees.cell stored.store stored.tree) n end.store end.tree → HasSmallStates (rule_value first.rule) (trees.cell end.store end.tree)
    → IsEvolvedFrom first cells n (record { cells = Squares end; kind = first.kind; rule = first.rule; generation = generation })
later_pattern first cells n generation stored end tree added low level later small =
    let next = next_of (rule_value first.rule) in
    let shows : (x y : ℤ) → trees.cell end.store end.tree x y ≡ cells_after next cells n x y =
    λ x y. later.shows x y ∙ after_same next (trees.cell stored.store stored.tree) cells n tree.shows x y in
    record {
      is_pattern = record {
        are_cells = record { is_tree = later.near.is_tree; low = omega (arith, level); trimmed = later.trimmed; shows = shows };
        small = small_shown (trees.cell end.store end.tree) (cells_after next cells n) shows (rule_value first.rule) small;
        generation_is = tt;
        low = low;
      };
      rule = refl;
      kind = refl;
      added = added;
    }

-- where all `work` units of work are used up, a run of some generations may need as many
pub needs_run : (cells : ℤ → ℤ → ℕ) (stored : StoredTree) → IsTreeOf cells stored → (n old new work : ℕ) → old ≡ 0 → new ≡ work → 1 ≤ n → Takes old new 1 stored.tree.level n → MayNeedRun work n cells
needs_run cells stored shown n old new work none all run takes = (
  run,
  λ level digits some holds short.
      let tree = stored.tree in
      let high = trimmed_low stored.store tree cells level some shown.trimmed shown.shows holds in
      let most = takes digits short in
      let power = power_more (tree.level + digits + 2) (level + digits + 2) (omega (arith, high)) in
      omega (arith, none, all, most, power),
)
