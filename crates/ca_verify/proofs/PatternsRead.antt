-- The patterns of files that were read into a store, and what they say of the files' paths.
use Rattle.std.proofs.Common.{◌≡◌, ℕ, List, Some, Vec, Global, sym, subst, ◌∙◌}
use Rattle.std.specs.Prelude.{ℤ}
use Rattle.ca_plane.specs.Prelude.{Picture, cell}
use Rattle.ca_quad.specs.declared.node.Node.{Node}
use Rattle.ca_quad.specs.Prelude.{IsSoundStore, Grows, IsTrimmed}
use Rattle.ca_quad.specs.Trees as trees
use Rattle.ca_quad.proofs.Cells.{of_stays}
use Rattle.ca_quad.proofs.Trims.{trees_stay}
use Rattle.ca_rule.specs.Prelude.{TableRule, RuleValue, NamesRule, IsRuleFault}
use Rattle.ca_rule.specs.declared.fault.RuleFault.{RuleFault}
use Rattle.ca_pattern.specs.declared.{pattern.Loaded.Loaded, ruled.RuledPattern.RuledPattern, ruled.UnnamedRule.UnnamedRule}
use Rattle.ca_answers.specs.Prelude.{SuppliedFiles, bytes_at, IsRuled, IsReadableFile, HasRule, IsSmall, IsLarge, IsUnnamed, IsUnnamedBy, IsGoodPattern}
use Rattle.ca_pattern.specs.Prelude.{HoldsPattern, HasSmallStates, IsReadFrom, IsUnnamedFor, rule_of, IsRuledAs, ShowsLarge, ShowsSmall}
use Rattle.ca_verify.specs.inner.Patterns.{HasName}
use Rattle.ca_pattern.proofs.EqualCells.{small_shown, large_shown}

-- ---- patterns of a store that grows

module _ (old new : List Node) (grows : Grows old new) (sound : IsSoundStore old) where
  -- a tree of the smallest level stays one
  trimmed_stays : (tree : _) → trees.IsTree old tree → IsTrimmed old tree → IsTrimmed new tree
  trimmed_stays tree is trimmed = λ level low high holds.
      trimmed level low high (λ x y live. holds x y (λ e. live (sym (trees_stay old new sound grows tree is x y) ∙ e)))

  -- a pattern that was read stays one
  pub read_stays : (bytes : List ℕ) (pattern : Loaded) → IsReadFrom old bytes pattern → IsReadFrom new bytes pattern
  read_stays bytes pattern read =
      let loaded = read.loaded in
      let stays = trees_stay old new sound grows pattern.tree loaded.tree in
      record {
        cells = read.cells;
        loaded = record {
          kind = loaded.kind;
          tree = of_stays old new sound grows pattern.tree.root pattern.tree.level loaded.tree;
          trimmed = trimmed_stays pattern.tree loaded.tree loaded.trimmed;
          shows = λ x y. stays x y ∙ loaded.shows x y;
          holds = loaded.holds;
        };
        range = λ x y live. read.range x y (λ e. live (stays x y ∙ e));
        generation = read.generation;
        word = read.word;
      }

-- ---- a pattern that was read

-- a file whose pattern has a rule reads
pub ruled_path_reads : (files : SuppliedFiles) (tables : List TableRule) (path : List ℕ) (cells : Picture) (rule : RuleValue) → IsRuled files tables path cells rule → IsReadableFile files path
ruled_path_reads files tables path cells rule ruled = (ruled.0, ruled.1, ruled.2.1.holds.readable)

module _ (nodes : List Node) (files : SuppliedFiles) (path : List ℕ) where
  -- the pattern is that of the file with this path
  pub record IsReadAt (pattern : Loaded) : Type 0 where
    pub bytes : List ℕ
    pub at_path : bytes_at files path ≡ Some bytes
    pub read : IsReadFrom nodes bytes pattern

  module _ (pattern : Loaded) (at : IsReadAt pattern) where
    pub path_reads : IsReadableFile files path
    path_reads = (at.bytes, at.at_path, at.read.loaded.holds.readable)

    pub path_has_fault : (tables : List TableRule) (fault : RuleFault) → IsRuleFault pattern.rule_text.items tables fault → IsUnnamed files tables fault path
    path_has_fault tables fault wrong = (at.bytes, at.at_path, (at.read.cells, pattern.rule_text.items, pattern.generation, at.read.loaded.holds, wrong))

    pub path_is_unnamed : (tables : List TableRule) (unnamed : UnnamedRule) → IsUnnamedFor tables pattern unnamed → IsUnnamedBy files tables unnamed.fault (Some unnamed.rule_text) path
    path_is_unnamed tables unnamed is = (
      at.bytes,
      at.at_path,
      (
        (at.read.cells, pattern.generation, subst (λ (t : Vec ℕ Global). HoldsPattern at.bytes at.read.cells t.items pattern.generation) (sym is.0) at.read.loaded.holds),
        subst (λ (t : Vec ℕ Global). IsRuleFault t.items tables unnamed.fault) (sym is.0) is.1,
      ),
    )

    pub path_is_ruled : (tables : List TableRule) (rule : RuleValue) → NamesRule pattern.rule_text.items tables rule → IsRuled files tables path at.read.cells rule
    path_is_ruled tables rule names = (at.bytes, at.at_path, (pattern.generation, record { rule_text = pattern.rule_text.items; holds = at.read.loaded.holds; names = names }))

    pub path_has_rule : (tables : List TableRule) → HasName tables pattern → HasRule files tables path
    path_has_rule tables named = (at.read.cells, named.0, path_is_ruled tables named.0 named.1)

  -- ---- a pattern whose rule text names a rule

  module _ (tables : List TableRule) where
    -- the pattern is that of the file with this path, and the rule that of its rule text
    pub record IsRuledAt (ruled : RuledPattern) : Type 0 where
      pub read_at : IsReadAt ruled.pattern
      pub named : NamesRule ruled.pattern.rule_text.items tables (rule_of ruled)

    pub ruled_at : (pattern : Loaded) (ruled : RuledPattern) → IsReadAt pattern → IsRuledAs tables pattern ruled → IsRuledAt ruled
    ruled_at pattern ruled at kept = record {
      read_at = subst IsReadAt (sym kept.0) at;
      named = subst (λ p. NamesRule p.rule_text.items tables (rule_of ruled)) (sym kept.0) kept.1;
    }

    module _ (ruled : RuledPattern) (at : IsRuledAt ruled) where
      -- the picture of its file
      abbrev pub ruled_picture : Picture
      ruled_picture = at.read_at.read.cells

      -- which the tree shows
      pub tree_shows : (x y : ℤ) → trees.cell nodes ruled.pattern.tree x y ≡ cell ruled_picture x y
      tree_shows = at.read_at.read.loaded.shows

      pub ruled_reads : IsRuled files tables path ruled_picture (rule_of ruled)
      ruled_reads = path_is_ruled ruled.pattern at.read_at tables (rule_of ruled) at.named

      pub ruled_has_rule : HasRule files tables path
      ruled_has_rule = (ruled_picture, rule_of ruled, ruled_reads)

      pub ruled_is_large : ShowsLarge nodes ruled → IsLarge files tables path
      ruled_is_large large =
          (ruled_picture, rule_of ruled, ruled_reads, large_shown (trees.cell nodes ruled.pattern.tree) (cell ruled_picture) tree_shows (rule_of ruled) large)

      ruled_small : ShowsSmall nodes ruled → HasSmallStates (rule_of ruled) (cell ruled_picture)
      ruled_small = small_shown (trees.cell nodes ruled.pattern.tree) (cell ruled_picture) tree_shows (rule_of ruled)

      pub ruled_is_good : ShowsSmall nodes ruled → IsGoodPattern files tables path ruled_picture (rule_of ruled)
      ruled_is_good small = record { ruled = ruled_reads; small = ruled_small small }

      pub ruled_is_small : ShowsSmall nodes ruled → IsSmall files tables path
      ruled_is_small small = (ruled_picture, rule_of ruled, ruled_reads, ruled_small small)
