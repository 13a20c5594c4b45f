-- Why a claim isn't judged, and its verdict where it is, from the patterns of its files.
use Rattle.std.proofs.Common.{◌≡◌, ℕ, zero, suc, ◌<◌, Bool, true, false, List, [], ◌∷◌, map, length, get_or, Bor, Option, Some, None, Result, refl, sym, ap, subst, ◌∙◌, inl, inr, arith}
use Rattle.std.specs.Prelude.{IfSome}
use Rattle.std.specs.Option.{option_copied}
use Rattle.std.specs.Result.{MatchResult, IsErrAnd}
use Rattle.std.proofs.lemmas.Result.{err_from_is_err_and}
use Rattle.ca_plane.specs.Prelude.{Picture, cell, HasFewCells, HasTooManyCells}
use Rattle.ca_quad.specs.declared.{node.Node.Node, tree.Tree.Tree}
use Rattle.ca_quad.specs.Prelude.{IsSoundStore}
use Rattle.ca_quad.specs.Trees as trees
use Rattle.ca_rule.specs.Prelude.{TableRule, RuleValue, rule_value, next_of, IsSameRule}
use Rattle.ca_pattern.specs.declared.{pattern.Loaded.Loaded, pattern_fault.PatternFault.PatternFault, limits.Limits.Limits, ruled.RuledPattern.RuledPattern, ruled.UnnamedRule.UnnamedRule}
use Rattle.ca_text.specs.declared.{kind.Kind.Kind, asks.Asks.Asks, asks.Expected.Expected, both.Both.Both}
use Rattle.ca_text.specs.declared.asks.Expected.TheVariants.{Own, Other, NoCells}
use Rattle.ca_answers.specs.declared.cause.Cause.TheVariants.{NoFile, BadPattern, BadRule, StateTooLarge, Work, Memory}
use Rattle.ca_answers.specs.declared.verdict.Verdict.{Verdict}
use Rattle.ca_answers.specs.declared.verdict.Verdict.TheVariants.{Yes, No, Refused}
use Rattle.ca_verify.specs.declared.{verifier.prepared.PreparedClaim.PreparedClaim, verifier.agreement.Disagreement.Disagreement, refusal.WhichPattern.WhichPattern, refusal.Refusal.Refusal}
use Rattle.ca_verify.specs.declared.decide.ClaimTrees.{ClaimTrees}
use Rattle.ca_verify.specs.declared.verifier.agreement.Disagreement.TheVariants.{Large, Mixed}
use Rattle.ca_verify.specs.declared.verifier.agreement.Disagreement.TheVariants as disagreement
use Rattle.ca_pattern.specs.declared.pattern_fault.PatternFault.TheVariants as pattern_fault
use Rattle.ca_verify.specs.declared.refusal.About.TheVariants as about
use Rattle.ca_verify.specs.declared.refusal.WhichPattern.TheVariants.{First, Second}
use Rattle.ca_text.specs.Prelude.{HasGoodNumbers, asks_of, Claim, path_at, expected_cells, map_both, HoldsOfBoth, ZipBoth}
use Rattle.ca_answers.specs.Prelude.{SuppliedFiles, bytes_at, IsNoMoreThan, IsBadPatternOn, AreTables, IsMissing, IsThere, IsReadableFile, HasRule, IsSmall, HaveOtherRules, HasCause, IsGoodPattern, AreGood}
use Rattle.ca_answers.specs.Prelude.{IsJudged, IsTrueVerdict, IsBadPattern, IsUnnamed, IsUnnamedBy, IsLarge, IsCrowded, WantsMemory}
use Rattle.ca_pattern.specs.Prelude.{IsReadable, MayWantMemory, IsPatternFaultOn, IsPattern, IsReadFrom, IsUnreadFor, IsUnnamedFor, rule_of, IsRuledAs, ShowsLarge, ShowsSmall}
use Rattle.ca_verify.specs.inner.Decided.{IsBounded, IsDecided}
use Rattle.ca_verify.specs.inner.Subjects.{AreShown, IsSubject}
use Rattle.ca_verify.specs.inner.PreparedClaim.{IsPrepared, IsFit, AreFewCounted, IsCountRefused, expected_tree, expected_part, refusal_for, disagreement_refusal}
use Rattle.ca_verify.specs.inner.Found.{IsFound}
use Rattle.ca_evolution.specs.Prelude.{HasLimits}
use Rattle.ca_verify.specs.inner.Refusals.{IsRefusal, IsOnVerdict, IsJudgedOn}
use Rattle.ca_verify.specs.inner.Patterns.{FirstBadAt, HasName, AreOfOneRule, AreMixed, Disagree, trees_of}
use Rattle.ca_verify.proofs.ClaimKinds.{asks_bounded}
use Rattle.ca_pattern.proofs.PatternsRead.{fault_on, reads_may_want}
use Rattle.ca_verify.proofs.PatternsRead.{IsReadAt, IsRuledAt, path_has_fault, path_has_rule, path_is_unnamed, path_reads, ruled_path_reads, ruled_at, ruled_has_rule, ruled_is_good, ruled_is_large, ruled_is_small, ruled_picture, ruled_reads, tree_shows}
use Rattle.ca_pattern.proofs.EqualCells.{few_shown, many_shown}
use Rattle.ca_verify.proofs.CountedCells.{few_none, none_many}
use Rattle.ca_verify.proofs.Spending.{used_up}
use Rattle.ca_pattern.proofs.ReadPatterns.{read_pattern}
use Rattle.ca_verify.proofs.Parts.{first_part, either_part, zip_left_both, zip_with_both, zip_part}

-- ---- files at indices

-- the bytes of the path at an index are found at that index
pub bytes_found : (files : SuppliedFiles) (paths : List (List ℕ)) (found : List (Option (Bor (List ℕ)))) (i : ℕ) (o : Option (Bor (List ℕ)))
    → map option_copied found ≡ map (bytes_at files) paths → i < length found → get_or found i None ≡ o → bytes_at files (path_at paths i) ≡ option_copied o
bytes_found files paths [] i o e within at = let no : ⊥ = omega arith in absurd no
bytes_found files [] (f ∷ fs) i o e within at = let no : ⊥ = cc in absurd no
bytes_found files (p ∷ ps) (f ∷ fs) zero o e within at = let head : option_copied f ≡ bytes_at files p = cc in sym head ∙ ap option_copied at
bytes_found files (p ∷ ps) (f ∷ fs) (suc i) o e within at =
    let tail : map option_copied fs ≡ map (bytes_at files) ps = cc in
    bytes_found files ps fs i o tail (omega arith) at

module _ (files : SuppliedFiles) (paths : List (List ℕ)) (found : List (Option (Bor (List ℕ)))) (same : map option_copied found ≡ map (bytes_at files) paths) where
  -- so the files at both indices are those of their paths
  pub found_there : (places : Both ℕ) (there : Both (Bor (List ℕ))) → HoldsOfBoth (λ i. i < length found) places → ZipBoth (λ i b. get_or found i None ≡ Some b) places there
      → ZipBoth (λ path b. bytes_at files path ≡ Some b.now) (map_both (path_at paths) places) there
  found_there places there within at =
      (bytes_found files paths found places.first (Some there.first) same within.0 at.0, bytes_found files paths found places.second (Some there.second) same within.1 at.1)

  -- and where one is missing, no file has its path
  pub found_missing : (rules : List (List ℕ)) (asks : Asks) (part : WhichPattern) (places : Both ℕ) → HoldsOfBoth (λ i. i < length found) places
      → FirstBadAt part places (IsFound found) (λ i. get_or found i None ≡ None) → IsRefusal files paths rules asks (map_both (path_at paths) places) (record { cause = NoFile; about = about.Pattern part None None })
  found_missing rules asks part places within bad =
      let at = missing part bad in
      record { holds = inl (either_part (IsThere files) (IsMissing files) (map_both (path_at paths) places) part at); idle = λ e. cc; on = (refl, refl, at) }
    where
      missing : (p : WhichPattern) → FirstBadAt p places (IsFound found) (λ i. get_or found i None ≡ None) → FirstBadAt p (map_both (path_at paths) places) (IsThere files) (IsMissing files)
      missing First none = bytes_found files paths found places.first None same within.0 none
      missing Second none =
          ((none.0.0.now, bytes_found files paths found places.first (Some none.0.0) same within.0 none.0.1), bytes_found files paths found places.second None same within.1 none.1)

-- what `?` passes on
pub passed_on : {A E : Type 0} (Holds : A → Type 0) (Refuses : E → Type 0) (r : Result A E) (e : E) → IsErrAnd r (λ passed. passed ≡ e) → Refuses e → MatchResult r Holds Refuses
passed_on Holds Refuses r e h holds =
    let p = err_from_is_err_and r h in
    subst (λ o. MatchResult o Holds Refuses) (sym p.1) (subst Refuses (sym p.2) holds)

-- ---- files that are there

-- the files of paths with these bytes are there
pub all_there : (files : SuppliedFiles) (paths : Both (List ℕ)) (there : Both (Bor (List ℕ))) → ZipBoth (λ path b. bytes_at files path ≡ Some b.now) paths there → HoldsOfBoth (IsThere files) paths
all_there files paths there at = ((there.first.now, at.0), (there.second.now, at.1))

-- ---- patterns that were read

module _ (nodes : List Node) (files : SuppliedFiles) (paths : Both (List ℕ)) where
  -- the patterns of files that were read
  pub read_at : (there : Both (Bor (List ℕ))) (patterns : Both Loaded) → ZipBoth (λ path b. bytes_at files path ≡ Some b.now) paths there → ZipBoth (λ b p. IsReadFrom nodes b.now p) there patterns
      → ZipBoth (IsReadAt nodes files) paths patterns
  read_at there patterns at read =
      (record { bytes = there.first.now; at_path = at.0; read = read.0 }, record { bytes = there.second.now; at_path = at.1; read = read.1 })

  -- the patterns with the rules that their texts name
  pub ruled_each : (tables : List TableRule) (patterns : Both Loaded) (ruled : Both RuledPattern) → ZipBoth (IsReadAt nodes files) paths patterns → ZipBoth (IsRuledAs tables) patterns ruled
      → ZipBoth (λ path r. IsRuledAt nodes files path tables r) paths ruled
  ruled_each tables patterns ruled read named = (
    ruled_at nodes files paths.first tables patterns.first ruled.first read.0 named.0,
    ruled_at nodes files paths.second tables patterns.second ruled.second read.1 named.1,
  )

-- the trees of patterns that were read are in the store
module _ (nodes : List Node) (there : Both (Bor (List ℕ))) (tables : List TableRule) (patterns : Both Loaded) (ruled : Both RuledPattern) (read : ZipBoth (λ b p. IsReadFrom nodes b.now p) there patterns)
    (named : ZipBoth (IsRuledAs tables) patterns ruled) where
  read_ruled : ZipBoth (λ b r. IsReadFrom nodes b.now r.pattern) there ruled
  read_ruled = (subst (IsReadFrom nodes there.first.now) (sym named.0.0) read.0, subst (IsReadFrom nodes there.second.now) (sym named.1.0) read.1)

  pub are_trees : HoldsOfBoth (λ r. trees.IsTree nodes r.pattern.tree) ruled
  are_trees = (read_ruled.0.loaded.tree, read_ruled.1.loaded.tree)

  -- low ones, whose live cells are in range
  pub are_patterns : HoldsOfBoth (λ r. IsPattern nodes r.pattern.tree) ruled
  are_patterns = (read_pattern nodes there.first.now ruled.first.pattern read_ruled.0, read_pattern nodes there.second.now ruled.second.pattern read_ruled.1)

-- so are those that a claim is judged on
pub both_are_patterns : (nodes : List Node) (patterns : Both RuledPattern) (subject : ClaimTrees) → HoldsOfBoth (λ r. IsPattern nodes r.pattern.tree) patterns → subject ≡ trees_of patterns
    → IsPattern nodes subject.pattern × IsPattern nodes subject.other
both_are_patterns nodes patterns subject all both = subst (λ s. IsPattern nodes s.pattern × IsPattern nodes s.other) (sym both) all

-- ---- causes and verdicts, where the tables are good

reads_want : (files : SuppliedFiles) (path : List ℕ) → IsReadableFile files path → WantsMemory files path
reads_want files path reads = (reads.0, reads.1, reads_may_want reads.0 reads.2)

module _ (files : SuppliedFiles) (every rules : List (List ℕ)) (asks : Asks) (tables : List TableRule) (are : AreTables files rules tables) where
  module _ (each : Both (List ℕ)) (there : Both (Bor (List ℕ))) (at : ZipBoth (λ path b. bytes_at files path ≡ Some b.now) each there) (part : WhichPattern) where
    -- a file doesn't read
    unreadable : (fault : PatternFault) (line : Option ℕ) → FirstBadAt part there (λ b. IsReadable b.now) (λ b. IsPatternFaultOn b.now fault line)
        → IsRefusal files every rules asks each (record { cause = BadPattern fault; about = about.Pattern part line None })
    unreadable fault line bad =
        let on = zip_part (λ path b. bytes_at files path ≡ Some b.now) each there at (IsReadableFile files) (IsBadPatternOn files fault line) (λ b. IsReadable b.now) (λ b. IsPatternFaultOn b.now fault line)
        (λ path b e reads. (b.now, e, reads)) (λ path b e wrong. (b.now, e, wrong)) part bad in
        let holds = zip_part (λ path b. bytes_at files path ≡ Some b.now) each there at (IsReadableFile files) (IsBadPattern files fault) (λ b. IsReadable b.now) (λ b. IsPatternFaultOn b.now fault line)
        (λ path b e reads. (b.now, e, reads)) (λ path b e wrong. (b.now, e, fault_on b.now fault line wrong)) part bad in
        record { holds = (tables, (are, all_there files each there at), first_part (IsReadableFile files) (IsBadPattern files fault) each part holds); idle = λ e. cc; on = (refl, on) }

    -- or memory is needed for it
    pub unread_for : (fault : PatternFault) (line : Option ℕ) → FirstBadAt part there (λ b. IsReadable b.now) (λ b. IsUnreadFor b.now fault line) → IsRefusal files every rules asks each (refusal_for part fault line)
    unread_for (pattern_fault.Rle f) line bad = unreadable (pattern_fault.Rle f) line bad
    unread_for (pattern_fault.Macro f) line bad = unreadable (pattern_fault.Macro f) line bad
    unread_for pattern_fault.Memory line bad =
        record { holds = (tables, (are, all_there files each there at), (there.first.now, at.0, first_wants part bad)); idle = λ e. cc; on = inr (inr refl) }
      where
        first_wants : (p : WhichPattern) → FirstBadAt p there (λ b. IsReadable b.now) (λ b. MayWantMemory b.now) → MayWantMemory there.first.now
        first_wants First wants = wants
        first_wants Second wants = reads_may_want there.first.now wants.0

  -- memory is needed for patterns that were read
  pub read_wanting : (paths : Both (List ℕ)) → HoldsOfBoth (IsReadableFile files) paths → HasCause files rules asks paths Memory
  read_wanting paths reads = (tables, (are, ((reads.0.0, reads.0.1), (reads.1.0, reads.1.1))), reads_want files paths.first reads.0)

  module _ (nodes : List Node) (paths : Both (List ℕ)) where
    -- a rule text names no rule
    pub unnamed : (patterns : Both Loaded) (part : WhichPattern) (wrong : UnnamedRule) → ZipBoth (IsReadAt nodes files) paths patterns
        → FirstBadAt part patterns (HasName tables) (λ p. IsUnnamedFor tables p wrong)
        → IsRefusal files every rules asks paths (record { cause = BadRule wrong.fault; about = about.Pattern part None (Some wrong.rule_text) })
    unnamed patterns part wrong read bad =
        let at = zip_part (IsReadAt nodes files) paths patterns read (HasRule files tables) (IsUnnamed files tables wrong.fault) (HasName tables) (λ p. IsUnnamedFor tables p wrong)
        (λ path p at. path_has_rule nodes files path p at tables) (λ path p at is. path_has_fault nodes files path p at tables wrong.fault is.1) part bad in
        let by = zip_part (IsReadAt nodes files) paths patterns read (HasRule files tables) (IsUnnamedBy files tables wrong.fault (Some wrong.rule_text)) (HasName tables) (λ p. IsUnnamedFor tables p wrong)
        (λ path p at. path_has_rule nodes files path p at tables) (λ path p at. path_is_unnamed nodes files path p at tables wrong) part bad in
        record {
          holds = (tables, (are, zip_left_both (IsReadAt nodes files) paths patterns read (IsReadableFile files) (path_reads nodes files)), first_part (HasRule files tables) (IsUnnamed files tables wrong.fault) paths part at);
          idle = λ e. cc;
          on = (refl, tables, are, by);
        }

    -- the pattern is that of the file with a path, with its rule
    abbrev At : List ℕ → RuledPattern → Type 0
    At path ruled = IsRuledAt nodes files path tables ruled

    module _ (patterns : Both RuledPattern) (ruled : ZipBoth At paths patterns) where
      -- a state is too large
      too_large : (part : WhichPattern) → FirstBadAt part patterns (ShowsSmall nodes) (ShowsLarge nodes)
          → IsRefusal files every rules asks paths (record { cause = StateTooLarge; about = about.Pattern part None None })
      too_large part bad =
          let at = zip_part At paths patterns ruled (IsSmall files tables) (IsLarge files tables) (ShowsSmall nodes) (ShowsLarge nodes) (λ path r is. ruled_is_small nodes files path tables r is)
          (λ path r is. ruled_is_large nodes files path tables r is) part bad in
          record {
            holds = (
              tables,
              (are, zip_left_both At paths patterns ruled (HasRule files tables) (λ path r is. ruled_has_rule nodes files path tables r is)),
              either_part (IsSmall files tables) (IsLarge files tables) paths part at,
            );
            idle = λ e. cc;
            on = (refl, refl, tables, are, at);
          }

      all_small : HoldsOfBoth (ShowsSmall nodes) patterns → HoldsOfBoth (IsSmall files tables) paths
      all_small = zip_with_both At paths patterns ruled (IsSmall files tables) (ShowsSmall nodes) (λ path r is. ruled_is_small nodes files path tables r is)

      -- the patterns have different rules
      other_rules : AreMixed patterns → HaveOtherRules files tables paths.first paths.second
      other_rules mixed = (
        ruled_picture nodes files paths.first tables patterns.first ruled.0,
        rule_of patterns.first,
        ruled_picture nodes files paths.second tables patterns.second ruled.1,
        rule_of patterns.second,
        ruled_reads nodes files paths.first tables patterns.first ruled.0,
        ruled_reads nodes files paths.second tables patterns.second ruled.1,
        mixed,
      )

      -- memory is needed for patterns with rules
      wanting : HasCause files rules asks paths Memory
      wanting = read_wanting paths (zip_left_both At paths patterns ruled (IsReadableFile files) (λ path r at. path_reads nodes files path r.pattern at.read_at))

      -- so a claim about them is refused where there is none
      pub no_memory : IsRefusal files every rules asks paths (record { cause = Memory; about = about.Claim })
      no_memory = record { holds = wanting; idle = λ e. cc; on = inr (inr refl) }

      -- the patterns have no one rule under which their states are small
      pub disagreed : (why : Disagreement) → Disagree nodes patterns why → IsRefusal files every rules asks paths (disagreement_refusal why)
      disagreed (Large part) h = too_large part h
      disagreed Mixed h = record { holds = (tables, (are, all_small h.0), other_rules h.1); idle = λ e. cc; on = inl refl }
      disagreed disagreement.Memory h = no_memory

      -- ---- the pictures that the files mean

      abbrev first_cells : Picture
      first_cells = ruled_picture nodes files paths.first tables patterns.first ruled.0

      abbrev second_cells : Picture
      second_cells = ruled_picture nodes files paths.second tables patterns.second ruled.1

      -- the patterns agree on them
      agreed : (rule : RuleValue) → HoldsOfBoth (ShowsSmall nodes) patterns → AreOfOneRule patterns rule → AreGood files tables paths first_cells second_cells rule
      agreed rule small one = (
        subst (IsGoodPattern files tables paths.first (ruled_picture nodes files paths.first tables patterns.first ruled.0)) (sym one.0) (ruled_is_good nodes files paths.first tables patterns.first ruled.0 small.0),
        rule_of patterns.second,
        ruled_is_good nodes files paths.second tables patterns.second ruled.1 small.1,
        subst (λ r. IsSameRule r (rule_of patterns.second)) (sym one.0) one.1,
      )

      -- and the trees show them
      both_shown : (subject : ClaimTrees) → subject ≡ trees_of patterns → AreShown nodes subject first_cells second_cells
      both_shown subject both =
          let trees : AreShown nodes (trees_of patterns) first_cells second_cells = record {
            one = λ x y. sym (tree_shows nodes files paths.first tables patterns.first ruled.0 x y);
            two = λ x y. sym (tree_shows nodes files paths.second tables patterns.second ruled.1 x y);
          } in
          subst (λ s. AreShown nodes s first_cells second_cells) (sym both) trees

    -- ---- the cells that are counted

    some_is : {X : Type 0} {x y : X} → Some x ≡ Some y → x ≡ y
    some_is e = cc

    -- where the expected tree's cells are too many, so are those that are expected
    many_expected : (subject : ClaimTrees) (cells other : Picture) → AreShown nodes subject cells other → (expected : Expected) (tree : Tree) → expected_tree expected subject ≡ Some tree
        → HasTooManyCells (trees.cell nodes tree) → HasTooManyCells (cell (expected_cells expected cells other))
    many_expected subject cells other shown Own tree is many =
        many_shown (trees.cell nodes subject.pattern) (cell cells) (λ x y. sym (shown.one x y)) (subst (λ t. HasTooManyCells (trees.cell nodes t)) (sym (some_is is)) many)
    many_expected subject cells other shown Other tree is many =
        many_shown (trees.cell nodes subject.other) (cell other) (λ x y. sym (shown.two x y)) (subst (λ t. HasTooManyCells (trees.cell nodes t)) (sym (some_is is)) many)
    many_expected subject cells other shown NoCells tree is many = let no : ⊥ = cc in absurd no

    -- and where they are few
    few_expected : (subject : ClaimTrees) (cells other : Picture) → AreShown nodes subject cells other → (expected : Expected)
        → IfSome (expected_tree expected subject) (λ tree. HasFewCells (trees.cell nodes tree)) → HasFewCells (cell (expected_cells expected cells other))
    few_expected subject cells other shown Own few = few_shown (trees.cell nodes subject.pattern) (cell cells) (λ x y. sym (shown.one x y)) few
    few_expected subject cells other shown Other few = few_shown (trees.cell nodes subject.other) (cell other) (λ x y. sym (shown.two x y)) few
    few_expected subject cells other shown NoCells few = few_none

    -- that pattern is crowded: where both are of one file, the first
    part_crowded : (are_one : Bool) → (are_one ≡ true → bytes_at files paths.second ≡ bytes_at files paths.first) → (cells other : Picture) (rule : RuleValue) → AreGood files tables paths cells other rule
        → (expected : Expected) → HasTooManyCells (cell (expected_cells expected cells other)) → FirstBadAt (expected_part are_one expected) paths (IsSmall files tables) (IsCrowded files tables)
    part_crowded true same cells other rule good Own many = (cells, rule, good.0, many)
    part_crowded false same cells other rule good Own many = (cells, rule, good.0, many)
    part_crowded are_one same cells other rule good NoCells many = absurd (none_many many)
    part_crowded false same cells other rule good Other many = ((cells, rule, good.0.ruled, good.0.small), (other, good.1, good.2, many))
    part_crowded true same cells other rule good Other many =
        (other, good.1, record { ruled = (good.2.ruled.0, sym (same refl) ∙ good.2.ruled.1, good.2.ruled.2); small = good.2.small }, many)

    module _ (patterns : Both RuledPattern) (ruled : ZipBoth At paths patterns) (rule : RuleValue) (small : HoldsOfBoth (ShowsSmall nodes) patterns) (one : AreOfOneRule patterns rule) where
      -- so is why cells aren't known to be few
      pub crowded : (are_one : Bool) → (are_one ≡ true → bytes_at files paths.second ≡ bytes_at files paths.first) → (subject : ClaimTrees) (refusal : Refusal) → subject ≡ trees_of patterns
          → IsCountRefused nodes asks subject are_one refusal → IsRefusal files every rules asks paths refusal
      crowded are_one same subject refusal both (inl memory) = subst (IsRefusal files every rules asks paths) (sym memory) (no_memory patterns ruled)
      crowded are_one same subject refusal both (inr (is, counted, tree, expected, crowd)) =
          let cells = first_cells patterns ruled in
          let other = second_cells patterns ruled in
          let good = agreed patterns ruled rule small one in
          let many = many_expected subject cells other (both_shown patterns ruled subject both) asks.expected tree expected crowd in
          subst (IsRefusal files every rules asks paths) (sym is) (record {
            holds = (cells, other, rule, (tables, are, good), (counted, many));
            idle = λ e. cc;
            on = (refl, refl, tables, are, part_crowded are_one same cells other rule good asks.expected many);
          })

      -- a leaper over the trees is prepared
      pub all_prepared : (prepared : PreparedClaim) → nodes ≡ prepared.leaper.nodes → rule ≡ rule_value prepared.leaper.rule → prepared.subject ≡ trees_of patterns
          → AreFewCounted nodes asks prepared.subject → IsPrepared files rules asks paths prepared
      all_prepared prepared same under both few =
          let cells = first_cells patterns ruled in
          let other = second_cells patterns ruled in
          let trees = both_shown patterns ruled prepared.subject both in
          record {
            cells = cells;
            other = other;
            shown = subst (λ n. AreShown n prepared.subject cells other) same trees;
            agree = (tables, are, subst (AreGood files tables paths cells other) under (agreed patterns ruled rule small one));
            few = λ counted. few_expected prepared.subject cells other trees asks.expected (few counted);
          }

  -- a claim that is judged may want memory
  good_reads : (path : List ℕ) (cells : Picture) (rule : RuleValue) → IsGoodPattern files tables path cells rule → IsReadableFile files path
  good_reads path cells rule good = ruled_path_reads files tables path cells rule good.ruled

  memory_wanted : (paths : Both (List ℕ)) (cells other : Picture) (rule : RuleValue) → AreGood files tables paths cells other rule → HasCause files rules asks paths Memory
  memory_wanted paths cells other rule good = read_wanting paths (good_reads paths.first cells rule good.0, good_reads paths.second other good.1 good.2)

-- what is decided of pictures on which a claim's patterns agree is a true verdict
decided_true : (files : SuppliedFiles) (rules : List (List ℕ)) (claim : Claim) (cells other : Picture) (rule : RuleValue) (verdict : Verdict)
    → IsJudged files rules claim cells other rule → IsDecided (next_of rule) cells other (asks_of claim.kind) verdict → IsTrueVerdict files rules claim verdict
decided_true files rules claim cells other rule Yes judged decided = (cells, other, rule, judged, decided)
decided_true files rules claim cells other rule (No refutation) judged decided = (cells, other, rule, judged, decided)
decided_true files rules claim cells other rule (Refused cause) judged (inl work) =
    subst (HasCause files rules (asks_of claim.kind) claim.patterns) (sym work) (cells, other, rule, judged.0, judged.1)
decided_true files rules claim cells other rule (Refused cause) judged (inr decided) =
    let (tables, are, good) = judged.0 in
    subst (HasCause files rules (asks_of claim.kind) claim.patterns) (sym decided) (memory_wanted files rules rules (asks_of claim.kind) tables are claim.patterns cells other rule good)

-- where there is no work or memory to decide, that is about the claim
decided_on : (files : SuppliedFiles) (paths rules : List (List ℕ)) (patterns : Both (List ℕ)) (next : List ℕ → ℕ) (cells other : Picture) (asks : Asks) (verdict : Verdict)
    → IsDecided next cells other asks verdict → IsOnVerdict files paths rules patterns verdict about.Claim
decided_on files paths rules patterns next cells other asks Yes decided = tt
decided_on files paths rules patterns next cells other asks (No refutation) decided = tt
decided_on files paths rules patterns next cells other asks (Refused cause) decided = inr decided

-- so it is one of a claim about these paths
pub true_verdict : (files : SuppliedFiles) (rules at : List (List ℕ)) (limits : Limits) (claim : Claim) (prepared : PreparedClaim) (verdict : Verdict)
    → (is : IsPrepared files rules (asks_of claim.kind) claim.patterns prepared) → IsFit limits prepared
    → (verdict ≡ Refused Work → IsNoMoreThan limits.work (asks_of claim.kind) prepared.subject.pattern.level)
    → IsDecided (next_of (rule_value prepared.leaper.rule)) is.cells is.other (asks_of claim.kind) verdict → IsJudgedOn files at rules limits.work claim verdict about.Claim
true_verdict files rules at limits claim prepared verdict is fit spent decided =
    let rule = rule_value prepared.leaper.rule in
    let judged : IsJudged files rules claim is.cells is.other rule = (is.agree, is.few) in
    record {
      holds = decided_true files rules claim is.cells is.other rule verdict judged decided;
      within = λ out. (is.cells, is.other, rule, judged, used_up prepared.leaper.nodes prepared.subject.pattern is.cells limits.work (asks_of claim.kind) fit.pattern.trimmed is.shown.one (spent out));
      on = decided_on files at rules claim.patterns (next_of rule) is.cells is.other (asks_of claim.kind) verdict decided;
    }

-- ---- what is judged is fit for it

module _ (nodes : List Node) where
  pub all_fit : (patterns : Both RuledPattern) (limits : Limits) (prepared : PreparedClaim) → nodes ≡ prepared.leaper.nodes → IsSoundStore nodes → HoldsOfBoth (λ r. IsPattern nodes r.pattern.tree) patterns → prepared.subject ≡ trees_of patterns
      → prepared.leaper.spent.used ≡ 0 → HasLimits limits prepared.leaper → IsFit limits prepared
  all_fit patterns limits prepared same sound all both none has =
      let each = both_are_patterns nodes patterns prepared.subject all both in
      record {
        sound = subst IsSoundStore same sound;
        pattern = subst (λ n. IsPattern n prepared.subject.pattern) same each.0;
        other = subst (λ n. IsPattern n prepared.subject.other) same each.1;
        fresh = none;
        within = has;
      }

-- so is its subject for a claim
pub is_subject : (limits : Limits) (kind : Kind) (asks : Asks) (prepared : PreparedClaim) → asks ≡ asks_of kind → HasGoodNumbers kind → IsFit limits prepared → IsSubject prepared.leaper.nodes asks prepared.subject
is_subject limits kind asks prepared same good fit = record { sound = fit.sound; pattern = fit.pattern; other = fit.other; bounded = subst IsBounded (sym same) (asks_bounded kind good) }
