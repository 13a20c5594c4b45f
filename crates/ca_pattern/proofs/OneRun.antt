-- The plane of a file after some generations is reached, reported on and written, or it isn't for one cause; out of
-- work and memory apart.
use Rattle.std.proofs.Common.{◌≡◌, ◌≢◌, ℕ, ◌+◌, ◌<◌, List, Option, None, Some, refl, sym, ap, ap₂, subst, ◌∙◌, arith}
use Rattle.std.specs.Prelude.{ℤ}
use Rattle.std.specs.Option.{MatchOption}
use Rattle.ca_plane.specs.declared.point.Bounds.{Bounds}
use Rattle.ca_plane.specs.Prelude.{Picture, cell, IsSame, IsLive, IsLeastBox, after, generation_limit}
use Rattle.ca_plane.proofs.Populations.{same_population}
use Rattle.ca_macro.specs.Prelude.{AreInRange}
use Rattle.ca_macro.proofs.Ranges.{range_as}
use Rattle.ca_rule.specs.Prelude.{TableRule, RuleValue, rule_value, states_of, next_of, printed_form}
use Rattle.ca_pattern.specs.declared.{format.Format.Format, pattern.Summary.Summary, pattern.Pattern.Pattern, located_fault.LocatedFault.LocatedFault}
use Rattle.ca_pattern.specs.declared.located_fault.LocatedFault.TheVariants.{GenTooLarge, Work, Range, TooManyCells, Memory}
use Rattle.ca_pattern.specs.Prelude.{HoldsSmallRuledPattern, IsPatternAfter, IsSamePattern, IsReachFault, IsEvolved, IsSummaryAfter, IsConvertedAfter, IsConvertFaultAfter, IsTidyAs, format_of}
use Rattle.ca_pattern.specs.Prelude.{HasCellOutOfRange, IsSameFault, IsSameSummary}
use Rattle.ca_pattern.proofs.FilesInRange.{read_in_range}
use Rattle.ca_pattern.proofs.OneConversion.{few_shown, one_bounds}
use Rattle.ca_pattern.proofs.OneFault.{opened_or_fault, one_opening_fault}
use Rattle.ca_pattern.proofs.OpenedCells.{one_cells}
use Rattle.ca_pattern.proofs.OneText.{box_shown, tidy_as, one_tidy_as}
use Rattle.ca_pattern.proofs.PicturePopulations.{population-le}
use Rattle.ca_pattern.proofs.OneMeaning.{one_ruled}

-- ---- pictures

-- bounds round the live cells of a picture are so round those of one that shows the same
bounds_as : (p q : Picture) → IsSame p q → (found : Option Bounds) → MatchOption found (IsLive p → ⊥) (IsLeastBox p) → MatchOption found (IsLive q → ⊥) (IsLeastBox q)
bounds_as p q same None dead = λ live. dead (live.0, live.1, λ e. live.2 (sym (same live.0 live.1) ∙ e))
bounds_as p q same (Some box) least = box_shown p q same box least

-- no cells are in range with one out of it
pub in_range_or_out : (f g : ℤ → ℤ → ℕ) → ((x y : ℤ) → f x y ≡ g x y) → AreInRange f → HasCellOutOfRange g → ⊥
in_range_or_out f g same range (x, y, live, out) = out (range_as f g same range x y live)

module _ (bytes : List ℕ) (tables : List TableRule) where
  -- ---- planes

  -- a file begins as one plane
  pub one_start : (p q : Picture) (r s : RuleValue) (g h : ℕ) → HoldsSmallRuledPattern bytes tables p r g → HoldsSmallRuledPattern bytes tables q s h → (p ≡ q) × (r ≡ s) × (g ≡ h)
  one_start p q r s g h a b = one_ruled bytes tables p q r s g h a.holds b.holds

  -- and goes on as one
  pub one_plane : (n : ℕ) (p q : Picture) (r s : RuleValue) (g h : ℕ) → HoldsSmallRuledPattern bytes tables p r g → HoldsSmallRuledPattern bytes tables q s h
      → (x y : ℤ) → after (next_of r) p n x y ≡ after (next_of s) q n x y
  one_plane n p q r s g h a b x y = let one = one_start p q r s g h a b in ap₂ (λ u c. after (next_of u) c n x y) one.1 one.0

  pub one_pattern_after : (n : ℕ) (a b : Pattern) → IsPatternAfter bytes tables n a → IsPatternAfter bytes tables n b → IsSamePattern a b
  one_pattern_after n a b h k =
      let one = one_start h.cells k.cells (rule_value a.rule) (rule_value b.rule) h.begun k.begun h.begins k.begins in
      record {
        kind = h.kind ∙ sym k.kind;
        rule = one.1;
        generation = h.added ∙ ap (λ g. g + n) one.2 ∙ sym k.added;
        cells = λ f g are too x y.
            one_cells a.cells f (after (next_of (rule_value a.rule)) h.cells n) are h.is_pattern.are_cells x y
            ∙ one_plane n h.cells k.cells (rule_value a.rule) (rule_value b.rule) h.begun k.begun h.begins k.begins x y
            ∙ sym (one_cells b.cells g (after (next_of (rule_value b.rule)) k.cells n) too k.is_pattern.are_cells x y);
      }

  -- a plane that is reached has no cause for which it isn't
  pub evolved_or_fault : (n work : ℕ) (p : Picture) (r : RuleValue) (g : ℕ) (fault : LocatedFault) → fault ≢ Memory → fault ≢ Work → HoldsSmallRuledPattern bytes tables p r g
      → g + n < generation_limit → IsReachFault bytes tables n work fault → ⊥
  evolved_or_fault n work p r g GenTooLarge m w begins low (q, s, h, begun, high) =
      let one = one_start p q r s g h begins begun in
      let same = one.2 in
      omega (arith, low, high, same)
  evolved_or_fault n work p r g Work m w begins low wrong = w refl
  evolved_or_fault n work p r g fault m w begins low wrong = opened_or_fault bytes tables p r g fault m begins.holds begins.small wrong

  pub pattern_or_fault : (n work : ℕ) (pattern : Pattern) (fault : LocatedFault) → fault ≢ Memory → fault ≢ Work → IsPatternAfter bytes tables n pattern → IsReachFault bytes tables n work fault → ⊥
  pattern_or_fault n work pattern fault m w h wrong =
      let below = h.is_pattern.low in
      let added = h.added in
      evolved_or_fault n work h.cells (rule_value pattern.rule) h.begun fault m w h.begins (omega (arith, below, added)) wrong

  -- there is one cause
  pub one_reach_fault : (n work : ℕ) (f g : LocatedFault) → f ≢ Memory → f ≢ Work → g ≢ Memory → g ≢ Work → IsReachFault bytes tables n work f → IsReachFault bytes tables n work g → IsSameFault f g
  one_reach_fault n work Work g m w o v a b = absurd (w refl)
  one_reach_fault n work f Work m w o v a b = absurd (v refl)
  one_reach_fault n work GenTooLarge GenTooLarge m w o v a b = refl
  one_reach_fault n work GenTooLarge g m w o v (p, r, h, begins, high) b = absurd (opened_or_fault bytes tables p r h g o begins.holds begins.small b)
  one_reach_fault n work f GenTooLarge m w o v a (p, r, h, begins, high) = absurd (opened_or_fault bytes tables p r h f m begins.holds begins.small a)
  one_reach_fault n work f g m w o v a b = one_opening_fault bytes tables f g m o a b

  -- ---- what is reported and written of them

  module _ (n : ℕ) (later other : Picture) (r s : RuleValue) (g h : ℕ) (one : IsEvolved bytes tables n later r g) (two : IsEvolved bytes tables n other s h) where
    same_rule : r ≡ s
    same_rule = (one_start one.cells two.cells r s one.begun two.begun one.begins two.begins).1

    same_generation : g ≡ h
    same_generation = one.added ∙ ap (λ b. b + n) (one_start one.cells two.cells r s one.begun two.begun one.begins two.begins).2 ∙ sym two.added

    same_later : IsSame later other
    same_later x y = sym (one.stands x y) ∙ one_plane n one.cells two.cells r s one.begun two.begun one.begins two.begins x y ∙ two.stands x y

  module _ (n work : ℕ) (later : Picture) (r : RuleValue) (g : ℕ) (evolved : IsEvolved bytes tables n later r g) where
    stands_or_fault : (fault : LocatedFault) → fault ≢ Memory → fault ≢ Work → IsReachFault bytes tables n work fault → ⊥
    stands_or_fault fault m w wrong =
        let below = evolved.low in
        let added = evolved.added in
        evolved_or_fault n work evolved.cells r evolved.begun fault m w evolved.begins (omega (arith, below, added)) wrong

  pub one_summary_after : (n : ℕ) (a b : Summary) → IsSummaryAfter bytes tables n a → IsSummaryAfter bytes tables n b → IsSameSummary a b
  one_summary_after n a b h k =
      let same = same_later n h.later k.later h.rule k.rule a.generation b.generation h.evolved k.evolved in
      record {
        kind = h.kind ∙ sym k.kind;
        rule_text = h.printed ∙ ap printed_form (same_rule n h.later k.later h.rule k.rule a.generation b.generation h.evolved k.evolved) ∙ sym k.printed;
        generation = same_generation n h.later k.later h.rule k.rule a.generation b.generation h.evolved k.evolved;
        cells = same_population (cell h.later) (cell k.later) same a.cells b.cells h.population k.population;
        bounds = one_bounds k.later a.bounds b.bounds (bounds_as h.later k.later same a.bounds h.bounds) k.bounds;
      }

  pub summary_after_or_fault : (n work : ℕ) (summary : Summary) (fault : LocatedFault) → fault ≢ Memory → fault ≢ Work → IsSummaryAfter bytes tables n summary
      → IsReachFault bytes tables n work fault → ⊥
  summary_after_or_fault n work summary fault m w h wrong = stands_or_fault n work h.later h.rule summary.generation h.evolved fault m w wrong

  -- ---- texts

  module _ (n : ℕ) (target : Format) where
    pub one_text_after : (t u : List ℕ) → IsConvertedAfter bytes tables n target t → IsConvertedAfter bytes tables n target u → t ≡ u
    one_text_after t u a b =
        let same = same_later n a.later b.later a.rule b.rule a.generation b.generation a.evolved b.evolved in
        let rule = same_rule n a.later b.later a.rule b.rule a.generation b.generation a.evolved b.evolved in
        let time = same_generation n a.later b.later a.rule b.rule a.generation b.generation a.evolved b.evolved in
        let shown = tidy_as a.later b.later same target t (printed_form a.rule) a.generation (states_of a.rule) a.tidy in
        let ruled = subst (λ r. IsTidyAs target t b.later (printed_form r) a.generation (states_of r)) rule shown in
        let timed = subst (λ g. IsTidyAs target t b.later (printed_form b.rule) g (states_of b.rule)) time ruled in
        one_tidy_as target t u b.later (printed_form b.rule) b.generation (states_of b.rule) timed b.tidy

    module _ (work : ℕ) where
      -- what is written has no cause for which it isn't
      pub text_after_or_fault : (text : List ℕ) (fault : LocatedFault) → fault ≢ Memory → fault ≢ Work → IsConvertedAfter bytes tables n target text
          → IsConvertFaultAfter bytes tables n work target fault → ⊥
      text_after_or_fault text TooManyCells m w a (rle, p, r, g, begins, low, range, (count, population, many)) =
          let plane = one_plane n p a.evolved.cells r a.rule g a.evolved.begun begins a.evolved.begins in
          let few = few_shown (format_of text) text a.later (printed_form a.rule) a.generation (a.format ∙ rle) a.text_holds.readable a.text_holds.means in
          let all = population-le a.later count (after (next_of r) p n) (λ x y. plane x y ∙ a.evolved.stands x y) population in
          omega (arith, few, all, many)
      text_after_or_fault text Range m w a (p, r, g, begins, low, out) =
          let plane = one_plane n p a.evolved.cells r a.rule g a.evolved.begun begins a.evolved.begins in
          let range = read_in_range (format_of text) text a.later (printed_form a.rule) a.generation a.text_holds.readable a.text_holds.means in
          in_range_or_out (cell a.later) (after (next_of r) p n) (λ x y. sym (a.evolved.stands x y) ∙ sym (plane x y)) range out
      text_after_or_fault text fault m w a wrong = stands_or_fault n work a.later a.rule a.generation a.evolved fault m w wrong

      -- a cause that comes only of a plane that is reached, and any other
      late_or_early : (p : Picture) (r : RuleValue) (g : ℕ) (fault : LocatedFault) → fault ≢ Memory → fault ≢ Work → fault ≢ TooManyCells → fault ≢ Range
          → HoldsSmallRuledPattern bytes tables p r g → g + n < generation_limit → IsConvertFaultAfter bytes tables n work target fault → ⊥
      late_or_early p r g TooManyCells m w many out begins low wrong = many refl
      late_or_early p r g Range m w many out begins low wrong = out refl
      late_or_early p r g fault m w many out begins low wrong = evolved_or_fault n work p r g fault m w begins low wrong

      -- there is one cause
      pub one_fault_after : (f g : LocatedFault) → f ≢ Memory → f ≢ Work → g ≢ Memory → g ≢ Work → IsConvertFaultAfter bytes tables n work target f
          → IsConvertFaultAfter bytes tables n work target g → IsSameFault f g
      one_fault_after TooManyCells TooManyCells m w o v a b = refl
      one_fault_after Range Range m w o v a b = refl
      one_fault_after TooManyCells Range m w o v (rle, p, r, g, begins, low, range, many) (q, s, h, begun, near, out) =
          absurd (in_range_or_out (after (next_of r) p n) (after (next_of s) q n) (one_plane n p q r s g h begins begun) range out)
      one_fault_after Range TooManyCells m w o v (q, s, h, begun, near, out) (rle, p, r, g, begins, low, range, many) =
          absurd (in_range_or_out (after (next_of r) p n) (after (next_of s) q n) (one_plane n p q r s g h begins begun) range out)
      one_fault_after TooManyCells g m w o v (rle, p, r, h, begins, low, range, many) b = absurd (late_or_early p r h g o v (λ e. cc) (λ e. cc) begins low b)
      one_fault_after Range g m w o v (p, r, h, begins, low, out) b = absurd (late_or_early p r h g o v (λ e. cc) (λ e. cc) begins low b)
      one_fault_after f TooManyCells m w o v a (rle, p, r, h, begins, low, range, many) = absurd (late_or_early p r h f m w (λ e. cc) (λ e. cc) begins low a)
      one_fault_after f Range m w o v a (p, r, h, begins, low, out) = absurd (late_or_early p r h f m w (λ e. cc) (λ e. cc) begins low a)
      one_fault_after f g m w o v a b = one_reach_fault n work f g m w o v a b
