-- A file is converted or refused for one cause, and so is its summary; out of memory apart.
use Rattle.std.proofs.Common.{◌≡◌, ◌≢◌, ℕ, ◌≤◌, List, length, Option, Some, None, MatchOption, refl, sym, ap, subst, ◌∙◌, arith}
use Rattle.std.specs.Prelude.{◌≤ℤ◌}
use Rattle.std.proofs.lemmas.Int.{ints}
use Rattle.ca_plane.specs.declared.point.Bounds.{Bounds}
use Rattle.ca_plane.specs.Prelude.{Picture, cell, IsLive, IsLeastBox, most_cells}
use Rattle.ca_rle.specs.Shown as rle_shown
use Rattle.ca_rle.proofs.OneFile as rle_file
use Rattle.ca_rule.specs.Prelude.{TableRule, RuleValue, printed_form}
use Rattle.ca_pattern.specs.declared.{format.Format.Format, convert_fault.ConvertFault.ConvertFault}
use Rattle.ca_pattern.specs.declared.format.Format.TheVariants.{Rle, Mc}
use Rattle.ca_pattern.specs.declared.convert_fault.ConvertFault.TheVariants.{BadPattern, BadRule, StateTooLarge, TooManyCells, Memory}
use Rattle.ca_pattern.specs.Prelude.{format_of, MeansAs, IsReadableAs, HoldsRuledPattern, HasSmallStates, IsConverted, IsSummaryFault, IsConvertFault, IsEvolved}
use Rattle.ca_pattern.proofs.OneMeaning.{reads_without_fault, one_fault_of, one_ruled, small_or_large, named_or_fault, one_rule_fault_of}
use Rattle.ca_pattern.proofs.PicturePopulations.{population-le}

-- ---- causes

module _ (bytes : List ℕ) (tables : List TableRule) where
  -- bytes of small states have no cause without a summary
  pub ready_or_fault : (p : Picture) (r : RuleValue) (g : ℕ) (fault : ConvertFault) → fault ≢ Memory → HoldsRuledPattern bytes tables p r g → HasSmallStates r (cell p) → IsSummaryFault bytes tables fault → ⊥
  ready_or_fault p r g (BadPattern fault) m a small wrong = reads_without_fault bytes fault a.holds.readable wrong
  ready_or_fault p r g (BadRule fault) m a small wrong = named_or_fault bytes tables p r g fault a wrong
  ready_or_fault p r g StateTooLarge m a small (q, s, h, b, large) = small_or_large bytes tables p q r s g h a small b large
  ready_or_fault p r g TooManyCells m a small wrong = wrong
  ready_or_fault p r g Memory m a small wrong = m refl

  -- nor has what stands after no generations
  pub evolved_or_fault : (later : Picture) (r : RuleValue) (g : ℕ) (fault : ConvertFault) → fault ≢ Memory → IsEvolved bytes tables 0 later r g → IsSummaryFault bytes tables fault → ⊥
  evolved_or_fault later r g fault m a wrong = ready_or_fault a.cells r a.begun fault m a.begins.holds a.begins.small wrong

  -- there is one
  pub one_summary_fault : (f g : ConvertFault) → f ≢ Memory → g ≢ Memory → IsSummaryFault bytes tables f → IsSummaryFault bytes tables g → f ≡ g
  one_summary_fault Memory g m n a b = absurd (m refl)
  one_summary_fault f Memory m n a b = absurd (n refl)
  one_summary_fault TooManyCells g m n a b = absurd a
  one_summary_fault f TooManyCells m n a b = absurd b
  one_summary_fault (BadPattern f) (BadPattern g) m n a b = ap BadPattern (one_fault_of bytes f g a b)
  one_summary_fault (BadPattern f) (BadRule g) m n a (q, t, h, holds, wrong) = absurd (reads_without_fault bytes f holds.readable a)
  one_summary_fault (BadPattern f) StateTooLarge m n a (q, s, h, ruled, large) = absurd (reads_without_fault bytes f ruled.holds.readable a)
  one_summary_fault (BadRule f) (BadPattern g) m n (q, t, h, holds, wrong) b = absurd (reads_without_fault bytes g holds.readable b)
  one_summary_fault (BadRule f) (BadRule g) m n a b = ap BadRule (one_rule_fault_of bytes tables f g a b)
  one_summary_fault (BadRule f) StateTooLarge m n a (q, s, k, ruled, large) = absurd (named_or_fault bytes tables q s k f ruled a)
  one_summary_fault StateTooLarge (BadPattern g) m n (q, s, h, ruled, large) b = absurd (reads_without_fault bytes g ruled.holds.readable b)
  one_summary_fault StateTooLarge (BadRule g) m n (q, s, k, ruled, large) b = absurd (named_or_fault bytes tables q s k g ruled b)
  one_summary_fault StateTooLarge StateTooLarge m n a b = refl

-- ---- conversions

-- a text of a format that reads, and what it means
pub few_shown : (format : Format) (text : List ℕ) (shown : Picture) (rule_text : List ℕ) (generation : ℕ) → format ≡ Rle → IsReadableAs format text → MeansAs format text shown rule_text generation
    → length shown ≤ most_cells
few_shown Rle text shown rule_text generation e (file, is, within) (other, is_too, cells, named, timed) =
    let same = rle_file.one_file text other file is_too is in
    subst (λ p. length p ≤ most_cells) (sym (cells ∙ ap (λ f. rle_shown.picture_of_items f.corner f.items) same)) within.1
few_shown Mc text shown rule_text generation e reads means = let no : Mc ≡ Rle = e in cc

module _ (bytes : List ℕ) (tables : List TableRule) (target : Format) where
  -- what is converted has no cause
  pub text_or_fault : (text : List ℕ) (fault : ConvertFault) → fault ≢ Memory → IsConverted bytes tables target text → IsConvertFault bytes tables target fault → ⊥
  text_or_fault text (BadPattern fault) m a wrong = evolved_or_fault bytes tables a.later a.rule a.generation (BadPattern fault) m a.evolved wrong
  text_or_fault text (BadRule fault) m a wrong = evolved_or_fault bytes tables a.later a.rule a.generation (BadRule fault) m a.evolved wrong
  text_or_fault text StateTooLarge m a wrong = evolved_or_fault bytes tables a.later a.rule a.generation StateTooLarge m a.evolved wrong
  text_or_fault text TooManyCells m a (rle, cells, rule, generation, holds, small, (count, population, many)) =
      let one = one_ruled bytes tables cells a.evolved.cells rule a.rule generation a.evolved.begun holds a.evolved.begins.holds in
      let few = few_shown (format_of text) text a.later (printed_form a.rule) a.generation (a.format ∙ rle) a.text_holds.readable a.text_holds.means in
      let all = population-le a.later count (cell cells) (λ x y. ap (λ p. cell p x y) one.0 ∙ a.evolved.stands x y) population in
      omega (arith, few, all, many)
  text_or_fault text Memory m a wrong = m refl

  -- too many cells are the cause only of what is ready
  crowded_or_fault : (fault : ConvertFault) → fault ≢ Memory → IsConvertFault bytes tables target TooManyCells → IsSummaryFault bytes tables fault → ⊥
  crowded_or_fault fault m (rle, cells, rule, generation, holds, small, many) wrong = ready_or_fault bytes tables cells rule generation fault m holds small wrong

  -- there is one
  pub one_convert_fault : (f g : ConvertFault) → f ≢ Memory → g ≢ Memory → IsConvertFault bytes tables target f → IsConvertFault bytes tables target g → f ≡ g
  one_convert_fault Memory g m n a b = absurd (m refl)
  one_convert_fault f Memory m n a b = absurd (n refl)
  one_convert_fault TooManyCells TooManyCells m n a b = refl
  one_convert_fault TooManyCells (BadPattern g) m n a b = absurd (crowded_or_fault (BadPattern g) n a b)
  one_convert_fault TooManyCells (BadRule g) m n a b = absurd (crowded_or_fault (BadRule g) n a b)
  one_convert_fault TooManyCells StateTooLarge m n a b = absurd (crowded_or_fault StateTooLarge n a b)
  one_convert_fault (BadPattern f) TooManyCells m n a b = absurd (crowded_or_fault (BadPattern f) m b a)
  one_convert_fault (BadRule f) TooManyCells m n a b = absurd (crowded_or_fault (BadRule f) m b a)
  one_convert_fault StateTooLarge TooManyCells m n a b = absurd (crowded_or_fault StateTooLarge m b a)
  one_convert_fault (BadPattern f) (BadPattern g) m n a b = one_summary_fault bytes tables (BadPattern f) (BadPattern g) m n a b
  one_convert_fault (BadPattern f) (BadRule g) m n a b = one_summary_fault bytes tables (BadPattern f) (BadRule g) m n a b
  one_convert_fault (BadPattern f) StateTooLarge m n a b = one_summary_fault bytes tables (BadPattern f) StateTooLarge m n a b
  one_convert_fault (BadRule f) (BadPattern g) m n a b = one_summary_fault bytes tables (BadRule f) (BadPattern g) m n a b
  one_convert_fault (BadRule f) (BadRule g) m n a b = one_summary_fault bytes tables (BadRule f) (BadRule g) m n a b
  one_convert_fault (BadRule f) StateTooLarge m n a b = one_summary_fault bytes tables (BadRule f) StateTooLarge m n a b
  one_convert_fault StateTooLarge (BadPattern g) m n a b = one_summary_fault bytes tables StateTooLarge (BadPattern g) m n a b
  one_convert_fault StateTooLarge (BadRule g) m n a b = one_summary_fault bytes tables StateTooLarge (BadRule g) m n a b
  one_convert_fault StateTooLarge StateTooLarge m n a b = refl

-- ---- summaries

-- a box that holds all live cells goes as far as another, on whose sides some lie
box_within : (p : Picture) (a b : Bounds) → IsLeastBox p a → IsLeastBox p b → (a.x0 ≤ℤ b.x0) × (b.x1 ≤ℤ a.x1) × (a.y0 ≤ℤ b.y0) × (b.y1 ≤ℤ a.y1)
box_within p a b one two =
    ((one.all b.x0 two.left.0 two.left.1).0, (one.all b.x1 two.right.0 two.right.1).1, (one.all two.top.0 b.y0 two.top.1).2, (one.all two.bottom.0 b.y1 two.bottom.1).3)

-- a picture has one smallest box
pub one_box : (p : Picture) (a b : Bounds) → IsLeastBox p a → IsLeastBox p b → a ≡ b
one_box p a b one two =
    let (l, r, t, u) = box_within p a b one two in
    let (k, s, v, w) = box_within p b a two one in
    let x0 : a.x0 ≡ b.x0 = omega (arith, ints) in
    let y0 : a.y0 ≡ b.y0 = omega (arith, ints) in
    let x1 : a.x1 ≡ b.x1 = omega (arith, ints) in
    let y1 : a.y1 ≡ b.y1 = omega (arith, ints) in
    λ i. record { x0 = x0 i; y0 = y0 i; x1 = x1 i; y1 = y1 i }

-- and a live cell on its side
boxed_live : (p : Picture) (a : Bounds) → IsLeastBox p a → IsLive p
boxed_live p a box = (a.x0, box.left.0, box.left.1)

-- bounds are one box, or none where no cell is live
pub one_bounds : (p : Picture) (a b : Option Bounds) → MatchOption a (IsLive p → ⊥) (IsLeastBox p) → MatchOption b (IsLive p → ⊥) (IsLeastBox p) → a ≡ b
one_bounds p None None one two = refl
one_bounds p (Some a) (Some b) one two = ap Some (one_box p a b one two)
one_bounds p None (Some b) one two = absurd (one (boxed_live p b two))
one_bounds p (Some a) None one two = absurd (two (boxed_live p a one))
