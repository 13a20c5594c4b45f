-- The parts of a text without a fault, read one by one.
use Rattle.std.proofs.Common.{◌≡◌, ℕ, ◌≤◌, ◌<◌, ◌^◌, ℤ, List, [], ◌∷◌, unwrap_or, refl, sym, subst, ◌∙◌, arith}
use Rattle.std.specs.Option.{option_copied}
use Rattle.ca_plane.specs.Prelude.{IsWord, default_rule, IsPicture, cell}
use Rattle.ca_rle.specs.declared.{fault_line.GoodText.GoodText, item.Item.Item}
use Rattle.ca_rle.specs.Prelude.{RleFile, Run, Items, IsRleWithinRange, HasFileParts, greatest_state, picture_of_items}
use Rattle.ca_rle.specs.inner.BodyFaults.{bare_file}
use Rattle.ca_rle.specs.inner.FrontParts.{IsGoodText}
use Rattle.ca_rle.proofs.FileParts.{generation_is_low, rule_is_word}
use Rattle.ca_rle.proofs.TextJudgements.{bare_of}
use Rattle.ca_rle.proofs.Prefixes.{item_state_low}

-- no state of items is above 255
pub run_low : (bytes rest : List ℕ) (items : List Item) → Run bytes items rest → greatest_state items ≤ 255
run_low bytes rest [] run = omega arith
run_low bytes rest (i ∷ is) (front, more, item, later, e) =
    let here = item_state_low bytes i more (front, more, item, refl, e) in
    let others = run_low more rest is later in
    omega (arith, here, others)

module _ (bytes : List ℕ) (file : RleFile) (text : GoodText) (good : IsGoodText bytes file text) where
  -- no state is above 255
  pub low : greatest_state file.items ≤ 255
  low = run_low text.front.body.now good.items.0 file.items good.items.1

  -- its items may be drawn from its corner, on what takes its states
  pub room : (most : ℕ) → greatest_state file.items ≤ most → (items : List Item) × Items text.front.body.now items × IsRleWithinRange (bare_file text.front.corner items) × (greatest_state items ≤ most)
  room most takes = (file.items, good.items, bare_of text.front.corner file good.corner good.within.0, takes)

  -- drawn, they are the file's cells
  pub shown : (cells : ℤ → ℤ → ℕ) → ((items : List Item) → Items text.front.body.now items → ((x y : ℤ) → cells x y ≡ cell (picture_of_items text.front.corner items) x y) × IsPicture (picture_of_items text.front.corner items))
      → ((x y : ℤ) → cells x y ≡ cell (picture_of_items file.corner file.items) x y) × IsPicture (picture_of_items file.corner file.items)
  shown cells drawn = subst (λ p. ((x y : ℤ) → cells x y ≡ cell (picture_of_items p file.items) x y) × IsPicture (picture_of_items p file.items)) good.corner (drawn file.items good.items)

  -- so these are the file's parts
  pub parts : (cells : ℤ → ℤ → ℕ) (rule : List ℕ) (generation : ℕ) → ((x y : ℤ) → cells x y ≡ cell (picture_of_items file.corner file.items) x y) × IsPicture (picture_of_items file.corner file.items)
      → rule ≡ unwrap_or (option_copied text.front.rule) default_rule → generation ≡ text.front.generation → HasFileParts file cells rule generation
  parts cells rule generation cells_are rule_is generation_is = record {
    cells_are = cells_are.0;
    states = cells_are.1;
    rule_text_is = rule_is ∙ good.rule_text;
    generation_is = generation_is ∙ good.generation;
    low_generation = subst (λ n. n < 2 ^ 63) (sym (generation_is ∙ good.generation)) (generation_is_low bytes file good.is_file);
    is_word = subst IsWord (sym (rule_is ∙ good.rule_text)) (rule_is_word bytes file good.is_file);
  }
