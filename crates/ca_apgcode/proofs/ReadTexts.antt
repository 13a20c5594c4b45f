-- What is left of a text after some of its steps.
use Rattle.std.proofs.Common.{◌≡◌, ℕ, ◌+◌, ◌<◌, List, [], ◌∷◌, ◌++◌, length, map, None, refl, sym, ap, ap₂, ◌∙◌, append_assoc, length-append, arith}
use Rattle.std.specs.List.{flat_map, join_with_byte, AllByRecursion}
use Rattle.std.proofs.lemmas.Grind.{flat_map-append}
use Rattle.std.proofs.lemmas.List.{append-nil, map-append, length-map}
use Rattle.ca_apgcode.specs.Prelude.{Step, IsStep, step_text}
use Rattle.ca_apgcode.specs.inner.Reading.{step_at}
use Rattle.ca_apgcode.proofs.Strips.{joined_more}
use Rattle.ca_apgcode.proofs.StepTexts.{step_again, same_parts, not_both, one_text_of_steps, later_strips, first_strip, later_none}
use Rattle.ca_apgcode.proofs.Drawn.{IsDrawn, IsDrawn-end}

-- the text of strips
abbrev pub strips_text : List (List Step) → List ℕ
strips_text strips = join_with_byte 122 (map (flat_map step_text) strips)

-- a strip more, which has no steps yet
joined_some : (pieces : List (List ℕ)) → 0 < length pieces → join_with_byte 122 (pieces ++ [] ∷ []) ≡ join_with_byte 122 pieces ++ 122 ∷ []
joined_some [] some = elim some [ ]
joined_some (piece ∷ pieces) some = joined_more 122 piece pieces []

pub strips_end : (strips : List (List Step)) → 0 < length strips → strips_text (strips ++ [] ∷ []) ≡ strips_text strips ++ 122 ∷ []
strips_end strips some =
    let many : 0 < length (map (flat_map step_text) strips) = rw (length-map strips (flat_map step_text)) some in
    ap (join_with_byte 122) (map-append (flat_map step_text) strips ([] ∷ [])) ∙ joined_some (map (flat_map step_text) strips) many

-- a step more in the last strip
joined_last : (pieces : List (List ℕ)) (a b : List ℕ) → join_with_byte 122 (pieces ++ (a ++ b) ∷ []) ≡ join_with_byte 122 (pieces ++ a ∷ []) ++ b
joined_last [] a b = refl
joined_last (piece ∷ []) a b = sym (append_assoc piece (122 ∷ a) b)
joined_last (piece ∷ next ∷ pieces) a b = ap (λ l. piece ++ 122 ∷ l) (joined_last (next ∷ pieces) a b) ∙ sym (append_assoc piece (122 ∷ join_with_byte 122 ((next ∷ pieces) ++ a ∷ [])) b)

pub strips_step : (strips : List (List Step)) (steps : List Step) (step : Step) → strips_text (strips ++ (steps ++ step ∷ []) ∷ []) ≡ strips_text (strips ++ steps ∷ []) ++ step_text step
strips_step strips steps step =
    let texts = map (flat_map step_text) strips in
    let more : flat_map step_text (steps ++ step ∷ []) ≡ flat_map step_text steps ++ step_text step = flat_map-append step_text steps (step ∷ []) ∙ ap (λ l. flat_map step_text steps ++ l) (append-nil (step_text step)) in
    ap (join_with_byte 122) (map-append (flat_map step_text) strips ((steps ++ step ∷ []) ∷ []) ∙ ap (λ l. texts ++ l ∷ []) more)
    ∙ (joined_last texts (flat_map step_text steps) (step_text step)
    ∙ ap (λ l. l ++ step_text step) (ap (join_with_byte 122) (sym (map-append (flat_map step_text) strips (steps ∷ [])))))

-- some strips of a text are drawn, and some steps of the next; these bytes follow them
pub record Reads (text bytes columns : List ℕ) (x y : ℕ) : Type 0 where
  pub strips : List (List Step)
  pub steps : List Step
  pub drawn : IsDrawn columns x y strips steps
  pub whole : text ≡ strips_text (strips ++ steps ∷ []) ++ bytes

pub Reads-none : (text columns : List ℕ) (x y : ℕ) → IsDrawn columns x y [] [] → Reads text text columns x y
Reads-none text columns x y drawn = record { strips = []; steps = []; drawn = drawn; whole = refl }

pub Reads-end : (text bytes rest columns new : List ℕ) (x y x' y' : ℕ) → bytes ≡ 122 ∷ rest → new ≡ columns → x' ≡ 0 → y' ≡ y + 5 → y' < 40 → Reads text bytes columns x y → Reads text rest new x' y'
Reads-end text bytes rest columns new x y x' y' begins same is_x is_y high reads =
    let done = reads.strips ++ reads.steps ∷ [] in
    let some : 0 < length done = rw (length-append reads.strips (reads.steps ∷ [])) (omega arith) in
    record {
      strips = done;
      steps = [];
      drawn = IsDrawn-end columns new x y x' y' reads.strips reads.steps same is_x is_y high reads.drawn;
      whole = reads.whole ∙ (ap (λ l. strips_text done ++ l) begins ∙ (sym (append_assoc (strips_text done) (122 ∷ []) rest) ∙ ap (λ l. l ++ rest) (sym (strips_end done some))));
    }

pub Reads-step : (text bytes rest columns new : List ℕ) (x y x' y' : ℕ) (step : Step) → bytes ≡ step_text step ++ rest → ((strips : List (List Step)) (steps : List Step) → IsDrawn columns x y strips steps → IsDrawn new x' y' strips (steps ++ step ∷ [])) → Reads text bytes columns x y → Reads text rest new x' y'
Reads-step text bytes rest columns new x y x' y' step begins draws reads = record {
  strips = reads.strips;
  steps = reads.steps ++ step ∷ [];
  drawn = draws reads.strips reads.steps reads.drawn;
  whole =
      reads.whole
      ∙ (ap (λ l. strips_text (reads.strips ++ reads.steps ∷ []) ++ l) begins
      ∙ (sym (append_assoc (strips_text (reads.strips ++ reads.steps ∷ [])) (step_text step) rest)
      ∙ ap (λ l. l ++ rest) (sym (strips_step reads.strips reads.steps step))));
}

-- steps at the front of a strip's text are its first ones
pub record GoesOn (all steps : List Step) (bytes end : List ℕ) : Type 0 where
  pub more : List Step
  pub is_all : all ≡ steps ++ more
  pub each : AllByRecursion IsStep more
  pub text : bytes ≡ flat_map step_text more ++ end

first_steps : (steps all : List Step) (bytes end : List ℕ) → AllByRecursion IsStep steps → AllByRecursion IsStep all → step_at end ≡ None → flat_map step_text steps ++ bytes ≡ flat_map step_text all ++ end → GoesOn all steps bytes end
first_steps [] all bytes end each_step each no_step same = record { more = all; is_all = refl; each = each; text = same }
first_steps (x ∷ steps) [] bytes end each_step each no_step same =
    absurd (not_both x (flat_map step_text steps ++ bytes) (step_at end) no_step (ap step_at (sym same ∙ append_assoc (step_text x) (flat_map step_text steps) bytes) ∙ step_again x (flat_map step_text steps ++ bytes) each_step.0))
first_steps (x ∷ steps) (z ∷ all) bytes end each_step each no_step same =
    let parts = same_parts x z (flat_map step_text steps ++ bytes) (flat_map step_text all ++ end) (step_at ((step_text x ++ flat_map step_text steps) ++ bytes)) (step_at ((step_text z ++ flat_map step_text all) ++ end))
    (ap step_at (append_assoc (step_text x) (flat_map step_text steps) bytes) ∙ step_again x (flat_map step_text steps ++ bytes) each_step.0)
    (ap step_at (append_assoc (step_text z) (flat_map step_text all) end) ∙ step_again z (flat_map step_text all ++ end) each.0)
    (ap step_at same) in
    let on = first_steps steps all bytes end each_step.1 each.1 no_step parts.1 in
    record { more = on.more; is_all = ap₂ ◌∷◌ (sym parts.0) on.is_all; each = on.each; text = on.text }

-- strips at the front of a text are its first ones
pub record GoOn (all strips : List (List Step)) (steps : List Step) (bytes : List ℕ) : Type 0 where
  pub more : List Step
  pub others : List (List Step)
  pub is_all : all ≡ strips ++ (steps ++ more) ∷ others
  pub each : AllByRecursion IsStep more
  pub text : bytes ≡ flat_map step_text more ++ later_strips others

strips_front : (strips : List (List Step)) (steps first : List Step) → strips_text (first ∷ (strips ++ steps ∷ [])) ≡ flat_map step_text first ++ 122 ∷ strips_text (strips ++ steps ∷ [])
strips_front [] steps first = refl
strips_front (strip ∷ strips) steps first = refl

same_tail : (a b : List ℕ) → 122 ∷ a ≡ 122 ∷ b → a ≡ b
same_tail a b same = cc

no_tail : (a : List ℕ) → 122 ∷ a ≡ [] → ⊥
no_tail a same = cc

-- those that follow the first strip
later_front : (strips : List (List Step)) (steps : List Step) (bytes : List ℕ) (all : List (List Step)) → AllByRecursion (AllByRecursion IsStep) all → ((all : List (List Step)) → 0 < length all → AllByRecursion (AllByRecursion IsStep) all → strips_text (strips ++ steps ∷ []) ++ bytes ≡ strips_text all → GoOn all strips steps bytes) → 122 ∷ (strips_text (strips ++ steps ∷ []) ++ bytes) ≡ later_strips all → GoOn all strips steps bytes
later_front strips steps bytes [] each front same = absurd (no_tail (strips_text (strips ++ steps ∷ []) ++ bytes) same)
later_front strips steps bytes (next ∷ all) each front same = front (next ∷ all) (omega arith) each (same_tail (strips_text (strips ++ steps ∷ []) ++ bytes) (strips_text (next ∷ all)) same)

pub first_strips : (strips : List (List Step)) (steps : List Step) (all : List (List Step)) (bytes : List ℕ) → 0 < length all → AllByRecursion (AllByRecursion IsStep) strips → AllByRecursion IsStep steps → AllByRecursion (AllByRecursion IsStep) all → strips_text (strips ++ steps ∷ []) ++ bytes ≡ strips_text all → GoOn all strips steps bytes
first_strips strips steps [] bytes some each_strip each_step each same = elim some [ ]
first_strips [] steps (strip ∷ all) bytes some each_strip each_step each same =
    let on = first_steps steps strip bytes (later_strips all) each_step each.0 (later_none all) (same ∙ first_strip strip all) in
    record { more = on.more; others = all; is_all = ap (λ l. l ∷ all) on.is_all; each = on.each; text = on.text }
first_strips (first ∷ strips) steps (strip ∷ all) bytes some each_strip each_step each same =
    let left : strips_text (first ∷ (strips ++ steps ∷ [])) ++ bytes ≡ flat_map step_text first ++ 122 ∷ (strips_text (strips ++ steps ∷ []) ++ bytes) = ap (λ l. l ++ bytes) (strips_front strips steps first) ∙ append_assoc (flat_map step_text first) (122 ∷ strips_text (strips ++ steps ∷ [])) bytes in
    let one = one_text_of_steps first strip (122 ∷ (strips_text (strips ++ steps ∷ []) ++ bytes)) (later_strips all) each_strip.0 each.0 refl (later_none all) (sym left ∙ (same ∙ first_strip strip all)) in
    let on = later_front strips steps bytes all each.1 (λ rest has valid equal. first_strips strips steps rest bytes has each_strip.1 each_step valid equal) one.1 in
    record { more = on.more; others = on.others; is_all = ap₂ ◌∷◌ (sym one.0) on.is_all; each = on.each; text = on.text }
