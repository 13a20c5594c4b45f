-- Lengths of representations.
use Rattle.std.proofs.Common.{◌≡◌, ℕ, ◌+◌, ◌*◌, ◌/◌, ◌<◌, ◌≤◌, ◌==◌, if◌then◌else◌, List, [], ◌∷◌, ◌++◌, length, refl, sym, ap, ◌∙◌, inl, inr, length-append, arith}
use Rattle.std.proofs.lemmas.Bool.{cases_eq, eq-eqb, ne_eqb}
use Rattle.std.specs.Ordering.{nat_cmp}
use Rattle.std.proofs.lemmas.Cmp.{ranked}
use Rattle.std.specs.declared.cmp.Ordering.{Ordering}
use Rattle.std.specs.declared.cmp.Ordering.TheVariants.{Less, Equal, Greater}
use Rattle.ca_apgcode.specs.Prelude.{IsRepresentation, five_cells, step_text}
use Rattle.ca_apgcode.specs.inner.Least.{lesser}
use Rattle.ca_apgcode.specs.inner.Lengths.{IsStripLength}
use Rattle.ca_apgcode.proofs.Codes.{one_text}
use Rattle.ca_apgcode.proofs.Steps.{BeginsStrip, BeginsStrip-none, BeginsStrip-more, BeginsStrip-all}
use Rattle.ca_apgcode.proofs.Strips.{BeginsStrips, BeginsStrips-none, BeginsStrips-more}

-- the number is the length of the text of the first columns of a strip
pub record MeasuresColumns (cells : ℕ → ℕ → ℕ) (y x gap n : ℕ) : Type 0 where
  pub text : List ℕ
  pub begins : BeginsStrip cells y x gap [] text
  pub is_length : n ≡ length text
  pub most : n ≤ 3 * x

pub MeasuresColumns-none : (cells : ℕ → ℕ → ℕ) (y : ℕ) → MeasuresColumns cells y 0 0 0
MeasuresColumns-none cells y = record { text = []; begins = BeginsStrip-none cells y []; is_length = refl; most = omega arith }

pub MeasuresColumns-more : (cells : ℕ → ℕ → ℕ) (y x gap column next n k : ℕ) → column ≡ five_cells cells x y → column ≤ 31 → gap ≤ 39 → next ≡ (if column == 0 then gap + 1 else 0) → k ≡ length (if column == 0 then [] else step_text (record { gap = gap; column = column })) → k ≤ 3
    → MeasuresColumns cells y x gap n → MeasuresColumns cells y (x + 1) next (n + k)
MeasuresColumns-more cells y x gap column next n k is_column low fits counts is_length few before =
    let more = if column == 0 then [] else step_text (record { gap = gap; column = column }) in
    let n_is : n ≡ length before.text = before.is_length in
    let n_most : n ≤ 3 * x = before.most in
    record {
      text = before.text ++ more;
      begins = BeginsStrip-more cells y x gap column next [] before.text (before.text ++ more) is_column low fits counts (record { whole = refl }) before.begins;
      is_length = sym (length-append before.text more ∙ omega (arith, n_is, is_length));
      most = omega (arith, n_most, few);
    }

pub MeasuresColumns-all : (cells : ℕ → ℕ → ℕ) (y x gap n : ℕ) → x ≤ 40 → ((k : ℕ) → x ≤ k → five_cells cells k y ≡ 0) → MeasuresColumns cells y x gap n → IsStripLength cells y n
MeasuresColumns-all cells y x gap n narrow east all =
    let n_most : n ≤ 3 * x = all.most in
    record { text = all.text; is_text = BeginsStrip-all cells y x gap [] all.text east all.begins; is_length = all.is_length; most = omega (arith, n_most, narrow) }

-- the number is the length of the text of the first strips
pub record MeasuresStrips (cells : ℕ → ℕ → ℕ) (count n : ℕ) : Type 0 where
  pub text : List ℕ
  pub begins : BeginsStrips cells count text
  pub is_length : n ≡ length text
  pub most : n ≤ 121 * count

pub MeasuresStrips-none : (cells : ℕ → ℕ → ℕ) → MeasuresStrips cells 0 0
MeasuresStrips-none cells = record { text = []; begins = BeginsStrips-none cells [] refl; is_length = refl; most = omega arith }

-- how long what is before a strip is
pub joint_length : (count joint : ℕ) → joint ≡ (if count == 0 then 0 else 1) → (joint ≡ length {A = ℕ} (if count == 0 then [] else 122 ∷ [])) × (joint ≤ 1)
joint_length count joint is = elim (cases_eq count 0) [
  | inl none ↦ let j : joint ≡ 0 = rw (eq-eqb count 0 none) at is in rw (eq-eqb count 0 none) (j, omega (arith, j))
  | inr some ↦ let j : joint ≡ 1 = rw (ne_eqb count 0 some) at is in rw (ne_eqb count 0 some) (j, omega (arith, j))
]

pub MeasuresStrips-more : (cells : ℕ → ℕ → ℕ) (count n joint k : ℕ) → joint ≡ (if count == 0 then 0 else 1) → IsStripLength cells (5 * count) k → MeasuresStrips cells count n → MeasuresStrips cells (count + 1) (n + (joint + k))
MeasuresStrips-more cells count n joint k is_joint strip before =
    let between : List ℕ = if count == 0 then [] else 122 ∷ [] in
    let now = before.text ++ between in
    let j = joint_length count joint is_joint in
    let n_is : n ≡ length before.text = before.is_length in
    let k_is : k ≡ length strip.text = strip.is_length in
    let n_most : n ≤ 121 * count = before.most in
    let k_most : k ≤ 120 = strip.most in
    record {
      text = now ++ strip.text;
      begins = BeginsStrips-more cells count before.text now (now ++ strip.text) (record { whole = refl })
          (record { steps = strip.is_text.steps; is_strip = strip.is_text.is_strip; puts = record { whole = ap (λ l. now ++ l) strip.is_text.puts.whole } }) before.begins;
      is_length = sym (length-append now strip.text ∙ (ap (λ m. m + length strip.text) (length-append before.text between) ∙ sum (length before.text) (length between) (length strip.text) n_is j.0 k_is));
      most = omega (arith, n_most, k_most, j.1);
    }
  where
    sum : (a b d : ℕ) → n ≡ a → joint ≡ b → k ≡ d → (a + b) + d ≡ n + (joint + k)
    sum a b d e f g = omega (arith, e, f, g)

-- the number is the length of each text of all strips
pub whole_length : (cells : ℕ → ℕ → ℕ) (height count n : ℕ) (text : List ℕ) → count ≡ (height + 4) / 5 → MeasuresStrips cells count n → IsRepresentation cells height text → n ≡ length text
whole_length cells height count n text is_count all is =
    all.is_length ∙ ap length (one_text cells height all.text text (record {
      strips = all.begins.strips;
      count = all.begins.many ∙ is_count;
      each = λ i below. all.begins.each i (let many = all.begins.many in omega (arith, below, many));
      whole = all.begins.whole;
    }) is)

-- a text that is shorter than another is the first of both
pub shorter_first : (text before : List ℕ) → length before < length text → before ≡ lesser text before
shorter_first text before shorter = rw (greater (nat_cmp (length text) (length before)) refl) refl
  where
    greater : (o : Ordering) → o ≡ nat_cmp (length text) (length before) → nat_cmp (length text) (length before) ≡ Greater
    greater Less is = let below = ranked (length text) (length before) Less is in absurd (omega (arith, shorter, below))
    greater Equal is = let same = ranked (length text) (length before) Equal is in absurd (omega (arith, shorter, same))
    greater Greater is = sym is
