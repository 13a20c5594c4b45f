use Rattle.std.proofs.Common.{◌≡◌, ℕ, Bool, true, false, not, List, [], ◌∷◌, codes, refl, sym, ap, ◌∙◌}
use Rattle.std.specs.Str.{bytes_eq}
use Rattle.std.proofs.lemmas.Bool.{true≢false}
use Rattle.std.proofs.lemmas.Slice.Eq.{bytes_eq-Decides}
use Rattle.ca_plane.specs.Prelude.{words_of}
use Rattle.ca_text.proofs.OneMeaning.{not_version}
use Rattle.ca_text.proofs.line_kind.claims.Goals as goal

-- the same only word
same_word : (a b : List ℕ) → a ∷ [] ≡ b ∷ [] → a ≡ b
same_word a b e = cc

-- what is negated
by_not : (b : Bool) → not b ≡ true → b ≡ false
by_not true e = sym e
by_not false e = refl

by_not_not : (b : Bool) → not b ≡ false → b ≡ true
by_not_not true e = refl
by_not_not false e = sym e

-- `claims` after a line that says something
pub returns-then-not-is_open : goal.returns-then-not-is_open
returns-then-not-is_open c = λ earlier known.
    (refl, not_version earlier (words_of c.args.words.now) (λ same none. true≢false (sym ((c.is_open.ensures earlier known).1 none) ∙ c.if-not-is_open.true)))

pub returns-then-ne : goal.returns-then-ne
returns-then-ne c = λ earlier known.
    let other : bytes_eq c.in-Some.number.now c.as_slice.result.now ≡ false = by_not (bytes_eq c.in-Some.number.now c.as_slice.result.now) (sym c.if-ne.ensures) in (
      refl,
      not_version earlier (words_of c.args.words.now) (λ same none.
          let word = same_word c.in-Some.number.now (codes "2") (sym c.in-Some.ensures ∙ same) in
          true≢false (sym ((bytes_eq-Decides c.in-Some.number.now c.as_slice.result.now).1 (word ∙ sym c.as_slice.ensures)) ∙ other)),
    )

pub returns : goal.returns
returns c = λ earlier known.
    let same : bytes_eq c.in-Some.number.now c.as_slice.result.now ≡ true = by_not_not (bytes_eq c.in-Some.number.now c.as_slice.result.now) (sym c.if-ne.ensures) in
    let word = (bytes_eq-Decides c.in-Some.number.now c.as_slice.result.now).0 same ∙ c.as_slice.ensures in
    (refl, (ap (λ ws. codes "claims" ∷ ws) (c.in-Some.ensures ∙ ap (λ w. w ∷ []) word), (c.is_open.ensures earlier known).0 c.if-not-is_open.false))
