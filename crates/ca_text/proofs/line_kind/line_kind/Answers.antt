use Rattle.std.proofs.Common.{◌≡◌, ℕ, true, false, List, ◌∷◌, codes, sym, ap, ◌∙◌, subst}
use Rattle.std.specs.Str.{bytes_eq}
use Rattle.std.proofs.lemmas.Bool.{true≢false}
use Rattle.std.proofs.lemmas.Slice.Eq.{bytes_eq-Decides}
use Rattle.ca_plane.specs.Prelude.{words_of}
use Rattle.ca_text.specs.Prelude.{WordsClaim, HasGoodNumbers, Claim, ClaimTextLine, Version, Rule, Load, Claims, IsKindAfter, ClaimWordsSay}
use Rattle.ca_text.specs.inner.Reading.{claim_of}
use Rattle.ca_text.proofs.KindWords.{same_words}
use Rattle.ca_text.proofs.line_kind.line_kind.Goals as goal

-- a keyword that fails the test for another
other_keyword : (keyword spelled slice : List ℕ) → slice ≡ spelled → false ≡ bytes_eq keyword slice → keyword ≡ spelled → ⊥
other_keyword keyword spelled slice e test same =
    true≢false (sym ((bytes_eq-Decides keyword slice).1 (same ∙ sym e)) ∙ sym test)

-- the keywords of equal words
same_keyword : (a b : List ℕ) (us vs : List (List ℕ)) → a ∷ us ≡ b ∷ vs → a ≡ b
same_keyword a b us vs e = cc

-- a keyword that passes the test for one
this_keyword : (keyword spelled slice : List ℕ) → slice ≡ spelled → true ≡ bytes_eq keyword slice → keyword ≡ spelled
this_keyword keyword spelled slice e test = (bytes_eq-Decides keyword spelled).0 (ap (bytes_eq keyword) (sym e) ∙ sym test)

pub returns-then-eq : goal.returns-then-eq
returns-then-eq c = λ earlier known.
    let same = this_keyword c.in-Some.keyword.now (codes "claims") c.as_slice.result.now c.as_slice.ensures c.if-eq.ensures in
    rw (c.in-Some.ensures.words, same) (c.claims.ensures earlier known)

pub returns-then-eq-2 : goal.returns-then-eq-2
returns-then-eq-2 c = λ earlier known.
    let same = this_keyword c.in-Some.keyword.now (codes "rule") c.as_slice-2.result.now c.as_slice-2.ensures c.if-eq-2.ensures in
    rw (c.in-Some.ensures.words, same) (c.rule.ensures earlier)

pub returns-then-eq-3 : goal.returns-then-eq-3
returns-then-eq-3 c = λ earlier known.
    let same = this_keyword c.in-Some.keyword.now (codes "load") c.as_slice-3.result.now c.as_slice-3.ensures c.if-eq-3.ensures in
    rw (c.in-Some.ensures.words, same) (c.load.ensures earlier)

-- words with another keyword say nothing where they make no claim that may stand there
says_none : (earlier : List ClaimTextLine) (keyword : List ℕ) (ws : List (List ℕ)) (claims rule load : List ℕ) → claims ≡ codes "claims" → rule ≡ codes "rule" → load ≡ codes "load"
    → false ≡ bytes_eq keyword claims → false ≡ bytes_eq keyword rule → false ≡ bytes_eq keyword load
    → ((claim : Claim) → ClaimWordsSay earlier (keyword ∷ ws) (Claims claim) → ⊥) → (line : ClaimTextLine) → ClaimWordsSay earlier (keyword ∷ ws) line → ⊥
says_none earlier keyword ws claims rule load c r l x y z none Version h = other_keyword keyword (codes "claims") claims c x (same_keyword _ _ _ _ h.0)
says_none earlier keyword ws claims rule load c r l x y z none (Rule path) h = other_keyword keyword (codes "rule") rule r y (same_keyword _ _ _ _ h)
says_none earlier keyword ws claims rule load c r l x y z none (Load name path) h = other_keyword keyword (codes "load") load l z (same_keyword _ _ _ _ h)
says_none earlier keyword ws claims rule load c r l x y z none (Claims claim) h = none claim h

pub returns-in_default-claim : goal.returns-in_default-claim
returns-in_default-claim c = λ earlier known.
    rw c.in-Some.ensures.words (
      sym c.begins_comment.ensures ∙ c.if-begins_comment.false,
      says_none earlier c.in-Some.keyword.now (words_of c.in-Some.rest.now) _ _ _ c.as_slice.ensures c.as_slice-2.ensures c.as_slice-3.ensures c.if-eq.ensures c.if-eq-2.ensures c.if-eq-3.ensures
          (λ claim h. c.in_default-claim.ensures claim h.0),
    )

-- a claim that may not stand there
pub returns-then-not-allows : goal.returns-then-not-allows
returns-then-not-allows c = λ earlier known.
    let made = c.in-Some-claim.ensures in
    let held = claim_of c.in-Some-claim.claim in
    let all = c.in-Some.keyword.now ∷ words_of c.in-Some.rest.now in
    rw c.in-Some.ensures.words (
      sym c.begins_comment.ensures ∙ c.if-begins_comment.false,
      says_none earlier c.in-Some.keyword.now (words_of c.in-Some.rest.now) _ _ _ c.as_slice.ensures c.as_slice-2.ensures c.as_slice-3.ensures c.if-eq.ensures c.if-eq-2.ensures c.if-eq-3.ensures
          (λ claim h.
          let same = (same_words all claim.patterns held.patterns claim.kind made.0 h.0 made.1).1 in
          let stands : IsKindAfter earlier c.in-Some-claim.claim.kind = λ second. subst (IsKindAfter earlier) same h.1 (made.2.version ∙ second) in
          true≢false (sym ((c.allows.ensures earlier known).1 stands) ∙ c.if-not-allows.true)),
    )

pub returns-then-not-has_good_numbers : goal.returns-then-not-has_good_numbers
returns-then-not-has_good_numbers c = λ earlier known.
    let made = c.in-Some-claim.ensures in
    let held = claim_of c.in-Some-claim.claim in
    let stands : IsKindAfter earlier made.0 = λ second. (c.allows.ensures earlier known).0 c.if-not-allows.false (sym made.2.version ∙ second) in
    rw c.in-Some.ensures.words (
      sym c.begins_comment.ensures ∙ c.if-begins_comment.false,
      record { patterns = held.patterns; kind = made.0 },
      (made.1, stands),
      λ good. true≢false (sym (c.has_good_numbers.ensures.1 (subst HasGoodNumbers (made.2.exact good) good)) ∙ c.if-not-has_good_numbers.true),
    )

pub returns : goal.returns
returns c = λ earlier known.
    let made = c.in-Some-claim.ensures in
    let held = claim_of c.in-Some-claim.claim in
    let good = c.has_good_numbers.ensures.0 c.if-not-has_good_numbers.false in
    let all = c.in-Some.keyword.now ∷ words_of c.in-Some.rest.now in
    rw c.in-Some.ensures.words (
      sym c.begins_comment.ensures ∙ c.if-begins_comment.false,
      (subst (WordsClaim all held.patterns) (made.2.sound good) made.1, (c.allows.ensures earlier known).0 c.if-not-allows.false),
      good,
    )
