use Rattle.std.proofs.Common.{◌≡◌, ℕ, true, List, ◌∷◌, Bor, Option, codes, sym, ap, subst, ◌∙◌}
use Rattle.ca_text.specs.declared.line.Claim.{Claim as ClaimOf}
use Rattle.std.specs.Str.{bytes_eq}
use Rattle.std.proofs.lemmas.Slice.Eq.{bytes_eq-Decides}
use Rattle.ca_plane.specs.Prelude.{words_of}
use Rattle.ca_text.specs.inner.Reading.{IsClaimOfWords}
use Rattle.ca_text.proofs.kind.claim.Goals as goal

-- the claim of a keyword
of_keyword : (keyword spelled slice words : List ℕ) (result : Option (ClaimOf (Bor (List ℕ)))) → slice ≡ spelled → true ≡ bytes_eq keyword slice
    → IsClaimOfWords (spelled ∷ words_of words) result → IsClaimOfWords (keyword ∷ words_of words) result
of_keyword keyword spelled slice words result e test made =
    let same : keyword ≡ spelled = (bytes_eq-Decides keyword spelled).0 (ap (bytes_eq keyword) (sym e) ∙ sym test) in
    subst (λ k. IsClaimOfWords (k ∷ words_of words) result) (sym same) made

pub returns-then-eq : goal.returns-then-eq
returns-then-eq c = of_keyword c.args.keyword.now (codes "still") c.as_slice.result.now c.args.words.now c.still.result c.as_slice.ensures c.if-eq.ensures c.still.ensures

pub returns-then-eq-2 : goal.returns-then-eq-2
returns-then-eq-2 c = of_keyword c.args.keyword.now (codes "oscillator") c.as_slice-2.result.now c.args.words.now c.oscillator.result c.as_slice-2.ensures c.if-eq-2.ensures c.oscillator.ensures

pub returns-then-eq-3 : goal.returns-then-eq-3
returns-then-eq-3 c = of_keyword c.args.keyword.now (codes "spaceship") c.as_slice-3.result.now c.args.words.now c.spaceship.result c.as_slice-3.ensures c.if-eq-3.ensures c.spaceship.ensures

pub returns-then-eq-4 : goal.returns-then-eq-4
returns-then-eq-4 c = of_keyword c.args.keyword.now (codes "becomes") c.as_slice-4.result.now c.args.words.now c.becomes.result c.as_slice-4.ensures c.if-eq-4.ensures c.becomes.ensures

pub returns-then-eq-5 : goal.returns-then-eq-5
returns-then-eq-5 c = of_keyword c.args.keyword.now (codes "dies") c.as_slice-5.result.now c.args.words.now c.dies.result c.as_slice-5.ensures c.if-eq-5.ensures c.dies.ensures
